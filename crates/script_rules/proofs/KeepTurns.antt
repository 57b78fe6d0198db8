-- Fit and its parts; what a step that ends and a request that goes out keep.
use Prim.Native.Nat.{ℕ, ◌+◌, ◌≤◌}
use mathlib.Core.Path.{◌≡◌, refl, sym, ap, ◌∙◌}
use mathlib.Core.Bool.{Bool, true, false, not, ◌&&◌, false≢true}
use mathlib.Core.List.{List}
use native.Mathlib.Omega.{arith}
use lib.ListN.{length, get_or}
use lib.Dec.{eqb, leb}
use borrow.Author.Tests.{le-leb}
use Rattle.bytes_base.specs.Choice.{pick}
use Rattle.state_places.specs.Sizes.{most_results, result_size}
use Rattle.lists.specs.Queue.{pushed}
use Rattle.lists.proofs.QueueLaws.{pushed-within, all-pushed, take-onto}
use Rattle.lists.proofs.BlockLaws.{length-stored}
use Rattle.time.specs.declared.Micros.{Micros}
use Rattle.time.specs.declared.Millis.{Millis}
use Rattle.time.specs.Clock.{latest, deadline}
use Rattle.time.proofs.ClockLaws.{deadline-bound, att-deadline-bound}
use Rattle.state.specs.Central.{Central, with_running, with_bearer}
use Rattle.state.specs.declared.Bearer.{Bearer}
use Rattle.state.specs.declared.Results.{Results}
use Rattle.state.specs.declared.StepResult.{StepResult}
use Rattle.state.specs.declared.StepStatus.{StepStatus}
use Rattle.state_rules.specs.Steps.{att_step}
use Rattle.state_rules.specs.Fit.{results_fit, awaits, is_request, last_deadline}
use Rattle.state_rules.specs.Facts.{Fit}
use Rattle.script_rules.specs.World.{Held, World, on_held, on_state}
use Rattle.script_rules.specs.Finish.{result_part, kept, pushed_result, idle, ended, finish}
use Rattle.script_rules.specs.Send.{until, asked, request}
use Rattle.script_rules.specs.Ready.{Ready}
use Rattle.script_rules.proofs.ReadyLaws.{ready-request}
use Rattle.script_rules.specs.Start.{waits_for}
use Rattle.script_rules.specs.Nearly.{Ended, Linked, Nearly}
use Rattle.script_rules.specs.Timed.{Narrow, Timed}

-- ---- fit, and nearly

pub of-fit : (c : Central) → Fit c → Nearly c
of-fit c f =
    record {
      waits = record { few = f.head.waiting; fit = f.steps };
      keys = f.head.keys;
      results = record { few = f.head.results; fit = f.results };
      peer = record { services = f.head.services; characteristics = f.head.characteristics; rising = f.rising };
      heard = record {
        reports = f.head.reports;
        lengths = f.lengths;
        responses = f.responses;
        notifications = f.head.notifications;
        values = f.values;
        counted = f.head.links;
        links = f.linked;
      };
      tally = record { kept = f.head.kept; notified = f.head.notified; from = f.head.from; refused = f.head.refused; index = f.head.index };
      linked = record { held = f.head.held; mtu_low = f.head.mtu_low; mtu_high = f.head.mtu_high };
      runs = record { step = f.head.step; phase = f.head.phase };
      asks = record { request = f.head.request; asking = f.head.asking; att = f.head.att };
    }

module _ (c : Central) (n : Nearly c)
    (idle : c.running.active ≡ false → c.queue.count ≡ 0)
    (timely : c.running.active ≡ true → c.running.dated ≡ true → c.running.deadline.0 ≤ last_deadline) where
  pub fit_of : Fit c
  fit_of =
      record {
        head = record {
          waiting = n.waits.few;
          results = n.results.few;
          services = n.peer.services;
          characteristics = n.peer.characteristics;
          notifications = n.heard.notifications;
          reports = n.heard.reports;
          keys = n.keys;
          held = n.linked.held;
          mtu_low = n.linked.mtu_low;
          mtu_high = n.linked.mtu_high;
          step = n.runs.step;
          phase = n.runs.phase;
          request = n.asks.request;
          asking = n.asks.asking;
          att = n.asks.att;
          idle = idle;
          kept = n.tally.kept;
          notified = n.tally.notified;
          from = n.tally.from;
          refused = n.tally.refused;
          index = n.tally.index;
          deadline = timely;
          links = n.heard.counted;
        };
        results = n.results.fit;
        values = n.heard.values;
        lengths = n.heard.lengths;
        responses = n.heard.responses;
        steps = n.waits.fit;
        rising = n.peer.rising;
        linked = n.heard.links;
      }

pub timed-of : (c : Central) → Fit c → Narrow c → Timed c
timed-of c f n = record { running = n.running; waiting = n.waiting; deadline = f.head.deadline }

pub narrow-of : (c : Central) → Timed c → Narrow c
narrow-of c t = record { running = t.running; waiting = t.waiting }

-- ---- what a step that begins or ends leaves as it was, and keeps

pub record Stays (h g : Held) : Type 0 where
  pub nearly : Nearly g.state
  pub store : length g.store ≡ length h.store
  pub queue : g.state.queue ≡ h.state.queue
  pub timed : Timed h.state → Timed g.state

-- the same of a call's whole work, with at most k frames out
pub record Goes (k : ℕ) (w v : World) : Type 0 where
  pub ready : Ready k v
  pub stays : Stays w.held v.held

pub stays : (h : Held) → Nearly h.state → Stays h h
stays h n = record { nearly = n; store = refl; queue = refl; timed = λ t. t }

pub then : (h g i : Held) → Stays h g → Stays g i → Stays h i
then h g i a b = record { nearly = b.nearly; store = b.store ∙ a.store; queue = b.queue ∙ a.queue; timed = λ t. b.timed (a.timed t) }

-- work on the state and the store alone
pub quietly : (k : ℕ) (w : World) (g : Held) → Ready k w → Stays w.held g → Goes (k + 1) w (on_held w g)
quietly k w g r s =
    record {
      ready = record { store = s.store ∙ r.store; out = r.out; results = s.nearly.results.few; frames = omega (arith, r.frames); bytes = r.bytes };
      stays = s;
    }

-- ---- a step ends

pub none-awaited : (b : Bool) → (b && false) ≡ true → ⊥
none-awaited true e = false≢true e
none-awaited false e = false≢true e

pub pushed-ended : (rs : Results) (r : StepResult) → Ended rs → r.len ≤ result_size → Ended (pushed_result rs r)
unfolding pushed_result
pushed-ended rs r e h =
    let l : List StepResult = pushed most_results (kept rs) r in
    record {
      few = pushed-within most_results (kept rs) r;
      fit = ap results_fit (take-onto rs.kept l)
          ∙ all-pushed (λ x. leb x.len result_size) most_results (kept rs) r e.fit (le-leb r.len result_size h);
    }

module _ (h : Held) (at : Micros) (status : StepStatus) (from n heard : ℕ) (m : n ≤ result_size) (f : Nearly h.state) where
  abbrev r : StepResult
  r = record { index = h.state.running.index; at = at; status = status; len = n; heard = heard }

  pub stays-ended : Stays h (ended h at status from n heard)
  unfolding ended
  stays-ended =
      record {
        nearly = record {
          waits = f.waits;
          keys = f.keys;
          results = pushed-ended h.state.results r f.results m;
          peer = f.peer;
          heard = f.heard;
          tally = f.tally;
          linked = record { held = f.linked.held; mtu_low = f.linked.mtu_low; mtu_high = f.linked.mtu_high };
          runs = record { step = λ p. absurd (false≢true p); phase = λ p. absurd (false≢true p) };
          asks = record {
            request = λ p. absurd (none-awaited h.state.bearer.present p);
            asking = λ p. absurd (none-awaited h.state.bearer.present p);
            att = λ p. absurd (none-awaited h.state.bearer.present p);
          };
        };
        store = length-stored result_part h.state.results.count h.store from n h.store;
        queue = refl;
        timed = λ t. record { running = λ p. absurd (false≢true p); waiting = t.waiting; deadline = λ p. absurd (false≢true p) };
      }

  pub stays-finish : Stays h (finish h at status from n heard)
  unfolding finish
  stays-finish = go h.state.running.active
    where
      go : (b : Bool) → Stays h (pick b (ended h at status from n heard) h)
      go true = stays-ended
      go false = stays h f

-- ---- a deadline

pub stays-until : (h : Held) (d : Micros) → Nearly h.state → (Timed h.state → d.0 ≤ last_deadline)
    → Stays h (on_state h (with_running h.state (until h.state.running d)))
stays-until h d f b =
    record {
      nearly = record {
        waits = f.waits;
        keys = f.keys;
        results = f.results;
        peer = f.peer;
        heard = f.heard;
        tally = f.tally;
        linked = f.linked;
        runs = record { step = f.runs.step; phase = f.runs.phase };
        asks = record { request = f.asks.request; asking = f.asks.asking; att = f.asks.att };
      };
      store = refl;
      queue = refl;
      timed = λ t. record { running = t.running; waiting = t.waiting; deadline = λ p q. b t };
    }

pub stays-wait : (h : Held) (at : Micros) (ms : Millis) → at.0 ≤ latest → Nearly h.state → (Timed h.state → ms.0 ≤ 4294967295) → Stays h (waits_for h at ms)
stays-wait h at ms l f b = stays-until h (deadline at ms) f (λ t. deadline-bound at ms l (omega (arith, b t)))

-- ---- a request

module _ (h : Held) (at : Micros) (opcode : ℕ) (l : at.0 ≤ latest) (f : Nearly h.state) (q : is_request opcode ≡ true)
    (a : h.state.running.active ≡ true) (s : att_step h.state.running.step ≡ true) where
  pub stays-asked : Stays h (on_state h (asked h.state at opcode))
  stays-asked =
      record {
        nearly = record {
          waits = f.waits;
          keys = f.keys;
          results = f.results;
          peer = f.peer;
          heard = f.heard;
          tally = f.tally;
          linked = record { held = f.linked.held; mtu_low = f.linked.mtu_low; mtu_high = f.linked.mtu_high };
          runs = record { step = f.runs.step; phase = f.runs.phase };
          asks = record { request = λ p. q; asking = λ p. a; att = λ p. s };
        };
        store = refl;
        queue = refl;
        timed = λ t. record { running = t.running; waiting = t.waiting; deadline = λ p q. att-deadline-bound at l };
      }

module _ (k : ℕ) (w : World) (at : Micros) (pdu : List ℕ) (few : k ≤ 64) (l : at.0 ≤ latest) (ready : Ready k w) (f : Nearly w.held.state)
    (a : w.held.state.running.active ≡ true) (s : att_step w.held.state.running.step ≡ true) (q : is_request (get_or pdu 0 0) ≡ true) (short : length pdu ≤ 247) where
  pub goes-request : Goes (k + 1) w (request w at pdu)
  unfolding request
  goes-request = record { ready = ready-request k w at pdu ready few short; stays = stays-asked w.held at (get_or pdu 0 0) l f q a s }

-- ---- a link comes or goes

-- another bearer, on which no response is awaited
pub stays-bearer : (h : Held) (b : Bearer) → Nearly h.state → Linked b → awaits b ≡ false → Stays h (on_state h (with_bearer h.state b))
stays-bearer h b f l e =
    record {
      nearly = record {
        waits = f.waits;
        keys = f.keys;
        results = f.results;
        peer = f.peer;
        heard = f.heard;
        tally = f.tally;
        linked = l;
        runs = f.runs;
        asks = record { request = λ p. absurd (false≢true (sym e ∙ p)); asking = λ p. absurd (false≢true (sym e ∙ p)); att = λ p. absurd (false≢true (sym e ∙ p)) };
      };
      store = refl;
      queue = refl;
      timed = λ t. record { running = t.running; waiting = t.waiting; deadline = t.deadline };
    }

-- one that is not there
pub stays-absent : (h : Held) (b : Bearer) → Nearly h.state → b.present ≡ false → Stays h (on_state h (with_bearer h.state b))
stays-absent h b f e =
    stays-bearer h b f
    (record { held = λ p. absurd (false≢true (sym e ∙ p)); mtu_low = λ p. absurd (false≢true (sym e ∙ p)); mtu_high = λ p. absurd (false≢true (sym e ∙ p)) })
    (ap (λ (x : Bool). x && not (eqb b.link.pending 0)) e)
