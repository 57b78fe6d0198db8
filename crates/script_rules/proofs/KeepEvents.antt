-- A link that comes or goes, the step that it ends, and a step that its deadline ends keep what holds through a call.
use Prim.Native.Nat.{ℕ, ◌+◌, ◌<◌}
use mathlib.Core.Path.{◌≡◌, refl}
use mathlib.Core.Bool.{Bool, true, false}
use mathlib.Core.List.{List, [], ◌∷◌}
use native.Mathlib.Omega.{arith}
use lib.Dec.{leb}
use borrow.Author.Tests.{le-leb, leb-true}
use Rattle.bytes_base.specs.Choice.{pick}
use Rattle.lists.specs.Queue.{all}
use Rattle.lists.proofs.ScanLaws.{all_head, all_tail, all_cons}
use Rattle.time.specs.declared.Micros.{Micros}
use Rattle.notifications.specs.declared.Notification.{Notification}
use Rattle.notifications.specs.Kept.{live, links_fit}
use Rattle.state.specs.Central.{with_bearer, with_counters}
use Rattle.state.specs.declared.Step.{Step}
use Rattle.state.specs.declared.StepStatus.{StepStatus}
use Rattle.state.specs.declared.StepStatus.TheVariants.{Ok}
use Rattle.state_rules.specs.Fit.{most_links}
use Rattle.script_rules.specs.World.{Held, on_state}
use Rattle.script_rules.specs.Start.{ends}
use Rattle.script_rules.specs.Nearly.{Nearly}
use Rattle.script_rules.proofs.KeepTurns.{Stays, stays, then, stays-bearer, stays-absent}
use Rattle.script_rules.proofs.KeepStarts.{stays-ends}
use Rattle.script_rules.specs.Comings.{given_up, linked, is_connect, greeted, link_counted, with_new_link, unlinked, goes_on, cut_status, cut_off}

-- ---- a link comes, or goes

stays-linked : (h : Held) (handle : ℕ) → Nearly h.state → Stays h (on_state h (with_bearer h.state (linked handle)))
stays-linked h handle f =
    stays-bearer h (linked handle) f (record { held = λ p. omega arith; mtu_low = λ p. omega arith; mtu_high = λ p. omega arith }) refl

-- what was heard on a link so far was heard on one of the links that there are with one more
links-more : (n : ℕ) (l : List Notification) → links_fit n l ≡ true → links_fit (n + 1) l ≡ true
unfolding all
links-more n [] e = refl
links-more n (x ∷ l) e =
    let k = leb-true x.link n (all_head (λ (y : Notification). leb y.link n) x l e) in
    all_cons (λ (y : Notification). leb y.link (n + 1)) x l (le-leb x.link (n + 1) (omega arith)) (links-more n l (all_tail (λ (y : Notification). leb y.link n) x l e))

-- one link more is counted
stays-counted : (h : Held) → h.state.counters.links < most_links → Nearly h.state → Stays h (on_state h (with_counters h.state (link_counted h.state.counters)))
stays-counted h k f =
    record {
      nearly = record {
        waits = f.waits;
        keys = f.keys;
        results = f.results;
        peer = f.peer;
        heard = record {
          reports = f.heard.reports;
          lengths = f.heard.lengths;
          responses = f.heard.responses;
          notifications = f.heard.notifications;
          values = f.heard.values;
          counted = omega arith;
          links = links-more h.state.counters.links (live h.state.notifications) f.heard.links;
        };
        tally = record { kept = f.tally.kept; notified = f.tally.notified; from = f.tally.from; refused = f.tally.refused; index = f.tally.index };
        linked = f.linked;
        runs = f.runs;
        asks = f.asks;
      };
      store = refl;
      queue = refl;
      timed = λ t. record { running = t.running; waiting = t.waiting; deadline = t.deadline };
    }

pub stays-new : (h : Held) (handle : ℕ) → h.state.counters.links < most_links → Nearly h.state → Stays h (on_state h (with_new_link h.state handle))
stays-new h handle k f =
    let a : Held = on_state h (with_bearer h.state (linked handle)) in
    let s = stays-linked h handle f in
    then h a (on_state h (with_new_link h.state handle)) s (stays-counted a k s.nearly)

stays-unlinked : (h : Held) → Nearly h.state → Stays h (on_state h (with_bearer h.state (unlinked h.state.bearer)))
stays-unlinked h f = stays-absent h (unlinked h.state.bearer) f refl

-- ---- the step that it ends

stays-either : (h : Held) (b : Bool) (x y : Held) → Stays h x → Stays h y → Stays h (pick b x y)
stays-either h true x y a c = a
stays-either h false x y a c = c

stays-greeted : (h : Held) (at : Micros) → Nearly h.state → Stays h (greeted h at)
stays-greeted h at f = stays-either h (is_connect h.state.running.step) (ends h at Ok) h (stays-ends h at Ok f) (stays h f)

stays-cut : (h : Held) (at : Micros) (step : Step) → Nearly h.state → Stays h (cut_off h at step)
unfolding cut_off
stays-cut h at step f = stays-either h (goes_on step) h (ends h at (cut_status step)) (stays h f) (stays-ends h at (cut_status step) f)

-- ---- both

pub stays_met : (h : Held) (handle : ℕ) (at : Micros) → h.state.counters.links < most_links → Nearly h.state
    → Stays h (greeted (on_state h (with_new_link h.state handle)) at)
stays_met h handle at k f =
    let a : Held = on_state h (with_new_link h.state handle) in
    let s = stays-new h handle k f in
    then h a (greeted a at) s (stays-greeted a at s.nearly)

pub stays-lost : (h : Held) (at : Micros) (step : Step) → Nearly h.state → Stays h (cut_off (on_state h (with_bearer h.state (unlinked h.state.bearer))) at step)
stays-lost h at step f =
    let a : Held = on_state h (with_bearer h.state (unlinked h.state.bearer)) in
    let s = stays-unlinked h f in
    then h a (cut_off a at step) s (stays-cut a at step s.nearly)

-- ---- a step that its deadline ends

pub stays-given-up : (h : Held) → Nearly h.state → Stays h (given_up h)
stays-given-up h f =
    record {
      nearly = record {
        waits = f.waits;
        keys = f.keys;
        results = f.results;
        peer = f.peer;
        heard = f.heard;
        tally = f.tally;
        linked = record { held = f.linked.held; mtu_low = f.linked.mtu_low; mtu_high = f.linked.mtu_high };
        runs = f.runs;
        asks = record { request = f.asks.request; asking = f.asks.asking; att = f.asks.att };
      };
      store = refl;
      queue = refl;
      timed = λ t. record { running = t.running; waiting = t.waiting; deadline = t.deadline };
    }

pub stays-late : (h : Held) (at : Micros) (status : StepStatus) → Nearly h.state → Stays h (ends (given_up h) at status)
stays-late h at status f =
    let s = stays-given-up h f in
    then h (given_up h) (ends (given_up h) at status) s (stays-ends (given_up h) at status s.nearly)
