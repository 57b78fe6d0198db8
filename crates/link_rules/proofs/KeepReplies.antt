-- What goes back to the peer, and what a notification changes, keep what holds through a call: one frame goes out at most.
use Prim.Native.Nat.{ℕ, ◌+◌, ◌-◌, ◌≤◌, max, min}
use mathlib.Core.Path.{◌≡◌, refl, ap, ◌∙◌}
use mathlib.Core.Bool.{Bool, true, false}
use mathlib.Core.List.{List}
use native.Mathlib.Omega.{arith}
use lib.ListN.{length, take, length-take}
use lib.Dec.{eqb, leb}
use borrow.Author.Tests.{le-leb}
use Rattle.bytes_base.specs.Choice.{pick}
use Rattle.bytes_base.specs.Bytes.{le_at}
use Rattle.state_places.specs.Sizes.{most_notifications, value_size}
use Rattle.lists.proofs.QueueLaws.{length-pushed, pushed-within, all-pushed}
use Rattle.time.specs.declared.Micros.{Micros}
use Rattle.l2cap.specs.Numbers.{cid_att, cid_signaling, cid_smp}
use Rattle.att_pdu.specs.Pdu.{att_error, exchange_mtu_rsp, confirmation}
use Rattle.att_pdu.proofs.PduLaws.{length-att_error, length-exchange_mtu_rsp}
use Rattle.l2cap_signaling.specs.Answer.{signaling_answer, smp_answer}
use Rattle.l2cap_signaling.proofs.AnswerLaws.{Sized, signaling-sized, smp-sized}
use Rattle.l2cap_params.specs.declared.Parameters.{Parameters}
use Rattle.std.specs.Prelude.{Option, Some, None}
use Rattle.notifications.specs.Kept.{live, values_fit, links_fit, keeping}
use Rattle.notifications.proofs.KeptLaws.{live-keeping, length-kept}
use Rattle.notifications.specs.declared.Notification.{Notification}
use Rattle.notifications.specs.declared.Notifications.{Notifications}
use Rattle.state_rules.specs.Steps.{default_mtu, most_mtu}
use Rattle.state_rules.specs.Fit.{most_notified}
use Rattle.script_rules.specs.World.{Held, Told, World, on_told, on_state}
use Rattle.script_rules.specs.Send.{send}
use Rattle.script_rules.specs.Ready.{Ready}
use Rattle.script_rules.proofs.ReadyLaws.{ready-send, ready-more}
use Rattle.script_rules.specs.Wait.{check_wait}
use Rattle.script_rules.specs.Nearly.{Nearly}
use Rattle.script_rules.proofs.KeepTurns.{Stays, Goes, then}
use Rattle.script_rules.proofs.KeepStarts.{stays-check}
use Rattle.link_rules.specs.Payload.{payload_at, payload_size, payload, with_mtu}
use Rattle.link_rules.specs.Replies.{reply, asks_update, on_signaling, on_smp, refuse, exchange, keep_one, confirmed, notice}
use Rattle.link_rules.proofs.KeepWork.{goes-told}

-- ---- signaling and security manager, and the requests that are refused: something goes out, and that is all

-- a link request is no frame
ready-asks : (k : ℕ) (w : World) (t : Told) (u : Option Parameters) → Ready k (on_told w t) → Ready k (on_told w (asks_update t u))
ready-asks k w t None r = r
ready-asks k w t (Some p) r = record { store = r.store; out = r.out; results = r.results; frames = r.frames; bytes = r.bytes }

module _ (k : ℕ) (w : World) (few : k ≤ 64) (ready : Ready k w) where
  ready-reply : (channel size : ℕ) (answer : Option (List ℕ)) → Sized size answer → size ≤ 247 → Ready (k + 1) (on_told w (reply w.told channel answer))
  unfolding reply
  ready-reply channel size None sized short = ready-more k (k + 1) w ready (omega arith)
  ready-reply channel size (Some answer) sized short = ready-send k w channel answer ready few (omega (arith, sized))

  ready-signaling : (pdu : List ℕ) → Ready (k + 1) (on_told w (on_signaling w.told pdu))
  unfolding on_signaling
  ready-signaling pdu =
      let a = signaling_answer pdu in
      ready-asks (k + 1) w (reply w.told cid_signaling a.reply) a.update
      (ready-reply cid_signaling 6 a.reply (signaling-sized pdu) (omega arith))

  ready-smp : (pdu : List ℕ) → Ready (k + 1) (on_told w (on_smp w.told pdu))
  unfolding on_smp
  ready-smp pdu = ready-reply cid_smp 2 (smp_answer pdu) (smp-sized pdu) (omega arith)

  ready-refuse : (opcode handle code : ℕ) → Ready (k + 1) (on_told w (refuse w.told opcode handle code))
  unfolding refuse
  ready-refuse opcode handle code = ready-send k w cid_att (att_error opcode handle code) ready few (omega (arith, length-att_error opcode handle code))

  ready-confirmed : (indication : Bool) → Ready (k + 1) (on_told w (confirmed w.told indication))
  ready-confirmed true = ready-send k w cid_att confirmation ready few (omega arith)
  ready-confirmed false = ready-more k (k + 1) w ready (omega arith)

  module _ (f : Nearly w.held.state) where
    pub goes-signaling : (pdu : List ℕ) → Goes (k + 1) w (on_told w (on_signaling w.told pdu))
    goes-signaling pdu = goes-told k w ready f (on_signaling w.told pdu) (ready-signaling pdu)

    pub goes-smp : (pdu : List ℕ) → Goes (k + 1) w (on_told w (on_smp w.told pdu))
    goes-smp pdu = goes-told k w ready f (on_smp w.told pdu) (ready-smp pdu)

    pub goes-refuse : (opcode handle code : ℕ) → Goes (k + 1) w (on_told w (refuse w.told opcode handle code))
    goes-refuse opcode handle code = goes-told k w ready f (refuse w.told opcode handle code) (ready-refuse opcode handle code)

-- ---- the link's MTU

pub stays-mtu : (h : Held) (mtu : ℕ) → default_mtu ≤ mtu → mtu ≤ most_mtu → Nearly h.state → Stays h (on_state h (with_mtu h.state mtu))
stays-mtu h mtu low high f =
    record {
      nearly = record {
        waits = f.waits;
        keys = f.keys;
        results = f.results;
        peer = f.peer;
        heard = f.heard;
        tally = f.tally;
        linked = record { held = f.linked.held; mtu_low = λ p. low; mtu_high = λ p. high };
        runs = f.runs;
        asks = record { request = f.asks.request; asking = f.asks.asking; att = f.asks.att };
      };
      store = refl;
      queue = refl;
      timed = λ t. record { running = t.running; waiting = t.waiting; deadline = t.deadline };
    }

pub goes-exchange : (k : ℕ) (w : World) (theirs : ℕ) → k ≤ 64 → Ready k w → Nearly w.held.state → Goes (k + 1) w (exchange w theirs)
unfolding exchange
goes-exchange k w theirs few ready f =
    let r = ready-send k w cid_att (exchange_mtu_rsp most_mtu) ready few (omega (arith, length-exchange_mtu_rsp most_mtu)) in
    record {
      ready = record { store = r.store; out = r.out; results = r.results; frames = r.frames; bytes = r.bytes };
      stays = stays-mtu w.held (max default_mtu (min theirs most_mtu)) (omega arith) (omega arith) f;
    }

-- ---- notifications and indications

-- one more at most
count-keeping : (n : Notifications) (x : Notification) → (keeping n x).count ≤ n.count + 1
unfolding keeping
count-keeping n x = omega (arith, length-pushed most_notifications (live n) x, length-take n.count n.kept)

few-keeping : (n : Notifications) (x : Notification) → (keeping n x).count ≤ most_notifications
unfolding keeping
few-keeping n x = pushed-within most_notifications (live n) x

fit-keeping : (n : Notifications) (x : Notification) → values_fit (live n) ≡ true → x.len ≤ value_size → values_fit (live (keeping n x)) ≡ true
fit-keeping n x f h =
    ap values_fit (live-keeping n x) ∙ all-pushed (λ y. leb y.len value_size) most_notifications (live n) x f (le-leb x.len value_size h)

linked-keeping : (links : ℕ) (n : Notifications) (x : Notification) → links_fit links (live n) ≡ true → x.link ≤ links → links_fit links (live (keeping n x)) ≡ true
linked-keeping links n x f h =
    ap (links_fit links) (live-keeping n x) ∙ all-pushed (λ y. leb y.link links) most_notifications (live n) x f (le-leb x.link links h)

module _ (h : Held) (at : Micros) (handle n : ℕ) (indication : Bool) (f : Nearly h.state) where
  abbrev x : Notification
  x = record { at = at; handle = handle; len = n; indication = indication; link = h.state.counters.links }

  pub stays-keep : n ≤ value_size → h.state.counters.notified + 1 ≤ most_notified → Stays h (keep_one h at handle n indication)
  unfolding keep_one
  stays-keep short room =
      record {
        nearly = record {
          waits = f.waits;
          keys = f.keys;
          results = f.results;
          peer = f.peer;
          heard = record {
            reports = f.heard.reports;
            lengths = f.heard.lengths;
            responses = f.heard.responses;
            notifications = few-keeping h.state.notifications x;
            values = fit-keeping h.state.notifications x f.heard.values short;
            counted = f.heard.counted;
            links = linked-keeping h.state.counters.links h.state.notifications x f.heard.links (omega arith);
          };
          tally = record {
            kept = omega (arith, count-keeping h.state.notifications x, f.tally.kept);
            notified = room;
            from = omega (arith, f.tally.from);
            refused = f.tally.refused;
            index = f.tally.index;
          };
          linked = f.linked;
          runs = f.runs;
          asks = f.asks;
        };
        store = length-kept h.store h.state.notifications.count (payload_at + 3) n;
        queue = refl;
        timed = λ t. record { running = t.running; waiting = t.waiting; deadline = t.deadline };
      }

-- the running wait looks at it
pub goes-notice : (k : ℕ) (w : World) (at : Micros) (n : ℕ) (indication : Bool) → k ≤ 64 → Ready k w → Nearly w.held.state → n ≤ payload_size
    → w.held.state.counters.notified + 1 ≤ most_notified → Goes (k + 1) w (notice w at n indication)
unfolding notice
goes-notice k w at n indication few ready f short room =
    let handle = le_at 2 (payload w.held n) 1 in
    let g = keep_one w.held at handle (n - 3) indication in
    let s = stays-keep w.held at handle (n - 3) indication f (omega arith) room in
    let t = then w.held g (check_wait g at) s (stays-check g at s.nearly) in
    let r = ready-confirmed k w few ready indication in
    record {
      ready = record { store = t.store ∙ ready.store; out = r.out; results = t.nearly.results.few; frames = r.frames; bytes = r.bytes };
      stays = t;
    }
