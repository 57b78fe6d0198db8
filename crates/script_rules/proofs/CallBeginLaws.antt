-- What a call has in hand as it begins, and still has when a step has ended.
use Prim.Native.Nat.{ℕ, ◌≤◌, ◌<◌}
use mathlib.Core.Path.{◌≡◌, refl, ap, ◌∙◌}
use mathlib.Core.Bool.{Bool, true, false}
use mathlib.Core.List.{List}
use native.Mathlib.Omega.{arith}
use lib.ListN.{length}
use lib.Dec.{eqb}
use borrow.Author.Tests.{eqb-true, eqb-false}
use Rattle.bytes_base.specs.Choice.{pick}
use Rattle.state_places.specs.Sizes.{store_size, output_size}
use Rattle.time.specs.declared.Micros.{Micros}
use Rattle.time.specs.Clock.{latest}
use Rattle.state.specs.Central.{Central}
use Rattle.state.specs.declared.Queue.{Queue}
use Rattle.state_rules.specs.Gate.{gate, gate_quiet}
use Rattle.state_rules.specs.Refusals.{accepted, counter_full}
use Rattle.state_rules.specs.Fit.{most_links}
use Rattle.state_rules.proofs.GateLaws.{Passed, passed, passed-quiet}
use Rattle.script_rules.specs.World.{Held, World, on_held}
use Rattle.script_rules.specs.Nearly.{Nearly}
use Rattle.script_rules.specs.Sound.{Sound, Whole}
use Rattle.script_rules.proofs.KeepTurns.{Stays, of-fit}
use Rattle.script_rules.specs.Outcome.{begins}
use Rattle.script_rules.specs.Events.{gate_connected}

-- nothing has gone out, and at most 64 steps wait
pub begins-sound : (h : Held) (out : List ℕ) → length h.store ≡ store_size → output_size ≤ length out → Nearly h.state → Sound 65 (begins h.state h.store out)
begins-sound h out s o n =
    record {
      ready = record { store = s; out = o; results = n.results.few; frames = omega arith; bytes = omega arith };
      nearly = n;
      budget = omega (arith, n.waits.few);
    }

pub sound-stays : (k : ℕ) (w : World) (g : Held) → Sound k w → Stays w.held g → Sound k (on_held w g)
sound-stays k w g s t =
    record {
      ready = record { store = t.store ∙ s.ready.store; out = s.ready.out; results = t.nearly.results.few; frames = s.ready.frames; bytes = s.ready.bytes };
      nearly = t.nearly;
      budget = omega (arith, s.budget, ap (λ (q : Queue). q.count) t.queue);
    }

pub whole-stays : (h g : Held) → Whole h → Stays h g → Whole g
whole-stays h g w t = record { store = t.store ∙ w.store; nearly = t.nearly }

-- what the gates have shown
pub may-begin : (c : Central) (st out : List ℕ) (at : Micros) → gate c (length st) (length out) at ≡ 0 → Sound 65 (begins c st out) × (at.0 ≤ latest)
may-begin c st out at e =
    let p = passed c (length st) (length out) at e in
    (begins-sound (record { state = c; store = st }) out p.store p.out (of-fit c p.fit), p.time)

pub may-begin-quietly : (c : Central) (st : List ℕ) (at : Micros) → gate_quiet c (length st) at ≡ 0 → Whole (record { state = c; store = st }) × (at.0 ≤ latest)
may-begin-quietly c st at e =
    let p = passed-quiet c (length st) at e in
    (record { store = p.store; nearly = of-fit c p.fit }, p.time)

-- a link that comes can be counted
pub record PassedConnected (c : Central) (store out : ℕ) (at : Micros) : Type 0 where
  pub shared : Passed c store out at
  pub links : c.counters.links < most_links

pub passed-connected : (c : Central) (store out : ℕ) (at : Micros) → gate_connected c store out at ≡ 0 → PassedConnected c store out at
passed-connected c store out at = go (eqb (gate c store out at) accepted) refl (eqb c.counters.links most_links) refl
  where
    go : (x : Bool) → eqb (gate c store out at) accepted ≡ x → (y : Bool) → eqb c.counters.links most_links ≡ y
        → ◌≡◌ {A = ℕ} (pick x (pick y counter_full accepted) (gate c store out at)) 0 → PassedConnected c store out at
    go true ex true ey h = absurd (omega arith)
    go true ex false ey h =
        let p = passed c store out at (eqb-true (gate c store out at) 0 ex) in
        record { shared = p; links = omega (arith, p.fit.head.links, eqb-false c.counters.links most_links ey) }
    go false ex y ey h = absurd (eqb-false (gate c store out at) 0 ex h)

pub may-connect : (c : Central) (st out : List ℕ) (at : Micros) → gate_connected c (length st) (length out) at ≡ 0
    → Sound 65 (begins c st out) × (at.0 ≤ latest) × (c.counters.links < most_links)
may-connect c st out at e =
    let p = passed-connected c (length st) (length out) at e in
    let s = p.shared in
    (begins-sound (record { state = c; store = st }) out s.store s.out (of-fit c s.fit), s.time, p.links)
