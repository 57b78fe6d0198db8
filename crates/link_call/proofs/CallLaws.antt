-- What on_fragment asks of what it calls, and what each of its returns asks.
use Prim.Native.Nat.{ℕ, ◌+◌, ◌≤◌}
use mathlib.Core.Path.{◌≡◌, refl, sym, ap, subst, ◌∙◌}
use mathlib.Core.Bool.{Bool, true, false}
use mathlib.Core.List.{List}
use lib.ListN.{length}
use lib.Dec.{eqb}
use Rattle.bytes_base.specs.Choice.{pick}
use Rattle.state_places.specs.Sizes.{frame_size}
use Rattle.time.specs.declared.Micros.{Micros}
use Rattle.state.specs.Central.{Central}
use Rattle.state.specs.declared.Sent.{Sent}
use Rattle.script_rules.specs.World.{Told, World, on_told}
use Rattle.script_rules.proofs.KeepTurns.{of-fit}
use Rattle.script_rules.specs.Outcome.{Outcome, begins, done, refused}
use Rattle.script_rules.proofs.CallBeginLaws.{begins-sound}
use Rattle.script_rules.proofs.GateLaws.{goes_through, is-stopped}
use Rattle.state_refusals.specs.Refusals.{long_frame}
use Rattle.link_rules.specs.Fragment.{with_held, dropped, held_before, gate_fragment, refusing}
use Rattle.link_rules.proofs.FragmentLaws.{PassedFragment, passed-fragment}
use Rattle.link_rules.specs.Replies.{refuse}
use Rattle.link_rules.specs.Link.{Hears, hear, on_fragment}
use Rattle.state_core.specs.declared.Core.{Core}
use Rattle.state_core.specs.declared.Turn.{Turn}
use Rattle.state_core.specs.Reading.{central, world}
use Rattle.link_call.specs.Leaves.{FragmentLeaves}
use Rattle.link_call.specs.Leaves as leaving

pub refuse-law : (t : Turn) (n : Sent) (out out' : List ℕ) (opcode handle code : ℕ)
    → ◌≡◌ {A = Told} (record { sent = n; out = out' }) (refuse (record { sent = t.sent; out = out }) opcode handle code)
    → (w s : List ℕ) → world (record { core = t.core; sent = n }) w s out' ≡ on_told (world t w s out) (refuse (world t w s out).told opcode handle code)
refuse-law t n out out' opcode handle code e w s = ap (λ (x : Told). on_told (world t w s out) x) e

module _ (c : Central) (st out : List ℕ) (at : Micros) (start : Bool) (fragment : List ℕ) (g : ℕ)
    (e : g ≡ gate_fragment c (length st) (length out) at start (length fragment)) where
  abbrev gate : ℕ
  gate = gate_fragment c (length st) (length out) at start (length fragment)

  pub fragment-refused : (left : Central) (o : Outcome) → (g ≡ 0 → ⊥) → left ≡ refusing c g → o ≡ refused left g st out → o ≡ on_fragment c st out at start fragment
  unfolding on_fragment
  fragment-refused left o h l f =
      f
      ∙ ap (λ (x : Central). refused x g st out) l
      ∙ ap (λ (n : ℕ). refused (refusing c n) n st out) e
      ∙ sym (is-stopped g gate e _ _ h)

  module _ (h : g ≡ 0) (w : World) (b : w ≡ begins c st out) where
    pub may-hear : Hears w at × (dropped w.held.state.bearer start ≡ false → held_before w.held.state.bearer start + length fragment ≤ frame_size)
    may-hear =
        let p : PassedFragment c (length st) (length out) at start (length fragment) = passed-fragment c (length st) (length out) at start (length fragment) (sym e ∙ h) in
        let begun : Hears (begins c st out) at =
        record {
          sound = begins-sound (record { state = c; store = st }) out p.shared.store p.shared.out (of-fit c p.shared.fit);
          silent = refl;
          notified = p.notified;
          time = p.shared.time;
        } in (
          subst (λ (y : World). Hears y at) (sym b) begun,
          subst
              (λ (y : World). dropped y.held.state.bearer start ≡ false → held_before y.held.state.bearer start + length fragment ≤ frame_size)
              (sym b) p.room,
        )

    pub fragment-done : (v : World) (o : Outcome) → v ≡ hear w at start fragment → o ≡ done v → o ≡ on_fragment c st out at start fragment
    unfolding on_fragment
    fragment-done v o er eo = eo ∙ ap done (er ∙ ap (λ (y : World). hear y at start fragment) b) ∙ sym (goes_through g gate e _ _ h)

-- ---- what a refused fragment leaves

-- the core that a reading has
abbrev core_of : Central → Core
core_of c =
    record {
      running = c.running;
      bearer = c.bearer;
      counters = c.counters;
      counts = record {
        waiting = c.queue.count;
        results = c.results.count;
        services = c.services.count;
        characteristics = c.characteristics.count;
        notifications = c.notifications.count;
      };
      reports = c.reports.count;
      key_count = c.keys.count;
      options = c.options;
    }

pub left-core : (c r : Core) (w : List ℕ) (why : ℕ) → central r w ≡ refusing (central c w) why → r ≡ pick (eqb why long_frame) (leaving.emptied c) c
left-core c r w why e = ap core_of e ∙ go (eqb why long_frame)
  where
    go : (b : Bool) → core_of (pick b (with_held (central c w) 0) (central c w)) ≡ pick b (leaving.emptied c) c
    go true = refl
    go false = refl

pub leaves : (c l r : Core) (w s o : List ℕ) (why g : ℕ) → l ≡ pick (eqb why long_frame) (leaving.emptied c) c → r ≡ l → g ≡ why
    → FragmentLeaves g c r w w s s × ((g ≡ 0 → ⊥) → o ≡ o)
leaves c l r w s o why g e f h = rw h ((λ x. (f ∙ e, refl, refl)), λ x. refl)
