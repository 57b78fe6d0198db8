-- Pieces of a call's work, one after another: on the state and the store, or on what goes out.
use Prim.Native.Nat.{ℕ, ◌+◌}
use mathlib.Core.Path.{◌∙◌}
use mathlib.Core.Bool.{Bool, true, false}
use Rattle.bytes_base.specs.Choice.{pick}
use Rattle.script_rules.specs.World.{Held, Told, World, on_held, on_told}
use Rattle.script_rules.specs.Ready.{Ready}
use Rattle.time.specs.declared.Micros.{Micros}
use Rattle.state.specs.declared.StepStatus.{StepStatus}
use Rattle.script_rules.specs.Start.{ends}
use Rattle.script_rules.specs.Nearly.{Nearly}
use Rattle.script_rules.proofs.KeepTurns.{Stays, Goes, stays, then, quietly}
use Rattle.script_rules.proofs.KeepStarts.{stays-ends}

-- work on the state and the store sends nothing
pub ready-stays : (k : ℕ) (w : World) (g : Held) → Ready k w → Stays w.held g → Ready k (on_held w g)
ready-stays k w g r s = record { store = s.store ∙ r.store; out = r.out; results = s.nearly.results.few; frames = r.frames; bytes = r.bytes }

-- more work comes after it
pub after : (k : ℕ) (w : World) (g : Held) (v : World) → Stays w.held g → Goes k (on_held w g) v → Goes k w v
after k w g v s x = record { ready = x.ready; stays = then w.held g v.held s x.stays }

-- one of two ways
pub goes-pick : (k : ℕ) (w : World) (b : Bool) (x y : World) → Goes k w x → Goes k w y → Goes k w (pick b x y)
goes-pick k w true x y p q = p
goes-pick k w false x y p q = q

module _ (k : ℕ) (w : World) (ready : Ready k w) (f : Nearly w.held.state) where
  -- nothing is done
  pub goes-not : Goes (k + 1) w w
  goes-not = quietly k w w.held ready (stays w.held f)

  -- the running step ends
  pub goes_over : (at : Micros) (status : StepStatus) → Goes (k + 1) w (on_held w (ends w.held at status))
  goes_over at status = quietly k w (ends w.held at status) ready (stays-ends w.held at status f)

  -- something goes out, and that is all
  pub goes-told : (t : Told) → Ready (k + 1) (on_told w t) → Goes (k + 1) w (on_told w t)
  goes-told t r = record { ready = r; stays = stays w.held f }
