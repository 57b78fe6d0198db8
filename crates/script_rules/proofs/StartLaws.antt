-- What each return of the functions that begin a step asks, from what their callees ensure.
use Prim.Native.Nat.{ℕ, ◌≤◌}
use mathlib.Core.Path.{◌≡◌, ◌∙◌}
use mathlib.Core.List.{[]}
use native.Mathlib.Omega.{arith}
use Rattle.state.specs.declared.Sent.{Sent}
use Rattle.script_rules.specs.Send.{Room}

pub less-room : (s : Sent) (o m n : ℕ) → Room s o m → n ≤ m → Room s o n
less-room s o m n r h = record { frames = r.frames; fits = omega (arith, r.fits); short = omega (arith, r.short) }
