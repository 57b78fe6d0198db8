-- A number, or a truth value, that is written out in the code: what its operand is, its type and its machine value.
use mathlib.Core.Path.{refl}
use Prim.Native.Nat.{ℕ, ◌^◌}
use mathlib.Core.Bool.{Bool, true, false}
use mathlib.Core.List.{[], ◌∷◌, List}
use seplogic.Ra.Ura.{Ura}
use lib.Dec.{T, ltb, ltb→lt}
use mir.Syntax.{Width, Ty, ty_int, ty_bool, Opd as Operand, int, opd_true, opd_false}
use mir.Val.{Val, vint, vbool, bits, WT, has_ty}
use prog.Wp.{Env}
use types.Logic.{Logic}
use types.Kit.{Item}
use types.Run.{Opd, lit, true_lit, false_lit}
use denote.Laws.{Is}
use denote.Plain.{UInt, Boolean}
use Rattle.link_record_laws.proofs.Data.{uint, typed}

pub data Lit : Type 0 where
  number : (w : Width) (m : ℕ) → T (ltb m (2 ^ bits w)) → Lit
  flag : Bool → Lit

abbrev pub kind : Lit → Ty
kind (number w m small) = ty_int w
kind (flag b) = ty_bool

abbrev pub value : Lit → Val
value (number w m small) = vint w m
value (flag b) = vbool b

abbrev pub written : Lit → Operand
written (number w m small) = int w m
written (flag true) = opd_true
written (flag false) = opd_false

-- it is what a field of its type asks
abbrev pub Fits : Lit → Type 0
Fits (number w m small) = Is (UInt w) m (vint w m ∷ [])
Fits (flag b) = Is Boolean b (vbool b ∷ [])

pub fits : (ℓ : Lit) → Fits ℓ
fits (number w m small) = (refl, ltb→lt m (2 ^ bits w) small)
fits (flag b) = refl

module _ {M : Type 1} {𝓤 : Ura M} (𝓛 : Logic 𝓤) where
  pub well : (ℓ : Lit) → T (has_ty (kind ℓ) (value ℓ)) × WT (value ℓ)
  well (number w m small) = typed (uint w) 𝓛 m (vint w m) (fits (number w m small))
  well (flag b) = (tt, tt)

module _ {M : Type 1} {𝓤 : Ura M} {𝓛 : Logic 𝓤} {K : Type 0} {Γ : List (Item 𝓤)} {E : Env 𝓤 𝓛.H} where
  pub of_lit : K → (ℓ : Lit) → Opd K 𝓛 Γ E (written ℓ) (value ℓ)
  of_lit t (number w m small) = lit t small
  of_lit t (flag true) = true_lit t
  of_lit t (flag false) = false_lit t
