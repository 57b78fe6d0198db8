-- What the laws of this folder ask of a type of plain data: a number, a bool, a struct or an enum that holds no reference.
use mathlib.Core.Path.{◌≡◌, refl, subst}
use mathlib.Core.List.{[], ◌∷◌, List}
use seplogic.Ra.Ura.{Ura}
use lib.Dec.{T}
use mir.Syntax.{Width, Ty}
use mir.Val.{Val, vint, WT, has_ty}
use base.Fml.{ftrue}
use types.Logic.{Logic}
use denote.RattleType.{RattleType}
use denote.Laws.{Is, Tells, Lawful, Makes, Typed}
use denote.Memory.{lone}
use denote.Exit.{yes, Last, left}
use denote.Plain.{UInt, uint_Tells, uint_Lawful, uint_Makes}
use denote.Struct.Declared.{Declared, row, fields}
use denote.Struct.Struct.{Plains}
use denote.Struct.Laws as LL
use borrow.Table.OneValue.{One}

pub record Data (R : RattleType) : Type 2 where
  pub one : One R
  pub val : R.Denot → Val
  pub tells : Tells R (Is R) (λ x. val x ∷ [])
  pub lawful : {M : Type 1} {𝓤 : Ura M} (𝓛 : Logic 𝓤) → Lawful 𝓛 R
  pub makes : {M : Type 1} {𝓤 : Ura M} (𝓛 : Logic 𝓤) → Makes 𝓛 R (Is R)
  -- it is seen at exit as it was passed
  pub last : (x : R.Denot) → Last (R.exit yes) x
  pub silent : (x : R.Denot) (f : Last (R.exit yes) x) → left (R.exit yes) x f ≡ ftrue

-- its machine value is of its MIR type
pub typed : {R : RattleType} (D : Data R) {M : Type 1} {𝓤 : Ura M} (𝓛 : Logic 𝓤) → (x : R.Denot) (v : Val) → Is R x (v ∷ []) → T (has_ty (lone R.mir) v) × WT v
typed {R} D 𝓛 x v is = (subst (λ (τs : List Ty). Typed τs (v ∷ [])) D.one ((D.lawful 𝓛).typed x (v ∷ []) is)).0

abbrev pub uint : (w : Width) → Data (UInt w)
uint w = record { one = refl; val = λ n. vint w n; tells = uint_Tells w; lawful = λ 𝓛. uint_Lawful 𝓛 w; makes = λ 𝓛. uint_Makes 𝓛 w; last = λ x. tt; silent = λ x f. refl }

-- a declared struct, at its generated laws; the last two are `λ x. tt` and `λ x f. refl`
abbrev pub struct : (T : Declared) (L : LL.Laws T) → Plains (fields T) → ((x : T.D) → Last ((row T).exit yes) x) → ((x : T.D) (f : Last ((row T).exit yes) x) → left ((row T).exit yes) x f ≡ ftrue) → Data (row T)
struct T L P last silent = record {
  one = refl;
  val = LL.val T L;
  tells = LL.tells T L;
  lawful = λ 𝓛. LL.lawful T L 𝓛;
  makes = λ 𝓛. LL.makes T P 𝓛;
  last = last;
  silent = silent;
}
