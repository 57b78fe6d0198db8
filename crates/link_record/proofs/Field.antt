-- What the laws of this folder ask of a field of a struct: both of plain data, and the field's place and value known.
use mathlib.Core.Path.{◌≡◌}
use Prim.Native.Nat.{ℕ, zero}
use mathlib.Core.Option.{some as found}
use mathlib.Core.List.{[], ◌∷◌}
use mir.Fields.{get_v, set_v}
use mir.Val.{Vals, vstruct, of_list}
use base.Fml.{ftrue}
use prog.Memory.{field_at}
use denote.RattleType.{RattleType, flat, mirs}
use denote.Laws.{Is, valss}
use denote.Memory.{lone}
use denote.Exit.{yes, Last, left}
use denote.Struct.Declared.{Declared, row, fields}
use denote.Struct.Struct.{Plains, AreAll, to_tys}
use denote.Struct.Laws as LL
use Rattle.link_record_laws.proofs.Data.{Data, struct}

module _ (T : Declared) (L : LL.Laws T) where
  -- each field's relation
  abbrev pub Fields : T.D → Type 0
  Fields h = AreAll (fields T) (T.to h) (valss (fields T) (LL.spells T.parts L) (T.to h))

  -- the struct's machine value, field by field
  abbrev pub parts : T.D → Vals
  parts h = of_list (flat (fields T) (valss (fields T) (LL.spells T.parts L) (T.to h)))

-- T, L and P are the struct's generated `the_type`, `the_laws` and `the_plain`, and D is the field's type.
-- A use says the field's number and, by `refl`, its place, its value and that storing x there makes `put h x`
pub record Field (T : Declared) (L : LL.Laws T) (P : Plains (fields T)) {R : RattleType} (D : Data R) : Type 2 where
  pub index : ℕ
  pub place : ℕ
  pub lies_at : field_at zero (to_tys (mirs (fields T))) index ≡ found (lone R.mir, place)
  pub get : T.D → R.Denot
  pub put : T.D → R.Denot → T.D
  pub held : (h : T.D) → get_v (parts T L h) index ≡ D.val (get h)
  pub stored : (h : T.D) (x : R.Denot) → vstruct (set_v (parts T L h) index (D.val x)) ≡ LL.val T L (put h x)
  -- what the field's type asks is among what the struct's asks, and may be given anew
  pub asked : (h : T.D) → Fields T L h → Is R (get h) (D.val (get h) ∷ [])
  pub again : (h : T.D) (x : R.Denot) → Fields T L h → Is R x (D.val x ∷ []) → Fields T L (put h x)
  -- of the struct, as `Data.antt`'s `struct` takes them
  pub last : (h : T.D) → Last ((row T).exit yes) h
  pub silent : (h : T.D) (f : Last ((row T).exit yes) h) → left ((row T).exit yes) h f ≡ ftrue

-- the struct itself
abbrev pub whole : {T : Declared} {L : LL.Laws T} {P : Plains (fields T)} {R : RattleType} {D : Data R} → Field T L P D → Data (row T)
whole {T} {L} {P} F = struct T L P F.last F.silent
