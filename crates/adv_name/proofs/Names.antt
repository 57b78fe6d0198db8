-- What a look for the name from a place on finds.
use Prim.Native.Nat.{ℕ, ◌+◌, ◌-◌, ◌≤◌, ◌<◌}
use mathlib.Core.Path.{◌≡◌, refl, ◌∙◌}
use mathlib.Core.Bool.{Bool, true, false}
use mathlib.Core.List.{List, []}
use native.Mathlib.Omega.{arith}
use lib.ListN.{length, get_or}
use Rattle.std.specs.Prelude.{Option, Some, None}
use Rattle.bytes_bounds.specs.declared.Span.{Span}
use Rattle.bytes_base.specs.Choice.{pick, within}
use Rattle.adv_data.specs.Ad.{Ad}
use Rattle.adv_data.proofs.Lists.{part}
use Rattle.adv_data.proofs.Structures.{read_at, read_here, body-length}
use Rattle.utf8.specs.Utf8.{utf8}
use Rattle.adv_name.specs.Name.{naming, name_of}

-- the name that stands from at on
abbrev pub name_from : ℕ → List ℕ → Option Span
name_from at s = name_of (naming (read_at at s))

name_by : (t : Bool) (a : Ad) (f : Option Ad) → name_of (pick t (Some a) f) ≡ pick t (pick (utf8 a.body) (Some (record { at = a.start; len = length a.body })) None) (name_of f)
name_by true a f = refl
name_by false a f = refl

-- no structure from at on
pub name-none : (at : ℕ) (s : List ℕ) → read_at at s ≡ [] → name_from at s ≡ None
unfolding naming
name-none at s h = rw h

-- a structure of length n stands at at, and t is whether its kind is that of a name
module _ (at : ℕ) (s : List ℕ) (n : ℕ) (is : n ≡ get_or s at 0) (not-zero : n ≡ 0 → ⊥) (fits : n < length s - at) (t : Bool) (is-t : t ≡ within 0x08 0x09 (get_or s (at + 1) 0)) where
  abbrev next : ℕ
  next = at + 1 + n

  name-here : name_from at s ≡ pick t (pick (utf8 (part s (at + 2) next)) (Some (record { at = at + 2; len = n - 1 })) None) (name_from next s)
  unfolding naming
  name-here =
      let some : 0 < n = omega arith in
      rw (is-t, read_here at s n is some fits, name_by, body-length at s n is some fits)

  pub name-later : t ≡ false → (next ≤ length s) × (name_from at s ≡ name_from next s)
  name-later h = (omega arith, name-here ∙ rw h)

  -- u is whether its body is UTF-8
  module _ (named : t ≡ true) (u : Bool) (is-u : u ≡ utf8 (part s (at + 2) next)) where
    pub name-good : u ≡ true → name_from at s ≡ Some (record { at = at + 2; len = n - 1 })
    name-good h = name-here ∙ rw (named, ← is-u, h)

    pub name-bad : u ≡ false → name_from at s ≡ None
    name-bad h = name-here ∙ rw (named, ← is-u, h)
