-- What the answer of a search says.
use Prim.Native.Nat.{ℕ, ◌+◌, ◌≤◌}
use mathlib.Core.Path.{◌≡◌, refl}
use mathlib.Core.Bool.{Bool, true, false, ◌||◌}
use mathlib.Core.List.{List, [], ◌∷◌}
use native.Mathlib.Omega.{arith}
use lib.ListN.{length, take, drop}
use Rattle.std.specs.Prelude.{Option, Some, None, is_some}
use Rattle.bytes_bounds.specs.declared.Span.{Span}
use Rattle.bytes_base.specs.Choice.{pick}
use Rattle.adv_data.specs.Ad.{Ad, structures, lists, any_lists, listing, place_of, listed_place}
use Rattle.adv_data.specs.Answers.{answer, maybe_more, sought_in}
use Rattle.adv_data.specs.declared.Sought.{Sought}
use Rattle.adv_data.specs.declared.Sought.TheVariants.{Listed, Absent, Unknown}
use Rattle.adv_data.proofs.Structures.{Lies, AllLie, all_lie}

-- where the answer says that the body stands
abbrev pub place_sought : Sought → Option Span
place_sought (Listed x) = Some x
place_sought Absent = None
place_sought Unknown = None

place-by : (f : Option Ad) (more : Bool) → place_sought (answer f more) ≡ place_of f
place-by (Some a) more = refl
place-by None true = refl
place-by None false = refl

-- listed exactly where the base's search finds it (02, Five: Connect matching goes on listed alone)
pub listed-where-found : (u : ℕ) (s : List ℕ) → place_sought (sought_in u s) ≡ listed_place u s
listed-where-found u s = place-by (listing u (structures s)) (maybe_more s)

-- some structure lists u where the search finds one
any-by : (t : Bool) (a : Ad) (f : Option Ad) (x : Bool) → x ≡ is_some (place_of f) → (t || x) ≡ is_some (place_of (pick t (Some a) f))
any-by true a f x h = refl
any-by false a f x h = h

pub any_found : (u : ℕ) (l : List Ad) → any_lists u l ≡ is_some (place_of (listing u l))
unfolding any_lists listing
any_found u [] = refl
any_found u (a ∷ l) = any-by (lists u a) a (listing u l) (any_lists u l) (any_found u l)

-- the structure found lies in the data
abbrev pub FoundLies : List ℕ → Option Ad → Type 0
FoundLies s (Some a) = Lies s a
FoundLies s None = Unit

pub lies-by : (s : List ℕ) (t : Bool) (a : Ad) (f : Option Ad) → Lies s a → FoundLies s f → FoundLies s (pick t (Some a) f)
lies-by s true a f h k = h
lies-by s false a f h k = k

lies : (u : ℕ) (s : List ℕ) (l : List Ad) → AllLie s l → FoundLies s (listing u l)
unfolding listing
lies u s [] h = tt
lies u s (a ∷ l) h = lies-by s (lists u a) a (listing u l) h.0 (lies u s l h.1)

-- a place that the search gives is that of a structure's body, which stands there
pub record At (s : List ℕ) (x : Span) (f : Option Ad) : Type 0 where
  pub ad : Ad
  pub is : f ≡ Some ad
  pub begins : ad.start ≡ x.at
  pub inside : x.at + x.len ≤ length s
  pub bytes : ad.body ≡ take x.len (drop x.at s)

pub at-by : (s : List ℕ) (x : Span) (f : Option Ad) → FoundLies s f → Some x ≡ place_of f → At s x f
at-by s x (Some a) h e =
    let p : a.start ≡ x.at = cc in
    let q : length a.body ≡ x.len = cc in
    record { ad = a; is = refl; begins = p; inside = rw (p, q) at h.inside; bytes = rw (p, q) at h.bytes }
at-by s x None h e = let z : ◌≡◌ {A = ℕ} 0 1 = cc in absurd (omega arith)

pub found_at : (u : ℕ) (s : List ℕ) (x : Span) → Some x ≡ listed_place u s → At s x (listing u (structures s))
found_at u s x e = at-by s x (listing u (structures s)) (lies u s (structures s) (all_lie s)) e

none-by : (f : Option Ad) → None ≡ place_of f → f ≡ None
none-by (Some a) e = let z : ◌≡◌ {A = ℕ} 0 1 = cc in absurd (omega arith)
none-by None e = refl

pub found_none : (u : ℕ) (s : List ℕ) → None ≡ listed_place u s → listing u (structures s) ≡ None
found_none u s e = none-by (listing u (structures s)) e
