-- What each return of the search over both asks; and that listed is what the base's search finds.
use Prim.Native.Nat.{ℕ}
use mathlib.Core.Path.{◌≡◌, refl, sym, ◌∙◌}
use mathlib.Core.Bool.{Bool, true, false, ◌||◌}
use mathlib.Core.List.{List}
use Rattle.std.specs.Prelude.{Option, Some, None, is_some}
use Rattle.bytes_bounds.specs.declared.Span.{Span}
use Rattle.adv_data.specs.Ad.{Ad, structures, listing, place_of, lists_service}
use Rattle.adv_data.specs.Answers.{answer, maybe_more, sought_in}
use Rattle.adv_data.specs.declared.Sought.{Sought}
use Rattle.adv_data.specs.declared.Sought.TheVariants as sought
use Rattle.adv_data.proofs.Searches.{any_found}
use Rattle.adv_presence.specs.declared.Presence.{Presence}
use Rattle.adv_presence.specs.declared.Presence.TheVariants.{Absent, Listed, Unknown}
use Rattle.adv_presence.specs.Presences.{presence_of, is_listed, either, presence_in}

-- beside data that does not list it the response decides
alone : (b : Presence) → b ≡ either Absent b
alone Absent = refl
alone Listed = refl
alone Unknown = refl

-- ---- both together, by what the data tells

module _ (u : ℕ) (s t : List ℕ) where
  pub listed-first : (x : Span) → sought.Listed x ≡ sought_in u s → Listed ≡ presence_in u s t
  listed-first x e = rw (← e)

  pub absent-first : (x : Sought) (p : Presence) → sought.Absent ≡ sought_in u s → x ≡ sought_in u t → p ≡ presence_of x → p ≡ presence_in u s t
  absent-first x p e f h = h ∙ alone (presence_of x) ∙ rw (← e, f)

  pub unknown-first : (x : Sought) (q p : Presence) → sought.Unknown ≡ sought_in u s → x ≡ sought_in u t → q ≡ presence_of x → p ≡ either Unknown q → p ≡ presence_in u s t
  unknown-first x q p e f g h = h ∙ rw (g, ← e, f)

-- ---- listed is what the base's search finds

listed_by : (f : Option Ad) (more : Bool) → is_listed (presence_of (answer f more)) ≡ is_some (place_of f)
listed_by (Some a) more = refl
listed_by None true = refl
listed_by None false = refl

listed-alone : (u : ℕ) (s : List ℕ) → is_listed (presence_of (sought_in u s)) ≡ lists_service u s
listed-alone u s = listed_by (listing u (structures s)) (maybe_more s) ∙ sym (any_found u (structures s))

listed_of : (a b : Presence) → is_listed (either a b) ≡ (is_listed a || is_listed b)
listed_of Listed b = refl
listed_of Absent Absent = refl
listed_of Absent Listed = refl
listed_of Absent Unknown = refl
listed_of Unknown Absent = refl
listed_of Unknown Listed = refl
listed_of Unknown Unknown = refl

-- listed exactly where the yes-or-no search says yes, of the data or of the response
pub listed-exactly : (u : ℕ) (s t : List ℕ) → is_listed (presence_in u s t) ≡ (lists_service u s || lists_service u t)
listed-exactly u s t =
    listed_of (presence_of (sought_in u s)) (presence_of (sought_in u t)) ∙ rw (listed-alone u s, listed-alone u t)
