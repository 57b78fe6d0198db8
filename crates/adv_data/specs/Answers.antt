-- What advertising data tells of a service, three ways (02, Five): listed; absent; or unknown, when nothing matched and some structure
-- of kind 02, 04 or 06 was read or the reading stopped on an overrun. The kinds: Core Supplement Part A 1.1.
use Rattle.std.specs.Prelude.{ℕ, ◌+◌, List, [], ◌∷◌, Bool, true, false, ◌||◌, length, drop, eqb, Option, Some, None}
use Rattle.bytes_base.specs.Choice.{pick}
use Rattle.adv_data.specs.Ad.{Ad, structures, listing}
use Rattle.adv_data.specs.declared.Sought.{Sought}
use Rattle.adv_data.specs.declared.Sought.TheVariants.{Listed, Absent, Unknown}

-- ---- how the reading stopped (Core Vol 3 Part C 11)

-- at the end of the data, at a length of zero (early termination), or on an overrun: a length that runs past the end
pub data Stop : Type 0 where
  AtEnd : Stop
  AtZero : Stop
  OnOverrun : Stop

-- the bytes that structures take: each has a length and a kind before its body
unfoldable pub extent : List Ad → ℕ
extent [] = 0
extent (a ∷ more) = (2 + length a.body) + extent more

-- by the bytes behind the last structure
unfoldable pub stop_of : List ℕ → Stop
stop_of [] = AtEnd
stop_of (len ∷ more) = pick (eqb len 0) AtZero OnOverrun

abbrev pub stop : List ℕ → Stop
stop s = stop_of (drop (extent (structures s)) s)

-- ---- whether more services may be offered than were read

-- kinds 02, 04 and 06 are incomplete lists
abbrev pub incomplete : ℕ → Bool
incomplete kind = eqb kind 0x02 || (eqb kind 0x04 || eqb kind 0x06)

unfoldable pub any_incomplete : List Ad → Bool
any_incomplete [] = false
any_incomplete (a ∷ more) = incomplete a.kind || any_incomplete more

abbrev pub overran : Stop → Bool
overran AtEnd = false
overran AtZero = false
overran OnOverrun = true

abbrev pub maybe_more : List ℕ → Bool
maybe_more s = any_incomplete (structures s) || overran (stop s)

-- ---- the three answers

-- by the structure that lists the service, and by whether there may be more
abbrev pub answer : Option Ad → Bool → Sought
answer (Some a) more = Listed (record { at = a.start; len = length a.body })
answer None true = Unknown
answer None false = Absent

abbrev pub sought_in : ℕ → List ℕ → Sought
sought_in u s = answer (listing u (structures s)) (maybe_more s)
