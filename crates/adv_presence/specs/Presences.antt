-- What advertising data and scan response together tell of a service (02, Five): 'listed if either is, else unknown if either is, else absent'.
use Rattle.std.specs.Prelude.{ℕ, List, Bool, true, false, ◌||◌}
use Rattle.bytes_base.specs.Choice.{pick}
use Rattle.adv_data.specs.Answers.{sought_in}
use Rattle.adv_data.specs.declared.Sought.{Sought}
use Rattle.adv_data.specs.declared.Sought.TheVariants as sought
use Rattle.adv_presence.specs.declared.Presence.{Presence}
use Rattle.adv_presence.specs.declared.Presence.TheVariants.{Absent, Listed, Unknown}

-- of the data alone
abbrev pub presence_of : Sought → Presence
presence_of (sought.Listed body) = Listed
presence_of sought.Absent = Absent
presence_of sought.Unknown = Unknown

abbrev pub is_listed : Presence → Bool
is_listed Absent = false
is_listed Listed = true
is_listed Unknown = false

abbrev pub is_unknown : Presence → Bool
is_unknown Absent = false
is_unknown Listed = false
is_unknown Unknown = true

abbrev pub either : Presence → Presence → Presence
either a b = pick (is_listed a || is_listed b) Listed (pick (is_unknown a || is_unknown b) Unknown Absent)

-- of both; an advertiser that sent no scan response sent no bytes of one
abbrev pub presence_in : ℕ → List ℕ → List ℕ → Presence
presence_in u bytes response = either (presence_of (sought_in u bytes)) (presence_of (sought_in u response))

-- the number that C gets
abbrev pub presence_number : Presence → ℕ
presence_number Absent = 0
presence_number Listed = 1
presence_number Unknown = 2
