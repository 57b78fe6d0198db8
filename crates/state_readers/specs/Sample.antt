-- Worked answers of `passed_on` (02, One): four steps ended, and the notifications of numbers 40 to 42 are kept.
use Rattle.std.specs.Prelude.{ℕ, ◌≡◌, refl, Bool, true, false, List, [], ◌∷◌, Ok}
use Rattle.lists.specs.First.{first}
use Rattle.notifications.specs.declared.Notification.{Notification}
use Rattle.state.specs.declared.StepResult.{StepResult}
use Rattle.state.specs.declared.StepStatus.TheVariants.{Ok}
use Rattle.state_readers.specs.Readers.{heard_by, named}
use Rattle.state_readers.specs.Numbers.{eight, passed_words}

abbrev ended : ℕ → ℕ → StepResult
ended index heard = record { index = index; at = record { 0 = 9000 }; status = Ok; len = 0; heard = heard }

-- a step that names none; three that name the numbers 40, 42 and 39
abbrev results : List StepResult
results = ended 6 0 ∷ ended 7 41 ∷ ended 8 43 ∷ ended 9 40 ∷ []

-- two bytes on handle 3 of link 5
abbrev notice : ℕ → Bool → Notification
notice at indication = record { at = record { 0 = at }; handle = 3; len = 2; indication = indication; link = 5 }

abbrev notices : List Notification
notices = notice 1000 false ∷ notice 2000 false ∷ notice 3000 true ∷ []

abbrev tells : ℕ → List ℕ
tells index = passed_words (Ok (named 40 notices (heard_by index results)))

-- none is named; the oldest and the newest that are kept; one that is not kept any more; a step without a result
pub sample :
    (tells 6 ≡ eight 0 0 0 0 0 0 0 0)
    × (tells 7 ≡ eight 0 1 1000 5 3 0 31604 2)
    × (tells 8 ≡ eight 0 1 3000 5 3 1 32092 2)
    × (tells 9 ≡ eight 0 0 0 0 0 0 0 0)
    × (tells 10 ≡ eight 0 0 0 0 0 0 0 0)
unfolding first named
sample = (refl, refl, refl, refl, refl)
