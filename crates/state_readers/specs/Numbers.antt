-- What a reader answers, as numbers (01, 'Language forms': a definition gives each case's number and values): its refusal, 1 if there is what was
-- asked for, its values. Numbers that an answer does not use are 0.
use Rattle.std.specs.Prelude.{ℕ, Bool, List, [], ◌∷◌, Option, None, Some, Result, Ok, Err}
use Rattle.bytes_base.specs.Choice.{pick}
use Rattle.time.specs.declared.Micros.{Micros}
use Rattle.state.specs.declared.StepStatus.{StepStatus}
use Rattle.state.specs.declared.StepStatus.TheVariants as status
use Rattle.state_refusals.specs.declared.Refusal.{Refusal}
use Rattle.state_refusals.specs.Refusals.{number}
use Rattle.state_readers.specs.declared.Given.{Given}
use Rattle.state_readers.specs.declared.Passed.{Passed}

abbrev pub eight : ℕ → ℕ → ℕ → ℕ → ℕ → ℕ → ℕ → ℕ → List ℕ
eight a b c d e f g h = a ∷ b ∷ c ∷ d ∷ e ∷ f ∷ g ∷ h ∷ []

-- ---- the deadline of the running step

abbrev pub timer_words : Result (Option Micros) Refusal → List ℕ
timer_words (Err why) = eight (number why) 0 0 0 0 0 0 0
timer_words (Ok None) = eight 0 0 0 0 0 0 0 0
timer_words (Ok (Some at)) = eight 0 1 at.0 0 0 0 0 0

-- ---- the handle of the link

abbrev pub handle_words : Result (Option ℕ) Refusal → List ℕ
handle_words (Err why) = eight (number why) 0 0 0 0 0 0 0
handle_words (Ok None) = eight 0 0 0 0 0 0 0 0
handle_words (Ok (Some h)) = eight 0 1 h 0 0 0 0 0

-- ---- a result: time | status | ATT error code | its value's place in the store | its value's length

abbrev pub status_number : StepStatus → ℕ
status_number status.Ok = 0
status_number status.Timeout = 1
status_number status.NotConnected = 2
status_number status.NotFound = 3
status_number (status.AttError code) = 4
status_number status.TooLong = 5
status_number status.Disconnected = 6
status_number status.TableFull = 7
status_number status.BearerClosed = 8

abbrev pub status_code : StepStatus → ℕ
status_code status.Ok = 0
status_code status.Timeout = 0
status_code status.NotConnected = 0
status_code status.NotFound = 0
status_code (status.AttError code) = code
status_code status.TooLong = 0
status_code status.Disconnected = 0
status_code status.TableFull = 0
status_code status.BearerClosed = 0

abbrev pub given_words : Result (Option Given) Refusal → List ℕ
given_words (Err why) = eight (number why) 0 0 0 0 0 0 0
given_words (Ok None) = eight 0 0 0 0 0 0 0 0
given_words (Ok (Some g)) = eight 0 1 g.at.0 (status_number g.status) (status_code g.status) g.value.at g.value.len 0

-- ---- a notification: time | link | handle | 1 if it is an indication | its value's place in the store | its value's length

abbrev pub flag_number : Bool → ℕ
flag_number b = pick b 1 0

abbrev pub passed_words : Result (Option Passed) Refusal → List ℕ
passed_words (Err why) = eight (number why) 0 0 0 0 0 0 0
passed_words (Ok None) = eight 0 0 0 0 0 0 0 0
passed_words (Ok (Some p)) = eight 0 1 p.at.0 p.link p.handle (flag_number p.indication) p.value.at p.value.len
