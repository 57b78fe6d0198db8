-- What a call that only reads tells: its refusal, 1 if there is what was asked for, its numbers. Of the readers: state_readers/specs/Numbers.antt.
use Rattle.std.specs.Prelude.{ℕ, List, [], ◌∷◌, Option, None, Some, Result, Ok, Err}
use Rattle.bytes_bounds.specs.declared.Span.{Span}
use Rattle.adv_reports.specs.Key.{key}
use Rattle.state_refusals.specs.declared.Refusal.{Refusal}
use Rattle.state_refusals.specs.Refusals.{number}
use Rattle.radio_sights.specs.declared.AdvReport.{AdvReport}
use Rattle.radio_sights.specs.View.{span_of}
use Rattle.adv_presence.specs.declared.Presence.{Presence}
use Rattle.adv_presence.specs.Presences.{presence_number}
pub use Rattle.state_readers.specs.Numbers.{eight, timer_words, handle_words, status_number, status_code, given_words, flag_number, passed_words}

abbrev pub twelve : ℕ → ℕ → ℕ → ℕ → ℕ → ℕ → ℕ → ℕ → ℕ → ℕ → ℕ → ℕ → List ℕ
twelve a b c d e f g h i j k l = a ∷ b ∷ c ∷ d ∷ e ∷ f ∷ g ∷ h ∷ i ∷ j ∷ k ∷ l ∷ []

-- ---- an answer whose refusal is a number, whichever: the words of a refusal, or else of what is answered

abbrev pub told_words : {A : Type 0} → (ℕ → List ℕ) → (Result A Refusal → List ℕ) → Result A ℕ → List ℕ
told_words refused words (Err why) = refused why
told_words refused words (Ok x) = words (Ok x)

-- an answer with the number of its refusal
abbrev pub by_number : {A : Type 0} → Result A Refusal → Result A ℕ
by_number (Err why) = Err (number why)
by_number (Ok x) = Ok x

-- ---- a report: time | channel | PDU type | address | its data's place | length | 1 if it has a scan response | its place | length

abbrev pub response_there : Option Span → ℕ
response_there None = 0
response_there (Some s) = 1

-- of a refused view of a report: its refusal alone
abbrev pub report_refusal_words : ℕ → List ℕ
report_refusal_words why = twelve why 0 0 0 0 0 0 0 0 0 0 0

abbrev pub seen_words : Result (Option AdvReport) Refusal → List ℕ
seen_words (Err why) = twelve (number why) 0 0 0 0 0 0 0 0 0 0 0
seen_words (Ok None) = twelve 0 0 0 0 0 0 0 0 0 0 0 0
seen_words (Ok (Some r)) =
    twelve 0 1 r.at.0 r.channel r.pdu (key r.address) r.«data».at r.«data».len
    (response_there r.response) (span_of r.response).at (span_of r.response).len 0

-- ---- bytes in the store: their place | length

abbrev pub spot_words : Result (Option Span) Refusal → List ℕ
spot_words (Err why) = eight (number why) 0 0 0 0 0 0 0
spot_words (Ok None) = eight 0 0 0 0 0 0 0 0
spot_words (Ok (Some s)) = eight 0 1 s.at s.len 0 0 0 0

-- ---- what a report tells of a service: 0 absent, 1 listed, 2 unknown

abbrev pub sighting_words : Result (Option Presence) Refusal → List ℕ
sighting_words (Err why) = eight (number why) 0 0 0 0 0 0 0
sighting_words (Ok None) = eight 0 0 0 0 0 0 0 0
sighting_words (Ok (Some presence)) = eight 0 1 (presence_number presence) 0 0 0 0 0
