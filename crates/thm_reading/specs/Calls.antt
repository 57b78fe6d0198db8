-- The same of the calls on lent tables, by their contracts (crates script_batch, script_events, link_call, radio_calls, state_readers).
-- A contract says of what a call leaves, x, that `tells x ≡ does (central core words)`: `tells` reads the answer with the words, store
-- and output as they are then; `does` is the call's definition; `central core words` is the reading of the state that it is given.
use Rattle.std.specs.Prelude.{ℕ, ◌≡◌, Bool, List, Option, Result, length, ⊤}
use Rattle.time.specs.declared.Micros.{Micros}
use Rattle.state.specs.Central.{Central}
use Rattle.state.specs.declared.Sent.{Sent}
use Rattle.state.specs.declared.Address.{Address}
use Rattle.script_rules.specs.declared.Batch.{Batch}
use Rattle.script_rules.specs.Outcome.{Outcome, Quiet}
use Rattle.script_rules.specs.Batch as batch
use Rattle.script_rules.specs.Events as events
use Rattle.link_rules.specs.Link as link
use Rattle.radio_match.specs.declared.AdvAction.{AdvAction}
use Rattle.radio_rules.specs.Hearing as radio
use Rattle.state_refusals.specs.declared.Refusal.{Refusal}
use Rattle.state_readers.specs.Readers as readers
use Rattle.state_readers.specs.declared.Given.{Given}
use Rattle.state_readers.specs.declared.Passed.{Passed}
use Rattle.state_core.specs.declared.Core.{Core}
use Rattle.state_core.specs.Reading.{central}
use Rattle.central_answers.specs.declared.Answer.{Answer}
use Rattle.central_answers.specs.Answers as answers
use Rattle.radio_calls.specs.Outcomes as radio-answers
use Rattle.thm_reading.specs.Live.{Alike}
use Rattle.thm_reading.specs.Same.{SameOutcome, SameQuiet, SameHeard}

-- ---- what a call leaves

-- its answer of type A, and the words and the store
pub record Left (A : Type 0) : Type 0 where
  pub answer : A
  pub words : List ℕ
  pub store : List ℕ

-- and the output
pub record LeftOut : Type 0 where
  pub left : Left (Answer Core Sent)
  pub out : List ℕ

-- as the contracts read them
abbrev pub sends : LeftOut → Outcome
sends x = answers.outcome x.left.answer x.left.words x.left.store x.out

abbrev pub silently : Left (Answer Core ⊤) → Quiet
silently x = answers.quiet x.answer x.words x.store

abbrev pub hears : Left (Answer Core AdvAction) → radio.Outcome
hears x = radio-answers.outcome x.answer x.words x.store

abbrev pub takes : Left (Answer Core ⊤) → radio.Outcome
takes x = radio-answers.taken x.answer x.words x.store

-- a reader's answer is all that it leaves
abbrev pub says : {A : Type 0} → A → A
says x = x

-- ---- spare bits: two states with one reading get one outcome

-- the readings are equal (the cores, or bits of the words that no reading has, may differ), x and y satisfy the contract: they tell the same
abbrev pub OneReading : {X O : Type 0} → (X → O) → (Central → O) → Type 0
OneReading {X = X} tells does =
    (c d : Core) (w v : List ℕ) → central c w ≡ central d v
    → (x y : X) → tells x ≡ does (central c w) → tells y ≡ does (central d v) → tells x ≡ tells y

pub record SpareBitsNeverMatter : Type 0 where
  pub push_steps : (store out : List ℕ) (at : Micros) (b : Batch) (values : List ℕ) → OneReading sends (λ c. batch.push_steps c store out at b values)
  pub on_timer : (store out : List ℕ) (at : Micros) → OneReading sends (λ c. events.on_timer c store out at)
  pub on_connected : (store out : List ℕ) (handle : ℕ) (at : Micros) → OneReading sends (λ c. events.on_connected c store out handle at)
  pub on_disconnected : (store : List ℕ) (at : Micros) → OneReading silently (λ c. events.on_disconnected c store at)
  pub on_fragment : (store out : List ℕ) (at : Micros) (start : Bool) (fragment : List ℕ)
      → OneReading sends (λ c. link.on_fragment c store out at start fragment)
  pub on_advertising : (store : List ℕ) (at : Micros) (channel pdu : ℕ) (a : Address) (bytes : List ℕ) (us : Bool)
      → OneReading hears (λ c. radio.advertised c store (radio.adv at channel pdu a bytes us))
  pub on_scan_response : (store : List ℕ) (at : Micros) (a : Address) (bytes : List ℕ) → OneReading takes (λ c. radio.scan_responded c store at a bytes)
  pub timer : (store : List ℕ) → OneReading (says {A = Result (Option Micros) Refusal}) (λ c. readers.timer c (length store))
  pub handle : (store : List ℕ) → OneReading (says {A = Result (Option ℕ) Refusal}) (λ c. readers.handle c (length store))
  pub result : (store : List ℕ) (index : ℕ) → OneReading (says {A = Result (Option Given) Refusal}) (λ c. readers.result_answer c (length store) index)
  pub passed_on : (store : List ℕ) (index : ℕ) → OneReading (says {A = Result (Option Passed) Refusal}) (λ c. readers.passed_on c (length store) index)

-- ---- dead places: the same of two states whose readings differ in dead places alone

abbrev pub AlikeReadings : {X O : Type 0} → (O → O → Type 0) → (X → O) → (Central → O) → Type 0
AlikeReadings {X = X} Same tells does =
    (c d : Core) (w v : List ℕ) → Alike (central c w) (central d v)
    → (x y : X) → tells x ≡ does (central c w) → tells y ≡ does (central d v) → Same (tells x) (tells y)

pub record DeadWordsNeverMatter : Type 0 where
  pub push_steps : (store out : List ℕ) (at : Micros) (b : Batch) (values : List ℕ)
      → AlikeReadings SameOutcome sends (λ c. batch.push_steps c store out at b values)
  pub on_timer : (store out : List ℕ) (at : Micros) → AlikeReadings SameOutcome sends (λ c. events.on_timer c store out at)
  pub on_connected : (store out : List ℕ) (handle : ℕ) (at : Micros)
      → AlikeReadings SameOutcome sends (λ c. events.on_connected c store out handle at)
  pub on_disconnected : (store : List ℕ) (at : Micros) → AlikeReadings SameQuiet silently (λ c. events.on_disconnected c store at)
  pub on_fragment : (store out : List ℕ) (at : Micros) (start : Bool) (fragment : List ℕ)
      → AlikeReadings SameOutcome sends (λ c. link.on_fragment c store out at start fragment)
  pub on_advertising : (store : List ℕ) (at : Micros) (channel pdu : ℕ) (a : Address) (bytes : List ℕ) (us : Bool)
      → AlikeReadings SameHeard hears (λ c. radio.advertised c store (radio.adv at channel pdu a bytes us))
  pub on_scan_response : (store : List ℕ) (at : Micros) (a : Address) (bytes : List ℕ)
      → AlikeReadings SameHeard takes (λ c. radio.scan_responded c store at a bytes)
  pub timer : (store : List ℕ) → AlikeReadings ◌≡◌ (says {A = Result (Option Micros) Refusal}) (λ c. readers.timer c (length store))
  pub handle : (store : List ℕ) → AlikeReadings ◌≡◌ (says {A = Result (Option ℕ) Refusal}) (λ c. readers.handle c (length store))
  pub result : (store : List ℕ) (index : ℕ) → AlikeReadings ◌≡◌ (says {A = Result (Option Given) Refusal}) (λ c. readers.result_answer c (length store) index)
  pub passed_on : (store : List ℕ) (index : ℕ) → AlikeReadings ◌≡◌ (says {A = Result (Option Passed) Refusal}) (λ c. readers.passed_on c (length store) index)
