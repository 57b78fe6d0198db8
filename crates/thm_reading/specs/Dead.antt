-- An entry at or beyond its table's count never matters: states that differ in dead places alone get equal answers and leave such states.
use Rattle.std.specs.Prelude.{ℕ, ◌≡◌, Bool, List, length}
use Rattle.state_places.specs.Sizes.{most_keys}
use Rattle.time.specs.declared.Micros.{Micros}
use Rattle.state.specs.Central.{Central}
use Rattle.state.specs.declared.Address.{Address}
use Rattle.script_rules.specs.declared.Batch.{Batch}
use Rattle.script_rules.specs.Batch as batch
use Rattle.script_rules.specs.Events as events
use Rattle.link_rules.specs.Link as link
use Rattle.radio_rules.specs.Hearing as radio
use Rattle.state_readers.specs.Readers as readers
use Rattle.thm_reading.specs.Live.{Alike}
use Rattle.thm_reading.specs.Same.{SameOutcome, SameQuiet, SameHeard}

-- a place for each key (every reading of words has it: proofs/Words.antt)
abbrev pub Sized : Central → Type 0
Sized c = length c.keys.kept ≡ most_keys

-- each of the ten calls and `passed_on` (02, One), with the same other arguments
pub record AnswersAlike (c d : Central) : Type 0 where
  pub push_steps : (store out : List ℕ) (at : Micros) (b : Batch) (values : List ℕ)
      → SameOutcome (batch.push_steps c store out at b values) (batch.push_steps d store out at b values)
  pub on_timer : (store out : List ℕ) (at : Micros) → SameOutcome (events.on_timer c store out at) (events.on_timer d store out at)
  pub on_connected : (store out : List ℕ) (handle : ℕ) (at : Micros)
      → SameOutcome (events.on_connected c store out handle at) (events.on_connected d store out handle at)
  pub on_disconnected : (store : List ℕ) (at : Micros) → SameQuiet (events.on_disconnected c store at) (events.on_disconnected d store at)
  pub on_fragment : (store out : List ℕ) (at : Micros) (start : Bool) (fragment : List ℕ)
      → SameOutcome (link.on_fragment c store out at start fragment) (link.on_fragment d store out at start fragment)
  pub on_advertising : (store : List ℕ) (v : radio.Adv) → SameHeard (radio.advertised c store v) (radio.advertised d store v)
  pub on_scan_response : (store : List ℕ) (at : Micros) (a : Address) (bytes : List ℕ)
      → SameHeard (radio.scan_responded c store at a bytes) (radio.scan_responded d store at a bytes)
  pub timer : (store : ℕ) → readers.timer c store ≡ readers.timer d store
  pub handle : (store : ℕ) → readers.handle c store ≡ readers.handle d store
  pub result : (store index : ℕ) → readers.result_answer c store index ≡ readers.result_answer d store index
  pub passed_on : (store index : ℕ) → readers.passed_on c store index ≡ readers.passed_on d store index

abbrev pub DeadPlacesNeverMatter : Type 0
DeadPlacesNeverMatter = (c d : Central) → Sized c → Sized d → Alike c d → AnswersAlike c d
