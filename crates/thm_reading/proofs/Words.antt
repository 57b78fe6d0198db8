-- The same of the calls on lent tables: spare bits and dead places never matter.
use Prim.Native.Nat.{ℕ}
use mathlib.Core.Path.{◌≡◌, sym, ap, ◌∙◌}
use mathlib.Core.List.{List}
use lib.ListN.{length}
use Rattle.state.specs.Central.{Central}
use Rattle.words.specs.Tables.{keys_in}
use Rattle.words.proofs.TableLaws.{table-length}
use Rattle.state_core.specs.declared.Core.{Core}
use Rattle.state_core.specs.Reading.{central}
use Rattle.script_rules.specs.Batch as batch
use Rattle.script_rules.specs.Events as events
use Rattle.link_rules.specs.Link as link
use Rattle.radio_rules.specs.Hearing as radio
use Rattle.state_readers.specs.Readers as readers
use Rattle.thm_reading.specs.Live.{Alike}
use Rattle.thm_reading.specs.Same.{SameOutcome, SameQuiet, SameHeard}
use Rattle.thm_reading.specs.Dead.{Sized, AnswersAlike}
use Rattle.thm_reading.specs.Calls.{sends, silently, hears, takes, says, OneReading, SpareBitsNeverMatter, AlikeReadings, DeadWordsNeverMatter}
use Rattle.thm_reading.proofs.DeadPlaces.{dead-places}

-- ---- spare bits

-- of any call
pub one-reading : {X O : Type 0} (tells : X → O) (does : Central → O) → OneReading tells does
one-reading tells does c d w v e x y p q = p ∙ ap does e ∙ sym q

pub spare-bits : SpareBitsNeverMatter
spare-bits =
    record {
      push_steps = λ store out at b values. one-reading sends (λ c. batch.push_steps c store out at b values);
      on_timer = λ store out at. one-reading sends (λ c. events.on_timer c store out at);
      on_connected = λ store out handle at. one-reading sends (λ c. events.on_connected c store out handle at);
      on_disconnected = λ store at. one-reading silently (λ c. events.on_disconnected c store at);
      on_fragment = λ store out at start fragment. one-reading sends (λ c. link.on_fragment c store out at start fragment);
      on_advertising = λ store at channel pdu a bytes us. one-reading hears (λ c. radio.advertised c store (radio.adv at channel pdu a bytes us));
      on_scan_response = λ store at a bytes. one-reading takes (λ c. radio.scan_responded c store at a bytes);
      timer = λ store. one-reading says (λ c. readers.timer c (length store));
      handle = λ store. one-reading says (λ c. readers.handle c (length store));
      result = λ store index. one-reading says (λ c. readers.result_answer c (length store) index);
      passed_on = λ store index. one-reading says (λ c. readers.passed_on c (length store) index);
    }

-- ---- dead places

-- every reading has a place for each key
pub sized : (c : Core) (w : List ℕ) → Sized (central c w)
unfolding keys_in
sized c w = table-length 128 _

-- what is shown of the definitions holds of what satisfies the contracts
alike : {X O : Type 0} (Same : O → O → Type 0) (tells : X → O) (does : Central → O)
    → ((c d : Core) (w v : List ℕ) → Alike (central c w) (central d v) → Same (does (central c w)) (does (central d v)))
    → AlikeReadings Same tells does
alike Same tells does same c d w v e x y p q = rw (p, q) (same c d w v e)

answers : (c d : Core) (w v : List ℕ) → Alike (central c w) (central d v) → AnswersAlike (central c w) (central d v)
answers c d w v e = dead-places (central c w) (central d v) (sized c w) (sized d v) e

pub dead-words : DeadWordsNeverMatter
dead-words =
    record {
      push_steps = λ store out at b values.
          alike SameOutcome sends (λ c. batch.push_steps c store out at b values) (λ c d w v e. (answers c d w v e).push_steps store out at b values);
      on_timer = λ store out at. alike SameOutcome sends (λ c. events.on_timer c store out at) (λ c d w v e. (answers c d w v e).on_timer store out at);
      on_connected = λ store out handle at.
          alike SameOutcome sends (λ c. events.on_connected c store out handle at) (λ c d w v e. (answers c d w v e).on_connected store out handle at);
      on_disconnected = λ store at. alike SameQuiet silently (λ c. events.on_disconnected c store at) (λ c d w v e. (answers c d w v e).on_disconnected store at);
      on_fragment = λ store out at start fragment.
          alike SameOutcome sends (λ c. link.on_fragment c store out at start fragment) (λ c d w v e. (answers c d w v e).on_fragment store out at start fragment);
      on_advertising = λ store at channel pdu a bytes us.
          let x : radio.Adv = radio.adv at channel pdu a bytes us in
          alike SameHeard hears (λ c. radio.advertised c store x) (λ c d w v e. (answers c d w v e).on_advertising store x);
      on_scan_response = λ store at a bytes.
          alike SameHeard takes (λ c. radio.scan_responded c store at a bytes) (λ c d w v e. (answers c d w v e).on_scan_response store at a bytes);
      timer = λ store. alike ◌≡◌ says (λ c. readers.timer c (length store)) (λ c d w v e. (answers c d w v e).timer (length store));
      handle = λ store. alike ◌≡◌ says (λ c. readers.handle c (length store)) (λ c d w v e. (answers c d w v e).handle (length store));
      result = λ store index. alike ◌≡◌ says (λ c. readers.result_answer c (length store) index) (λ c d w v e. (answers c d w v e).result (length store) index);
      passed_on = λ store index.
          alike ◌≡◌ says (λ c. readers.passed_on c (length store) index) (λ c d w v e. (answers c d w v e).passed_on (length store) index);
    }
