-- What the readers say, and what they are promised to say after a sequence of calls.
use Rattle.std.specs.Prelude.{ℕ, ◌+◌, ◌≤◌, ◌<◌, ◌≡◌, refl, Bool, true, false, ◌&&◌, List, [], ◌∷◌, Option, None, Some, length, get_or, eqb, leb}
use Rattle.bytes_base.specs.Choice.{pick}
use Rattle.state_places.specs.Sizes.{store_size, most_results}
use Rattle.lists.specs.Blocks.{Valued, bytes}
use Rattle.time.specs.declared.Micros.{Micros}
use Rattle.state.specs.declared.Running.{Running}
use Rattle.state.specs.declared.StepResult.{StepResult}
use Rattle.state_rules.specs.Refusals.{accepted}
use Rattle.script_rules.specs.World.{Held}
use Rattle.state_readers.specs.Readers.{timer, handle, result_answer}
use Rattle.state_readers.specs.Readers as readers
use Rattle.state_readers.specs.Numbers.{eight, timer_words, handle_words, status_number, status_code, given_words, passed_words}
use Rattle.thm_trail.specs.Calls.{Reader, timer_us, connected_handle, result_of, passed_on}
use Rattle.thm_trail.specs.Calls.{Call, batch, timer as timer-call, connected, disconnected, advertising, scan_response, fragment, reads, does, left}
use Rattle.thm_trail.specs.Log.{no_valued, given_by}

-- a reader's answer: its refusal, 1 if there is what was asked for, its values
abbrev pub said : Held → Reader → List ℕ
said h timer_us = timer_words (timer h.state (length h.store))
said h connected_handle = handle_words (handle h.state (length h.store))
said h (result_of i) = given_words (result_answer h.state (length h.store) i)
said h (passed_on i) = passed_words (readers.passed_on h.state (length h.store) i)

-- there is not what was asked for
abbrev pub nothing : List ℕ
nothing = eight 0 0 0 0 0 0 0 0

-- ---- `timer_us`: when a timer call is to end the step that runs

-- the running step's deadline, where a step runs and has one
abbrev pub deadline_of : Running → List ℕ
deadline_of r = pick (r.active && r.dated) (eight 0 1 r.deadline.0 0 0 0 0 0) nothing

-- whether the time that it says is now or before
abbrev pub over : List ℕ → Micros → Bool
over numbers at = eqb (get_or numbers 1 0) 1 && leb (get_or numbers 2 0) at.0

-- what a timer call does by it
pub record Heeds (h : Held) (out : List ℕ) (at : Micros) : Type 0 where
  -- before that time, or where none is said, nothing changes
  pub early : over (said h timer_us) at ≡ false → left (does h (timer-call out at)) ≡ h
  -- from then on the running step ends: its result is the first that the call gives
  pub late : over (said h timer_us) at ≡ true
      → (0 < length (given_by h (timer-call out at))) × ((get_or (given_by h (timer-call out at)) 0 no_valued).entry.index ≡ h.state.running.index)

-- ---- `connected_handle`: the handle of the last accepted connected call, while no accepted disconnected call came since

-- what an accepted call makes of the link
abbrev pub link_by : Call → Option ℕ → Option ℕ
link_by (batch out at b values) x = x
link_by (timer-call out at) x = x
link_by (connected out handle at) x = Some handle
link_by (disconnected at) x = None
link_by (advertising v) x = x
link_by (scan_response at a d) x = x
link_by (fragment out at start bytes) x = x
link_by (reads r) x = x

-- the refusals that a sequence of calls answers with
abbrev pub refusals : Held → List Call → List ℕ
refusals h [] = []
refusals h (c ∷ cs) = (does h c).refusal ∷ refusals (left (does h c)) cs

-- from the calls and their refusals alone
abbrev pub link_after : Option ℕ → List Call → List ℕ → Option ℕ
link_after x [] rs = x
link_after x (c ∷ cs) [] = x
link_after x (c ∷ cs) (r ∷ rs) = link_after (pick (eqb r accepted) (link_by c x) x) cs rs

-- a link that is lost, one whose loss is refused, one after another
linked-samples : List (Option ℕ)
linked-samples =
    let at : Micros = record { 0 = 0 } in
    let one = connected [] 5 at in
    let two = connected [] 6 at in
    let gone = disconnected at in
    link_after None (one ∷ gone ∷ []) (0 ∷ 0 ∷ []) ∷ link_after None (one ∷ gone ∷ []) (0 ∷ 3 ∷ []) ∷ link_after None (one ∷ gone ∷ two ∷ []) (0 ∷ 0 ∷ 0 ∷ [])
    ∷ link_after None (one ∷ two ∷ []) (0 ∷ 3 ∷ []) ∷ []

linked-so : linked-samples ≡ None ∷ Some 5 ∷ Some 6 ∷ Some 5 ∷ []
unfolding linked-samples
linked-so = refl

-- ---- `result`: the entry of the log, while it is among the newest 64

-- its time, status, error code and length, and a place at which the store has its value
pub record Shows (h : Held) (x : Valued StepResult) (numbers : List ℕ) : Type 0 where
  pub place : ℕ
  pub numbers-are : numbers ≡ eight 0 1 x.entry.at.0 (status_number x.entry.status) (status_code x.entry.status) place x.entry.len 0
  pub inside : place + x.entry.len ≤ store_size
  pub value : bytes h.store place x.entry.len ≡ x.value

-- l was given
pub record SaysResults (h : Held) (l : List (Valued StepResult)) : Type 0 where
  pub kept : (i : ℕ) → i < length l → length l ≤ i + most_results → Shows h (get_or l i no_valued) (said h (result_of i))
  pub dropped : (i : ℕ) → i + most_results < length l → said h (result_of i) ≡ nothing
  pub to-come : (i : ℕ) → length l ≤ i → said h (result_of i) ≡ nothing
