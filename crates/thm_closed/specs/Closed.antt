-- After an ATT timeout the bearer is finished (02, Four; Core Vol 3 Part F 3.3.3). Whether it is, is read off the events alone: what came in with the
-- calls, the requests among the bytes written, the results given (thm_heard/specs/Events.antt). Nothing is read off the state.
use Rattle.std.specs.Prelude.{ℕ, ◌≡◌, Bool, true, false, not, ◌&&◌, ◌||◌, List, [], ◌∷◌, take, get_or, eqb}
use Rattle.bytes_base.specs.Choice.{pick}
use Rattle.lists.specs.Blocks.{Valued}
use Rattle.uuid_value.specs.declared.Uuid.{Uuid}
use Rattle.state.specs.Fresh.{no_queued}
use Rattle.state.specs.declared.Queued.{Queued}
use Rattle.state.specs.declared.Step.TheVariants.{Read}
use Rattle.state.specs.declared.StepResult.{StepResult}
use Rattle.state.specs.declared.StepStatus.{StepStatus}
use Rattle.state.specs.declared.StepStatus.TheVariants.{Ok, Timeout, NotConnected, NotFound, AttError, TooLong, Disconnected, TableFull, BearerClosed}
use Rattle.script_rules.specs.Outcome.{Outcome}
use Rattle.link_rules.specs.Responses.{counts}
use Rattle.thm_trail.specs.Trail.{link-came, link-went, att-heard}
use Rattle.thm_wire.specs.Wire.{Frame, parse}
use Rattle.thm_requests.specs.Events.{Event, came, asked, result}
use Rattle.thm_requests.specs.Sorts.{initiates}

abbrev pub is_timeout : StepStatus → Bool
is_timeout Ok = false
is_timeout Timeout = true
is_timeout NotConnected = false
is_timeout NotFound = false
is_timeout (AttError code) = false
is_timeout TooLong = false
is_timeout Disconnected = false
is_timeout TableFull = false
is_timeout BearerClosed = false

-- ---- what the events so far say of the bearer

-- the opcode of the request that is awaited (0: none is), and whether the bearer is finished
pub record Standing : Type 0 where
  pub awaited : ℕ
  pub finished : Bool

-- before the first call
abbrev pub untried : Standing
untried = record { awaited = 0; finished = false }

-- after one event more
abbrev pub then : Standing → Event → Standing
-- a new link has a bearer of its own; with a lost one nothing is awaited
then s (came (link-came handle)) = untried
then s (came link-went) = record { awaited = 0; finished = s.finished }
-- 01: 'A response counts if it is pending + 1, or an error naming pending'
then s (came (att-heard p)) = record { awaited = pick (counts s.awaited p) 0 s.awaited; finished = s.finished }
then s (asked i op) = record { awaited = op; finished = s.finished }
-- a step ends and awaits nothing any more; where it timed out with its request awaited, the bearer is finished
then s (result x) = record { awaited = 0; finished = s.finished || (is_timeout x.entry.status && not (eqb s.awaited 0)) }

abbrev pub standing : Standing → List Event → Standing
standing s [] = s
standing s (e ∷ es) = standing (then s e) es

-- of all events since the first call
abbrev pub finished : List Event → Bool
finished es = (standing untried es).finished

-- ---- what is promised of a call after which the bearer is finished

-- the frames in a call's output, by their own lengths
abbrev pub frames_in : Outcome → List Frame
frames_in x = parse x.sent.frames (take x.sent.bytes x.out)

-- none is a request or a command
abbrev pub Silent : List Frame → Type 0
Silent [] = Unit {0}
Silent (x ∷ xs) = (initiates x.channel x.payload ≡ false) × Silent xs

-- q are the steps taken in, each result has its step's number: no Read ended Ok
abbrev pub Unread : List Queued → List (Valued StepResult) → Type 0
Unread q [] = Unit {0}
Unread q (x ∷ l) = ((u : Uuid) → (get_or q x.entry.index no_queued).step ≡ Read u → x.entry.status ≡ Ok → ⊥) × Unread q l

pub record Spent (q : List Queued) (given : List (Valued StepResult)) (frames : List Frame) : Type 0 where
  pub silent : Silent frames
  pub unread : Unread q given
