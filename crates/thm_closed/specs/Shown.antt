-- The definition at work: bay 14's read request (0A) is not answered in time.
use Rattle.std.specs.Prelude.{◌≡◌, refl, true, false, List, [], ◌∷◌, ◌++◌}
use Rattle.bytes_base.specs.Choice.{among}
use Rattle.state.specs.declared.StepStatus.{StepStatus}
use Rattle.state.specs.declared.StepStatus.TheVariants.{Timeout, Disconnected}
use Rattle.thm_trail.specs.Trail.{link-came, link-went, att-heard}
use Rattle.thm_requests.specs.Events.{Event, came, asked, result}
use Rattle.thm_requests.specs.Sorts.{initiates}
use Rattle.thm_closed.specs.Closed.{finished}

-- the step's result, with no value
abbrev ends : StepStatus → Event
ends status = result (record { entry = record { index = 0; at = record { 0 = 30000001 }; status = status; len = 0; heard = 0 }; value = [] })

-- a link, the request
abbrev asks : List Event
asks = came (link-came 64) ∷ asked 0 0x0A ∷ []

abbrev late : List Event
late = asks ++ (ends Timeout ∷ [])

-- it is finished by the timeout, and stays so when the answer comes late
pub shown-late : finished late ≡ true
shown-late = refl

pub shown-answer : finished (late ++ (came (att-heard (0x0B ∷ 0x64 ∷ [])) ∷ [])) ≡ true
shown-answer = refl

-- when the link goes, too; a new link's bearer is open
pub shown-gone : finished (late ++ (came link-went ∷ [])) ≡ true
shown-gone = refl

pub shown-new : finished (late ++ (came (link-came 65) ∷ [])) ≡ false
shown-new = refl

-- what comes meanwhile does not count as its answer: a notification, a response to another request, an error that names another
abbrev others : List Event
others =
    came (att-heard (0x1B ∷ 0x03 ∷ 0x00 ∷ []))
    ∷ came (att-heard (0x13 ∷ []))
    ∷ came (att-heard (0x01 ∷ 0x08 ∷ 0x00 ∷ 0x00 ∷ 0x0A ∷ []))
    ∷ []

pub shown-other : finished (asks ++ others ++ (ends Timeout ∷ [])) ≡ true
shown-other = refl

-- not finished: the answer came; the step was cut off; a new link came under the running step, which then timed out
pub shown-answered : finished (asks ++ (came (att-heard (0x0B ∷ 0x64 ∷ [])) ∷ ends Timeout ∷ [])) ≡ false
shown-answered = refl

pub shown-cut : finished (asks ++ (ends Disconnected ∷ [])) ≡ false
shown-cut = refl

pub shown-under : finished (asks ++ (came (link-came 65) ∷ ends Timeout ∷ [])) ≡ false
shown-under = refl

-- a read request and a write command on channel 4; a confirmation; a read request's bytes on another channel
pub shown-request : initiates 4 (0x0A ∷ 0x03 ∷ 0x00 ∷ []) ≡ true
unfolding among
shown-request = refl

pub shown-command : initiates 4 (0x52 ∷ 0x03 ∷ 0x00 ∷ []) ≡ true
unfolding among
shown-command = refl

pub shown-confirmation : initiates 4 (0x1E ∷ []) ≡ false
unfolding among
shown-confirmation = refl

pub shown-channel : initiates 6 (0x0A ∷ 0x03 ∷ 0x00 ∷ []) ≡ false
unfolding among
shown-channel = refl
