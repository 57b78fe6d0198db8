-- The promises are of something: after a list of calls a request is awaited, and after another a Read ends Ok, with the byte that came.
-- All of it is computed.
use Rattle.std.specs.Prelude.{◌≡◌, refl, true, List, [], ◌∷◌, ◌++◌, get_or}
use Rattle.std.proofs.Common.{sym, ap, ◌∙◌}
use Rattle.lists.specs.Blocks.{Valued}
use Rattle.state.specs.Fresh.{no_queued}
use Rattle.state.specs.declared.StepResult.{StepResult}
use Rattle.state.specs.declared.Step.TheVariants.{Read}
use Rattle.state.specs.declared.StepStatus.TheVariants.{Ok}
use Rattle.state_rules.specs.Fit.{awaits}
use Rattle.thm_trail.specs.Calls.{run}
use Rattle.thm_trail.specs.Trail.{link-came, att-heard}
use Rattle.thm_trail.specs.Log.{log, taken}
use Rattle.thm_requests.specs.Events.{Event, came, asked, result}
use Rattle.thm_heard.specs.Heard.{silence, link, air_of}
use Rattle.thm_heard.specs.Events.{events}
use Rattle.promises_shown.specs.Opened.{opened}
use Rattle.promises_shown.specs.Sequences.{fresh, store, at, asking, level, services, characteristics, no_more, known, answer, reading}
use Rattle.promises_shown.specs.Known.{knowing, known_store, knows, known_is}
use Rattle.promises_shown.specs.Logged.{results_in, log-of, events-join}

-- a request is awaited
pub awaited : awaits (run (fresh store) asking).state.bearer ≡ true
unfolding opened
awaited = refl

-- ---- a Read

-- the discovery's result and the Read's
abbrev pub found : Valued StepResult
found = record { entry = record { index = 0; at = at 5; status = Ok; len = 0; heard = 0 }; value = [] }

abbrev pub read_out : Valued StepResult
read_out = record { entry = record { index = 1; at = at 7; status = Ok; len = 1; heard = 0 }; value = 0x64 ∷ [] }

-- what happened: read by group type, read by type twice, read, with their answers
abbrev pub before : List Event
before =
    came (link-came 64)
    ∷ asked 0 0x10
    ∷ came (att-heard services)
    ∷ asked 0 0x08
    ∷ came (att-heard characteristics)
    ∷ asked 0 0x08
    ∷ came (att-heard no_more)
    ∷ result found
    ∷ []

abbrev pub after : List Event
after = asked 1 0x0A ∷ came (att-heard answer) ∷ result read_out ∷ []

happened-before : events silence (fresh store) known ≡ before
unfolding opened
happened-before = refl

happened-after : events (link 64 []) knows reading ≡ after
unfolding opened knowing known_store
happened-after = refl

-- then the link is there, and nothing is held
linked-then : air_of silence (fresh store) known ≡ link 64 []
unfolding opened
linked-then = refl

pub happened : events silence (fresh store) (known ++ reading) ≡ before ++ after
happened = events-join silence (fresh store) known reading (link 64 []) knows before after linked-then known_is happened-before happened-after

-- the second step is the Read; it ends Ok, with the byte that came
pub read_taken : (get_or (taken (fresh store) (known ++ reading)) 1 no_queued).step ≡ Read level
unfolding opened
read_taken = refl

pub read-logged : log (fresh store) (known ++ reading) ≡ found ∷ read_out ∷ []
read-logged = sym (log-of silence (fresh store) (known ++ reading)) ∙ ap results_in happened
