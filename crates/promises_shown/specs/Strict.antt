-- The bays' story of 02, Four, computed in both modes: bay 14's read request is not answered in time, its answer comes late. In the old mode bay 15's
-- Read takes it for its own; in strict mode that Read has ended BearerClosed, and the late answer is nobody's.
use Rattle.std.specs.Prelude.{ℕ, ◌≡◌, refl, true, false, List, [], ◌∷◌, ◌++◌}
use Rattle.std.proofs.Common.{sym, ap, ◌∙◌}
use Rattle.lists.specs.Blocks.{Valued}
use Rattle.state.specs.declared.Options.{Options}
use Rattle.state.specs.declared.Step.TheVariants.{ExchangeMtu, Read, Capture}
use Rattle.state.specs.declared.StepResult.{StepResult}
use Rattle.state.specs.declared.StepStatus.{StepStatus}
use Rattle.state.specs.declared.StepStatus.TheVariants.{Ok, Timeout, BearerClosed}
use Rattle.script_rules.specs.World.{Held}
use Rattle.thm_trail.specs.Calls.{Call, timer, connected, does, run}
use Rattle.thm_trail.specs.Calls as calls
use Rattle.thm_trail.specs.Trail.{att-heard}
use Rattle.thm_trail.specs.Log.{given_by, log}
use Rattle.thm_requests.specs.Events.{Event, came, asked, result}
use Rattle.thm_heard.specs.Heard.{silence, link, air_of}
use Rattle.thm_heard.specs.Events.{events}
use Rattle.thm_closed.specs.Closed.{finished, frames_in}
use Rattle.promises_shown.specs.Opened.{opened}
use Rattle.promises_shown.specs.Sequences.{fresh, store, out, at, placed, step, both, att, linked, level, known, answer}
use Rattle.promises_shown.specs.Known.{knowing, known_store, knows, known_is, run-after}
use Rattle.promises_shown.specs.Logged.{results_in, log-of, events-join}
use Rattle.promises_shown.specs.Reading as reading

abbrev pub strictly : Options
strictly = record { strict = true }

abbrev pub strict : Held
strict = calls.fresh strictly store

-- two Reads, bay 14's and bay 15's; the ATT timeout of the first; its answer
abbrev pub deadline : ℕ
deadline = 30000006

abbrev pub bays : List Call
bays = both 6 (placed (Read level) 0) (placed (Read level) 0) [] ∷ timer out (at deadline) ∷ att 30000007 answer ∷ []

-- a result with no value
abbrev pub ended : ℕ → StepStatus → Valued StepResult
ended number status = record { entry = record { index = number; at = at deadline; status = status; len = 0; heard = 0 }; value = [] }

-- ---- the old mode: bay 15's Read ends Ok, with the byte that was bay 14's

abbrev pub taken-over : Valued StepResult
taken-over = record { entry = record { index = 2; at = at 30000007; status = Ok; len = 1; heard = 0 }; value = 0x64 ∷ [] }

abbrev pub took_over : List Event
took_over = asked 1 0x0A ∷ result (ended 1 Timeout) ∷ asked 2 0x0A ∷ came (att-heard answer) ∷ result taken-over ∷ []

took-over : events (link 64 []) knows bays ≡ took_over
unfolding opened knowing known_store
took-over = refl

linked-then : air_of silence (fresh store) known ≡ link 64 []
unfolding opened
linked-then = refl

happened-before : events silence (fresh store) known ≡ reading.before
unfolding opened
happened-before = refl

pub old-happened : events silence (fresh store) (known ++ bays) ≡ reading.before ++ took_over
old-happened = events-join silence (fresh store) known bays (link 64 []) knows reading.before took_over linked-then known_is happened-before took-over

pub old-log : log (fresh store) (known ++ bays) ≡ reading.found ∷ ended 1 Timeout ∷ taken-over ∷ []
old-log = sym (log-of silence (fresh store) (known ++ bays)) ∙ ap results_in old-happened

-- ---- strict mode: bay 15's Read ends BearerClosed in the call that ends bay 14's, and no request of its goes out

abbrev pub strictly-known : Held
strictly-known = record { state = knowing strictly; store = known_store }

pub strictly-known-is : run strict known ≡ strictly-known
unfolding opened knowing known_store
strictly-known-is = refl

abbrev pub closed : List Event
closed = asked 1 0x0A ∷ result (ended 1 Timeout) ∷ result (ended 2 BearerClosed) ∷ came (att-heard answer) ∷ []

closed-so : events (link 64 []) strictly-known bays ≡ closed
unfolding opened knowing known_store
closed-so = refl

strictly-linked : air_of silence strict known ≡ link 64 []
unfolding opened
strictly-linked = refl

strictly-before : events silence strict known ≡ reading.before
unfolding opened
strictly-before = refl

pub strict-happened : events silence strict (known ++ bays) ≡ reading.before ++ closed
strict-happened =
    events-join silence strict known bays (link 64 []) strictly-known reading.before closed strictly-linked strictly-known-is strictly-before closed-so

pub strict-log : log strict (known ++ bays) ≡ reading.found ∷ ended 1 Timeout ∷ ended 2 BearerClosed ∷ []
strict-log = sym (log-of silence strict (known ++ bays)) ∙ ap results_in strict-happened

-- a Read that begins once the late answer has come ends so, too
abbrev pub again : Call
again = step 30000008 (Read level)

abbrev pub barred : Valued StepResult
barred = record { entry = record { index = 3; at = at 30000008; status = BearerClosed; len = 0; heard = 0 }; value = [] }

again-barred : given_by (run strictly-known bays) again ≡ barred ∷ []
unfolding opened knowing known_store
again-barred = refl

pub still-barred : given_by (run strict (known ++ bays)) again ≡ barred ∷ []
still-barred = ap (λ (h : Held). given_by h again) (run-after strict known bays ∙ ap (λ (h : Held). run h bays) strictly-known-is) ∙ again-barred

-- so promise 14 is of something: the bearer is finished
pub strict-finished : finished (events silence strict (known ++ bays)) ≡ true
strict-finished = ap finished strict-happened

-- ---- what a finished bearer lets through

-- a request that is not answered, and its timeout
abbrev pub late : List Call
late = linked ++ (step 2 (ExchangeMtu 23) ∷ timer out (at 30000002) ∷ [])

-- an indication, a step that sends nothing, the link's loss
abbrev pub indication : Call
indication = att 30000003 (0x1D ∷ 0x03 ∷ 0x00 ∷ [])

abbrev pub captures : Call
captures = step 30000003 (Capture true)

-- a new link, and a request on it
abbrev pub anew : List Call
anew = late ++ (connected out 65 (at 30000003) ∷ [])

abbrev pub asks : Call
asks = step 30000004 (ExchangeMtu 23)

pub record Lets : Type 0 where
  pub late-finished : finished (events silence strict late) ≡ true
  -- the indication is confirmed
  pub confirmed : frames_in (does (run strict late) indication) ≡ record { channel = 4; payload = 0x1E ∷ [] } ∷ []
  pub still-finished : finished (events silence strict (late ++ (indication ∷ []))) ≡ true
  -- on the new link the request goes out
  pub asked-anew : frames_in (does (run strict anew) asks) ≡ record { channel = 4; payload = 0x02 ∷ 0x17 ∷ 0x00 ∷ [] } ∷ []
  pub open-anew : finished (events silence strict (anew ++ (asks ∷ []))) ≡ false

pub lets : Lets
unfolding opened
lets = record { late-finished = refl; confirmed = refl; still-finished = refl; asked-anew = refl; open-anew = refl }
