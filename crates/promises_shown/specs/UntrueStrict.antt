-- Edits of promise 14, tried under must-fail: each makes it false, as in Untrue.antt.
use Rattle.std.specs.Prelude.{ℕ, ◌≡◌, refl, Bool, true, false, ◌&&◌, ◌||◌, List, [], ◌∷◌, ◌++◌, eqb}
use Rattle.std.proofs.Common.{sym, ◌∙◌, subst}
use Rattle.std.proofs.lemmas.Bool.{false≢true}
use Rattle.bytes_base.specs.Choice.{among}
use Rattle.lists.specs.Blocks.{Valued}
use Rattle.l2cap.specs.Numbers.{cid_att}
use Rattle.state.specs.declared.Options.{Options}
use Rattle.state.specs.declared.Step.TheVariants.{ExchangeMtu}
use Rattle.state.specs.declared.StepResult.{StepResult}
use Rattle.state.specs.declared.StepStatus.TheVariants.{Ok}
use Rattle.thm_trail.specs.Calls.{Call, timer, connected, disconnected, does, run}
use Rattle.thm_trail.specs.Calls as calls
use Rattle.thm_trail.specs.Trail.{link-came, link-went, att-heard}
use Rattle.thm_trail.specs.Log.{given_by}
use Rattle.thm_wire.specs.Wire.{Frame}
use Rattle.thm_requests.specs.Events.{Event, came, asked, result}
use Rattle.thm_heard.specs.Heard.{silence}
use Rattle.thm_heard.specs.Events.{events}
use Rattle.thm_closed.specs.Closed.{is_timeout, Standing, untried, then, finished, frames_in, Silent}
use Rattle.promises_shown.specs.Opened.{opened}
use Rattle.promises_shown.specs.Sequences.{fresh, store, out, at, placed, step, both, att, linked}
use Rattle.promises_shown.specs.Strict.{strictly, strict, late, indication, captures, anew, asks, lets}

-- ---- promise 14 by another reading of an event

abbrev pub finished_as : (Standing → Event → Standing) → Standing → List Event → Bool
finished_as f s [] = s.finished
finished_as f s (e ∷ es) = finished_as f (f s e) es

-- no request and no command goes out
abbrev pub SilentAs : (Standing → Event → Standing) → Type 0
SilentAs f =
    (options : Options) (store : List ℕ) (cs : List Call) → options.strict ≡ true → (c : Call)
    → finished_as f untried (events silence (calls.fresh options store) (cs ++ (c ∷ []))) ≡ true
    → Silent (frames_in (does (run (calls.fresh options store) cs) c))

-- the state says the same
abbrev pub ClosedAs : (Standing → Event → Standing) → Type 0
ClosedAs f =
    (options : Options) (store : List ℕ) (cs : List Call)
    → (run (calls.fresh options store) cs).state.bearer.closed ≡ (options.strict && finished_as f untried (events silence (calls.fresh options store) cs))

-- an MTU request is none that a finished bearer lets through
asking : Frame
asking = record { channel = 4; payload = 0x02 ∷ 0x17 ∷ 0x00 ∷ [] }

not-silent : (l : List Frame) → l ≡ asking ∷ [] → Silent l → ⊥
unfolding among asking
not-silent l e s = false≢true (sym (subst Silent e s).0)

-- ---- two MTU requests; a new link comes under the first, which then times out with nothing awaited; the second goes out in the same call

abbrev under : List Call
under = linked ++ (both 2 (placed (ExchangeMtu 23) 0) (placed (ExchangeMtu 23) 0) [] ∷ connected out 65 (at 3) ∷ [])

abbrev over : Call
over = timer out (at 30000002)

-- a step that timed out finishes the bearer, whatever was awaited
abbrev pub then_any : Standing → Event → Standing
then_any s (came n) = then s (came n)
then_any s (asked i op) = then s (asked i op)
then_any s (result x) = record { awaited = 0; finished = s.finished || is_timeout x.entry.status }

-- what was asked on the link before is awaited on a new one
abbrev pub then_kept : Standing → Event → Standing
then_kept s (came (link-came handle)) = record { awaited = s.awaited; finished = false }
then_kept s (came link-went) = then s (came link-went)
then_kept s (came (att-heard p)) = then s (came (att-heard p))
then_kept s (asked i op) = then s (asked i op)
then_kept s (result x) = then s (result x)

record Under : Type 0 where
  goes-out : frames_in (does (run strict under) over) ≡ asking ∷ []
  any-is : finished_as then_any untried (events silence strict (under ++ (over ∷ []))) ≡ true
  kept-is : finished_as then_kept untried (events silence strict (under ++ (over ∷ []))) ≡ true

under-so : Under
unfolding opened asking
under-so = record { goes-out = refl; any-is = refl; kept-is = refl }

pub closed-by-any-timeout : SilentAs then_any → ⊥
closed-by-any-timeout p = not-silent _ under-so.goes-out (p strictly store under refl over under-so.any-is)

pub awaited-on-a-new-link : SilentAs then_kept → ⊥
awaited-on-a-new-link p = not-silent _ under-so.goes-out (p strictly store under refl over under-so.kept-is)

-- ---- a new link's bearer is open

abbrev pub then_finished : Standing → Event → Standing
then_finished s (came (link-came handle)) = record { awaited = 0; finished = s.finished }
then_finished s (came link-went) = then s (came link-went)
then_finished s (came (att-heard p)) = then s (came (att-heard p))
then_finished s (asked i op) = then s (asked i op)
then_finished s (result x) = then s (result x)

anew_is : finished_as then_finished untried (events silence strict (anew ++ (asks ∷ []))) ≡ true
unfolding opened
anew_is = refl

pub new-link-stays-finished : SilentAs then_finished → ⊥
unfolding asking
new-link-stays-finished p = not-silent _ lets.asked-anew (p strictly store anew refl asks anew_is)

-- ---- the old mode: a request times out, and the next goes out in the same call

abbrev twice : List Call
twice = linked ++ (both 2 (placed (ExchangeMtu 23) 0) (placed (ExchangeMtu 23) 0) [] ∷ [])

record Twice : Type 0 where
  goes-out : frames_in (does (run (fresh store) twice) over) ≡ asking ∷ []
  finished-is : finished (events silence (fresh store) (twice ++ (over ∷ []))) ≡ true

twice-so : Twice
unfolding opened asking
twice-so = record { goes-out = refl; finished-is = refl }

pub finished-in-the-old-mode :
    ((options : Options) (store : List ℕ) (cs : List Call) (c : Call) → finished (events silence (calls.fresh options store) (cs ++ (c ∷ []))) ≡ true
    → Silent (frames_in (does (run (calls.fresh options store) cs) c))) → ⊥
finished-in-the-old-mode p = not-silent _ twice-so.goes-out (p _ store twice over twice-so.finished-is)

-- ---- what goes on: replies, and steps that send nothing

-- no frame at all on the attribute channel
abbrev pub Mute : List Frame → Type 0
Mute [] = Unit {0}
Mute (x ∷ xs) = (eqb x.channel cid_att ≡ false) × Mute xs

pub replies-held-back :
    ((options : Options) (store : List ℕ) (cs : List Call) → options.strict ≡ true → (c : Call)
    → finished (events silence (calls.fresh options store) (cs ++ (c ∷ []))) ≡ true
    → Mute (frames_in (does (run (calls.fresh options store) cs) c))) → ⊥
replies-held-back p = false≢true (sym (subst Mute lets.confirmed (p strictly store late refl indication lets.still-finished)).0)

-- no step ends Ok
abbrev pub NoneOk : List (Valued StepResult) → Type 0
NoneOk [] = Unit {0}
NoneOk (x ∷ l) = (x.entry.status ≡ Ok → ⊥) × NoneOk l

record Captured : Type 0 where
  given_is : given_by (run strict late) captures ≡ record { entry = record { index = 1; at = at 30000003; status = Ok; len = 0; heard = 0 }; value = [] } ∷ []
  finished-is : finished (events silence strict (late ++ (captures ∷ []))) ≡ true

captured-so : Captured
unfolding opened
captured-so = record { given_is = refl; finished-is = refl }

pub no-step-ends-ok :
    ((options : Options) (store : List ℕ) (cs : List Call) → options.strict ≡ true → (c : Call)
    → finished (events silence (calls.fresh options store) (cs ++ (c ∷ []))) ≡ true
    → NoneOk (given_by (run (calls.fresh options store) cs) c)) → ⊥
no-step-ends-ok p = (subst NoneOk captured-so.given_is (p strictly store late refl captures captured-so.finished-is)).0 refl

-- ---- the state says the same

-- a lost link opens the bearer
abbrev pub then_opened : Standing → Event → Standing
then_opened s (came (link-came handle)) = untried
then_opened s (came link-went) = untried
then_opened s (came (att-heard p)) = then s (came (att-heard p))
then_opened s (asked i op) = then s (asked i op)
then_opened s (result x) = then s (result x)

-- any payload is an answer
abbrev pub then_answered : Standing → Event → Standing
then_answered s (came (link-came handle)) = untried
then_answered s (came link-went) = then s (came link-went)
then_answered s (came (att-heard p)) = record { awaited = 0; finished = s.finished }
then_answered s (asked i op) = then s (asked i op)
then_answered s (result x) = then s (result x)

abbrev gone : List Call
gone = late ++ (disconnected (at 30000003) ∷ [])

-- a notification comes before the timeout
abbrev noticed : List Call
noticed = linked ++ (step 2 (ExchangeMtu 23) ∷ att 3 (0x1B ∷ 0x03 ∷ 0x00 ∷ []) ∷ over ∷ [])

record Flag : Type 0 where
  gone-closed : (run strict gone).state.bearer.closed ≡ true
  gone-is : finished_as then_opened untried (events silence strict gone) ≡ false
  noticed-closed : (run strict noticed).state.bearer.closed ≡ true
  noticed-is : finished_as then_answered untried (events silence strict noticed) ≡ false

flag-so : Flag
unfolding opened
flag-so = record { gone-closed = refl; gone-is = refl; noticed-closed = refl; noticed-is = refl }

pub opened-by-a-lost-link : ClosedAs then_opened → ⊥
opened-by-a-lost-link p = false≢true (sym flag-so.gone-is ∙ sym (p strictly store gone) ∙ flag-so.gone-closed)

pub any-payload-answers : ClosedAs then_answered → ⊥
any-payload-answers p = false≢true (sym flag-so.noticed-is ∙ sym (p strictly store noticed) ∙ flag-so.noticed-closed)
