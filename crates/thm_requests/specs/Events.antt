-- What happens: what comes in, the requests that go out, the results given. What a call does is read off the worlds that it passes through: a
-- request is a frame among the bytes written, a result stands in the table. What comes in, and the whole of it in order: thm_heard/specs.
use Rattle.std.specs.Prelude.{ℕ, ◌≡◌, Bool, true, ◌&&◌, List, [], ◌∷◌, ◌++◌, get_or, drop, eqb}
use Rattle.bytes_base.specs.Choice.{pick}
use Rattle.lists.specs.Blocks.{Valued}
use Rattle.l2cap.specs.Numbers.{cid_att}
use Rattle.att_pdu.specs.Numbers.{op_read_req, op_read_rsp}
use Rattle.state.specs.Central.{Central}
use Rattle.state.specs.declared.StepResult.{StepResult}
use Rattle.state_rules.specs.Fit.{is_request}
use Rattle.script_rules.specs.World.{Held, World}
use Rattle.thm_trail.specs.Calls.{Call, done?}
use Rattle.thm_trail.specs.Trail.{News, link-came, link-went, att-heard, Pass, begins, goes}
use Rattle.thm_trail.specs.Log.{gave}
use Rattle.thm_wire.specs.Wire.{Sent, sent_in}

pub data Event : Type 0 where
  -- a link, its loss, the payload of a frame on the attribute channel whose last fragment this call delivered
  came : News → Event
  -- the running step's number, and the opcode of a request that went out
  asked : ℕ → ℕ → Event
  -- a result, with its value
  result : Valued StepResult → Event

-- whether a payload on a channel is a request of ours
abbrev pub asks_for : ℕ → List ℕ → Bool
asks_for channel payload = eqb channel cid_att && is_request (get_or payload 0 0)

abbrev pub asked_in : ℕ → List Sent → List Event
asked_in i [] = []
asked_in i (x ∷ xs) = pick (asks_for x.frame.channel x.frame.payload) (asked i (get_or x.frame.payload 0 0) ∷ []) [] ++ asked_in i xs

abbrev pub news_of : List News → List Event
news_of [] = []
news_of (x ∷ xs) = came x ∷ news_of xs

abbrev pub results_of : List (Valued StepResult) → List Event
results_of [] = []
results_of (x ∷ xs) = result x ∷ results_of xs

-- in a hop: what went out, then what was given
abbrev pub done_in : World → World → List Event
done_in w v = asked_in v.held.state.running.index (sent_in w v) ++ results_of (gave w.held v.held)

-- along a trail
abbrev pub done_along : World → List Pass → List Event
done_along w [] = []
done_along w (p ∷ ps) = done_in w p.to ++ done_along p.to ps

-- by a call: none where it is refused
abbrev pub done_by : Held → Call → List Event
done_by h c = pick (done? h c) (done_along (begins h c) (goes h c)) []

-- ---- what is promised

-- no link came or went, nothing was asked, no step ended
abbrev pub Calm : List Event → Type 0
Calm [] = Unit {0}
Calm (came (link-came handle) ∷ es) = ⊥
Calm (came link-went ∷ es) = ⊥
Calm (came (att-heard p) ∷ es) = Calm es
Calm (asked i op ∷ es) = ⊥
Calm (result x ∷ es) = ⊥

-- the step that runs sent the request that is awaited, and all has been calm since: so on this link
pub record Awaited (es : List Event) (c : Central) : Type 0 where
  pub runs : c.running.active ≡ true
  pub before : List Event
  pub after : List Event
  pub split : es ≡ before ++ (asked c.running.index c.bearer.link.pending ∷ after)
  pub calm : Calm after

-- a read's value: its request, calm, a read response, and at once its result, with the response's body
pub record Answered (es : List Event) (x : Valued StepResult) : Type 0 where
  pub before : List Event
  pub between : List Event
  pub after : List Event
  pub payload : List ℕ
  pub split : es ≡ before ++ (asked x.entry.index op_read_req ∷ (between ++ (came (att-heard payload) ∷ result x ∷ after)))
  pub calm : Calm between
  pub opcode : get_or payload 0 0 ≡ op_read_rsp
  pub value : x.value ≡ drop 1 payload
