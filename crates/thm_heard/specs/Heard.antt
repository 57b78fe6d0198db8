-- What comes in, from the calls alone: a link, its loss, and the frames that the fragments make. Nothing is read off the state or the
-- store; of a call's answer only its refusal's number counts (01, 'Rules of the link' and refusal 7; Core Vol 3 Part A 7.2.1, 3.1).
use Rattle.std.specs.Prelude.{ℕ, ◌+◌, Bool, not, ◌&&◌, List, [], ◌∷◌, ◌++◌, length, take, drop, eqb, leb}
use Rattle.bytes_base.specs.Choice.{pick}
use Rattle.state_rules.specs.Refusals.{accepted, long_frame}
use Rattle.script_rules.specs.World.{Held}
use Rattle.thm_trail.specs.Calls.{Call, batch, timer, connected, disconnected, advertising, scan_response, fragment, reads, does, left}
use Rattle.thm_trail.specs.Trail.{News, link-came, link-went, came_on}
use Rattle.thm_wire.specs.Wire.{length_of, channel_of}

-- no link; or a link by its handle, and the bytes that are held of a frame on it
pub data Air : Type 0 where
  silence : Air
  link : ℕ → List ℕ → Air

-- ---- a fragment: the bytes that were held, whether it is a start, its own bytes

-- a continuation on nothing is dropped
abbrev pub dropped : List ℕ → Bool → Bool
dropped partial start = not start && eqb (length partial) 0

-- a start clears what is held; a continuation stands behind it
abbrev pub joined : List ℕ → Bool → List ℕ → List ℕ
joined partial start piece = pick start piece (partial ++ piece)

-- whether 4 + length bytes are there
abbrev pub whole : List ℕ → Bool
whole b = leb 4 (length b) && leb (4 + length_of b) (length b)

-- the frame's payload, by its own length: surplus is dropped
abbrev pub payload_of : List ℕ → List ℕ
payload_of b = take (length_of b) (drop 4 b)

-- once a frame is read nothing is held
abbrev pub held_of : List ℕ → List ℕ
held_of b = pick (whole b) [] b

-- and its payload was heard, where the frame is for the attribute channel
abbrev pub frame_of : List ℕ → List News
frame_of b = pick (whole b) (came_on (channel_of b) (payload_of b)) []

-- what is held after it; without a link it is dropped
abbrev pub holds : Air → Bool → List ℕ → Air
holds silence start piece = silence
holds (link handle partial) start piece = link handle (pick (dropped partial start) partial (held_of (joined partial start piece)))

-- what is heard with it
abbrev pub hears : Air → Bool → List ℕ → List News
hears silence start piece = []
hears (link handle partial) start piece = pick (dropped partial start) [] (frame_of (joined partial start piece))

-- ---- a call, with its refusal's number

abbrev pub emptied : Air → Air
emptied silence = silence
emptied (link handle partial) = link handle []

-- what is there after it: a refusal changes nothing, but 7 empties what is held
abbrev pub after : Air → Call → ℕ → Air
after a (batch out at b values) why = a
after a (timer out at) why = a
after a (connected out handle at) why = pick (eqb why accepted) (link handle []) a
after a (disconnected at) why = pick (eqb why accepted) silence a
after a (advertising v) why = a
after a (scan_response at x d) why = a
after a (fragment out at start piece) why = pick (eqb why accepted) (holds a start piece) (pick (eqb why long_frame) (emptied a) a)
after a (reads r) why = a

-- what comes in with it
abbrev pub news : Air → Call → ℕ → List News
news a (batch out at b values) why = []
news a (timer out at) why = []
news a (connected out handle at) why = pick (eqb why accepted) (link-came handle ∷ []) []
news a (disconnected at) why = pick (eqb why accepted) (link-went ∷ []) []
news a (advertising v) why = []
news a (scan_response at x d) why = []
news a (fragment out at start piece) why = pick (eqb why accepted) (hears a start piece) []
news a (reads r) why = []

-- ---- a sequence of calls

-- all that came in
abbrev pub heard : Air → Held → List Call → List News
heard a h [] = []
heard a h (c ∷ cs) = news a c (does h c).refusal ++ heard (after a c (does h c).refusal) (left (does h c)) cs

-- what is there at the end
abbrev pub air_of : Air → Held → List Call → Air
air_of a h [] = a
air_of a h (c ∷ cs) = air_of (after a c (does h c).refusal) (left (does h c)) cs
