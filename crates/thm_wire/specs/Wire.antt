-- What a call writes to the output, read off the worlds that it passes through, and what is promised of it: 65 frames at most, whole
-- ones, told as they are written, with no ATT payload beyond the MTU.
use Rattle.std.specs.Prelude.{ℕ, zero, suc, ◌≤◌, ◌≡◌, false, List, [], ◌∷◌, ◌++◌, length, take, drop}
use Rattle.bytes_base.specs.Choice.{pick}
use Rattle.bytes_base.specs.Bytes.{le}
use Rattle.l2cap.specs.Numbers.{cid_att}
use Rattle.l2cap.specs.Frame.{l2cap_frame}
use Rattle.script_rules.specs.World.{Held, World}
use Rattle.script_rules.specs.Outcome.{Outcome, unsent}
use Rattle.thm_trail.specs.Calls.{Call, out_of, done?}
use Rattle.thm_trail.specs.Trail.{Pass, begins, goes}

-- a frame as its peer reads it
pub record Frame : Type 0 where
  pub channel : ℕ
  pub payload : List ℕ

-- a frame that was sent, and the MTU in force when it was written
pub record Sent : Type 0 where
  pub frame : Frame
  pub mtu : ℕ

-- ---- bytes that are read (Core Vol 3 Part A 3.1: the payload's length and the channel, each in two bytes, and the payload)

abbrev pub length_of : List ℕ → ℕ
length_of b = le (take 2 b)

abbrev pub channel_of : List ℕ → ℕ
channel_of b = le (take 2 (drop 2 b))

-- the first n frames of some bytes, by their own lengths
abbrev pub parse : ℕ → List ℕ → List Frame
parse zero b = []
parse (suc n) b = record { channel = channel_of b; payload = take (length_of b) (drop 4 b) } ∷ parse n (drop (length_of b) (drop 4 b))

-- ---- what was sent: read off the worlds, not told by the code

-- the bytes that were written between two worlds
abbrev pub written : World → World → List ℕ
written w v = drop w.told.sent.bytes (take v.told.sent.bytes v.told.out)

-- the link's MTU, 0 where there is no link
abbrev pub mtu_of : World → ℕ
mtu_of w = let b = w.held.state.bearer in pick b.present b.link.mtu 0

-- nothing, or bytes that are one frame's
abbrev pub as_sent : ℕ → List ℕ → List Sent
as_sent mtu [] = []
as_sent mtu (x ∷ l) = record { frame = record { channel = channel_of (x ∷ l); payload = drop 4 (x ∷ l) }; mtu = mtu } ∷ []

-- in a hop: the MTU is that of the world before it
abbrev pub sent_in : World → World → List Sent
sent_in w v = as_sent (mtu_of w) (written w v)

-- along a trail
abbrev pub sent_along : World → List Pass → List Sent
sent_along w [] = []
sent_along w (p ∷ ps) = sent_in w p.to ++ sent_along p.to ps

-- by a call: none where it is refused
abbrev pub sent_by : Held → Call → List Sent
sent_by h c = pick (done? h c) (sent_along (begins h c) (goes h c)) []

-- ---- what is promised

-- the frames without the MTUs, and their bytes, one frame behind another
abbrev pub frames_of : List Sent → List Frame
frames_of [] = []
frames_of (x ∷ xs) = x.frame ∷ frames_of xs

abbrev pub wire : List Sent → List ℕ
wire [] = []
wire (x ∷ xs) = l2cap_frame x.frame.channel x.frame.payload ++ wire xs

-- no ATT payload is longer than the MTU then in force
abbrev pub Within : List Sent → Type 0
Within [] = Unit {0}
Within (x ∷ xs) = (x.frame.channel ≡ cid_att → length x.frame.payload ≤ x.mtu) × Within xs

-- the most that one call sends
abbrev pub most_frames : ℕ
most_frames = 65

-- what a call answers is what stands in the output
pub record OnWire (h : Held) (c : Call) (x : Outcome) : Type 0 where
  pub frames : x.sent.frames ≡ length (sent_by h c)
  pub most : x.sent.frames ≤ most_frames
  pub bytes : x.sent.bytes ≡ length (wire (sent_by h c))
  -- the frames first; what was not written is as the caller lent it
  pub out : x.out ≡ wire (sent_by h c) ++ drop x.sent.bytes (out_of c)
  pub parsed : parse x.sent.frames (take x.sent.bytes x.out) ≡ frames_of (sent_by h c)
  pub within : Within (sent_by h c)
  -- a refused call sends nothing and asks nothing of the link
  pub refused : done? h c ≡ false → (x.sent ≡ unsent) × (x.out ≡ out_of c)
