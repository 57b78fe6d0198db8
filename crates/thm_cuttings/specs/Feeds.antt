-- The same bytes cut into feeds otherwise give the same packets, the same held bytes and the same refusal (02, Three).
-- It is said of `feeding`, which the contract of h4_stream's `feed` equals: so it holds of every list of calls of `feed` that hand on stream and held bytes.
use Rattle.std.specs.Prelude.{ℕ, ◌+◌, ◌≡◌, Bool, true, ◌&&◌, not, List, [], ◌∷◌, ◌++◌, take, Option, None}
use Rattle.bytes_base.specs.Choice.{within}
use Rattle.h4_stream.specs.declared.Stream.{Stream}
use Rattle.h4_packets.specs.Names.{told_number}
use Rattle.h4_packets.specs.declared.Refusal.{Refusal}
use Rattle.h4_stream.specs.Cut.{cut, joined}
use Rattle.h4_stream.specs.Feed.{Outcome, feeding}

-- a feed: its bytes, and the output that it is lent
pub record Feed : Type 0 where
  pub bytes : List ℕ
  pub out : List ℕ

-- one feed to a stream with its held bytes
abbrev pub fed : Stream → List ℕ → Feed → Outcome
fed stream held f = feeding stream held f.bytes f.out

-- what came of one or more feeds: the packets, by their number and end to end; the stream and the bytes that it holds; the last refusal
pub record Result : Type 0 where
  pub packets : ℕ
  pub bytes : List ℕ
  pub stream : Stream
  pub held : List ℕ
  pub refusal : Option Refusal

abbrev pub result : Outcome → Result
result o =
    record {
      packets = o.answer.packets;
      bytes = take o.answer.len o.out;
      stream = o.answer.stream;
      held = take o.answer.stream.count o.held;
      refusal = o.answer.refusal;
    }

-- what came of some feeds, and then of others
abbrev pub and_then : Result → Result → Result
and_then a b =
    record { packets = a.packets + b.packets; bytes = a.bytes ++ b.bytes; stream = b.stream; held = b.held; refusal = b.refusal }

-- a feed, and more behind it
unfoldable pub feeds : Stream → List ℕ → Feed → List Feed → Result
feeds stream held f [] = result (fed stream held f)
feeds stream held f (g ∷ more) =
    and_then (result (fed stream held f)) (feeds (fed stream held f).answer.stream (fed stream held f).held g more)

-- all their bytes
unfoldable pub all_bytes : Feed → List Feed → List ℕ
all_bytes f [] = f.bytes
all_bytes f (g ∷ more) = f.bytes ++ all_bytes g more

-- neither 1 nor 2 refuses it
abbrev pub is_taken : Outcome → Bool
is_taken o = not (within 1 2 (told_number o.answer.refusal))

-- nor any of several
unfoldable pub are_taken : Stream → List ℕ → Feed → List Feed → Bool
are_taken stream held f [] = is_taken (fed stream held f)
are_taken stream held f (g ∷ more) = is_taken (fed stream held f) && are_taken (fed stream held f).answer.stream (fed stream held f).held g more

-- from any stream and any held bytes, lost or not, feeds that are taken come to what one feed of all their bytes comes to
abbrev pub Cuttings : Type 0
Cuttings =
    (stream : Stream) (held : List ℕ) (f : Feed) (more : List Feed) (out : List ℕ)
    → are_taken stream held f more ≡ true
    → is_taken (feeding stream held (all_bytes f more) out) ≡ true
    → feeds stream held f more ≡ result (feeding stream held (all_bytes f more) out)

-- the packets of a cut, written end to end, read back as themselves: equal bytes are equal packets
abbrev pub ReadBack : Type 0
ReadBack = (s : List ℕ) → cut (joined (cut s).packets) ≡ record { packets = (cut s).packets; rest = []; lost = None }
