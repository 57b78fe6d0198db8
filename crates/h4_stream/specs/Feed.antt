-- What a feed does (02, Three): its refusals in their order, the packets it gives, the bytes it holds.
use Rattle.std.specs.Prelude.{ℕ, ◌+◌, List, [], ◌++◌, length, take, ltb, Option, None, Some}
use Rattle.bytes_base.specs.Choice.{pick}
use Rattle.lists.specs.Queue.{onto}
use Rattle.h4_packets.specs.Numbers.{longest}
use Rattle.h4_packets.specs.Names.{refusal_by}
use Rattle.h4_packets.specs.declared.Lost.{Lost}
use Rattle.h4_packets.specs.declared.Refusal.{Refusal}
use Rattle.h4_packets.specs.declared.Refusal.TheVariants.{Overheld, ShortOutput}
use Rattle.h4_stream.specs.declared.Stream.{Stream}
use Rattle.h4_stream.specs.declared.Reach.{Reach}
use Rattle.h4_stream.specs.declared.Fed.{Fed}
use Rattle.h4_stream.specs.Cut.{Cut, cut, ends, joined}

-- a stream that holds nothing and has not lost its framing
abbrev pub fresh : Stream
fresh = record { count = 0; lost = None }

-- the bytes in hand: the first `count` of those lent to be held, then those fed
abbrev pub in_hand : ℕ → List ℕ → List ℕ → List ℕ
in_hand count held fed = take count held ++ fed

-- ---- what is answered

-- 02: 9 bad indicator, 10 packet too long
abbrev pub refusal_of : Option Lost → Option Refusal
refusal_of None = None
refusal_of (Some lost) = Some (refusal_by lost)

-- the answer of a feed after which `count` bytes are held
abbrev pub answered : ℕ → Option Lost → ℕ → ℕ → Fed
answered count lost packets len =
    record { stream = record { count = count; lost = lost }; refusal = refusal_of lost; packets = packets; len = len }

-- what a feed answers, and all bytes that it may write: those lent to be held, and the output
pub record Outcome : Type 0 where
  pub answer : Fed
  pub held : List ℕ
  pub out : List ℕ

abbrev pub outcome : Fed → List ℕ → List ℕ → Outcome
outcome answer held out = record { answer = answer; held = held; out = out }

-- refused by 1 or 2: nothing is taken or written
abbrev pub refused : Stream → List ℕ → List ℕ → Refusal → Outcome
refused stream held out why = outcome (record { stream = stream; refusal = Some why; packets = 0; len = 0 }) held out

-- the packets go over the front of the output, the rest over the front of the bytes held; all bytes behind stay as they were
abbrev pub given : Cut → List ℕ → List ℕ → Outcome
given c held out =
    outcome
    (answered (length c.rest) c.lost (length c.packets) (length (joined c.packets)))
    (onto held c.rest)
    (onto out (joined c.packets))

-- ---- the feed

-- the bytes in hand are cut, unless framing was lost before: then they are dropped
abbrev pub cut_from : Option Lost → List ℕ → Cut
cut_from None s = cut s
cut_from (Some lost) s = ends [] (Some lost)

-- refusals in 02's order: 1, 2, then 9 or 10
unfoldable pub feeding : Stream → List ℕ → List ℕ → List ℕ → Outcome
feeding stream held fed out =
    pick (ltb longest stream.count) (refused stream held out Overheld)
    (pick (ltb (length out) (stream.count + length fed)) (refused stream held out ShortOutput)
    (given (cut_from stream.lost (in_hand stream.count held fed)) held out))

-- ---- its parts, as the code finds them

-- how far the packets of a cut reach, behind `packets` others in `len` bytes, and how framing is lost behind them
abbrev pub reached : ℕ → ℕ → Cut → Reach
reached packets len c = record { packets = packets + length c.packets; len = len + length (joined c.packets); lost = c.lost }
