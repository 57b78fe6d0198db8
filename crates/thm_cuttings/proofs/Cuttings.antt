-- The theorem on cuttings.
use Prim.Native.Nat.{ℕ, ◌+◌}
use mathlib.Core.Path.{◌≡◌, refl, sym, ap, ◌∙◌}
use mathlib.Core.Bool.{Bool, true, false, false≢true}
use mathlib.Core.List.{List, [], ◌∷◌, ◌++◌, append_assoc}
use lib.ListN.{length, take, drop, length-append}
use lib.Seq.{take-append_seam}
use lib.Dec.{ltb}
use Rattle.bytes_base.specs.Choice.{pick}
use Rattle.bytes_base.proofs.TestLaws.{both}
use Rattle.lists.specs.Queue.{onto}
use Rattle.h4_packets.specs.Numbers.{longest}
use Rattle.h4_packets.specs.declared.Refusal.TheVariants.{Overheld, ShortOutput}
use Rattle.h4_stream.specs.declared.Stream.{Stream}
use Rattle.h4_stream.specs.Cut.{Cut, joined}
use Rattle.h4_stream.specs.Feed.{in_hand, refusal_of, Outcome, refused, given, cut_from, feeding}
use Rattle.thm_cuttings.specs.Feeds.{Feed, fed, Result, result, and_then, feeds, all_bytes, is_taken, are_taken, Cuttings}
use Rattle.thm_cuttings.proofs.Appended.{onward, appended, joined-append}

-- what a cut comes to
abbrev shown : Cut → Result
shown c =
    record {
      packets = length c.packets;
      bytes = joined c.packets;
      stream = record { count = length c.rest; lost = c.lost };
      held = c.rest;
      refusal = refusal_of c.lost;
    }

shown-onward : (c d : Cut) → shown (onward c d) ≡ and_then (shown c) (shown d)
shown-onward c d = rw (length-append c.packets d.packets, joined-append c.packets d.packets)

seam : (a l : List ℕ) → take (length l) (onto a l) ≡ l
seam a l = take-append_seam l (drop (length l) a)

result-is : (c : Cut) (held out : List ℕ) → result (given c held out) ≡ shown c
result-is c held out = rw (seam out (joined c.packets), seam held c.rest)

-- a feed that neither 1 nor 2 refuses
taken_is : (stream : Stream) (held s out : List ℕ) → is_taken (feeding stream held s out) ≡ true
    → feeding stream held s out ≡ given (cut_from stream.lost (in_hand stream.count held s)) held out
unfolding feeding
taken_is stream held s out t = go (ltb longest stream.count) (ltb (length out) (stream.count + length s)) t
  where
    go : (x y : Bool)
        → is_taken
        (pick x (refused stream held out Overheld)
        (pick y (refused stream held out ShortOutput) (given (cut_from stream.lost (in_hand stream.count held s)) held out)))
        ≡ true
        → pick x (refused stream held out Overheld)
        (pick y (refused stream held out ShortOutput) (given (cut_from stream.lost (in_hand stream.count held s)) held out))
        ≡ given (cut_from stream.lost (in_hand stream.count held s)) held out
    go true y z = absurd (false≢true z)
    go false true z = absurd (false≢true z)
    go false false z = refl

-- one feed, and then those behind it
behind : (stream : Stream) (held bytes out x : List ℕ) (o : Outcome) (r : Result)
    → o ≡ given (cut_from stream.lost (in_hand stream.count held bytes)) held out
    → r ≡ shown (cut_from o.answer.stream.lost (in_hand o.answer.stream.count o.held x))
    → and_then (result o) r ≡ shown (cut_from stream.lost (in_hand stream.count held (bytes ++ x)))
behind stream held bytes out x o r e ih =
    let h = in_hand stream.count held bytes in
    let c = cut_from stream.lost h in
    rw (ih, e, seam out (joined c.packets), seam held c.rest)
    (sym (shown-onward c (cut_from c.lost (c.rest ++ x)))
    ∙ (ap shown (sym (appended stream.lost h x))
    ∙ ap (λ (l : List ℕ). shown (cut_from stream.lost l)) (append_assoc (take stream.count held) bytes x)))

come-to : (stream : Stream) (held : List ℕ) (f : Feed) (more : List Feed) → are_taken stream held f more ≡ true
    → feeds stream held f more ≡ shown (cut_from stream.lost (in_hand stream.count held (all_bytes f more)))
unfolding feeds all_bytes are_taken
come-to stream held f [] t =
    ap result (taken_is stream held f.bytes f.out t)
    ∙ result-is (cut_from stream.lost (in_hand stream.count held f.bytes)) held f.out
come-to stream held f (g ∷ more) t =
    let o = fed stream held f in
    let (a, b) = both (is_taken o) (are_taken o.answer.stream o.held g more) t in
    behind stream held f.bytes f.out (all_bytes g more) o (feeds o.answer.stream o.held g more)
    (taken_is stream held f.bytes f.out a)
    (come-to o.answer.stream o.held g more b)

pub cuttings : Cuttings
cuttings stream held f more out t u =
    let s = all_bytes f more in
    come-to stream held f more t
    ∙ sym (ap result (taken_is stream held s out u) ∙ result-is (cut_from stream.lost (in_hand stream.count held s)) held out)
