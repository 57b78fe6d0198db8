-- How far packets reach, and what a feed leaves.
use Prim.Native.Nat.{ℕ, suc, ◌+◌, ◌-◌, ◌≤◌, ◌<◌}
use mathlib.Core.Path.{◌≡◌, refl, sym, ap, ◌∙◌}
use mathlib.Core.Bool.{Bool, true, false}
use mathlib.Core.List.{List, [], ◌++◌}
use native.Mathlib.Omega.{arith}
use native.Mathlib.Nat.{add-zero}
use lib.ListN.{length, take, drop, length-append, length-drop}
use lib.Seq.{length-take-le, drop-drop}
use lib.Dec.{leb}
use borrow.Author.Tests.{lt-ltb, le-ltb}
use Rattle.bytes_base.proofs.TestLaws.{fits-yes, fits-no}
use Rattle.lists.specs.Queue.{onto}
use Rattle.std.specs.Prelude.{Option, None, Some, Ok, Err}
use Rattle.h4_packets.specs.Numbers.{longest}
use Rattle.h4_packets.specs.Front.{front}
use Rattle.h4_packets.specs.declared.Lost.{Lost}
use Rattle.h4_packets.specs.declared.Lost.TheVariants.{ByIndicator, ByLength}
use Rattle.h4_packets.specs.declared.Refusal.TheVariants.{Overheld, ShortOutput}
use Rattle.h4_packets.proofs.FrontLaws.{stable}
use Rattle.h4_stream.specs.declared.Stream.{Stream}
use Rattle.h4_stream.specs.declared.Reach.{Reach}
use Rattle.h4_stream.specs.declared.Fed.{Fed}
use Rattle.h4_stream.specs.Cut.{Cut, ends, after, cut, joined}
use Rattle.h4_stream.specs.Feed.{in_hand, answered, outcome, given, cut_from, feeding, reached}
use Rattle.h4_stream.proofs.CutLaws.{cut-more, cut-whole, cut-lost, Kept, divides}

-- ---- the loop over packets: those found, and those still to be found

abbrev reach : ℕ → ℕ → Option Lost → Reach
reach packets len lost = record { packets = packets; len = len; lost = lost }

ending : (p len : ℕ) (c : Cut) (rest : List ℕ) (l : Option Lost) → c ≡ ends rest l → reached p len c ≡ reach p len l
unfolding joined
ending p len c rest l e = rw (e, add-zero p, add-zero len)

module _ (s : List ℕ) (p len : ℕ) where
  pub ends_more : Ok None ≡ front (drop len s) → reached p len (cut (drop len s)) ≡ reach p len None
  ends_more e = ending p len (cut (drop len s)) (drop len s) None (cut-more (drop len s) e)

  pub ends_lost : (lost : Lost) → Err lost ≡ front (drop len s) → reached p len (cut (drop len s)) ≡ reach p len (Some lost)
  ends_lost lost e = ending p len (cut (drop len s)) [] (Some lost) (cut-lost (drop len s) lost e)

  module _ (n : ℕ) (is : Ok (Some n) ≡ front (drop len s)) where
    pub packet : (0 < n) × (n ≤ length (drop len s))
    packet = let k = rw (← is) at (stable (drop len s)) in (k.0, k.1.0)

    pub goes_on_lem : reached p len (cut (drop len s)) ≡ reached (p + 1) (len + n) (cut (drop (len + n) s))
    unfolding joined
    goes_on_lem =
        let c = cut (drop (len + n) s) in
        let e : cut (drop len s) ≡ after (take n (drop len s)) c =
        cut-whole (drop len s) n is ∙ ap (λ (x : List ℕ). after (take n (drop len s)) (cut x)) (drop-drop n len s) in
        let l : length (take n (drop len s) ++ joined c.packets) ≡ n + length (joined c.packets) =
        length-append (take n (drop len s)) (joined c.packets) ∙ ap (λ (k : ℕ). k + length (joined c.packets)) (length-take-le n (drop len s) packet.1) in
        let a : p + suc (length c.packets) ≡ p + 1 + length c.packets = omega arith in
        let b : len + (n + length (joined c.packets)) ≡ len + n + length (joined c.packets) = omega arith in
        rw (e, l, a, b)

    -- a packet found ends within the bytes in hand
    pub packet-fits : len ≤ length s → (0 < n) × (len + n ≤ length s)
    packet-fits low =
        let l : length (drop len s) ≡ length s - len = length-drop len s in
        (packet.0, omega (arith, packet.1))

-- ---- what is taken in

-- what is held of the bytes behind the packets, by how framing is lost
abbrev pub held_by : Option Lost → List ℕ → List ℕ
held_by None s = s
held_by (Some lost) s = []

pub rest_by_loss : (s : List ℕ) → (cut s).rest ≡ held_by (cut s).lost (drop (length (joined (cut s).packets)) s)
rest_by_loss s = by (cut s).lost (divides s).kept
  where
    by : (l : Option Lost) → Kept l s (length (joined (cut s).packets)) (cut s).rest → (cut s).rest ≡ held_by l (drop (length (joined (cut s).packets)) s)
    by None k = k.0
    by (Some lost) k = k

pub packets_first : (s : List ℕ) (n : ℕ) → n ≡ length (joined (cut s).packets) → take n s ≡ joined (cut s).packets
packets_first s n e = rw e (sym (divides s).front)

-- the packets found are the first bytes in hand
pub record Found (s : List ℕ) (r : Reach) : Type 0 where
  pub inside : r.len ≤ length s
  pub kept : Kept r.lost s r.len (cut s).rest
  pub bytes : take r.len s ≡ joined (cut s).packets
  pub number : r.packets ≡ length (cut s).packets
  pub sum : r.len ≡ length (joined (cut s).packets)
  pub lost : r.lost ≡ (cut s).lost

pub found : (s : List ℕ) (r : Reach) → r ≡ reached 0 0 (cut s) → Found s r
found s r e =
    let d = divides s in
    let n : 0 + length (cut s).packets ≡ length (cut s).packets = omega arith in
    let l : 0 + length (joined (cut s).packets) ≡ length (joined (cut s).packets) = omega arith in
    rw e
    (record {
      inside = rw l d.inside;
      kept = rw l d.kept;
      bytes = rw l (sym d.front);
      number = n;
      sum = l;
      lost = refl;
    })

-- what find_packets found in the bytes in hand
module _ (s : List ℕ) (r : Reach) (e : r ≡ reached 0 0 (cut s)) where
  pub found_inside : r.len ≤ length s
  found_inside = (found s r e).inside

  rest-is : r.lost ≡ None → (cut s).rest ≡ drop r.len s
  rest-is whole = (rw whole at (found s r e).kept).0

  -- the rest has a place among the bytes held
  pub rest-fits : r.lost ≡ None → length s - r.len < 1024
  rest-fits whole = simp (rest-is whole, length-drop) at (rw whole at (found s r e).kept).1

  module _ (held out out' : List ℕ) (eo : out' ≡ onto out (take r.len s)) where
    told : (rest : List ℕ) (n : ℕ) (held' : List ℕ) → (cut s).rest ≡ rest → n ≡ length rest → held' ≡ onto held rest
        → outcome (answered n r.lost r.packets r.len) held' out' ≡ given (cut s) held out
    told rest n held' er en eh =
        let f = found s r e in
        rw (eh, en, eo, f.bytes, ← er, f.lost, f.number, f.sum)

    -- the rest is held
    pub held_on : r.lost ≡ None → (total : ℕ) → total ≡ length s → (held' : List ℕ) → held' ≡ onto held (drop r.len s)
        → (x : Fed) → x ≡ answered (total - r.len) r.lost r.packets r.len → outcome x held' out' ≡ given (cut s) held out
    held_on whole total size held' eh x ex =
        rw (ex, size) (told (drop r.len s) (length s - r.len) held' (rest-is whole) (sym (length-drop r.len s)) eh)

    -- framing is lost: nothing is held
    pub dropped : (lost : Lost) → r.lost ≡ Some lost → (x : Fed) → x ≡ answered 0 r.lost r.packets r.len → outcome x held out' ≡ given (cut s) held out
    dropped lost is x ex = rw ex (told [] 0 held (rw is at (found s r e).kept) refl refl)

-- a stream whose framing was lost before drops all
still : (l : Option Lost) (lost : Lost) → l ≡ Some lost → (s held out : List ℕ) → outcome (answered 0 l 0 0) held out ≡ given (cut_from l s) held out
unfolding joined
still l ByIndicator is s held out = rw is
still l ByLength is s held out = rw is

-- ---- refusals

module _ (stream : Stream) (held fed out : List ℕ) where
  pub refused_over : longest < stream.count → (x : Fed) → x ≡ record { stream = stream; refusal = Some Overheld; packets = 0; len = 0 }
      → outcome x held out ≡ feeding stream held fed out
  unfolding feeding
  refused_over h x e = rw (e, lt-ltb longest stream.count h)

  module _ (fits : stream.count ≤ longest) (x : Bool) (is : x ≡ leb (stream.count + length fed) (length out)) where
    pub refused-short : x ≡ false → (r : Fed) → r ≡ record { stream = stream; refusal = Some ShortOutput; packets = 0; len = 0 }
        → outcome r held out ≡ feeding stream held fed out
    unfolding feeding
    refused-short h r e =
        let k : length out < stream.count + length fed = fits-no x (length out) stream.count (length fed) is h in
        rw (e, le-ltb longest stream.count fits, lt-ltb (length out) (stream.count + length fed) k)

    pub room : x ≡ true → stream.count + length fed ≤ length out
    room h = fits-yes x (length out) stream.count (length fed) is h

    accepted : x ≡ true → feeding stream held fed out ≡ given (cut_from stream.lost (in_hand stream.count held fed)) held out
    unfolding feeding
    accepted h = rw (le-ltb longest stream.count fits, le-ltb (length out) (stream.count + length fed) (room h))

    pub taken : x ≡ true → stream.lost ≡ None → (r : Fed) (held' out' : List ℕ)
        → outcome r held' out' ≡ given (cut (in_hand stream.count held fed)) held out → outcome r held' out' ≡ feeding stream held fed out
    taken h whole r held' out' e = e ∙ sym (accepted h ∙ rw whole)

    -- a stream that has lost its framing
    pub lost-still : x ≡ true → (lost : Lost) → stream.lost ≡ Some lost → (r : Fed) → r ≡ answered 0 stream.lost 0 0
        → outcome r held out ≡ feeding stream held fed out
    lost-still h lost is r e = rw e (still stream.lost lost is (in_hand stream.count held fed) held out ∙ sym (accepted h))
