-- Each edit of what the theorem says, tried under must-fail, makes it false: under the edit's name, two feeds for which the edited statement fails.
use Rattle.std.specs.Prelude.{ℕ, ◌≡◌, refl, Bool, true, not, List, [], ◌∷◌, ◌++◌, replicate, get_or}
use Rattle.std.proofs.Common.{ap, arith}
use Rattle.bytes_base.specs.Choice.{within}
use Rattle.bytes_base.specs.Bytes.{le, le_at}
use Rattle.h4_packets.specs.Names.{told_number}
use Rattle.h4_packets.specs.Packet.{length_by, packet_length}
use Rattle.h4_packets.specs.Front.{front}
use Rattle.h4_stream.specs.declared.Stream.{Stream}
use Rattle.h4_stream.specs.Cut.{cutting, joined}
use Rattle.h4_stream.specs.Feed.{Outcome, fresh, feeding}
use Rattle.thm_cuttings.specs.Feeds.{Feed, fed, is_taken, result}
use Rattle.thm_cuttings.specs.Shown.{event, blank, lent}

-- the second of two feeds
abbrev second : Stream → List ℕ → Feed → Feed → Outcome
second stream held f g = fed (fed stream held f).answer.stream (fed stream held f).held g

-- both feeds at once
abbrev once : Stream → List ℕ → Feed → Feed → List ℕ → Outcome
once stream held f g out = feeding stream held (f.bytes ++ g.bytes) out

-- an event's first byte with no room for it, and then the rest of the event: its code is read as an indicator
pub refused-by-2-and-forgotten :
    ((stream : Stream) (held : List ℕ) (f g : Feed) (out : List ℕ)
    → not (within 1 1 (told_number (fed stream held f).answer.refusal)) ≡ true
    → not (within 1 1 (told_number (second stream held f g).answer.refusal)) ≡ true
    → not (within 1 1 (told_number (once stream held f g out).answer.refusal)) ≡ true
    → told_number (second stream held f g).answer.refusal ≡ told_number (once stream held f g out).answer.refusal)
    → ⊥
unfolding feeding cutting joined front packet_length length_by le_at le
refused-by-2-and-forgotten p =
    let e : ◌≡◌ {A = ℕ} 9 0 =
    p fresh blank (record { bytes = 0x04 ∷ []; out = [] }) (lent (0x0E ∷ 0x01 ∷ 0x07 ∷ [])) (replicate 16 0xDD) refl refl refl in
    omega arith

-- an event in two feeds leaves its first byte where it was held
pub bytes-behind-those-held-too :
    ((stream : Stream) (held : List ℕ) (f g : Feed) (out : List ℕ)
    → is_taken (fed stream held f) ≡ true
    → is_taken (second stream held f g) ≡ true
    → is_taken (once stream held f g out) ≡ true
    → (second stream held f g).held ≡ (once stream held f g out).held)
    → ⊥
unfolding feeding cutting joined front packet_length length_by le_at le
bytes-behind-those-held-too p =
    let e : ◌≡◌ {A = ℕ} 0x04 0xEE =
    ap (λ (l : List ℕ). get_or l 0 0) (p fresh blank (lent (0x04 ∷ [])) (lent (0x0E ∷ 0x01 ∷ 0x07 ∷ [])) (replicate 16 0xDD) refl refl refl) in
    omega arith

-- a bad indicator in the second feed
pub refusal-of-the-first-feed :
    ((stream : Stream) (held : List ℕ) (f g : Feed) (out : List ℕ)
    → is_taken (fed stream held f) ≡ true
    → is_taken (second stream held f g) ≡ true
    → is_taken (once stream held f g out) ≡ true
    → told_number (fed stream held f).answer.refusal ≡ told_number (once stream held f g out).answer.refusal)
    → ⊥
unfolding feeding cutting joined front packet_length length_by le_at le
refusal-of-the-first-feed p =
    let e : ◌≡◌ {A = ℕ} 0 9 = p fresh blank (lent event) (lent (0x09 ∷ [])) (replicate 16 0xDD) refl refl refl in
    omega arith
