-- What the number that bytes stand for has to do with std's word for it, and with a place in a slice.
use Rattle.std.specs.Prelude.{ℕ, zero, suc, ◌/◌, ◌^◌, ◌<◌, get_or, ◌+◌, ◌≤◌, ◌≡◌, List, [], ◌∷◌, Some, None, Bool, true, false, length, take, drop, leb}
use Rattle.std.specs.Int.{from_le_bytes, to_le_bytes, w16, w32, w64}
use Rattle.std.proofs.Common.{refl, sym, ap, ◌∙◌, arith}
use borrow.Author.Tests.{leb-true, leb-false}
use lib.Seq.{length-take-le}
use lib.ListN.{length-drop}
use Rattle.std.proofs.lemmas.Nat.{le_bytes_8}
use Rattle.bytes_base.specs.Choice.{pick}
use Rattle.bytes_base.specs.Bytes.{le, le_bytes, le_at}
use Rattle.bytes_base.proofs.ByteLaws.{le_at-in, le_at-off, length-le_bytes, le-le_bytes}

pub le-two : (bs : List ℕ) → length bs ≡ 2 → from_le_bytes w16 bs ≡ le bs
unfolding le
le-two [] p = absurd (omega arith)
le-two (a ∷ []) p = absurd (omega arith)
le-two (a ∷ b ∷ []) p = omega arith
le-two (a ∷ b ∷ x ∷ s) p = absurd (omega arith)

pub le-four : (bs : List ℕ) → length bs ≡ 4 → from_le_bytes w32 bs ≡ le bs
unfolding le
le-four [] p = absurd (omega arith)
le-four (a ∷ []) p = absurd (omega arith)
le-four (a ∷ b ∷ []) p = absurd (omega arith)
le-four (a ∷ b ∷ c ∷ []) p = absurd (omega arith)
le-four (a ∷ b ∷ c ∷ d ∷ []) p = omega arith
le-four (a ∷ b ∷ c ∷ d ∷ x ∷ s) p = absurd (omega arith)

pub le-eight : (bs : List ℕ) → length bs ≡ 8 → from_le_bytes w64 bs ≡ le bs
unfolding le
le-eight [] p = absurd (omega arith)
le-eight (a ∷ []) p = absurd (omega arith)
le-eight (a ∷ b ∷ []) p = absurd (omega arith)
le-eight (a ∷ b ∷ c ∷ []) p = absurd (omega arith)
le-eight (a ∷ b ∷ c ∷ d ∷ []) p = absurd (omega arith)
le-eight (a ∷ b ∷ c ∷ d ∷ e ∷ []) p = absurd (omega arith)
le-eight (a ∷ b ∷ c ∷ d ∷ e ∷ f ∷ []) p = absurd (omega arith)
le-eight (a ∷ b ∷ c ∷ d ∷ e ∷ f ∷ g ∷ []) p = absurd (omega arith)
le-eight (a ∷ b ∷ c ∷ d ∷ e ∷ f ∷ g ∷ h ∷ []) p = omega arith
le-eight (a ∷ b ∷ c ∷ d ∷ e ∷ f ∷ g ∷ h ∷ x ∷ s) p = absurd (omega arith)

-- ---- the bytes of a number, by std's word for them

small-byte : (n v i : ℕ) → get_or (le_bytes n v) i 0 < 256
unfolding le_bytes
small-byte zero v i = omega arith
small-byte (suc n) v zero = omega arith
small-byte (suc n) v (suc i) = small-byte n (v / 256) i

pub bytes-eight : (v : ℕ) → v < 2 ^ 64 → to_le_bytes w64 v ≡ le_bytes 8 v
bytes-eight v h =
    let e : v ≡ from_le_bytes w64 (le_bytes 8 v) = sym (le-eight (le_bytes 8 v) (length-le_bytes 8 v) ∙ le-le_bytes 8 v h) in
    le_bytes_8 (le_bytes 8 v) v (length-le_bytes 8 v) (small-byte 8 v) e

-- the w bytes of s from at on, or none where they are not there
module _ (w : ℕ) (s : List ℕ) (at : ℕ) where
  pub there : (bs : List ℕ) → Some bs ≡ pick (leb (at + w) (length s)) (Some (take w (drop at s))) None → (length bs ≡ w) × (le bs ≡ le_at w s at)
  there bs e = go (leb (at + w) (length s)) refl e
    where
      go : (t : Bool) → leb (at + w) (length s) ≡ t → Some bs ≡ pick t (Some (take w (drop at s))) None → (length bs ≡ w) × (le bs ≡ le_at w s at)
      go true q b =
          let h : at + w ≤ length s = leb-true (at + w) (length s) q in
          let z : bs ≡ take w (drop at s) = cc in
          (ap length z ∙ length-take-le w (drop at s) (rw length-drop (omega arith)), ap le z ∙ sym (le_at-in w s at h))
      go false q b = absurd cc

  pub not-there : None ≡ pick (leb (at + w) (length s)) (Some (take w (drop at s))) None → 0 ≡ le_at w s at
  not-there e = go (leb (at + w) (length s)) refl e
    where
      go : (t : Bool) → leb (at + w) (length s) ≡ t → None ≡ pick t (Some (take w (drop at s))) None → 0 ≡ le_at w s at
      go true q b = absurd cc
      go false q b = sym (le_at-off w s at (leb-false (at + w) (length s) q))
