-- The values of a queue's entries: each in a block of the lent store, at a place that follows from its entry's position.
use Rattle.std.specs.Prelude.{ℕ, suc, ◌+◌, ◌*◌, ◌-◌, Bool, List, [], ◌∷◌, take, drop, ltb, leb}
use Rattle.bytes_base.specs.Choice.{pick}
use Rattle.bytes_base.specs.Splice.{splice, moved}
use Rattle.lists.specs.Queue.{all}

-- a part of the store: `most` blocks of `size` bytes, the first at `base`
pub record Part : Type 0 where
  pub base : ℕ
  pub size : ℕ
  pub most : ℕ

-- where block i stands
abbrev pub place : Part → ℕ → ℕ
place p i = p.base + p.size * i

-- n bytes of s from at on
abbrev pub bytes : List ℕ → ℕ → ℕ → List ℕ
bytes s at n = take n (drop at s)

-- an entry, and the bytes of its value
pub record Valued (A : Type 0) : Type 0 where
  pub entry : A
  pub value : List ℕ

-- the entries l with their values, which stand in the blocks from i on; `len` tells an entry's number of bytes
unfoldable pub valued : {A : Type 0} → (A → ℕ) → Part → List ℕ → ℕ → List A → List (Valued A)
valued len p s i [] = []
valued len p s i (x ∷ l) = record { entry = x; value = bytes s (place p i) (len x) } ∷ valued len p s (suc i) l

-- whether the value of each fits a block
abbrev pub fitting : {A : Type 0} → (A → ℕ) → ℕ → List A → Bool
fitting len size l = all (λ x. leb (len x) size) l

-- the store, every block but the first one place down; the last stays
unfoldable pub lowered : Part → List ℕ → List ℕ
lowered p s = moved s (place p 0) (place p 1) (p.size * (p.most - 1))

-- the store, with n bytes of src from `from` on as the value of an entry that is pushed behind `count` others
unfoldable pub stored : Part → ℕ → List ℕ → ℕ → ℕ → List ℕ → List ℕ
stored p count src from n s =
    pick (ltb count p.most)
    (splice s (place p count) src from n)
    (splice (lowered p s) (place p (p.most - 1)) src from n)
