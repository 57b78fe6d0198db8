-- Keys tell addresses apart; and what each turn of a search asks.
use Prim.Native.Nat.{ℕ, suc, ◌+◌, ◌*◌, ◌/◌, ◌%◌, ◌≤◌, ◌<◌}
use mathlib.Core.Path.{◌≡◌, refl, ◌∙◌}
use mathlib.Core.Bool.{Bool, true, false}
use mathlib.Core.List.{List}
use native.Mathlib.Omega.{arith}
use lib.ListN.{length, take, drop, get_or}
use lib.Dec.{leb}
use borrow.Author.Tests.{eq-eqb, ne_eqb, le-leb, lt-leb}
use Rattle.bytes_base.specs.Choice.{pick}
use Rattle.lists.proofs.ScanLaws.{rest-cons, rest-nil}
use Rattle.state.specs.declared.Address.{Address}
use Rattle.adv_reports.specs.Key.{low_part, high_part, random_part, key, address_of, seek, among}

-- ---- a number and its address

-- an address as the code has it
pub record Bounded (a : Address) : Type 0 where
  pub low : a.low < low_part
  pub high : a.high < high_part

pub address-key : (a : Address) → Bounded a → address_of (key a) ≡ a
unfolding key address_of
address-key a b = go a.random refl
  where
    go : (r : Bool) → a.random ≡ r → record { low = (a.low + low_part * a.high + pick a.random random_part 0) % low_part; high = (a.low + low_part * a.high + pick a.random random_part 0) / low_part % high_part; random = leb random_part (a.low + low_part * a.high + pick a.random random_part 0) } ≡ a
    go true e =
        let q : (a.low + low_part * a.high + random_part) / low_part ≡ a.high + high_part = omega (arith, b.low) in
        let l : (a.low + low_part * a.high + random_part) % low_part ≡ a.low = omega (arith, b.low) in
        let h : (a.high + high_part) % high_part ≡ a.high = omega (arith, b.high) in
        let r : leb random_part (a.low + low_part * a.high + random_part) ≡ true = le-leb random_part (a.low + low_part * a.high + random_part) (omega arith) in
        rw (e, l, q, h, r, ← e)
    go false e =
        let q : (a.low + low_part * a.high + 0) / low_part ≡ a.high = omega (arith, b.low) in
        let l : (a.low + low_part * a.high + 0) % low_part ≡ a.low = omega (arith, b.low) in
        let h : a.high % high_part ≡ a.high = omega (arith, b.high) in
        let r : leb random_part (a.low + low_part * a.high + 0) ≡ false = lt-leb random_part (a.low + low_part * a.high + 0) (omega (arith, b.low, b.high)) in
        rw (e, l, q, h, r, ← e)

-- ---- a search for a number

module _ (k : ℕ) (l : List ℕ) (n i : ℕ) (m : n ≤ length l) where
  pub seek-here : i < n → get_or l i 0 ≡ k → i + seek k (drop i (take n l)) ≡ i
  unfolding seek
  seek-here h e =
      let q : seek k (drop i (take n l)) ≡ 0 = rw (rest-cons l n i 0 h m, eq-eqb (get_or l i 0) k e) in
      omega arith

  pub seek-on : i < n → (get_or l i 0 ≡ k → ⊥) → i + seek k (drop i (take n l)) ≡ i + 1 + seek k (drop (i + 1) (take n l))
  unfolding seek
  seek-on h e =
      let q : seek k (drop i (take n l)) ≡ suc (seek k (drop (i + 1) (take n l))) = rw (rest-cons l n i 0 h m, ne_eqb (get_or l i 0) k e) in
      omega arith

  pub seek-end : n ≤ i → i + seek k (drop i (take n l)) ≡ i
  unfolding seek
  seek-end h = let q : seek k (drop i (take n l)) ≡ 0 = rw (rest-nil l n i h m) in omega arith

  pub among-here : i < n → get_or l i 0 ≡ k → among k (drop i (take n l)) ≡ true
  unfolding among
  among-here h e = rw (rest-cons l n i 0 h m, eq-eqb (get_or l i 0) k e)

  pub among-on : i < n → (get_or l i 0 ≡ k → ⊥) → among k (drop i (take n l)) ≡ among k (drop (i + 1) (take n l))
  unfolding among
  among-on h e = rw (rest-cons l n i 0 h m, ne_eqb (get_or l i 0) k e)

  pub among-end : n ≤ i → among k (drop i (take n l)) ≡ false
  unfolding among
  among-end h = rw (rest-nil l n i h m)
