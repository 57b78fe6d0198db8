-- What the tests of a packet tell of its parts.
use Prim.Native.Nat.{ℕ, ◌+◌, ◌-◌, ◌/◌, ◌%◌, ◌≤◌, ◌<◌}
use mathlib.Core.Path.{◌≡◌, refl}
use mathlib.Core.Bool.{Bool, true, false, ◌&&◌}
use mathlib.Core.List.{List}
use native.Mathlib.Omega.{arith}
use lib.ListN.{length, get_or}
use lib.Dec.{leb, eqb}
use borrow.Author.Tests.{le-leb, lt-leb, leb-true, eq-eqb, ne_eqb}
use Rattle.bytes_base.specs.Choice.{pick}
use Rattle.bytes_base.specs.Bytes.{le_at}
use Rattle.h4_packets.specs.Numbers.{acl}
use Rattle.std.specs.Prelude.{Option, None, Some}
use Rattle.h4_acl.specs.Acl.{split, parts_of}
use Rattle.h4_acl.specs.declared.Acl.{Acl}

module _ (s : List ℕ) where
  pub no_header : length s < 5 → None ≡ parts_of s
  unfolding parts_of
  no_header h = rw (lt-leb 5 (length s) h)

  module _ (h : 5 ≤ length s) where
    pub no-acl : (get_or s 0 0 ≡ acl → ⊥) → None ≡ parts_of s
    unfolding parts_of
    no-acl k = rw (le-leb 5 (length s) h, ne_eqb (get_or s 0 0) acl k)

    module _ (k : get_or s 0 0 ≡ acl) (n : ℕ) (e : n ≡ le_at 2 s 3) where
      pub cut_short : length s - 5 < n → None ≡ parts_of s
      unfolding parts_of
      cut_short l =
          let far : length s < 5 + le_at 2 s 3 = omega arith in
          rw (le-leb 5 (length s) h, eq-eqb (get_or s 0 0) acl k, lt-leb (5 + le_at 2 s 3) (length s) far)

      pub parted : n ≤ length s - 5 → (word : ℕ) → word ≡ le_at 2 s 1 → Some (split (word % 4096) (word / 4096 % 4) 5 n) ≡ parts_of s
      unfolding parts_of
      parted l word w =
          let there : 5 + le_at 2 s 3 ≤ length s = omega arith in
          rw (le-leb 5 (length s) h, eq-eqb (get_or s 0 0) acl k, le-leb (5 + le_at 2 s 3) (length s) there, w, e)

-- where the data of a packet's parts ends
abbrev pub parts-end : Option Acl → ℕ
parts-end (Some p) = p.place.at + p.place.len
parts-end None = 0

-- it lies in the packet
pub parts-inside : (s : List ℕ) (p : Option Acl) → p ≡ parts_of s → parts-end p ≤ length s
unfolding parts_of
parts-inside s p e = rw e (go (leb 5 (length s)) (eqb (get_or s 0 0) acl) (leb (5 + le_at 2 s 3) (length s)) refl)
  where
    go : (x y z : Bool) → leb (5 + le_at 2 s 3) (length s) ≡ z
        → parts-end (pick (x && (y && z)) (Some (split (le_at 2 s 1 % 4096) (le_at 2 s 1 / 4096 % 4) 5 (le_at 2 s 3))) None) ≤ length s
    go true true true z = leb-true (5 + le_at 2 s 3) (length s) z
    go true true false z = omega arith
    go true false w z = omega arith
    go false y w z = omega arith
