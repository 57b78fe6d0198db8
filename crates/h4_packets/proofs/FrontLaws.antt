-- What stands at the front of bytes, case by case as the code finds it; and that bytes behind change no decision on the first packet.
use Prim.Native.Nat.{ℕ, ◌+◌, ◌-◌, ◌≤◌, ◌<◌}
use mathlib.Core.Path.{◌≡◌, refl, sym}
use mathlib.Core.Bool.{Bool, true, false}
use mathlib.Core.List.{List, [], ◌∷◌, ◌++◌}
use native.Mathlib.Omega.{arith}
use lib.ListN.{length, take, get_or, length-append, get_or-append}
use lib.Seq.{length-take-le, get_or-take}
use lib.Dec.{leb, eqb}
use borrow.Author.Tests.{lt-ltb, le-ltb, le-leb, lt-leb, leb-true, leb-false, eqb-true, eqb-false}
use Rattle.std.specs.Prelude.{None, Some, Ok, Err}
use Rattle.h4_packets.specs.Names.{undefined}
use Rattle.h4_packets.specs.Packet.{PacketLength, packet_length, header_size, payload_size}
use Rattle.h4_packets.specs.Front.{Front, front_by, front}
use Rattle.h4_packets.specs.declared.UndefinedIndicator.{UndefinedIndicator}
use Rattle.h4_packets.specs.declared.Lost.TheVariants.{ByIndicator, ByLength}
use Rattle.h4_packets.proofs.LengthLaws.{header-most, header-least, packet-empty, packet-undefined, packet-unknown, packet-known}

-- ---- by the packet's length

module _ (s : List ℕ) where
  told : (l : PacketLength) → l ≡ packet_length s → front_by l (length s) ≡ front s
  unfolding front
  told l e = rw e

  pub front-unnamed : (e : UndefinedIndicator) → Err e ≡ packet_length s → Err ByIndicator ≡ front s
  front-unnamed e = told (Err e)

  pub front-unknown : Ok None ≡ packet_length s → Ok None ≡ front s
  front-unknown = told (Ok None)

  module _ (n : ℕ) (e : Ok (Some n) ≡ packet_length s) where
    pub front_long : 1024 < n → Err ByLength ≡ front s
    front_long long = rw (lt-ltb 1024 n long) at (told (Ok (Some n)) e)

    pub front-part : n ≤ 1024 → length s < n → Ok None ≡ front s
    front-part fits short = rw (le-ltb 1024 n fits, lt-leb n (length s) short) at (told (Ok (Some n)) e)

    pub front-whole : n ≤ 1024 → n ≤ length s → Ok (Some n) ≡ front s
    front-whole fits all = rw (le-ltb 1024 n fits, le-leb n (length s) all) at (told (Ok (Some n)) e)

pub front-empty : (s : List ℕ) → length s ≡ 0 → Ok None ≡ front s
front-empty s e = front-unknown s (packet-empty s e)

-- ---- bytes behind

-- a decision on the first packet stands whatever follows, and a packet is whole by itself; where no decision is made, less than a packet is there
abbrev pub Stable : List ℕ → Front → Type 0
Stable s (Ok None) = length s < 1024
Stable s (Ok (Some n)) = (0 < n) × ((n ≤ length s) × (((t : List ℕ) → Ok (Some n) ≡ front (s ++ t)) × (Ok (Some n) ≡ front (take n s))))
Stable s (Err lost) = (t : List ℕ) → Err lost ≡ front (s ++ t)

by_order : (P : Type 0) (a b : ℕ) → (a ≤ b → P) → (b < a → P) → P
by_order P a b below above = go (leb a b) refl
  where
    go : (x : Bool) → leb a b ≡ x → P
    go true e = below (leb-true a b e)
    go false e = above (leb-false a b e)

longer : (s t : List ℕ) (n : ℕ) → n ≤ length s → n ≤ length (s ++ t)
longer s t n h = rw length-append (omega arith)

module _ (s : List ℕ) (some : 0 < length s) where
  abbrev i : ℕ
  i = get_or s 0 0

  abbrev h : ℕ
  h = header_size i

  abbrev p : ℕ
  p = payload_size i (get_or s (h - 2) 0) (get_or s (h - 1) 0)

  not-empty : (t : List ℕ) → length (s ++ t) ≡ 0 → ⊥
  not-empty t e = let k : 0 < length (s ++ t) = longer s t 1 some in omega arith

  first : (t : List ℕ) → i ≡ get_or (s ++ t) 0 0
  first t = sym (get_or-append s t 0 0 some)

  bad : h ≡ 0 → Stable s (front s)
  bad e =
      rw (← front-unnamed s (undefined i) (packet-undefined s (λ z. omega arith) i refl h refl e))
      (λ t. front-unnamed (s ++ t) (undefined i) (packet-undefined (s ++ t) (not-empty t) i (first t) h refl e))

  module _ (defined : h ≡ 0 → ⊥) where
    least : 3 ≤ h
    least = header-least i h refl defined

    short : length s < h → Stable s (front s)
    short k =
        let m = header-most i in
        rw (← front-unknown s (packet-unknown s (λ z. omega arith) i refl h refl defined k)) (omega arith)

    module _ (there : h ≤ length s) where
      known : Ok (Some (h + p)) ≡ packet_length s
      known = packet-known s (λ z. omega arith) i refl h refl defined there p refl

      known-behind : (t : List ℕ) → Ok (Some (h + p)) ≡ packet_length (s ++ t)
      known-behind t =
          let l = least in
          packet-known (s ++ t) (not-empty t) i (first t) h refl defined (longer s t h there) p
          (rw (get_or-append s t 0 (h - 2) (omega arith), get_or-append s t 0 (h - 1) (omega arith)))

      long : 1024 < h + p → Stable s (front s)
      long k = rw (← front_long s (h + p) known k) (λ t. front_long (s ++ t) (h + p) (known-behind t) k)

      part : h + p ≤ 1024 → length s < h + p → Stable s (front s)
      part fits k = rw (← front-part s (h + p) known fits k) (omega arith)

      alone : h + p ≤ 1024 → h + p ≤ length s → Ok (Some (h + p)) ≡ front (take (h + p) s)
      alone fits k =
          let u = take (h + p) s in
          let l : length u ≡ h + p = length-take-le (h + p) s k in
          let m = least in
          let e : Ok (Some (h + p)) ≡ packet_length u =
          packet-known u (λ z. omega arith) i (sym (get_or-take (h + p) s 0 0 (omega arith))) h refl defined (omega arith) p
          (rw (get_or-take (h + p) s (h - 2) 0 (omega arith), get_or-take (h + p) s (h - 1) 0 (omega arith))) in
          front-whole u (h + p) e fits (omega arith)

      whole : h + p ≤ 1024 → h + p ≤ length s → Stable s (front s)
      whole fits k =
          let l = least in
          rw (← front-whole s (h + p) known fits k) (
            omega arith,
            (k, ((λ t. front-whole (s ++ t) (h + p) (known-behind t) fits (longer s t (h + p) k)), alone fits k)),
          )

      measured : Stable s (front s)
      measured =
          by_order (Stable s (front s)) (h + p) 1024
          (λ fits. by_order (Stable s (front s)) (h + p) (length s) (whole fits) (part fits))
          long

    read : Stable s (front s)
    read = by_order (Stable s (front s)) h (length s) measured short

  stable-some : Stable s (front s)
  stable-some = go (eqb h 0) refl
    where
      go : (x : Bool) → eqb h 0 ≡ x → Stable s (front s)
      go true e = bad (eqb-true h 0 e)
      go false e = read (eqb-false h 0 e)

pub stable : (s : List ℕ) → Stable s (front s)
stable [] = rw (← front-unknown [] (packet-empty [] refl)) (omega arith)
stable (x ∷ s) = stable-some (x ∷ s) (omega arith)
