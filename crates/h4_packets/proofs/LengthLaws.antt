-- The table of packet lengths, read as the code reads it: by the indicator, the header's size and the header's last two bytes.
use Prim.Native.Nat.{ℕ, ◌+◌, ◌*◌, ◌-◌, ◌%◌, ◌≤◌, ◌<◌}
use mathlib.Core.Path.{◌≡◌, refl, sym, ap, ◌∙◌}
use mathlib.Core.Bool.{Bool, true, false}
use mathlib.Core.List.{List, [], ◌∷◌}
use native.Mathlib.Omega.{arith}
use lib.ListN.{length, get_or}
use lib.Dec.{leb, eqb}
use borrow.Author.Tests.{le-leb, lt-leb, leb-true, eq-eqb, ne_eqb, eqb-true, eqb-false}
use Rattle.bytes_base.specs.Choice.{pick}
use Rattle.bytes_base.specs.Bytes.{le_at}
use Rattle.bytes_base.proofs.ByteLaws.{le_at-two}
use Rattle.h4_packets.specs.Numbers.{command, acl, sco, event, iso}
use Rattle.std.specs.Prelude.{None, Some, Ok, Err}
use Rattle.h4_packets.specs.Names.{code, undefined, named}
use Rattle.h4_packets.specs.declared.Indicator.{Indicator}
use Rattle.h4_packets.specs.declared.UndefinedIndicator.{UndefinedIndicator}
use Rattle.h4_packets.specs.Packet.{PacketLength, told, length_by, packet_length, header_size, payload_size}

-- ---- by the indicator

equal-or : (P : ℕ → Type 0) (k i : ℕ) → P k → ((i ≡ k → ⊥) → P i) → P i
equal-or P k i same other = go (eqb i k) refl
  where
    go : (b : Bool) → eqb i k ≡ b → P i
    go true e = rw (eqb-true i k e) same
    go false e = other (eqb-false i k e)

-- one of the five, or none of them
by-indicator : (P : ℕ → Type 0) → P command → P acl → P sco → P event → P iso
    → ((i : ℕ) → (i ≡ command → ⊥) → (i ≡ acl → ⊥) → (i ≡ sco → ⊥) → (i ≡ event → ⊥) → (i ≡ iso → ⊥) → P i)
    → (i : ℕ) → P i
by-indicator P p₁ p₂ p₃ p₄ p₅ other i =
    equal-or P command i p₁
    (λ n₁. equal-or P acl i p₂
    (λ n₂. equal-or P sco i p₃
    (λ n₃. equal-or P event i p₄
    (λ n₄. equal-or P iso i p₅
    (λ n₅. other i n₁ n₂ n₃ n₄ n₅)))))

pub header-none : (i : ℕ) → (i ≡ command → ⊥) → (i ≡ acl → ⊥) → (i ≡ sco → ⊥) → (i ≡ event → ⊥) → (i ≡ iso → ⊥) → 0 ≡ header_size i
unfolding header_size
header-none i n₁ n₂ n₃ n₄ n₅ = rw (ne_eqb i 1 n₁, ne_eqb i 2 n₂, ne_eqb i 3 n₃, ne_eqb i 4 n₄, ne_eqb i 5 n₅)

-- the name of an indicator is that of its byte
pub named-ok : (b : ℕ) (i : Indicator) → Ok i ≡ named b → code i ≡ b
named-ok =
    by-indicator (λ b. (i : Indicator) → Ok i ≡ named b → code i ≡ b) (λ i q. cc) (λ i q. cc) (λ i q. cc) (λ i q. cc) (λ i q. cc)
    (λ b n₁ n₂ n₃ n₄ n₅ i q. let r = rw (ne_eqb b 1 n₁, ne_eqb b 2 n₂, ne_eqb b 3 n₃, ne_eqb b 4 n₄, ne_eqb b 5 n₅) at q in absurd (cc))

-- a byte without a name has no header
pub named-err : (b : ℕ) (e : UndefinedIndicator) → Err e ≡ named b → (0 ≡ header_size b) × (e ≡ undefined b)
named-err =
    by-indicator (λ b. (e : UndefinedIndicator) → Err e ≡ named b → (0 ≡ header_size b) × (e ≡ undefined b))
    (λ e q. absurd (cc)) (λ e q. absurd (cc)) (λ e q. absurd (cc)) (λ e q. absurd (cc)) (λ e q. absurd (cc))
    (λ b n₁ n₂ n₃ n₄ n₅ e q.
    let r = rw (ne_eqb b 1 n₁, ne_eqb b 2 n₂, ne_eqb b 3 n₃, ne_eqb b 4 n₄, ne_eqb b 5 n₅) at q in
    (header-none b n₁ n₂ n₃ n₄ n₅, cc))

-- and its payload has as many bytes as the header's last one tells
pub named-err-payload : (b : ℕ) (e : UndefinedIndicator) → Err e ≡ named b → (before last : ℕ) → last ≡ payload_size b before last
unfolding payload_size
named-err-payload =
    by-indicator (λ b. (e : UndefinedIndicator) → Err e ≡ named b → (before last : ℕ) → last ≡ payload_size b before last)
    (λ e q. absurd (cc)) (λ e q. absurd (cc)) (λ e q. absurd (cc)) (λ e q. absurd (cc)) (λ e q. absurd (cc))
    (λ b n₁ n₂ n₃ n₄ n₅ e q before last. rw (ne_eqb b 2 n₂, ne_eqb b 5 n₅))

-- a header has 3 to 5 bytes
pub header-most : (i : ℕ) → header_size i ≤ 5
unfolding header_size
header-most =
    by-indicator (λ i. header_size i ≤ 5) (omega arith) (omega arith) (omega arith) (omega arith) (omega arith)
    (λ i n₁ n₂ n₃ n₄ n₅. rw (← header-none i n₁ n₂ n₃ n₄ n₅) (omega arith))

pub header-least : (i h : ℕ) → h ≡ header_size i → (h ≡ 0 → ⊥) → 3 ≤ h
unfolding header_size
header-least i h e n = rw e (least i (rw e at n))
  where
    least : (i : ℕ) → (header_size i ≡ 0 → ⊥) → 3 ≤ header_size i
    least =
        by-indicator (λ i. (header_size i ≡ 0 → ⊥) → 3 ≤ header_size i)
        (λ n. omega arith)
        (λ n. omega arith)
        (λ n. omega arith)
        (λ n. omega arith)
        (λ n. omega arith)
        (λ i n₁ n₂ n₃ n₄ n₅ n. absurd (n (sym (header-none i n₁ n₂ n₃ n₄ n₅))))

-- ---- the length

-- two bytes of length end the header
told-two : (s : List ℕ) (f : ℕ → ℕ) → told 5 (f (le_at 2 s 3)) s ≡ told 5 (f (get_or s 3 0 + 256 * get_or s 4 0)) s
told-two s f = go (leb 5 (length s)) refl
  where
    go : (b : Bool) → leb 5 (length s) ≡ b
        → ◌≡◌ {A = PacketLength} (pick b (Ok (Some (5 + f (le_at 2 s 3)))) (Ok None)) (pick b (Ok (Some (5 + f (get_or s 3 0 + 256 * get_or s 4 0)))) (Ok None))
    go true e = ap (λ (n : ℕ). Ok (Some (5 + f n))) (le_at-two s 3 (leb-true 5 (length s) e))
    go false e = refl

abbrev length_is : ℕ → List ℕ → PacketLength
length_is i s =
    pick (eqb (header_size i) 0) (Err (undefined i))
    (told (header_size i) (payload_size i (get_or s (header_size i - 2) 0) (get_or s (header_size i - 1) 0)) s)

length-is : (s : List ℕ) (i : ℕ) → length_by i s ≡ length_is i s
unfolding length_by header_size payload_size
length-is s =
    by-indicator (λ i. length_by i s ≡ length_is i s) refl (told-two s (λ n. n)) refl refl (told-two s (λ n. n % 0x4000))
    (λ i n₁ n₂ n₃ n₄ n₅. rw (ne_eqb i 1 n₁, ne_eqb i 2 n₂, ne_eqb i 3 n₃, ne_eqb i 4 n₄, ne_eqb i 5 n₅))

packet-is : (s : List ℕ) → (length s ≡ 0 → ⊥) → packet_length s ≡ length_is (get_or s 0 0) s
unfolding packet_length
packet-is [] some = absurd (some refl)
packet-is (i ∷ s) some = length-is (i ∷ s) i

pub packet-empty : (s : List ℕ) → length s ≡ 0 → Ok None ≡ packet_length s
unfolding packet_length
packet-empty [] e = refl
packet-empty (i ∷ s) e = absurd (omega arith)

module _ (s : List ℕ) (some : length s ≡ 0 → ⊥) (i : ℕ) (is : i ≡ get_or s 0 0) (h : ℕ) (is-h : h ≡ header_size i) where
  pub packet-undefined : h ≡ 0 → Err (undefined i) ≡ packet_length s
  packet-undefined e =
      let z : header_size i ≡ 0 = sym is-h ∙ e in
      rw (packet-is s some, ← is, eq-eqb (header_size i) 0 z)

  module _ (defined : h ≡ 0 → ⊥) where
    here : packet_length s ≡ told h (payload_size i (get_or s (h - 2) 0) (get_or s (h - 1) 0)) s
    here = rw (packet-is s some, ← is, ← is-h, ne_eqb h 0 defined)

    pub packet-unknown : length s < h → Ok None ≡ packet_length s
    packet-unknown short = rw (here, lt-leb h (length s) short)

    pub packet-known : h ≤ length s → (p : ℕ) → p ≡ payload_size i (get_or s (h - 2) 0) (get_or s (h - 1) 0) → Ok (Some (h + p)) ≡ packet_length s
    packet-known there p e = rw (here, le-leb h (length s) there, e)

-- ---- the length, from the name of the first byte

module _ (s : List ℕ) (some : length s ≡ 0 → ⊥) (b : ℕ) (is : b ≡ get_or s 0 0) where
  pub packet-unnamed : (e : UndefinedIndicator) → Err e ≡ named b → Err e ≡ packet_length s
  packet-unnamed e q =
      let k = named-err b e q in
      rw k.1 (packet-undefined s some b is 0 k.0 refl)

  module _ (i : Indicator) (q : Ok i ≡ named b) (h : ℕ) (is-h : h ≡ header_size (code i)) (least : 3 ≤ h) where
    header : h ≡ header_size b
    header = is-h ∙ ap header_size (named-ok b i q)

    pub packet-short : length s < h → Ok None ≡ packet_length s
    packet-short = packet-unknown s some b is h header (λ z. omega arith)

    pub packet-told : h ≤ length s → (before last p : ℕ) → before ≡ get_or s (h - 2) 0 → last ≡ get_or s (h - 1) 0
        → p ≡ payload_size (code i) before last → Ok (Some (h + p)) ≡ packet_length s
    packet-told there before last p eb el ep =
        packet-known s some b is h header (λ z. omega arith) there p (ep ∙ rw (named-ok b i q, eb, el))
