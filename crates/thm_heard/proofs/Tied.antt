-- What the calls say is there is what the state and the store have: the link, its handle, the bytes held of a frame.
use Prim.Native.Nat.{ℕ, zero, suc, ◌+◌, ◌≤◌}
use mathlib.Core.Path.{◌≡◌, refl, sym, ap, ◌∙◌}
use mathlib.Core.Bool.{Bool, true, false, not, ◌&&◌, ◌||◌}
use mathlib.Core.List.{List, [], ◌∷◌, ◌++◌}
use native.Mathlib.Omega.{arith}
use lib.ListN.{length, take, drop, length-append}
use lib.Seq.{take-take, take-add, take-length, drop-drop}
use lib.Dec.{eqb, leb}
use borrow.Author.Tests.{leb-true}
use Rattle.bytes_base.specs.Choice.{pick}
use Rattle.bytes_base.specs.Bytes.{le}
use Rattle.bytes_base.specs.Splice.{splice}
use Rattle.bytes_base.proofs.ByteLaws.{le_at-in}
use Rattle.bytes_base.proofs.TestLaws.{both}
use Rattle.lists.specs.Blocks.{bytes}
use Rattle.lists.proofs.BlockLaws.{bytes_below, bytes-in}
use Rattle.state_places.specs.Sizes.{store_size, held_at, frame_size}
use Rattle.script_rules.specs.World.{Held}
use Rattle.link_rules.specs.Payload.{payload}
use Rattle.link_rules.specs.Fragment as rules
use Rattle.thm_wire.specs.Wire.{length_of, channel_of}
use Rattle.thm_heard.specs.Heard.{Air, silence, link, dropped, joined, whole, payload_of}
use Rattle.thm_heard.proofs.Keeps.{Bears, Keeps}

pub record Linked (handle : ℕ) (partial : List ℕ) (h : Held) : Type 0 where
  pub present : h.state.bearer.present ≡ true
  pub named : h.state.bearer.link.handle ≡ handle
  pub held : h.state.bearer.held ≡ length partial
  pub there : bytes h.store held_at (length partial) ≡ partial

abbrev pub Tied : Air → Held → Type 0
Tied silence h = h.state.bearer.present ≡ false
Tied (link handle partial) h = Linked handle partial h

-- work that leaves all of it
pub tied-keeps : (a : Air) {h g : Held} → Keeps h g → Tied a h → Tied a g
tied-keeps silence k t = k.bears.present ∙ t
tied-keeps (link handle partial) k t =
    record {
      present = k.bears.present ∙ t.present;
      named = k.bears.handle ∙ t.named;
      held = k.bears.held ∙ t.held;
      there = ap (take (length partial)) k.above ∙ t.there;
    }

-- where nothing is held the bytes of the store do not matter
pub linked-bears : {handle : ℕ} {h g : Held} → Bears h g → Linked handle [] h → Linked handle [] g
linked-bears b t = record { present = b.present ∙ t.present; named = b.handle ∙ t.named; held = b.held ∙ t.held; there = refl }

-- ---- a fragment

-- bytes behind those held
held_on : (s partial piece : List ℕ) → length s ≡ store_size → length partial + length piece ≤ frame_size → bytes s held_at (length partial) ≡ partial
    → bytes (splice s (held_at + length partial) piece 0 (length piece)) held_at (length partial + length piece) ≡ partial ++ piece
held_on s partial piece e room t =
    let n = length partial in
    let m = length piece in
    let r = splice s (held_at + n) piece 0 m in
    let a : take n (drop held_at r) ≡ partial = bytes_below s (held_at + n) piece 0 m held_at n (omega arith) ∙ t in
    let z : held_at + n ≡ held_at + n + 0 = omega arith in
    let b : take m (drop n (drop held_at r)) ≡ piece =
    ap (take m) (drop-drop n held_at r) ∙ ap (λ (k : ℕ). bytes r k m) z ∙ bytes-in s (held_at + n) piece 0 m 0 m (omega (arith, e, room)) (omega arith) (omega arith) ∙ take-length piece in
    take-add n m (drop held_at r) ∙ ap (λ (l : List ℕ). l ++ take m (drop n (drop held_at r))) a ∙ ap (λ (l : List ℕ). partial ++ l) b

module _ {handle : ℕ} {partial : List ℕ} {h : Held} (t : Linked handle partial h) (start : Bool) where
  -- dropped by the state where the calls say so
  pub dropped-is : rules.dropped h.state.bearer start ≡ dropped partial start
  dropped-is =
      ap (λ (p : Bool). not p || (not start && eqb h.state.bearer.held 0)) t.present
      ∙ ap (λ (n : ℕ). not start && eqb n 0) t.held

  -- its bytes are held as the calls say
  pub linked-gathered : (piece : List ℕ) → length h.store ≡ store_size → rules.held_before h.state.bearer start + length piece ≤ frame_size
      → Linked handle (joined partial start piece) (rules.gathered h start piece)
  unfolding rules.gathered
  linked-gathered piece e room = go start room
    where
      go : (x : Bool) → pick x 0 h.state.bearer.held + length piece ≤ frame_size
          → Linked handle (joined partial x piece)
          (record {
            state = rules.with_held h.state (pick x 0 h.state.bearer.held + length piece);
            store = splice h.store (held_at + pick x 0 h.state.bearer.held) piece 0 (length piece);
          })
      go true r =
          let z : length piece ≡ 0 + length piece = omega arith in
          record {
            present = t.present;
            named = t.named;
            held = omega arith;
            there = ap (bytes (splice h.store held_at piece 0 (length piece)) held_at) z ∙ held_on h.store [] piece e (omega (arith, r)) refl;
          }
      go false r =
          record {
            present = t.present;
            named = t.named;
            held = omega (arith, t.held, length-append partial piece);
            there =
                ap (λ (n : ℕ). bytes (splice h.store (held_at + n) piece 0 (length piece)) held_at (length (partial ++ piece))) t.held
                ∙ ap (λ (n : ℕ). bytes (splice h.store (held_at + length partial) piece 0 (length piece)) held_at n) (length-append partial piece)
                ∙ held_on h.store partial piece e (omega (arith, r, t.held)) t.there;
          }

-- ---- a frame

-- within a front of a list
inner : (a m n : ℕ) (l : List ℕ) → a + m ≤ n → take m (drop a (take n l)) ≡ take m (drop a l)
inner zero m n l h = take-take m n l (omega (arith, h))
inner (suc a) m zero l h = absurd (omega (arith, h))
inner (suc a) m (suc n) [] h = refl
inner (suc a) m (suc n) (x ∷ l) h = inner a m n l (omega (arith, h))

module _ {handle : ℕ} {b : List ℕ} {h : Held} (t : Linked handle b h) (e : length h.store ≡ store_size) where
  read : (a m : ℕ) → a + m ≤ length b → bytes h.store (held_at + a) m ≡ take m (drop a b)
  read a m k =
      ap (take m) (sym (drop-drop a held_at h.store))
      ∙ sym (inner a m (length b) (drop held_at h.store) k)
      ∙ ap (λ (l : List ℕ). take m (drop a l)) t.there

  pub length-is : 4 ≤ length b → rules.frame_length h ≡ length_of b
  length-is k = le_at-in 2 h.store held_at (omega (arith, e)) ∙ ap le (read 0 2 (omega (arith, k)))

  pub channel-is : 4 ≤ length b → rules.frame_channel h ≡ channel_of b
  channel-is k = le_at-in 2 h.store (held_at + 2) (omega (arith, e)) ∙ ap le (read 2 2 (omega (arith, k)))

  pub whole_is : rules.whole h ≡ whole b
  whole_is = ap (λ (n : ℕ). leb 4 n && leb (4 + rules.frame_length h) n) t.held ∙ go (leb 4 (length b)) refl
    where
      go : (x : Bool) → leb 4 (length b) ≡ x → (x && leb (4 + rules.frame_length h) (length b)) ≡ (x && leb (4 + length_of b) (length b))
      go true k = ap (λ (n : ℕ). leb (4 + n) (length b)) (length-is (leb-true 4 (length b) k))
      go false k = refl

  module _ (k : whole b ≡ true) where
    pub long : 4 ≤ length b
    long = leb-true 4 (length b) (both (leb 4 (length b)) (leb (4 + length_of b) (length b)) k).0

    pub payload-is : payload h (rules.frame_length h) ≡ payload_of b
    payload-is =
        ap (payload h) (length-is long)
        ∙ read 4 (length_of b) (leb-true (4 + length_of b) (length b) (both (leb 4 (length b)) (leb (4 + length_of b) (length b)) k).1)
