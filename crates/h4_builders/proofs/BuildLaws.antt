-- What a builder answers, from the test of its packet and from what was written.
use Prim.Native.Nat.{ℕ, ◌+◌, ◌*◌, ◌-◌, ◌/◌, ◌%◌, ◌≤◌, ◌<◌}
use mathlib.Core.Path.{◌≡◌, refl, sym, ap, ◌∙◌}
use mathlib.Core.Bool.{Bool, true, false}
use mathlib.Core.List.{List, [], ◌∷◌, ◌++◌}
use native.Mathlib.Nat.{zero-add}
use native.Mathlib.Omega.{arith}
use lib.ListN.{length, take, drop}
use lib.Dec.{leb}
use borrow.Author.Tests.{le-leb, lt-leb}
use Rattle.std.specs.Prelude.{Result, Ok, Err, ⊤}
use Rattle.bytes_base.specs.Choice.{pick}
use Rattle.bytes_base.specs.Bytes.{le_bytes}
use Rattle.bytes_base.proofs.TestLaws.{fits-less}
use Rattle.h4_packets.specs.Numbers.{acl, event}
use Rattle.h4_packets.specs.declared.Refusal.{Refusal}
use Rattle.h4_packets.specs.declared.Refusal.TheVariants.{ShortOutput, LongPacket}
use Rattle.h4_builders.specs.Packet.{acl_word, acl_packet, event_header, event_packet}
use Rattle.h4_builders.specs.Events.{number_bytes, pair_bytes, completed_packets}
use Rattle.h4_builders.specs.Build.{built, refusing, build, build_acl, build_event, written_at}
use Rattle.h4_builders.proofs.Pieces.{onward, length_pairs, pairs_are}

-- ---- the test

module _ (x : Bool) (room size n most : ℕ) (e : x ≡ leb size room) where
  pub gate-short : x ≡ false → Err ShortOutput ≡ refusing (leb size room) (leb n most)
  unfolding refusing
  gate-short h = rw (sym e ∙ h)

  pub gate-long : x ≡ true → most < n → Err LongPacket ≡ refusing (leb size room) (leb n most)
  unfolding refusing
  gate-long h l = rw (sym e ∙ h, lt-leb n most l)

  pub gate-passed : x ≡ true → n ≤ most → Ok (tt {0}) ≡ refusing (leb size room) (leb n most)
  unfolding refusing
  gate-passed h l = rw (sym e ∙ h, le-leb n most l)

-- ---- the answer

module _ (out packet : List ℕ) (short : Bool) (size : ℕ) (l : length packet ≡ size) where
  pub refused : (why : Refusal) → Err why ≡ refusing (leb size (length out)) short → built out (Err why) ≡ build out short packet
  unfolding refusing build
  refused why e = rw l (go (leb size (length out)) short e)
    where
      go : (x y : Bool) → Err why ≡ pick x (pick y (Ok (tt {0})) (Err LongPacket)) (Err ShortOutput)
          → built out (Err why) ≡ pick x (pick y (built (packet ++ drop size out) (Ok size)) (built out (Err LongPacket))) (built out (Err ShortOutput))
      go true true q = absurd (cc)
      go true false q = let e : why ≡ LongPacket = cc in rw e
      go false y q = let e : why ≡ ShortOutput = cc in rw e

  pub too_short : length out < size → built out (Err ShortOutput) ≡ build out short packet
  unfolding build
  too_short h = rw (l, lt-leb size (length out) h)

  pub whole : size ≤ length out → short ≡ true → (o : List ℕ) → o ≡ written_at out 0 packet → (len : ℕ) → len ≡ size → built o (Ok len) ≡ build out short packet
  unfolding build
  whole fits s o eo len en = rw (eo, en, l, le-leb size (length out) fits, s, zero-add size)

-- ---- an event

-- the test of the parameters, as the header's writer makes it
pub begin-test : (r : Result ⊤ Refusal) (room head n : ℕ) → head ≤ 4 → r ≡ refusing (leb (n + (head + 3)) room) (leb n (255 - head))
    → r ≡ refusing (leb (n + head + 3) room) (leb (n + head) 255)
begin-test r room head n h e =
    let a : n + (head + 3) ≡ n + head + 3 = omega arith in
    e ∙ rw (a, fits-less 255 n head (omega arith))

pub header-is : (code m : ℕ) → m ≤ 255 → event ∷ code ∷ m ∷ [] ≡ event_header code m
unfolding event_header le_bytes
header-is code m h = let e : m ≡ m % 256 = omega arith in ap (λ (b : ℕ). event ∷ (code ∷ (b ∷ []))) e

size-event : (code : ℕ) (params : List ℕ) (m : ℕ) → length params ≡ m → length (event_packet code params) ≡ m + 3
unfolding event_packet event_header le_bytes
size-event code params m e = omega (arith, e)

module _ (out params : List ℕ) (code m : ℕ) (size : length params ≡ m) where
  pub event-refused : (why : Refusal) → Err why ≡ refusing (leb (m + 3) (length out)) (leb m 255) → (o : List ℕ) → o ≡ out
      → (r : Result ℕ Refusal) → r ≡ Err why → built o r ≡ build_event out code params
  event-refused why e o eo r er =
      rw (eo, er) (refused out (event_packet code params) (leb (length params) 255) (m + 3) (size-event code params m size) why (e ∙ rw size))

  -- where the parameters stand behind the header
  pub event-built : m + 3 ≤ length out → m ≤ 255 → (o₁ : List ℕ) → o₁ ≡ written_at out 0 (event_header code m)
      → (o : List ℕ) → o ≡ written_at o₁ 3 params → (len : ℕ) → len ≡ m + 3 → built o (Ok len) ≡ build_event out code params
  unfolding event_packet event_header le_bytes
  event-built fits few o₁ e₁ o eo len en =
      let both : o ≡ written_at out 0 (event_header code m ++ params) = onward out 0 (event_header code m) params (omega arith) o₁ e₁ 3 refl o eo in
      whole out (event_packet code params) (leb (length params) 255) (m + 3) (size-event code params m size) fits (rw size (le-leb m 255 few)) o
      (both ∙ ap (λ (k : ℕ). written_at out 0 (event_header code k ++ params)) (sym size)) len en

  pub event-short : length out < m + 3 → built out (Err ShortOutput) ≡ build_event out code params
  event-short h = too_short out (event_packet code params) (leb (length params) 255) (m + 3) (size-event code params m size) h

-- ---- ACL data

pub size-acl : (handle flag : ℕ) (body : List ℕ) → length (acl_packet handle flag body) ≡ length body + 5
unfolding acl_packet le_bytes
size-acl handle flag body = omega arith

module _ (out : List ℕ) (handle flag : ℕ) (body : List ℕ) where
  pub acl-refused : (why : Refusal) → Err why ≡ refusing (leb (length body + 5) (length out)) (leb (length body) 1019)
      → (r : Result ℕ Refusal) → r ≡ Err why → built out r ≡ build_acl out handle flag body
  acl-refused why e r er = rw er (refused out (acl_packet handle flag body) (leb (length body) 1019) (length body + 5) (size-acl handle flag body) why e)

  pub acl-built : length body + 5 ≤ length out → length body ≤ 1019 → (o₁ : List ℕ) → o₁ ≡ written_at out 0 (acl ∷ [])
      → (at₁ : ℕ) → at₁ ≡ 1 → (w : ℕ) → w ≡ acl_word handle flag → (o₂ : List ℕ) → o₂ ≡ written_at o₁ at₁ (number_bytes (w ∷ length body ∷ []))
      → (at₂ : ℕ) → at₂ ≡ 5 → (o₃ : List ℕ) → o₃ ≡ written_at o₂ at₂ body → (len : ℕ) → len ≡ length body + 5
      → built o₃ (Ok len) ≡ build_acl out handle flag body
  unfolding acl_packet number_bytes le_bytes
  acl-built fits few o₁ e₁ at₁ a₁ w ew o₂ e₂ at₂ a₂ o₃ e₃ len en =
      let h : List ℕ = number_bytes (w ∷ length body ∷ []) in
      let two : o₂ ≡ written_at out 0 ((acl ∷ []) ++ h) = onward out 0 (acl ∷ []) h (omega arith) o₁ e₁ at₁ a₁ o₂ e₂ in
      let three : o₃ ≡ written_at out 0 (((acl ∷ []) ++ h) ++ body) = onward out 0 ((acl ∷ []) ++ h) body (omega arith) o₂ two at₂ a₂ o₃ e₃ in
      whole out (acl_packet handle flag body) (leb (length body) 1019) (length body + 5) (size-acl handle flag body) fits (le-leb (length body) 1019 few) o₃
      (three ∙ ap (λ (v : ℕ). written_at out 0 (acl ∷ (le_bytes 2 v ++ (le_bytes 2 (length body) ++ body)))) ew) len en

-- ---- Number Of Completed Packets

pub size-completed : (pairs : List ℕ) → length (completed_packets pairs) ≡ 4 * (length pairs / 2) + 1
unfolding completed_packets le_bytes
size-completed pairs = omega (arith, length_pairs (length pairs / 2) pairs)

pub completed_is : (pairs : List ℕ) → length pairs / 2 ≤ 255 → (length pairs / 2 ∷ []) ++ number_bytes (take (2 * (length pairs / 2)) pairs) ≡ completed_packets pairs
unfolding completed_packets le_bytes
completed_is pairs h =
    let small : length pairs / 2 ≡ length pairs / 2 % 256 = omega arith in
    rw (pairs_are (length pairs / 2) pairs (omega arith)) (ap (λ (b : ℕ). b ∷ pair_bytes (length pairs / 2) pairs) small)
