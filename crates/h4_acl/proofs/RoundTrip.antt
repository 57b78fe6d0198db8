-- The theorem of the specs' RoundTrip.
use Prim.Native.Nat.{ℕ, ◌+◌, ◌*◌, ◌/◌, ◌%◌, ◌<◌}
use mathlib.Core.Path.{◌≡◌, refl, sym, ◌∙◌}
use mathlib.Core.List.{List, ◌++◌}
use native.Mathlib.Omega.{arith}
use lib.ListN.{length, length-append}
use lib.Seq.{take_at}
use Rattle.bytes_base.specs.Bytes.{le_bytes, le_at}
use Rattle.bytes_base.proofs.ByteLaws.{le_at-two}
use Rattle.h4_builders.specs.Packet.{acl_word, acl_packet}
use Rattle.std.specs.Prelude.{Some}
use Rattle.h4_acl.specs.Acl.{split, parts_of}
use Rattle.h4_acl.specs.RoundTrip.{RoundTrip}
use Rattle.h4_acl.proofs.SplitLaws.{parted}

-- a number of two bytes, from its bytes
two_bytes : (v : ℕ) → v < 65536 → v ≡ v % 256 + 256 * (v / 256 % 256)
two_bytes v h = omega arith

-- a handle and a flag, out of their word
low : (handle flag : ℕ) → handle < 4096 → (handle + 4096 * flag) % 4096 ≡ handle
low handle flag h = omega arith

high : (handle flag : ℕ) → handle < 4096 → flag < 4 → (handle + 4096 * flag) / 4096 % 4 ≡ flag
high handle flag h k = omega arith

pub round_trip : RoundTrip
unfolding acl_packet le_bytes
round_trip handle flag body more h =
    let s : List ℕ = acl_packet handle flag body ++ more in
    let long : length s ≡ 5 + (length body + length more) = omega (arith, length-append body more) in
    let word : acl_word handle flag ≡ le_at 2 s 1 = two_bytes (acl_word handle flag) (omega arith) ∙ sym (le_at-two s 1 (omega arith)) in
    let size : length body ≡ le_at 2 s 3 = two_bytes (length body) h ∙ sym (le_at-two s 3 (omega arith)) in
    let parts : parts_of s ≡ Some (split (acl_word handle flag % 4096) (acl_word handle flag / 4096 % 4) 5 (length body)) =
    sym (parted s (omega arith) refl (length body) size (omega arith) (acl_word handle flag) word) in
    let is : parts_of s ≡ Some (split (handle % 4096) (flag % 4) 5 (length body)) =
    parts ∙ rw (low (handle % 4096) (flag % 4) (omega arith), high (handle % 4096) (flag % 4) (omega arith) (omega arith)) in
    (is, rw is (take_at body more (length body) refl))
