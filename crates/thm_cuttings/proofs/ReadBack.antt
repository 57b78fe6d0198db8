-- Packets end to end read back as themselves.
use Prim.Native.Nat.{ℕ, zero, suc, ◌≤◌, ◌<◌}
use mathlib.Core.Path.{◌≡◌, refl}
use mathlib.Core.List.{List, [], ◌∷◌, ◌++◌}
use native.Mathlib.Omega.{arith}
use lib.ListN.{length, take, drop, length-drop}
use lib.Seq.{length-take-le, take_at, drop_at}
use Rattle.std.specs.Prelude.{None, Some, Ok, Err}
use Rattle.h4_packets.specs.Front.{Front, front}
use Rattle.h4_packets.proofs.FrontLaws.{front-empty, Stable, stable}
use Rattle.h4_stream.specs.Cut.{Cut, ends, cut, joined}
use Rattle.h4_stream.proofs.CutLaws.{cut-more, cut-whole, cut-lost}
use Rattle.thm_cuttings.specs.Feeds.{ReadBack}

abbrev only : List (List ℕ) → Cut
only ps = record { packets = ps; rest = []; lost = None }

nothing : cut [] ≡ only []
nothing = cut-more [] (front-empty [] refl)

step : (s : List ℕ) (f : Front) → f ≡ front s → Stable s f
    → ((n : ℕ) → 0 < n → cut (joined (cut (drop n s)).packets) ≡ only (cut (drop n s)).packets)
    → cut (joined (cut s).packets) ≡ only (cut s).packets
unfolding joined
step s (Ok None) e k ih = rw (cut-more s e) nothing
step s (Ok (Some n)) e k ih =
    let u = take n s in
    let j = joined (cut (drop n s)).packets in
    let l : length u ≡ n = length-take-le n s k.1.0 in
    let w : Ok (Some n) ≡ front (u ++ j) = (rw (← k.1.1.1) at (stable u)).1.1.0 j in
    rw (cut-whole s n e, cut-whole (u ++ j) n w, take_at u j n l, drop_at u j n l, ih n k.0)
step s (Err lost) e k ih = rw (cut-lost s lost e) nothing

within : (f : ℕ) (s : List ℕ) → length s ≤ f → cut (joined (cut s).packets) ≡ only (cut s).packets
unfolding joined
within zero [] h = rw (cut-more [] (front-empty [] refl)) nothing
within zero (x ∷ s) h = absurd (omega arith)
within (suc f) s h = step s (front s) refl (stable s) (λ n p. within f (drop n s) (rw length-drop (omega arith)))

pub read_back : ReadBack
read_back s = within (length s) s (omega arith)
