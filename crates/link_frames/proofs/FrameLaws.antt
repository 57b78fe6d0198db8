-- What each return of the held bytes asks.
use Prim.Native.Nat.{ℕ, ◌+◌, ◌-◌, ◌≤◌, ◌<◌}
use mathlib.Core.Path.{◌≡◌, ap, ◌∙◌}
use mathlib.Core.Bool.{Bool, false}
use mathlib.Core.List.{List}
use native.Mathlib.Omega.{arith}
use lib.ListN.{length}
use lib.Dec.{leb}
use borrow.Author.Tests.{lt-leb, le-leb}
use Rattle.bytes_base.specs.Bytes.{le_at}
use Rattle.bytes_base.specs.Splice.{splice}
use Rattle.bytes_base.proofs.TestLaws.{fits-less}
use Rattle.state_places.specs.Sizes.{held_at}
use Rattle.state.specs.Central.{Central}
use Rattle.link_rules.specs.Fragment.{with_held, held_before, gathered, whole}
use Rattle.state_core.specs.declared.Core.{Core}
use Rattle.state_core.specs.Reading.{central, held}

-- ---- what is held

pub gather-law : (c r : Core) (st st' fragment : List ℕ) (start : Bool) (from : ℕ) → from ≡ held_before c.bearer start
    → st' ≡ splice st (held_at + from) fragment 0 (length fragment)
    → ((w : List ℕ) → central r w ≡ with_held (central c w) (from + length fragment))
    → (w : List ℕ) → held r w st' ≡ gathered (held c w st) start fragment
unfolding gathered
gather-law c r st st' fragment start from e f g w =
    ap (λ (x : Central). record { state = x; store = st' }) (g w)
    ∙ ap (λ (l : List ℕ). record { state = with_held (central c w) (from + length fragment); store = l }) f
    ∙ ap (λ (m : ℕ). record { state = with_held (central c w) (m + length fragment); store = splice st (held_at + m) fragment 0 (length fragment) }) e

-- ---- a frame

module _ (c : Core) (st : List ℕ) where
  pub whole-short : c.bearer.held < 4 → (w : List ℕ) → false ≡ whole (held c w st)
  whole-short h w = rw (lt-leb 4 c.bearer.held h)

  pub whole-law : (n : ℕ) → 4 ≤ c.bearer.held → n ≡ le_at 2 st held_at → (w : List ℕ) → leb n (c.bearer.held - 4) ≡ whole (held c w st)
  whole-law n h f w =
      rw (le-leb 4 c.bearer.held h, ← f)
      (fits-less c.bearer.held n 4 h ∙ ap (λ (m : ℕ). leb m c.bearer.held) (omega arith))
