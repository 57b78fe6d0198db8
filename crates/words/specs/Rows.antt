-- What a write to some of the words leaves of the others.
use Rattle.std.specs.Prelude.{ℕ, ◌+◌, ◌<◌, ◌≤◌, ◌≡◌, List, length, get_or}

-- the words from lo up to hi are the same in both
abbrev pub Same : ℕ → ℕ → List ℕ → List ℕ → Type 0
Same lo hi w v = (p : ℕ) → lo ≤ p → p < hi → get_or v p 0 ≡ get_or w p 0

-- the n words from at on have what the word after each had, and all others are the same
pub record Lowered (w v : List ℕ) (at n : ℕ) : Type 0 where
  pub long : length v ≡ length w
  pub moved : (p : ℕ) → at ≤ p → p < at + n → get_or v p 0 ≡ get_or w (p + 1) 0
  pub below : (p : ℕ) → p < at → get_or v p 0 ≡ get_or w p 0
  pub above : (p : ℕ) → at + n ≤ p → get_or v p 0 ≡ get_or w p 0
