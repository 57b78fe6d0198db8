-- Entries of an answer taken in order into a table with a limit (01, 'Sizes': up to the first that needs a place that isn't there).
-- One definition for any kind of entry.
use Rattle.std.specs.Prelude.{ℕ, Bool, true, false, List, [], ◌∷◌, length, leb}
use Rattle.bytes_base.specs.Choice.{pick}

-- what an answer leaves: the list, the handle of the last entry read, and whether an entry had no place
pub record Have (A : Type 0) : Type 0 where
  pub list : List A
  pub last : ℕ
  pub full : Bool

-- the three put together
abbrev pub have : {A : Type 0} → List A → ℕ → Bool → Have A
have l n f = record { list = l; last = n; full = f }

-- more: the list once an entry is read; handle: the handle that an entry leaves; most: the table's size.
-- Entries in order, up to the first with which the list would pass the table's size.
unfoldable pub taken : {A : Type 0} → (List A → List ℕ → List A) → (List ℕ → ℕ) → ℕ → List A → ℕ → List (List ℕ) → Have A
taken more handle most l last [] = have l last false
taken more handle most l last (e ∷ es) =
    pick (leb (length (more l e)) most) (taken more handle most (more l e) (handle e) es) (have l last true)
