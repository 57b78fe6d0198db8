-- What a write of bytes does: the one operation that all of the library's writes are told by.
use Rattle.std.specs.Prelude.{ℕ, ◌+◌, Bool, ◌&&◌, ◌||◌, List, ◌++◌, length, take, drop, leb}
use Rattle.bytes_base.specs.Choice.{pick}

-- whether the n bytes from at on lie within l
abbrev pub inside : List ℕ → ℕ → ℕ → Bool
inside l at n = leb (at + n) (length l)

-- d, with its n bytes from at on replaced by s's n bytes from from on; d as it is where either has them not
unfoldable pub splice : List ℕ → ℕ → List ℕ → ℕ → ℕ → List ℕ
splice d at s from n = pick (inside d at n && inside s from n) (take at d ++ take n (drop from s) ++ drop (at + n) d) d

-- the same within d itself, downward or to a disjoint place; d as it is otherwise
unfoldable pub moved : List ℕ → ℕ → ℕ → ℕ → List ℕ
moved d at from n = pick (leb at from || leb (from + n) at) (splice d at d from n) d
