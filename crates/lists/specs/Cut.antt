-- An answer's payload is cut into whole entries of one length (Core Vol 3 Part F 3.4.3.2, 3.4.4.2, 3.4.4.10).
use Rattle.std.specs.Prelude.{ℕ, zero, suc, ◌-◌, ◌/◌, List, [], ◌∷◌, length, take, drop}

-- the first n entries of k bytes each
unfoldable pub chunks : ℕ → ℕ → List ℕ → List (List ℕ)
chunks zero k s = []
chunks (suc n) k s = take k s ∷ chunks n k (drop k s)

-- all whole entries of k bytes; what is left over at the end is no entry
unfoldable pub entries : ℕ → List ℕ → List (List ℕ)
entries k s = chunks (length s / k) k s

-- the bytes from index a up to index b
abbrev pub part : ℕ → ℕ → List ℕ → List ℕ
part a b s = take (b - a) (drop a s)
