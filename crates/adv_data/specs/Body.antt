-- The body of the structure that lists a service, out of advertising data or else out of a scan response: its bytes, and where in memory they lie.
use Rattle.std.specs.Prelude.{ℕ, ◌+◌, List, [], Option, Some, None}
use Rattle.std.specs.Borrow.{Bor}
use Rattle.adv_data.specs.Ad.{Ad, listing, structures}

abbrev pub body_of : Option Ad → List ℕ → List ℕ
body_of (Some a) other = a.body
body_of None other = other

-- the body of the first structure of s that lists u, or else of t, or no bytes
abbrev pub listed_body : ℕ → List ℕ → List ℕ → List ℕ
listed_body u s t = body_of (listing u (structures s)) (body_of (listing u (structures t)) [])

-- the address of a structure's body in data that lies at p: its allocation, and the index there
abbrev pub body_at : Option Ad → ℕ × ℕ → ℕ × ℕ → ℕ × ℕ
body_at (Some a) p other = (p.0, a.start + p.1)
body_at None p other = other

-- that body lies in s, or else in t; no bytes lie where s begins
abbrev pub listed_at : ℕ → Bor (List ℕ) → Bor (List ℕ) → ℕ × ℕ
listed_at u s t = body_at (listing u (structures s.now)) s.ref_ptr (body_at (listing u (structures t.now)) t.ref_ptr s.ref_ptr)
