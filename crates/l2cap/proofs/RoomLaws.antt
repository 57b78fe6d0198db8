-- What the test of room tells.
use Prim.Native.Nat.{ℕ, ◌+◌, ◌-◌, ◌≤◌, ◌<◌}
use mathlib.Core.Path.{◌≡◌, refl, sym, ◌∙◌}
use mathlib.Core.Bool.{Bool, true, false, ◌&&◌}
use lib.Dec.{leb}
use borrow.Author.Tests.{le-leb, lt-leb, leb-true}
use Rattle.bytes_base.proofs.TestLaws.{fits-less, fits_more, both}

-- the test of room, as code that knows no sums beyond a usize makes it
pub room-asked : (len at n : ℕ) → n ≤ 65535 → 4 + n ≤ len → leb at (len - (4 + n)) ≡ (leb n 65535 && leb (at + (4 + n)) len)
room-asked len at n short h = rw (le-leb n 65535 short) (fits-less len at (4 + n) h)

pub room_small : (len at n : ℕ) → n ≤ 65535 → len < 4 + n → false ≡ (leb n 65535 && leb (at + (4 + n)) len)
room_small len at n short h = rw (le-leb n 65535 short) (fits_more len at (4 + n) h)

pub room-long : (len at n : ℕ) → 65535 < n → false ≡ (leb n 65535 && leb (at + (4 + n)) len)
room-long len at n h = rw (lt-leb n 65535 h)

pub has_room : (x : Bool) (len at n : ℕ) → x ≡ (leb n 65535 && leb (at + (4 + n)) len) → x ≡ true → (n ≤ 65535) × (at + (4 + n) ≤ len)
has_room x len at n e t =
    let (short, fits) = both (leb n 65535) (leb (at + (4 + n)) len) (sym e ∙ t) in
    (leb-true n 65535 short, leb-true (at + (4 + n)) len fits)

pub has-att-room : (x : Bool) (len at have from n : ℕ) → x ≡ (leb (from + n) have && (leb (3 + n) 65535 && leb (at + (4 + (3 + n))) len)) → x ≡ true
    → (from + n ≤ have) × ((3 + n ≤ 65535) × (at + (4 + (3 + n)) ≤ len))
has-att-room x len at have from n e t =
    let (there, fits) = both (leb (from + n) have) (leb (3 + n) 65535 && leb (at + (4 + (3 + n))) len) (sym e ∙ t) in
    (leb-true (from + n) have there, has_room true len at (3 + n) (sym fits) refl)
