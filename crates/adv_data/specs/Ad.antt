-- Advertising data: its structures (Core Vol 3 Part C 11), and the service UUIDs that they list (Core Supplement Part A 1.1).
use Rattle.std.specs.Prelude.{ℕ, zero, suc, ◌+◌, ◌-◌, ◌≡◌, ◌⊎◌, List, [], ◌∷◌, map, Bool, false, ◌&&◌, ◌||◌, length, get_or, take, drop, eqb, ltb, Option, Some, None}
use Rattle.bytes_base.specs.Choice.{pick, within, among}
use Rattle.bytes_base.specs.Bytes.{le}
use Rattle.lists.specs.Cut.{entries}
use Rattle.uuid_value.specs.Value.{short}
use Rattle.bytes_bounds.specs.declared.Span.{Span}

-- ---- structures

-- a structure: the index in the data at which its body starts, its kind (the AD type), and the bytes of its body
pub record Ad : Type 0 where
  pub start : ℕ
  pub kind : ℕ
  pub body : List ℕ

-- the byte in front is the length of what follows, the kind and the body: early termination where it is zero, none where it runs past the end
abbrev pub whole : List ℕ → Bool
whole s = ltb 0 (get_or s 0 0) && ltb (get_or s 0 0) (length s)

-- the structure at index at, where s is the data from there on
abbrev pub first : ℕ → List ℕ → Ad
first at s = record { start = at + 2; kind = get_or s 1 0; body = take (get_or s 0 0 - 1) (drop 2 s) }

-- at most n structures one after another, up to the first length that is zero or runs past the end
unfoldable pub reading : ℕ → ℕ → List ℕ → List Ad
reading zero at s = []
reading (suc n) at s = pick (whole s) (first at s ∷ reading n (at + (1 + get_or s 0 0)) (drop (1 + get_or s 0 0) s)) []

-- the structures of the data: never more than it has bytes
abbrev pub structures : List ℕ → List Ad
structures s = reading (length s) 0 s

-- ---- listed UUIDs

-- the bytes of each UUID that a structure of the kind lists, or 0 where it lists none: kinds 02 and 03 list 16-bit UUIDs, 04 and 05 32-bit ones, 06 and 07 128-bit ones
unfoldable pub width_of : ℕ → ℕ
width_of kind = pick (within 0x02 0x03 kind) 2 (pick (within 0x04 0x05 kind) 4 (pick (within 0x06 0x07 kind) 16 0))

-- the widths that there are
abbrev pub IsWidth : ℕ → Type 0
IsWidth w = (w ≡ 2) ⊎ ((w ≡ 4) ⊎ (w ≡ 16))

-- the 128-bit number of a UUID of w bytes
unfoldable pub uuid_of : ℕ → List ℕ → ℕ
uuid_of w e = pick (eqb w 16) (le e) (short (le e))

-- of the whole elements of w bytes: a remainder is skipped
abbrev pub uuids : ℕ → List ℕ → List ℕ
uuids w s = map (uuid_of w) (entries w s)

-- whether a structure lists the UUID u
abbrev pub lists : ℕ → Ad → Bool
lists u a = ltb 0 (width_of a.kind) && among u (uuids (width_of a.kind) a.body)

-- ---- the search

-- whether some structure lists u
unfoldable pub any_lists : ℕ → List Ad → Bool
any_lists u [] = false
any_lists u (a ∷ more) = lists u a || any_lists u more

abbrev pub lists_service : ℕ → List ℕ → Bool
lists_service u s = any_lists u (structures s)

-- the first structure that lists u
unfoldable pub listing : ℕ → List Ad → Option Ad
listing u [] = None
listing u (a ∷ more) = pick (lists u a) (Some a) (listing u more)

-- where the body of a structure stands
abbrev pub place_of : Option Ad → Option Span
place_of (Some a) = Some (record { at = a.start; len = length a.body })
place_of None = None

abbrev pub listed_place : ℕ → List ℕ → Option Span
listed_place u s = place_of (listing u (structures s))
