-- An ACL packet taken apart (Core Vol 4 Part E 5.4.2), and the fragment call that it makes (02, Three and Fourteen).
use Rattle.std.specs.Prelude.{ℕ, ◌+◌, ◌/◌, ◌%◌, Bool, true, false, ◌&&◌, ◌||◌, List, [], length, take, drop, get_or, leb, eqb, Option, None, Some}
use Rattle.bytes_base.specs.Choice.{pick}
use Rattle.bytes_base.specs.Bytes.{le_at}
use Rattle.bytes_bounds.specs.declared.Span.{Span}
use Rattle.h4_packets.specs.Numbers.{acl}
use Rattle.h4_acl.specs.declared.Acl.{Acl}
use Rattle.h4_acl.specs.declared.Fragment.{Fragment}

-- the indicator, two bytes of handle and flags, two of the data's length, and at least as many bytes as these state
abbrev pub whole_acl : List ℕ → Bool
whole_acl s = leb 5 (length s) && (eqb (get_or s 0 0) acl && leb (5 + le_at 2 s 3) (length s))

-- a handle, a boundary flag, and n bytes of data from at on
abbrev pub split : ℕ → ℕ → ℕ → ℕ → Acl
split handle flag at n = record { handle = handle; flag = flag; place = record { at = at; len = n } }

-- the handle from bits 0 to 11, the boundary flag from bits 12 and 13, and the place and length of the data
unfoldable pub parts_of : List ℕ → Option Acl
parts_of s = pick (whole_acl s) (Some (split (le_at 2 s 1 % 4096) (le_at 2 s 1 / 4096 % 4) 5 (le_at 2 s 3))) None

-- ---- the fragment call

abbrev pub start : Span → Option Fragment
start place = Some (record { begins = true; place = place })

abbrev pub continuation : Span → Option Fragment
continuation place = Some (record { begins = false; place = place })

-- flags 00 and 10 start, 01 continues, 11 is skipped
unfoldable pub by_flag : ℕ → Span → Option Fragment
by_flag flag place = pick (eqb flag 0 || eqb flag 2) (start place) (pick (eqb flag 1) (continuation place) None)

-- of a packet on the connected handle
abbrev pub on_handle : ℕ → Option Acl → Option Fragment
on_handle connected (Some parts) = pick (eqb parts.handle connected) (by_flag parts.flag parts.place) None
on_handle connected None = None

abbrev pub fragment_of : List ℕ → ℕ → Option Fragment
fragment_of s connected = on_handle connected (parts_of s)

-- ---- the data: its bytes, and where in memory they lie

abbrev pub acl_data : Option Acl → List ℕ → List ℕ
acl_data (Some parts) s = take parts.place.len (drop parts.place.at s)
acl_data None s = []

-- the address of n bytes from at on, in a packet that lies at p: its allocation, and the index there
abbrev pub acl_at : Option Acl → ℕ × ℕ → ℕ × ℕ
acl_at (Some parts) p = (p.0, parts.place.at + p.1)
acl_at None p = p

abbrev pub fragment_data : Option Fragment → List ℕ → List ℕ
fragment_data (Some fragment) s = take fragment.place.len (drop fragment.place.at s)
fragment_data None s = []

abbrev pub fragment_at : Option Fragment → ℕ × ℕ → ℕ × ℕ
fragment_at (Some fragment) p = (p.0, fragment.place.at + p.1)
fragment_at None p = p

-- ---- its parts, as the code finds them

-- whether a frame begins, by the flag
unfoldable pub begins : ℕ → Option Bool
begins flag = pick (eqb flag 0 || eqb flag 2) (Some true) (pick (eqb flag 1) (Some false) None)

-- the part of a packet at a place, where it lies, and where it ends
abbrev pub part_in : Option Span → List ℕ → List ℕ
part_in (Some place) s = take place.len (drop place.at s)
part_in None s = []

abbrev pub part_at : Option Span → ℕ × ℕ → ℕ × ℕ
part_at (Some place) p = (p.0, place.at + p.1)
part_at None p = p

abbrev pub end_of : Option Span → ℕ
end_of (Some place) = place.at + place.len
end_of None = 0
