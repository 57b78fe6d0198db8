-- What was built as an ACL packet splits into the same parts.
use Rattle.std.specs.Prelude.{ℕ, ◌%◌, ◌<◌, ◌≡◌, List, ◌++◌, length, Some}
use Rattle.h4_builders.specs.Packet.{acl_packet}
use Rattle.h4_acl.specs.Acl.{split, parts_of, acl_data}

-- the handle and the flag as they were, but for the bits above 12 and above 2; the data as it was; `more` may stand behind the packet
abbrev pub RoundTrip : Type 0
RoundTrip = (handle flag : ℕ) (body more : List ℕ) → length body < 65536
    → (parts_of (acl_packet handle flag body ++ more) ≡ Some (split (handle % 4096) (flag % 4) 5 (length body)))
    × (acl_data (parts_of (acl_packet handle flag body ++ more)) (acl_packet handle flag body ++ more) ≡ body)
