-- What stands of a link that comes, and of one that goes (01, 'Rules of the link').
use Rattle.std.specs.Prelude.{ℕ, true, false}
use Rattle.state.specs.declared.Bearer.{Bearer}
use Rattle.link_record.specs.Record.{new_link}

-- a new link, nothing held of a frame; its bearer is open (02, Four)
abbrev pub linked : ℕ → Bearer
linked handle = record { held = 0; link = new_link handle; present = true; closed = false }

-- no link: what was held, the record and a closed bearer's flag stay, and count for nothing
abbrev pub unlinked : Bearer → Bearer
unlinked b = record { held = b.held; link = b.link; present = false; closed = b.closed }
