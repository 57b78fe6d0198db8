use mathlib.Core.Path.{◌∙◌}
use Rattle.h4_acl.proofs.SplitLaws.{no_header, no-acl, cut_short, parted}
use Rattle.h4_acl.proofs.acl_parts.Goals as goal

pub returns-then-size-lt-ACL_HEADER : goal.returns-then-size-lt-ACL_HEADER
returns-then-size-lt-ACL_HEADER c = no_header c.args.packet.now c.if-size-lt-ACL_HEADER.true

pub returns-then-packet : goal.returns-then-packet
returns-then-packet c = no-acl c.args.packet.now c.if-size-lt-ACL_HEADER.false c.if-packet.true

pub returns-then-size-len : goal.returns-then-size-len
returns-then-size-len c =
    cut_short c.args.packet.now c.if-size-lt-ACL_HEADER.false c.if-packet.false _ (c.from-len.ensures ∙ c.le16.ensures) c.if-size-len.true

pub returns : goal.returns
returns c =
    parted c.args.packet.now c.if-size-lt-ACL_HEADER.false c.if-packet.false _ (c.from-len.ensures ∙ c.le16.ensures) c.if-size-len.false _ c.le16-word.ensures
