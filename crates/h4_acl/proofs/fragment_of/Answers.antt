use mathlib.Core.Path.{◌∙◌}
use Rattle.h4_acl.proofs.FragmentLaws.{same-handle, no-fragment}
use Rattle.h4_acl.proofs.fragment_of.Goals as goal

pub returns-in_err-begins : goal.returns-in_err-begins
returns-in_err-begins c =
    c.from_residual-in_err-begins.ensures
    ∙ no-fragment c.args.packet.now c.args.connected _ c.in_ok-acl.ensures c.if-acl-connected.false c.in_err-begins.ensures

pub returns : goal.returns
returns c = same-handle c.args.packet.now c.args.connected _ c.in_ok-acl.ensures c.if-acl-connected.false _ c.in_ok-begins.ensures
