use mathlib.Core.Path.{◌≡◌}
use borrow.Author.Rules.{rules}
use Rattle.h4_acl.specs.Acl.{end_of}
use Rattle.h4_acl.proofs.FragmentLaws.{fragment-end, fragment-inside}
use Rattle.h4_acl.proofs.fragment_data.Goals as goal

pub part-requires : goal.part-requires
part-requires c =
    let e : end_of c.map.result ≡ fragment-end c.fragment_of.result = search rules in
    rw e (fragment-inside _ _ _ c.fragment_of.ensures)
