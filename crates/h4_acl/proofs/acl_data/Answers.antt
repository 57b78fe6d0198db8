use mathlib.Core.Path.{◌≡◌}
use borrow.Author.Rules.{rules}
use Rattle.h4_acl.specs.Acl.{end_of}
use Rattle.h4_acl.proofs.SplitLaws.{parts-end, parts-inside}
use Rattle.h4_acl.proofs.acl_data.Goals as goal

pub part-requires : goal.part-requires
part-requires c =
    let e : end_of c.map.result ≡ parts-end c.acl_parts.result = search rules in
    rw e (parts-inside _ _ c.acl_parts.ensures)
