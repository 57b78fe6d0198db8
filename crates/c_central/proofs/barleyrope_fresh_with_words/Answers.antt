use mathlib.Core.Path.{ap, ◌∙◌}
use lib.ListN.{replicate}
use Rattle.state_core.specs.declared.Core.{Core}
use Rattle.state_core.specs.Reading.{central}
use Rattle.state_core.proofs.FreshLaws.{fresh-law}
use Rattle.c_core.specs.Layout.{options_in}
use Rattle.c_core.proofs.CoreLaws.{fresh-core-with}
use Rattle.c_central.proofs.barleyrope_fresh_with_words.Goals as goal

pub returns : goal.returns
returns c =
    let options = c.args.options in
    ap (λ (x : Core). central x (replicate 1152 0)) (fresh-core-with options) ∙ fresh-law (options_in options)
