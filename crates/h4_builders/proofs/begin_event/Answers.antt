use mathlib.Core.Path.{ap, ◌∙◌}
use native.Mathlib.Omega.{arith}
use Rattle.h4_builders.specs.Build.{written_at}
use Rattle.h4_builders.proofs.BuildLaws.{header-is}
use Rattle.h4_builders.proofs.begin_event.Goals as goal

pub returns-clause-out_after : goal.returns-clause-out_after
returns-clause-out_after c =
    c.put.ensures.out_after ∙ ap (written_at c.args.out.now 0) (header-is c.args.code _ (omega (arith, c.in_ok-gate.ensures.few)))
