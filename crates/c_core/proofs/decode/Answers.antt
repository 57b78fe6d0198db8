use Rattle.c_core.specs.Layout.{core_in}
use Rattle.c_core.proofs.decode.Goals as goal

pub returns : goal.returns
unfolding core_in
returns c =
    rw (
      c.running_in-running.ensures,
      c.bearer_in-bearer.ensures,
      c.counters_in-counters.ensures,
      c.counts_in-counts.ensures,
      c.options_of-options.ensures,
    )
