use Rattle.state_fit.proofs.tables_fit.Goals as goal

pub returns : goal.returns
returns c =
    rw (
      c.steps_fit.ensures,
      c.results_fit.ensures,
      c.is_rising.ensures,
      c.values_fit.ensures,
      c.links_fit.ensures,
    )
