use Rattle.script_events.proofs.goes_on.Goals as goal

pub returns : goal.returns
returns c = rw (c.is_kind.ensures, c.is_kind-2.ensures, c.is_kind-3.ensures)
