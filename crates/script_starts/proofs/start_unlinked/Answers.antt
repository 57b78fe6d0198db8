use Rattle.script_starts.proofs.StartLaws.{alone-runs, alone-done, alone-needs}
use Rattle.script_starts.proofs.start_unlinked.Goals as goal

pub returns-in-Runs : goal.returns-in-Runs
returns-in-Runs c =
    alone-runs c.args.c _ _ _ _ c.alone_with.ensures _ _
    c.in-Runs.is c.wait_for.ensures

pub returns-in-Done : goal.returns-in-Done
returns-in-Done c =
    alone-done c.args.c _ _ _ _
    c.alone_with.ensures _ c.in-Done.is c.end.ensures

pub returns-in-NeedsLink : goal.returns-in-NeedsLink
returns-in-NeedsLink c =
    alone-needs c.args.c _ _ _ _
    c.alone_with.ensures _ c.in-NeedsLink.is c.end-in-NeedsLink.ensures
