use Rattle.script_wait.proofs.WaitLaws.{check-idle, check-other, check-named}
use Rattle.script_wait.proofs.check_wait.Goals as goal

pub returns-in-None : goal.returns-in-None
returns-in-None c = check-other _ _ _ _ _ c.if-running.true c.awaited_by.ensures c.in-None.is

pub returns-in-Some : goal.returns-in-Some
returns-in-Some c =
    check-named c.args.c _ _ _ _ _ _ _ _
    c.if-running.true
    c.awaited_by.ensures
    c.in-Some.is c.find_characteristic-x.ensures
    c.check_one.ensures

pub returns-else-running : goal.returns-else-running
returns-else-running c = check-idle _ _ _ _ c.if-running.false
