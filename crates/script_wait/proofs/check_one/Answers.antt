use Rattle.script_wait.proofs.WaitLaws.{none_named, check-passed, check-not}
use Rattle.script_wait.proofs.check_one.Goals as goal

pub returns-then-wait_passes : goal.returns-then-wait_passes
returns-then-wait_passes c =
    let a = c.args in
    check-passed a.c a.tables.now a.store.now a.at a.age _ _ _ _
    c.in-Some.is (c.wanted-w.ensures a.tables.now) c.wait_passes.ensures
    _ _ _ c.if-wait_passes.true c.pass-o.ensures c.passed_on-heard.ensures c.finish.ensures

pub returns-in-None : goal.returns-in-None
returns-in-None c =
    none_named c.args.c _ _ _ _ _ _ c.in-None.is
    c.end.ensures

pub returns-else-wait_passes : goal.returns-else-wait_passes
returns-else-wait_passes c =
    check-not c.args.c c.args.tables.now c.args.store.now c.args.at c.args.age _ _ _ _
    c.in-Some.is (c.wanted-w.ensures c.args.tables.now) c.wait_passes.ensures c.if-wait_passes.false
