use mathlib.Core.List.{[]}
use Rattle.script_wait.proofs.WaitLaws.{any_age, some-age}
use Rattle.script_wait.proofs.passed_on.Goals as goal

pub returns-in-Any : goal.returns-in-Any
returns-in-Any c =
    let a = c.args in
    any_age a.c a.tables.now [] a.w c.in-Any.is

pub returns-in-Within : goal.returns-in-Within
returns-in-Within c =
    let a = c.args in
    some-age a.c a.tables.now [] a.w _ _ _ c.in-Within.is c.skipped-skip.ensures c.newest_counted.ensures
