use Rattle.script_turns.proofs.TurnLaws.{finish-on, finish_off}
use Rattle.script_turns.proofs.finish.Goals as goal

pub returns-then-running : goal.returns-then-running
returns-then-running c = finish-on c.args.c _ c.args.store.now _ _ _ _ _ _ _ _ _ (c.if-running.true) (c.keep_value.ensures) (c.push_result-more.ensures) (c.answered-bearer.ensures)

pub returns : goal.returns
returns c = finish_off _ _ _ _ _ _ _ _ (c.if-running.false)
