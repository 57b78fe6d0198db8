use Rattle.script_wait.proofs.WaitLaws.{passes-law}
use Rattle.script_wait.proofs.wait_passes.Goals as goal

pub returns : goal.returns
returns c = passes-law c.args.c _ _ _ _ _ c.skipped-skip.ensures (rw c.from-len.ensures at c.wait_passes.ensures)
