use Rattle.script_starts.proofs.StartLaws.{looks-stay, waits-then}
use Rattle.script_starts.proofs.start_wait.Goals as goal

pub check_wait-next-requires : goal.check_wait-next-requires
check_wait-next-requires c = (
  c.requires.0,
  looks-stay c.args.t.core _ _ _ _
      c.wait_for-dated.ensures c.requires.1,
)

pub returns : goal.returns
returns c =
    waits-then c.args.t _ _ _ _ _ _ _ _
    c.wait_for-dated.ensures c.check_wait-next.ensures
