use Rattle.uuid_text.proofs.Laws.{Reading}
use Rattle.uuid_text.proofs.number.Given as goal

abbrev pub invariant-loop-b : goal.invariant-loop-b
invariant-loop-b l = Reading l.digits l.b-index l.v
