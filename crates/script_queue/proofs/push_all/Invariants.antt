use Prim.Native.Nat.{◌-◌}
use Rattle.script_rules.proofs.PushLaws.{Pushing}
use Rattle.state_core.specs.Reading.{held}
use Rattle.script_queue.specs.Numbers.{with_line}
use Rattle.script_queue.proofs.push_all.Given as goal

abbrev pub invariant-loop-i : goal.invariant-loop-i
invariant-loop-i l = Pushing (held l.c l.initial.tables l.initial.store) (held (with_line l.c l.l) l.tables l.store) l.values l.all l.count l.i
