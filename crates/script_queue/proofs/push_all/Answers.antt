use Prim.Native.Nat.{◌-◌}
use lib.ListN.{length-map}
use Rattle.script_rules.proofs.PushLaws.{pushing-on, may-push}
use Rattle.script_queue.proofs.QueueLaws.{line-start, line-end}
use Rattle.script_queue.proofs.push_all.Goals as goal

pub loop-i-init : goal.loop-i-init
loop-i-init c =
    line-start c.args.c _ _ _ _ _ _ c.line_of-l.ensures c.well_formed.1.1.1.1.0.1.1.0.1.0.1
    c.requires.0 c.requires.1 c.requires.2

pub push_one-l-requires : goal.push_one-l-requires
push_one-l-requires c = may-push _ _ _ _ _ _ c.loop-i.invariant c.loop-i-test.true

pub loop-i-preserved : goal.loop-i-preserved
loop-i-preserved c = pushing-on _ _ _ _ _ _ c.loop-i.invariant c.loop-i-test.true _ (c.push_one-l.ensures c.args.c)

pub returns : goal.returns
returns c = line-end _ _ _ _ _ _ _ _ _ _ _ c.loop-i.invariant c.loop-i-test.false c.with_line.ensures
