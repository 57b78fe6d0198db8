use Rattle.std.proofs.Common.{◌≡◌, take, leb}
use Rattle.lists.specs.Queue.{all}
use Rattle.words.proofs.all_at_most.Given as goal

abbrev pub invariant-loop-word : goal.invariant-loop-word
invariant-loop-word l = l.ok ≡ all (λ x. leb x l.most) (take l.word-index l.words)
