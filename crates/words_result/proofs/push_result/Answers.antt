use Rattle.words_result.proofs.ResultLaws.{push-on, push-over}
use Rattle.words_result.proofs.push_result.Goals as goal

pub returns-then-count-lt-MAX_RESULTS : goal.returns-then-count-lt-MAX_RESULTS
returns-then-count-lt-MAX_RESULTS c = push-on _ _ _ _ c.if-count-lt-MAX_RESULTS.true c.put_result.ensures

pub returns : goal.returns
returns c = push-over _ _ _ _ _ c.requires c.if-count-lt-MAX_RESULTS.false c.shift_results.ensures c.put_result-2.ensures
