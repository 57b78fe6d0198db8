use Rattle.script_rules.proofs.FinishLaws.{value_room, value-full}
use Rattle.script_turns.proofs.keep_value.Goals as goal

pub returns-then-count-lt-MAX_RESULTS : goal.returns-then-count-lt-MAX_RESULTS
returns-then-count-lt-MAX_RESULTS c = search value_room

pub returns-else-count-lt-MAX_RESULTS : goal.returns-else-count-lt-MAX_RESULTS
returns-else-count-lt-MAX_RESULTS c = search value-full
