-- `notified` counts every notification and indication (01, 'Rules of the link').
use Rattle.std.specs.Prelude.{◌+◌}
use Rattle.state.specs.declared.Counters.{Counters}

-- one more was notified
abbrev pub noted : Counters → Counters
noted k = record { next_index = k.next_index; refused_steps = k.refused_steps; notified = k.notified + 1; wait_from = k.wait_from; links = k.links }
