-- Connection parameter update request, Core Vol 3 Part A 4.20 and 01, "Rules of the link".
-- An interval counts 1.25 ms and a timeout 10 ms; latency counts connection events.
use Rattle.std.specs.Prelude.{ℕ, ◌+◌, ◌*◌, Bool, ◌&&◌, ltb, leb}
use Rattle.bytes_base.specs.Choice.{within}

abbrev pub interval_in_range : ℕ → Bool
interval_in_range interval = within 6 3200 interval

abbrev pub latency_in_range : ℕ → Bool
latency_in_range latency = leb latency 499

abbrev pub timeout_in_range : ℕ → Bool
timeout_in_range timeout = within 10 3200 timeout

-- the timeout is above (1 + latency) * max * 2, both in milliseconds: 10 * timeout > (1 + latency) * 1.25 * max * 2
abbrev pub outlasts : ℕ → ℕ → ℕ → Bool
outlasts timeout latency max = ltb ((1 + latency) * max) (4 * timeout)

unfoldable pub good_params : ℕ → ℕ → ℕ → ℕ → Bool
good_params min max latency timeout =
    interval_in_range min && (interval_in_range max && (leb min max && (latency_in_range latency && (timeout_in_range timeout && outlasts timeout latency max))))
