-- The refusal numbers (crate state_refusals).
pub use Rattle.state_refusals.specs.Refusals.{accepted, unfit, wrong_size, late_time, bad_batch, counter_full, long_data, long_frame, keys_full}
