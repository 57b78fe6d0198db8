-- What a call has in hand while it works: the sizes of what is lent, and room for the frames that it may yet send.
use Rattle.std.specs.Prelude.{ℕ, ◌*◌, ◌≤◌, ◌≡◌, length}
use Rattle.state_places.specs.Sizes.{store_size, output_size, frame_size, most_results}
use Rattle.script_rules.specs.World.{World}

-- at most k frames went out so far
pub record Ready (k : ℕ) (w : World) : Type 0 where
  pub store : length w.held.store ≡ store_size
  pub out : output_size ≤ length w.told.out
  pub results : w.held.state.results.count ≤ most_results
  pub frames : w.told.sent.frames ≤ k
  pub bytes : w.told.sent.bytes ≤ frame_size * w.told.sent.frames
