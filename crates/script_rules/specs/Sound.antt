-- What a call has in hand while its script goes on.
use Rattle.std.specs.Prelude.{ℕ, ◌+◌, ◌≤◌, ◌≡◌, length}
use Rattle.state_places.specs.Sizes.{store_size}
use Rattle.script_rules.specs.World.{Held, World}
use Rattle.script_rules.specs.Ready.{Ready}
use Rattle.script_rules.specs.Nearly.{Nearly}

-- each step that waits may send one frame: with those that went out they are at most k
pub record Sound (k : ℕ) (w : World) : Type 0 where
  pub ready : Ready k w
  pub nearly : Nearly w.held.state
  pub budget : w.told.sent.frames + w.held.state.queue.count ≤ k

-- the same where nothing can go out
pub record Whole (h : Held) : Type 0 where
  pub store : length h.store ≡ store_size
  pub nearly : Nearly h.state
