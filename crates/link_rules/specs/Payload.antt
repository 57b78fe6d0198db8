-- The frame that is held, once it is whole, and what the work on it goes by.
use Rattle.std.specs.Prelude.{ℕ, ◌+◌, ◌≤◌, List}
use Rattle.state_places.specs.Sizes.{held_at}
use Rattle.lists.specs.Blocks.{bytes}
use Rattle.state.specs.Central.{Central, with_bearer}
use Rattle.script_rules.specs.World.{Held, World}
pub use Rattle.link_record.specs.Record.{agreed}
use Rattle.script_rules.specs.Finish.{with_link}
use Rattle.script_rules.specs.Ready.{Ready}
use Rattle.script_rules.specs.Nearly.{Nearly}

-- its payload stands behind its length and its channel (Core Vol 3 Part A 3.1)
abbrev pub payload_at : ℕ
payload_at = held_at + 4

-- the most that can stand there
abbrev pub payload_size : ℕ
payload_size = 247

-- n bytes of payload
abbrev pub payload : Held → ℕ → List ℕ
payload h n = bytes h.store payload_at n

-- a payload of n bytes is there, and a frame may go out
pub record Reads (n : ℕ) (w : World) : Type 0 where
  pub ready : Ready 64 w
  pub nearly : Nearly w.held.state
  pub short : n ≤ payload_size

-- ---- the link's MTU

abbrev pub with_mtu : Central → ℕ → Central
with_mtu c mtu = with_bearer c (with_link c.bearer (agreed c.bearer.link mtu))
