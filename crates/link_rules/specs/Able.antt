-- What the walks of discovery go by: a frame may go out, and the tables of the peer are within their sizes and in their order.
use Rattle.script_rules.specs.World.{World}
use Rattle.script_rules.specs.Ready.{Ready}
use Rattle.script_rules.specs.Nearly.{Peer}

pub record Able (w : World) : Type 0 where
  pub ready : Ready 64 w
  pub peer : Peer w.held.state.services w.held.state.characteristics
