-- The reports' arrays have their sizes.
use Rattle.std.specs.Prelude.{◌≡◌, length}
use Rattle.state.specs.declared.Reports.{Reports}

pub record Whole (r : Reports) : Type 0 where
  pub who : length r.who ≡ 64
  pub at : length r.heard.at ≡ 64
  pub channel : length r.heard.channel ≡ 64
  pub pdu : length r.heard.pdu ≡ 64
  pub len : length r.heard.len ≡ 64
  pub response : length r.heard.response ≡ 64
