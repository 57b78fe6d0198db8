use mathlib.Core.Path.{◌∙◌}
use Rattle.uuid_text.proofs.Laws.{short_none, short-some}
use Rattle.uuid_text.proofs.short.Goals as goal

pub returns-in_err-v : goal.returns-in_err-v
returns-in_err-v c = c.from_residual.ensures ∙ short_none c.args.hex.now c.in_err-v.ensures

pub returns : goal.returns
returns c = short-some c.args.hex.now c.in_ok-v.v c.from.result c.requires c.in_ok-v.ensures c.from.ensures
