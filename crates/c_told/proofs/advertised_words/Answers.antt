use mathlib.Core.Path.{sym, ap}
use Rattle.c_told.specs.Told.{advertised_words}
use Rattle.c_told.proofs.advertised_words.Goals as goal

pub returns-in-Nothing : goal.returns-in-Nothing
returns-in-Nothing c = ap (advertised_words c.args.refusal) (sym c.in-Nothing.is)

pub returns-in-ScanRequest : goal.returns-in-ScanRequest
returns-in-ScanRequest c = ap (advertised_words c.args.refusal) (sym c.in-ScanRequest.is)

pub returns-in-Connect : goal.returns-in-Connect
returns-in-Connect c = ap (advertised_words c.args.refusal) (sym c.in-Connect.is)
