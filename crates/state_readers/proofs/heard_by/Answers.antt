use Rattle.std.proofs.Common.{take}
use Rattle.words.specs.Tables.{results_in}
use Rattle.state_readers.proofs.ReaderLaws.{heard-found, heard-none}
use Rattle.state_readers.proofs.heard_by.Goals as goal

pub returns-in-Some : goal.returns-in-Some
returns-in-Some c = heard-found c.args.index (take c.args.count (results_in c.args.tables.now)) _ c.in-Some.ensures

pub returns-in-None : goal.returns-in-None
returns-in-None c = heard-none c.args.index (take c.args.count (results_in c.args.tables.now)) c.in-None.ensures
