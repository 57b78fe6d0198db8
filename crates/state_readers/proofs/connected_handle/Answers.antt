use Rattle.std.proofs.Common.{length}
use Rattle.std.proofs.lemmas.Result.{err_from_is_err_and}
use Rattle.state_core.specs.Reading.{central}
use Rattle.state_readers.proofs.ReaderLaws.{handle-refused, handle-told}
use Rattle.state_readers.proofs.connected_handle.Goals as goal

pub returns-in_err-gate_reader : goal.returns-in_err-gate_reader
returns-in_err-gate_reader c =
    let p = err_from_is_err_and c.from_residual.result c.from_residual.ensures.1 in
    rw (p.1, p.2) (handle-refused (central c.args.core c.args.tables.now) (length c.args.store.now) _ c.in_err-gate_reader.ensures)

pub returns : goal.returns
returns c = handle-told (central c.args.core c.args.tables.now) (length c.args.store.now) c.in_ok-gate_reader.ensures _ c.handle_of.ensures
