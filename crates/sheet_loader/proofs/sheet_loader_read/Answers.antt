-- `sheet_loader::sheet_loader_read` meets its contract, on an instrument and on none.
use Rattle.sheet_loader.proofs.Doors.{reads_on, reads-on-none}
use Rattle.sheet_loader.proofs.sheet_loader_read.Goals as goal

pub returns-in-Ok : goal.returns-in-Ok
returns-in-Ok c =
    let x = c.args in reads_on x.instrument x.sheet.now c.store.ensures c.read_on.result c.in-Ok.ensures c.read_on.ensures c.read_numbers.ensures

pub returns-in-Err : goal.returns-in-Err
returns-in-Err c = let x = c.args in reads-on-none x.instrument x.sheet.now c.store-in-Err.ensures c.in-Err.ensures.0 c.unknown_numbers.ensures
