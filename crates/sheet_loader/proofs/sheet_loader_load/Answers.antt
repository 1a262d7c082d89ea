-- `sheet_loader::sheet_loader_load` meets its contract, on an instrument and on none.
use Rattle.sheet_loader.proofs.Doors.{loads-on, loads-on-none}
use Rattle.sheet_loader.proofs.sheet_loader_load.Goals as goal

pub returns-in-Ok : goal.returns-in-Ok
returns-in-Ok c = let x = c.args in loads-on x.instrument x.sheet.now c.store.ensures c.in-Ok.ensures c.load_on.ensures c.verdict_numbers.ensures

pub returns-in-Err : goal.returns-in-Err
returns-in-Err c = let x = c.args in loads-on-none x.instrument x.sheet.now c.store-in-Err.ensures c.in-Err.ensures.0 c.unknown_numbers.ensures
