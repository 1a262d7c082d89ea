-- `sheet_loader::sheet_loader_load_entry` meets its contract.
use Rattle.sheet.specs.Model.{entry}
use Rattle.sheet_loader.proofs.Doors.{loads-into}
use Rattle.sheet_loader.proofs.sheet_loader_load_entry.Goals as goal

pub returns : goal.returns
returns c = loads-into entry c.args.sheet.now c.store.ensures c.load_entry.ensures c.verdict_numbers.ensures
