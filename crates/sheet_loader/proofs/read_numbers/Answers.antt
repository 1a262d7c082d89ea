-- `sheet_loader::read_numbers` meets its contract: in each arm the answer is known, and so are its numbers.
use Rattle.sheet_loader.proofs.read_numbers.Goals as goal

pub returns-in-Ok : goal.returns-in-Ok
returns-in-Ok c = rw c.in-Ok.is

pub returns-in-Err : goal.returns-in-Err
returns-in-Err c = rw c.in-Err.is c.refusal_numbers.ensures
