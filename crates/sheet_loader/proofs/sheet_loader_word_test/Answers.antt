-- `sheet_loader::sheet_loader_word_test` meets its contract, on an instrument and on none.
use Rattle.sheet_loader.proofs.Doors.{tests-word-on, tests-word-on-none}
use Rattle.sheet_loader.proofs.sheet_loader_word_test.Goals as goal

pub returns-in-Ok : goal.returns-in-Ok
returns-in-Ok c =
    let x = c.args in
    tests-word-on x.instrument x.sheet.now c.store.ensures x.condition x.word.now c.in-Ok.ensures c.word_test_on.ensures c.answer_numbers.ensures

pub returns-in-Err : goal.returns-in-Err
returns-in-Err c =
    let x = c.args in
    tests-word-on-none x.instrument x.sheet.now c.store-in-Err.ensures x.condition x.word.now c.in-Err.ensures.0 c.unknown_numbers.ensures
