use mathlib.Core.Path.{subst}
use Rattle.instrument.specs.Model.{model_of}
use Rattle.reader.specs.Contract.{Answered}
use Rattle.read_tables.proofs.Filled.{conditions-in}
use Rattle.words.proofs.Laws.{untested-by, keeps}
use borrow.Author.Rules.{rules}
use Rattle.words.proofs.test_with.Goals as goal

pub answer-requires : goal.answer-requires
answer-requires c =
    let i = c.args.instrument in
    let t = subst (Answered (model_of i) _) c.in-Ok.is c.read_sheet.ensures.answer in record { read_whole = t; conditions_in = conditions-in t c.read_sheet.ensures.tables (search rules) }

pub returns-in-Ok : goal.returns-in-Ok
returns-in-Ok c =
    let x = c.args in
    keeps (model_of x.instrument) _ x.condition x.word.now c.answer.ensures

pub returns-in-Err : goal.returns-in-Err
returns-in-Err c =
    let x = c.args in
    let refuses = subst (Answered (model_of x.instrument) _) c.in-Err.is c.read_sheet.ensures.answer in
    keeps (model_of x.instrument) _ x.condition x.word.now (untested-by _ _ x.condition x.word.now refuses)
