use mathlib.Core.Path.{subst}
use native.Mathlib.Omega.{arith}
use Rattle.instrument.specs.Model.{model_of}
use Rattle.reader.specs.Contract.{Answered}
use Rattle.loader.proofs.Laws.{refused-by, indexed-on, keeps}
use borrow.Author.Rules.{rules}
use Rattle.loader.proofs.load_with.Goals as goal

pub judge-requires : goal.judge-requires
judge-requires c =
    let i = c.args.instrument in
    let t = subst (Answered (model_of i) _) c.in-Ok.is c.read_sheet.ensures.answer in record { read_whole = t; indexes = indexed-on i t c.read_sheet.ensures.tables (search rules) c.requires (search rules) (search rules) }

pub returns-in-Ok : goal.returns-in-Ok
returns-in-Ok c = keeps c.args.instrument (λ k. omega (arith, c.shared_slice_known-1.given k)) c.judge.ensures

pub returns-in-Err : goal.returns-in-Err
returns-in-Err c =
    let i = c.args.instrument in
    let refuses = subst (Answered (model_of i) _) c.in-Err.is c.read_sheet.ensures.answer in
    keeps i (λ k. omega (arith, c.shared_slice_known-1.given k)) (refused-by _ _ refuses)
