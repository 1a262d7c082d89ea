use mathlib.Core.Path.{◌≡◌, sym, ap, ◌∙◌}
use native.Mathlib.Omega.{arith}
use Rattle.verdict.specs.WordTest.{word_test}
use Rattle.instrument.specs.Model.{model_of}
use Rattle.instrument.proofs.Fits.{limits-fit}
use Rattle.words.proofs.Laws.{condition-there, condition-missing, too_long, stray-at, told, word-tested, none-stray, stray-on}
use Rattle.words.proofs.answer.Goals as goal
use Rattle.words.proofs.answer.Goals.{After-match_word}

pub returns-then-tally-condition : goal.returns-then-tally-condition
returns-then-tally-condition c = condition-missing c.requires.read_whole _ _ c.if-tally-condition.true

pub returns-then-word-gt-LONGEST : goal.returns-then-word-gt-LONGEST
returns-then-word-gt-LONGEST c = too_long c.requires.read_whole _ _ (condition-there c.requires.read_whole c.if-tally-condition.false) c.if-word-gt-LONGEST.true

pub returns-in-Some : goal.returns-in-Some
returns-in-Some c =
    stray-at c.requires.read_whole _ _ (condition-there c.requires.read_whole c.if-tally-condition.false) c.if-word-gt-LONGEST.false _ (stray-on c.args.instrument _ c.limits_of-limits.ensures c.in-Some.ensures)

pub offset_bounds-conditions-condition : goal.offset_bounds-conditions-condition
offset_bounds-conditions-condition c = omega (arith, (c.requires.conditions_in _ (condition-there c.requires.read_whole c.if-tally-condition.false)).exists)

pub bounds-conditions-condition : goal.bounds-conditions-condition
bounds-conditions-condition c = (c.requires.conditions_in _ (condition-there c.requires.read_whole c.if-tally-condition.false)).exists

pub overflow_cast-conditions : goal.overflow_cast-conditions
overflow_cast-conditions c = omega (arith, (c.requires.conditions_in _ (condition-there c.requires.read_whole c.if-tally-condition.false)).inside)

pub match_word-requires : goal.match_word-requires
match_word-requires c = ((limits-fit c.args.instrument c.limits_of-limits.ensures).few_events, none-stray _ _ (sym c.in_default.ensures))

-- what matching tells is the answer
tells : (c : After-match_word) → let x = c.args in told c.match_word.result ≡ word_test (model_of x.instrument) x.s.now x.condition x.word.now
tells c = let there = condition-there c.requires.read_whole c.if-tally-condition.false in
    word-tested c.requires.read_whole _ _ there c.if-word-gt-LONGEST.false (none-stray _ _ (stray-on c.args.instrument _ c.limits_of-limits.ensures c.in_default.ensures)) _
    (c.match_word.ensures _ (c.requires.conditions_in _ there).stands)

pub returns-in-Ok : goal.returns-in-Ok
returns-in-Ok c = ap told (sym c.in-Ok.is) ∙ tells (goal.at.returns-in-Ok c).After-match_word

pub returns-in-Err : goal.returns-in-Err
returns-in-Err c = ap told (sym c.in-Err.is) ∙ tells (goal.at.returns-in-Err c).After-match_word
