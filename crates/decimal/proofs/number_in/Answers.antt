use Rattle.std.proofs.Common.{arith, sym, ◌∙◌}
use Rattle.decimal.proofs.Decimal.{no-digit-left, no-digit, one-digit}
use Rattle.decimal.proofs.number_in.Goals as goal

pub returns-then-not-is_ascii_digit : goal.returns-then-not-is_ascii_digit
returns-then-not-is_ascii_digit c = let here = c.loop-b in
    sym (no-digit c.args.text.now here.b-index here.n (omega arith) (sym c.if-not-is_ascii_digit.ensures.value)) ∙ here.invariant.whole

pub loop-b-preserved : goal.loop-b-preserved
loop-b-preserved c = let here = c.loop-b in record {
  limited = omega arith;
  whole = rw (c.min-n.ensures, c.from.ensures)
      (sym (one-digit c.args.text.now here.b-index here.n (omega arith) (sym c.if-not-is_ascii_digit.ensures.value)) ∙ here.invariant.whole);
}

pub returns : goal.returns
returns c = let here = c.loop-b in sym (no-digit-left c.args.text.now here.b-index here.n (omega arith)) ∙ here.invariant.whole
