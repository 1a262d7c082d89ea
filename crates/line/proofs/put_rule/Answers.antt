use Rattle.std.proofs.Common.{ap, arith, append_assoc, length, length-append}
use Rattle.verdict.specs.Line.{ascii}
use Rattle.text.proofs.Decimal.{two_digits}
use Rattle.line.proofs.put_rule.Goals as goal

pub put_number-requires : goal.put_number-requires
put_number-requires c = omega (arith, two_digits c.args.number (omega arith), simp length-append at (ap length c.put_text.ensures))

pub returns-clause-put : goal.returns-clause-put
unfolding ascii
returns-clause-put c = rw (c.put_number.ensures, c.put_text.ensures, append_assoc)

pub returns-clause-upper_bound : goal.returns-clause-upper_bound
returns-clause-upper_bound c =
    omega (
      arith,
      two_digits c.args.number (omega arith),
      simp length-append at (ap length c.put_text.ensures),
      simp length-append at (ap length c.put_number.ensures),
    )
