use Rattle.std.proofs.Common.{ap, arith, length, length-append}
use Rattle.text.proofs.Decimal.{twenty-digits}
use Rattle.text.proofs.put_value.Goals as goal

pub put_number-requires : goal.put_number-requires
put_number-requires c = omega (arith, twenty-digits c.args.n c.ranges.n.fits, simp length-append at (ap length c.put_text.ensures))

pub returns-clause-upper_bound : goal.returns-clause-upper_bound
returns-clause-upper_bound c =
    omega (
      arith,
      twenty-digits c.args.n c.ranges.n.fits,
      simp length-append at (ap length c.put_text.ensures),
      simp length-append at (ap length c.put_number.ensures),
    )
