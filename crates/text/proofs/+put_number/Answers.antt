use Rattle.std.proofs.Common.{ap, arith, length, append_assoc, length-append}
use Rattle.text.proofs.Decimal.{one-digit, last-digit, one-long, one-longer}
use Rattle.text.proofs.+put_number.Goals as goal

pub push-requires : goal.push-requires
push-requires t c = (omega arith, omega (arith, one-long c.args.n (omega arith)))

pub put_number-requires : goal.put_number-requires
put_number-requires t c = (omega arith, omega (arith, one-longer c.args.n (omega arith)))

pub push-requires-else-n-lt10 : goal.push-requires-else-n-lt10
push-requires-else-n-lt10 t c =
    (omega arith, omega (arith, one-longer c.args.n (omega arith), simp length-append at (ap length c.put_number.ensures)))

pub returns-then-n-lt10 : goal.returns-then-n-lt10
returns-then-n-lt10 t c = rw (c.push.ensures.items, c.digit.ensures, one-digit c.args.n c.if-n-lt10.true)

pub returns-else-n-lt10 : goal.returns-else-n-lt10
returns-else-n-lt10 t c =
    rw (c.push-else-n-lt10.ensures.items, c.digit-else-n-lt10.ensures, last-digit c.args.n c.if-n-lt10.false, c.put_number.ensures, append_assoc)
