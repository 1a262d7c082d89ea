-- A byte is below 256.
use Rattle.std.proofs.Common.{arith}
use Rattle.sheet_laws.proofs.Fields.{short-lt, short-value}
use Rattle.cases.proofs.first_short.Goals as goal

pub returns-clause-upper_bound : goal.returns-clause-upper_bound
returns-clause-upper_bound c = omega (arith, c.short_at.ensures, short-lt c.args.bytes.now (λ i. (c.type_inv.bytes i).fits) 0)

pub returns-clause-value : goal.returns-clause-value
returns-clause-value c = omega (arith, c.short_at.ensures, short-value c.args.bytes.now 0)
