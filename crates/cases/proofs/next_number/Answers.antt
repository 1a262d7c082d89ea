use Rattle.cases.proofs.Numbers.{then-more, as-one}
use Rattle.cases.proofs.next_number.Goals as goal

pub returns-in_err-high-clause-bytes : goal.returns-in_err-high-clause-bytes
returns-in_err-high-clause-bytes g c = rw c.from_residual-in_err-high.ensures (then-more _ _ _ c.in_ok-low.ensures.bytes c.in_err-high.ensures.bytes)

pub returns-clause-bytes : goal.returns-clause-bytes
returns-clause-bytes g c = as-one _ _ _ c.in_ok-low.low c.in_ok-high.high c.in_ok-low.ensures.bytes c.in_ok-high.ensures.bytes
