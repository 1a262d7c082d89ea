use native.Mathlib.Omega.{arith}
use Rattle.needs.proofs.Calls.{with-entry}
use Rattle.needs.proofs.call_needs.Goals as goal

pub returns-in-Some : goal.returns-in-Some
returns-in-Some c = λ S i t xs h. with-entry S i t c.in-Some.is h (omega arith)
