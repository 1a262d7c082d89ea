use mathlib.Core.Path.{refl}
use Rattle.claims.proofs.Kth.{kth-says}
use Rattle.step_claims.proofs.stop_claim.Goals as goal

pub returns-in-0 : goal.returns-in-0
returns-in-0 c = λ s S p d. kth-says c.in-0.is refl (c.holds_empty.ensures s _ d)
