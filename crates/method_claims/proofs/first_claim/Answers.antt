use mathlib.Core.Path.{refl}
use Rattle.claims.proofs.Kth.{kth-says}
use Rattle.method_claims.proofs.first_claim.Goals as goal

pub returns-in-0 : goal.returns-in-0
returns-in-0 c = λ s S d. kth-says c.in-0.is refl (c.holds_empty.ensures s _ d.pre_stands)

pub returns-in-1 : goal.returns-in-1
returns-in-1 c = λ s S d. kth-says c.in-1.is refl (c.holds_empty-in-1.ensures s _ d.normal_is.future_stands)
