use mathlib.Core.Path.{refl}
use Rattle.claims.proofs.Kth.{kth-named}
use Rattle.method_claims.proofs.exit_claim.Goals as goal

pub returns-in-0 : goal.returns-in-0
returns-in-0 c =
    λ s S n m e o own due w.
    kth-named c.in-0.is refl own (c.inclusion.ensures s _ _ w.point_is.own_stands w.declared_is.trace_stands)

pub returns-in-1 : goal.returns-in-1
returns-in-1 c =
    λ s S n m e o own due w.
    kth-named c.in-1.is refl due (c.inclusion-in-1.ensures s _ _ w.declared_is.future_stands w.point_is.due_stands)
