use mathlib.Core.Path.{refl}
use Rattle.claims.proofs.Kth.{kth-named}
use Rattle.step_claims.proofs.direct_claim.Goals as goal

pub returns-in-0 : goal.returns-in-0
returns-in-0 c =
    λ s S n i from to t names p q raised.
    kth-named c.in-0.is refl names.past_is (c.forward.ensures s _ _ t p.past_stands raised q.past_stands)

pub returns-in-1 : goal.returns-in-1
returns-in-1 c =
    λ s S n i from to t names p q raised.
    kth-named c.in-1.is refl names.own_is (c.forward-in-1.ensures s _ _ t p.own_stands raised q.own_stands)

pub returns-in-2 : goal.returns-in-2
returns-in-2 c =
    λ s S n i from to t names p q raised.
    kth-named c.in-2.is refl names.due_is (c.backward.ensures s _ _ t raised q.due_stands p.due_stands)
