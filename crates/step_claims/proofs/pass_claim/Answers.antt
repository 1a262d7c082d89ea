use mathlib.Core.Path.{refl}
use mathlib.Core.Option.{none}
use Rattle.claims.proofs.Kth.{named}
use Rattle.step_claims.proofs.pass_claim.Goals as goal

pub returns : goal.returns
returns c =
    λ s S from to p q. c.direct_claim.ensures s S 15 _ _ _ none (record { past_is = named; own_is = named; due_is = named }) p q refl
