use mathlib.Core.Path.{refl}
use mathlib.Core.Option.{some}
use Rattle.condition.specs.Condition.{event}
use Rattle.claims.proofs.Says.{a_word}
use Rattle.claims.proofs.Kth.{named}
use Rattle.step_claims.proofs.event_claim.Goals as goal

pub returns : goal.returns
returns c =
    λ s S from to p q l.
    c.direct_claim.ensures s S 7 _ _ _ (some (event c.args.a)) (record { past_is = named; own_is = named; due_is = named }) p q (a_word (refl, l))
