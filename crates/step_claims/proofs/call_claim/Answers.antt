use mathlib.Core.Path.{refl}
use native.Mathlib.Omega.{arith}
use Rattle.sheet.specs.Sheet.{normal}
use Rattle.claims.proofs.Kth.{named, kth-says, kth-upto, kth-from}
use Rattle.step_claims.proofs.call_claim.Goals as goal

pub returns-then-k-eq0 : goal.returns-then-k-eq0
returns-then-k-eq0 c =
    λ s S t is.
    kth-says c.if-k-eq0.true refl (c.within.ensures s _ _ is.from_is.past_stands (c.on_channel-pre.ensures s _ t.channel is.pre_is is.channel_is))

pub returns-then-k-lt5 : goal.returns-then-k-lt5
returns-then-k-lt5 c =
    λ s S t is.
    kth-from 1 refl (omega (arith, c.if-k-eq0.false))
    (kth-upto refl (omega (arith, c.if-k-lt5.true))
    (c.return_claim.ensures s S 11 _ t.to t normal (record { past_is = named; own_is = named; future_is = named; due_is = named })
    is.channel_is is.from_is is.to_is))

pub returns : goal.returns
returns c = λ s S t is. kth-from 5 refl (omega (arith, c.if-k-lt5.false)) (c.later_call_claim.ensures s S t is)
