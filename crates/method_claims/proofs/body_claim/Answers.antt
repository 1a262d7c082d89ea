use mathlib.Core.Path.{refl}
use native.Mathlib.Omega.{arith}
use Rattle.sheet.specs.Sheet.{normal}
use Rattle.claims.proofs.Kth.{named, kth-says, kth-upto, kth-from}
use Rattle.method_claims.proofs.body_claim.Goals as goal

pub returns-then-k-eq0 : goal.returns-then-k-eq0
returns-then-k-eq0 c = λ s S starts b is. kth-says c.if-k-eq0.true refl (c.inclusion.ensures s _ _ is.pre_is is.entry_is.past_stands)

pub returns-then-k-eq1 : goal.returns-then-k-eq1
returns-then-k-eq1 c = λ s S starts b is. kth-says c.if-k-eq1.true refl (c.holds_empty.ensures s _ is.entry_is.own_stands)

pub returns-then-k-lt4 : goal.returns-then-k-lt4
returns-then-k-lt4 c =
    λ s S starts b is.
    kth-from 2 refl (omega (arith, c.if-k-eq1.false, c.if-k-eq0.false))
    (kth-upto refl (omega (arith, c.if-k-lt4.true))
    (c.exit_claim.ensures s S 5 _ b.exit normal named named is.exit_is))

pub returns : goal.returns
returns c =
    λ s S starts b is.
    kth-from 4 refl (omega (arith, c.if-k-lt4.false)) (c.failed_exit_claim.ensures s S starts b.failed_exit is.first_is is.failing_is)
