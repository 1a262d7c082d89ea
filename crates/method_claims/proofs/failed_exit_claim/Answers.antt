use mathlib.Core.Path.{◌≡◌, refl, ap, ◌∙◌}
use mathlib.Core.Bool.{Bool, true}
use native.Mathlib.Omega.{arith}
use Rattle.sheet.specs.Sheet.{failed}
use Rattle.index.proofs.There.{fails_by}
use Rattle.claims.proofs.Kth.{named, kth-says, kth-as, kth-upto}
use Rattle.method_claims.proofs.FailedExit.{failed_rules, failed-rules}
use Rattle.method_claims.proofs.failed_exit_claim.Goals as goal

pub returns-then-k-lt2 : goal.returns-then-k-lt2
returns-then-k-lt2 c =
    λ s S starts e first is.
    let x = fails_by s S e _ c.in_ok-exit.was is in
    kth-as (failed-rules S starts _ first x.is)
    (kth-upto refl c.if-k-lt2.true
    (c.exit_claim.ensures s S 22 _ x.point failed named named x.has))

pub returns-then-k-eq2 : goal.returns-then-k-eq2
returns-then-k-eq2 c =
    λ s S starts e first is.
    let a = c.args in
    let x = fails_by s S e _ c.in_ok-exit.was is in
    let starting : a.first ≡ true = cc in
    let known : a.k ≡ 2 = omega arith in
    kth-as (failed-rules S starts _ first x.is ∙ ap (λ (first : Bool). failed_rules S first a.m x.point) starting)
    (kth-says known refl (c.holds_empty.ensures s _ x.has.declared_is.future_stands))
