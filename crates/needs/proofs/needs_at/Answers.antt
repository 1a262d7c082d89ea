use Prim.Native.Nat.{◌-◌, ◌<◌}
use mathlib.Core.Path.{refl, ◌∙◌}
use mathlib.Core.List.{[], ◌∷◌}
use lib.ListN.{length}
use native.Mathlib.Omega.{arith}
use Rattle.runs.specs.Rules.{total}
use Rattle.verdict.specs.Verdict.{certificates_needed}
use Rattle.index.proofs.Indexed.{method-is, step_is}
use Rattle.rules.proofs.Decoded.{body-rules, step-rules}
use Rattle.rules.proofs.Groups.{starts_first, first_group, method-group, step-group}
use Rattle.needs.proofs.Summed.{needed-as}
use Rattle.needs.proofs.Calls.{step-called}
use Rattle.needs.proofs.needs_at.Goals as goal

pub returns-then-number-eq0 : goal.returns-then-number-eq0
unfolding certificates_needed total
returns-then-number-eq0 c = λ S xs h is. needed-as (first_group S _ is c.if-number-eq0.true) (record { rules_are = refl; certificates_are = refl })

pub returns-then-k-listed : goal.returns-then-k-listed
returns-then-k-listed c =
    λ S xs h is.
    let (cs, ps, x) = h in
    let a = c.args in
    let l : a.number - 1 < length S.methods = omega (arith, x.methods_are, c.if-k-listed.true) in
    needed-as
    (method-group S a.number is (a.number - 1) (omega (arith, c.if-number-eq0.false)) _ (method-is x.indexes _ l) l
    ∙ body-rules x.indexes l {v = c.method_at-method.result} refl c.method_at-method.ensures (0 ∷ []))
    (c.method_needs.ensures S (0 ∷ []) (a.number - 1) (starts_first (a.number - 1)))

pub step_needs-requires : goal.step_needs-requires
step_needs-requires c =
    let (S, h) = c.requires.subjects in
    let (cs, ps, x) = h in
    let a = c.args in
    let l : a.number - 1 - a.x.counts.methods < length S.steps =
    omega (arith, x.methods_are, x.steps_are, c.requires.number_bound, c.if-k-listed.false, c.if-number-eq0.false) in
    (S, step-called x l c.step_at-step.result c.step_at-step.ensures)

pub returns : goal.returns
returns c =
    λ S xs h is.
    let (cs, ps, x) = h in
    let a = c.args in
    let l : a.number - 1 - a.x.counts.methods < length S.steps =
    omega (arith, x.methods_are, x.steps_are, c.requires.number_bound, c.if-k-listed.false, c.if-number-eq0.false) in
    needed-as
    (step-group S a.number is (a.number - 1 - a.x.counts.methods)
    (omega (arith, x.methods_are, c.if-k-listed.false, c.if-number-eq0.false)) _ (step_is x.indexes _ l)
    ∙ step-rules x.indexes l {v = c.step_at-step.result} refl c.step_at-step.ensures)
    (c.step_needs.ensures S (a.number - 1 - a.x.counts.methods) (step-called x l c.step_at-step.result c.step_at-step.ensures))
