use mathlib.Core.Path.{refl, sym, ap, ◌∙◌}
use mathlib.Core.Bool.{true, false}
use mathlib.Core.Logic.{inl, inr}
use Rattle.runs.specs.Rules.{method_rules, total}
use Rattle.verdict.specs.Verdict.{certificates_needed}
use Rattle.values.specs.declared.Method.{Method}
use Rattle.values.specs.Values.{method_value}
use Rattle.needs.proofs.Summed.{needed-as, no-body, two-outcomes}
use Rattle.needs.proofs.method_needs.Goals as goal

pub returns-in-Primitive : goal.returns-in-Primitive
returns-in-Primitive c =
    λ S starts m first.
    elim c.in-Primitive.is [
      | inl (d, is) ↦ no-body S starts m is refl
      | inr (d, f, is) ↦ no-body S starts m is refl
    ]

pub returns-in-WithBody : goal.returns-in-WithBody
unfolding certificates_needed total
returns-in-WithBody c =
    λ S starts m first.
    needed-as (ap (λ (v : Method). method_rules S starts m (method_value v).body) c.in-WithBody.is)
    (record { rules_are = refl; certificates_are = refl })

pub returns-then-first : goal.returns-then-first
returns-then-first c =
    λ S starts m first.
    needed-as (ap (λ (v : Method). method_rules S starts m (method_value v).body) c.in-TwoOutcomeBody.is)
    (two-outcomes S starts m _ _ true (sym first ∙ c.if-first.true))

pub returns-else-first : goal.returns-else-first
returns-else-first c =
    λ S starts m first.
    needed-as (ap (λ (v : Method). method_rules S starts m (method_value v).body) c.in-TwoOutcomeBody.is)
    (two-outcomes S starts m _ _ false (sym first ∙ c.if-first.false))
