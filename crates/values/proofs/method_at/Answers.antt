use mathlib.Core.Path.{refl}
use Rattle.kinds.specs.declared.Kind.TheVariants.{WithBody, Primitive, TwoOutcomePrimitive, TwoOutcomeBody}
use Rattle.format.proofs.Laws.{byte-of, not-kind}
use Rattle.values.proofs.MethodKinds.{built, failing_is, failed-primitive, failed-body, not-failing-8, not-failing, no-body-8, no-body-15, body-16, body-other}
use Rattle.values.proofs.method_at.Goals as goal

pub returns-in-Primitive : goal.returns-in-Primitive
returns-in-Primitive c =
    let a = c.args in
    let e = byte-of a.s.now a.at WithBody c.kind_at.result c.kind_at.ensures c.unwrap_or.ensures Primitive c.in-Primitive.is refl in
    built c.declaration_at-declaration.ensures (not-failing-8 a.s.now a.at e) (no-body-8 a.s.now a.at e)

pub returns-in-TwoOutcomePrimitive : goal.returns-in-TwoOutcomePrimitive
returns-in-TwoOutcomePrimitive c =
    let a = c.args in
    let e = byte-of a.s.now a.at WithBody c.kind_at.result c.kind_at.ensures c.unwrap_or.ensures TwoOutcomePrimitive c.in-TwoOutcomePrimitive.is refl in
    let failing = failing_is a.s.now a.at c.failed_at.ensures (failed-primitive a.s.now a.at e) in
    built c.declaration_at-declaration.ensures failing (no-body-15 a.s.now a.at e)

pub returns-in-TwoOutcomeBody : goal.returns-in-TwoOutcomeBody
returns-in-TwoOutcomeBody c =
    let a = c.args in
    let e = byte-of a.s.now a.at WithBody c.kind_at.result c.kind_at.ensures c.unwrap_or.ensures TwoOutcomeBody c.in-TwoOutcomeBody.is refl in
    let failing = failing_is a.s.now a.at c.failed_at-declared.ensures (failed-body a.s.now a.at e) in
    built c.declaration_at-declaration.ensures failing
    (body-16 a.s.now a.at c.body_at-body.ensures.0 c.body_at-body.ensures.1 e c.short_at-exit.ensures)

pub returns-in_default : goal.returns-in_default
returns-in_default c =
    let a = c.args in
    let body = c.body_at.ensures in
    let other = not-kind a.s.now a.at WithBody c.kind_at.result c.kind_at.ensures c.unwrap_or.ensures in
    built c.declaration_at-declaration.ensures
    (not-failing a.s.now a.at (other TwoOutcomePrimitive c.in_default.not-TwoOutcomePrimitive) (other TwoOutcomeBody c.in_default.not-TwoOutcomeBody))
    (body-other a.s.now a.at body.0 body.1 (other Primitive c.in_default.not-Primitive) (other TwoOutcomePrimitive c.in_default.not-TwoOutcomePrimitive) (other TwoOutcomeBody c.in_default.not-TwoOutcomeBody))
