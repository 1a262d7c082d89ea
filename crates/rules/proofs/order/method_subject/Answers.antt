use mathlib.Core.Path.{refl}
use mathlib.Core.Option.{none, some}
use Rattle.index.proofs.Indexed.{point-in}
use Rattle.rules.proofs.Decoded.{body-rules, body-names, fails}
use Rattle.rules.proofs.Told.{told-rules}
use Rattle.rules.proofs.order.method_subject.Goals as goal

pub body_subject-requires : goal.body_subject-requires
body_subject-requires c =
    let (S, x, l) = c.requires in
    let names = body-names x l c.in-WithBody.is c.method_at.ensures in
    (S, x, l, names.0, names.1)

pub failed_way-way-requires : goal.failed_way-way-requires
failed_way-way-requires c =
    let (S, x, l) = c.requires in
    let is = c.in-TwoOutcomeBody.is in
    let read = c.method_at.ensures in
    (S, point-in x _ (body-names x l is read).2, fails x l is read _ refl)

pub body_subject-requires-in-TwoOutcomeBody : goal.body_subject-requires-in-TwoOutcomeBody
body_subject-requires-in-TwoOutcomeBody c =
    let (S, x, l) = c.requires in
    let names = body-names x l c.in-TwoOutcomeBody.is c.method_at.ensures in
    (S, x, l, names.0, names.1)

pub returns-in-WithBody : goal.returns-in-WithBody
returns-in-WithBody c =
    λ S starts first x l.
    let is = c.in-WithBody.is in
    let read = c.method_at.ensures in
    let names = body-names x l is read in
    told-rules _ S c.body_subject.result (body-rules x l is read starts)
    (c.body_subject.ensures S starts none first x l names.0 names.1 tt)

pub returns-in-TwoOutcomeBody : goal.returns-in-TwoOutcomeBody
returns-in-TwoOutcomeBody c =
    λ S starts first x l.
    let is = c.in-TwoOutcomeBody.is in
    let read = c.method_at.ensures in
    let names = body-names x l is read in
    let failing = c.failed_way-way.ensures S (point-in x _ names.2) (fails x l is read _ refl) in
    told-rules _ S c.body_subject-in-TwoOutcomeBody.result (body-rules x l is read starts)
    (c.body_subject-in-TwoOutcomeBody.ensures S starts (some _) first x l names.0 names.1 failing)
