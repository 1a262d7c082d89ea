use mathlib.Core.Path.{sym, ap, ◌∙◌, subst}
use mathlib.Core.Bool.{Bool, not}
use Prim.Native.Nat.{◌≤◌, ◌<◌}
use native.Mathlib.Omega.{arith}
use borrow.Author.Tests.{ltb-true, ltb-false}
use Rattle.format.specs.Found.{numbered}
use Rattle.kinds.specs.Numbers.{kind_number}
use Rattle.sheet.specs.Kind.{section_of}
use Rattle.sheet_laws.proofs.Take.{next-lt}
use Rattle.format.specs.declared.Refusal.{Refusal}
use Rattle.format.proofs.Laws.{Stood, stood, Refuses, refused}
use Rattle.instrument.specs.Model.{model_with}
use Rattle.tally.specs.declared.Tally.{Tally}
use Rattle.sections.proofs.Ending.{Ending, ends, too-early, past-pair, past_end, concluded}
use Rattle.sections.proofs.read_certificates.Goals as goal
use Rattle.sections.proofs.read_certificates.Goals.{After-counts-ends, In-Some}

pub returns-in_default : goal.returns-in_default
returns-in_default c =
    λ o u told none sheet.
    let h = c.loop-at.invariant.1 o u told none in
    let M = model_with c.args.limits in
    let none-there = sym c.record_at.ensures ∙ ap numbered c.in_default.is in
    ends h c.loop-at-test.true _
    (subst (λ (x : Refusal). Refuses M c.args.s.now c.loop-at.at h.state x) (sym c.refusal_at.ensures)
    (refused M c.args.s.now c.loop-at.at h.state none-there))

-- the record that the turn reads
standing : (c : In-Some) → Stood (model_with c.args.limits) c.args.s.now c.loop-at.at (kind_number c.in-Some.field-0.kind) c.in-Some.field-0.next
standing c = stood _ _ _ (sym c.record_at.ensures ∙ ap numbered c.in-Some.is)

pub returns-then-is_before : goal.returns-then-is_before
returns-then-is_before c =
    λ o u told none sheet.
    too-early (c.loop-at.invariant.1 o u told none) c.loop-at-test.true (standing (goal.at.returns-then-is_before c).In-Some)
    (omega (arith, ltb-true _ _ (sym c.is_before.ensures ∙ c.if-is_before.true), c.section.ensures))

-- it is of the section, and the next record stands behind
high : (c : After-counts-ends) → 5 ≤ section_of (kind_number c.in-Some.field-0.kind)
high c = omega (arith, ltb-false _ _ (sym c.is_before.ensures ∙ c.if-is_before.false), c.section.ensures)

forth : (c : In-Some) → c.loop-at.at < c.in-Some.field-0.next
forth c = omega (arith, (standing c).next, next-lt c.args.s.now c.loop-at.at)

pub loop-at-smaller-then-ends : goal.loop-at-smaller-then-ends
loop-at-smaller-then-ends c =
    let here = (goal.at.loop-at-smaller-then-ends c).In-Some in
    omega (arith, (standing here).next, (standing here).inside, forth here)

pub loop-at-preserved-then-ends : goal.loop-at-preserved-then-ends
loop-at-preserved-then-ends c =
    let way = goal.at.loop-at-preserved-then-ends c in
    let one_more = ap (λ (t : Tally). t.certificates) c.past-tally.ensures in (
      omega (arith, c.loop-at.invariant.0, forth way.In-Some),
      λ o u told none.
          subst (λ (inside : Bool). Ending (model_with c.args.limits) c.args.s.now o u c.args.reached.at c.in-Some.field-0.next c.past-tally.result inside)
          (sym (ap not c.if-ends.true))
          (past_end (c.loop-at.invariant.1 o u told none) c.loop-at-test.true (standing way.In-Some) (high way.After-counts-ends)
          (sym c.counts-ends.ensures ∙ c.if-ends.true) c.past-tally.ensures),
    )

pub loop-at-smaller : goal.loop-at-smaller
loop-at-smaller c =
    let here = (goal.at.loop-at-smaller c).In-Some in
    omega (arith, (standing here).next, (standing here).inside, forth here)

pub loop-at-preserved : goal.loop-at-preserved
loop-at-preserved c =
    let way = goal.at.loop-at-preserved c in (
      omega (arith, c.loop-at.invariant.0, forth way.In-Some),
      λ o u told none.
          subst (λ (inside : Bool). Ending (model_with c.args.limits) c.args.s.now o u c.args.reached.at c.in-Some.field-0.next c.loop-at.tally inside)
          (sym (ap not c.if-ends.false))
          (past-pair (c.loop-at.invariant.1 o u told none) c.loop-at-test.true (standing way.In-Some) (high way.After-counts-ends)
          (sym c.counts-ends.ensures ∙ c.if-ends.false)),
    )

pub returns : goal.returns
returns c = λ o u told none sheet. concluded (c.loop-at.invariant.1 o u told none) c.loop-at-test.false sheet c.at_end.ensures
