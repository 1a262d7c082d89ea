use mathlib.Core.Path.{◌≡◌, sym, ◌∙◌, subst, ap, refl}
use mathlib.Core.Bool.{true, false}
use Prim.Native.Nat.{◌<◌}
use native.Mathlib.Omega.{arith}
use borrow.Author.Rules.{rules}
use Rattle.kinds.specs.Numbers.{kind_number}
use Rattle.format.specs.Found.{numbered}
use Rattle.kinds.specs.declared.Kind.TheVariants.{Edition}
use Rattle.kinds.proofs.Numbers.{other-byte}
use Rattle.std.specs.Prelude.{Err}
use Rattle.sheet.specs.Model.{condition_limit}
use Rattle.sheet.specs.Kind.{kind_of, section_of}
use Rattle.sheet.specs.Reading.{in_condition}
use Rattle.sheet_laws.proofs.Take.{next-lt}
use Rattle.format.specs.declared.Refusal.{Refusal}
use Rattle.format.proofs.Laws.{Stood, stood, Refuses, refused}
use Rattle.instrument.specs.Model.{model_with}
use Rattle.refusals.specs.Step.{Modest, ends_one}
use Rattle.refusals.proofs.Laws.{modest-past}
use Rattle.condition_section.proofs.Opening.{all_read, unfinished, ends, second-mark, later-section, still_open, no_step, past-symbol, past_end}
use Rattle.condition_section.proofs.Marked.{begin}
use Rattle.condition_section.proofs.read_conditions.Goals as goal
use Rattle.condition_section.proofs.read_conditions.Goals.{After-condition_step, After-counts, In-Some, Then-not-in_condition}

pub loop-at-init : goal.loop-at-init
loop-at-init c = (
  subst Modest (sym c.nothing_begun-begun.ensures) (omega arith),
  omega arith,
  λ o u told none. begin c.args.table.now told none c.nothing_begun-begun.ensures c.past_mark-at.ensures,
)

pub returns-in_default : goal.returns-in_default
returns-in_default c =
    λ o u told none.
    let h = c.loop-at.invariant.2 o u told none in
    let M = model_with c.args.limits in
    let why = refused M c.args.s.now c.loop-at.at h.state (sym c.record_at.ensures ∙ ap numbered c.in_default.is) in
    ends h c.loop-at-test.true _ (subst (λ (x : Refusal). Refuses M c.args.s.now c.loop-at.at h.state x) (sym c.refusal_at.ensures) why)

-- the record that the turn reads
standing : (c : In-Some) → Stood (model_with c.args.limits) c.args.s.now c.loop-at.at (kind_number c.in-Some.field-0.kind) c.in-Some.field-0.next
standing c = stood _ _ _ (sym c.record_at.ensures ∙ ap numbered c.in-Some.is)

-- it stands in no condition
outside : (c : Then-not-in_condition) → in_condition (section_of (kind_number c.in-Some.field-0.kind)) (kind_of (kind_number c.in-Some.field-0.kind)).role ≡ false
outside c = sym c.in_condition.ensures ∙ c.if-not-in_condition.true

pub returns-then-begun-gt0 : goal.returns-then-begun-gt0
returns-then-begun-gt0 c =
    λ o u told none.
    let way = goal.at.returns-then-begun-gt0 c in
    still_open (c.loop-at.invariant.2 o u told none) c.loop-at-test.true (standing way.In-Some) (outside way.Then-not-in_condition) c.if-begun-gt0.true

pub returns-in-Edition : goal.returns-in-Edition
returns-in-Edition c =
    λ o u told none.
    let way = goal.at.returns-in-Edition c in
    second-mark (c.loop-at.invariant.2 o u told none) c.loop-at-test.true (standing way.In-Some) (outside way.Then-not-in_condition)
    c.if-begun-gt0.false (ap kind_number c.in-Edition.is)

pub returns-then-not-in_condition : goal.returns-then-not-in_condition
returns-then-not-in_condition c =
    λ o u told none.
    let way = goal.at.returns-then-not-in_condition c in
    later-section (c.loop-at.invariant.2 o u told none) c.loop-at-test.true (standing way.In-Some) (outside way.Then-not-in_condition)
    c.if-begun-gt0.false c.requires.0 (other-byte Edition refl c.in_default-kind.not-Edition)

pub condition_step-requires : goal.condition_step-requires
condition_step-requires c = c.loop-at.invariant.0

-- it stands in a condition
inside : (c : After-condition_step) → in_condition (section_of (kind_number c.in-Some.field-0.kind)) (kind_of (kind_number c.in-Some.field-0.kind)).role ≡ true
inside c = sym c.in_condition.ensures ∙ c.if-not-in_condition.false

pub returns-in_err-begun : goal.returns-in_err-begun
returns-in_err-begun c =
    let e : c.from_residual.result ≡ Err c.in_err-begun.field-0.0 = search rules in
    λ o u told none.
    let way = goal.at.returns-in_err-begun c in
    no_step (c.loop-at.invariant.2 o u told none) c.loop-at-test.true (standing way.In-Some) (inside way.After-condition_step)
    c.condition_step.ensures e c.in_err-begun.was

-- what the step leaves begun, and the room for a condition that ends
modest : (c : After-counts) → Modest c.in_ok-begun.begun × (ends_one (kind_number c.in-Some.field-0.kind) ≡ true → c.loop-at.tally.conditions < condition_limit)
modest c = modest-past (kind_number c.in-Some.field-0.kind) c.loop-at.tally.conditions c.loop-at.at c.loop-at.invariant.0 c.condition_step.ensures c.in_ok-begun.was

-- a condition ends
room : (c : After-counts) → c.counts.result ≡ true → c.loop-at.tally.conditions < condition_limit
room c ends = (modest c).1 (sym c.counts.ensures ∙ ends)

-- the next record stands behind
forth : (c : In-Some) → c.loop-at.at < c.in-Some.field-0.next
forth c = omega (arith, (standing c).next, next-lt c.args.s.now c.loop-at.at)

pub loop-at-smaller-then-counts : goal.loop-at-smaller-then-counts
loop-at-smaller-then-counts c =
    let here = (goal.at.loop-at-smaller-then-counts c).In-Some in
    omega (arith, (standing here).next, (standing here).inside, forth here)

pub loop-at-preserved-then-counts : goal.loop-at-preserved-then-counts
loop-at-preserved-then-counts c =
    let way = goal.at.loop-at-preserved-then-counts c in (
      (modest way.After-counts).0,
      omega arith,
      λ o u told none.
          past_end (c.loop-at.invariant.2 o u told none) c.loop-at-test.true (standing way.In-Some) (inside way.After-condition_step)
          c.condition_step.ensures c.in_ok-begun.was (sym c.counts.ensures ∙ c.if-counts.true) c.past-tally.ensures,
    )

pub loop-at-smaller : goal.loop-at-smaller
loop-at-smaller c =
    let here = (goal.at.loop-at-smaller c).In-Some in
    omega (arith, (standing here).next, (standing here).inside, forth here)

pub loop-at-preserved : goal.loop-at-preserved
loop-at-preserved c =
    let way = goal.at.loop-at-preserved c in (
      (modest way.After-counts).0,
      omega (arith, c.loop-at.invariant.1, forth way.In-Some),
      λ o u told none.
          past-symbol (c.loop-at.invariant.2 o u told none) c.loop-at-test.true (standing way.In-Some) (inside way.After-condition_step)
          c.condition_step.ensures c.in_ok-begun.was (sym c.counts.ensures ∙ c.if-counts.false),
    )

pub returns-then-begun-gt0-2 : goal.returns-then-begun-gt0-2
returns-then-begun-gt0-2 c = λ o u told none. unfinished (c.loop-at.invariant.2 o u told none) c.if-begun-gt0-2.true c.loop-at-test.false

pub returns : goal.returns
returns c = λ o u told none. all_read (c.loop-at.invariant.2 o u told none) c.if-begun-gt0-2.false c.loop-at-test.false
