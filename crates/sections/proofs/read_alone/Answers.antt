use mathlib.Core.Path.{◌≡◌, refl, sym, ap, ◌∙◌, subst}
use mathlib.Core.Bool.{true, false}
use mathlib.Core.List.{[]}
use Prim.Native.Nat.{◌<◌}
use native.Mathlib.Omega.{arith}
use lib.ListN.{length, length-set}
use lib.Dec.{leb}
use borrow.Author.Rules.{rules}
use borrow.Author.Tests.{ltb-true, ltb-false, le-leb, lt-leb}
use Rattle.format.specs.Found.{numbered}
use Rattle.kinds.specs.Numbers.{kind_number, section_number}
use Rattle.sheet.specs.Kind.{section_of}
use Rattle.sheet.specs.Reading.{Reading, ReadResult}
use Rattle.sheet_laws.proofs.Take.{next-lt}
use Rattle.format.specs.declared.Refusal.{Refusal}
use Rattle.format.proofs.Laws.{Stood, stood, Refuses, refused}
use Rattle.instrument.specs.Model.{model_with}
use Rattle.refusals.specs.Editions.{stop_fits}
use Rattle.tally.specs.Tally.{count_of, tally_after}
use Rattle.std.specs.Prelude.{Result, Err}
use Rattle.sections.specs.declared.Reached.{Reached}
use Rattle.sections.specs.Sections.{Told, done, Filled, NamedListed}
use Rattle.sections.proofs.Alone.{begin, passes, no_more, no_record, too-early, later-section, old-stop, over-limit, misnamed, again}
use Rattle.sections.proofs.read_alone.Goals as goal
use Rattle.sections.proofs.read_alone.Goals.{After-count-first, After-count-n, After-stop_fits, Else-limit-n, In-Some, In-loop-at}

pub returns-in_err-at : goal.returns-in_err-at
returns-in_err-at c =
    let e : c.from_residual.result ≡ Err c.in_err-at.field-0.0 = search rules in
    λ o u told none listed. passes e (subst (λ (a : Result Reached Refusal). Told (model_with c.args.limits) c.args.s.now o (section_number c.args.section) a u) (c.in_err-at.was ∙ sym e) told) none

pub loop-at-init : goal.loop-at-init
loop-at-init c = (refl, λ o u told none listed. record { state = u; told = told; grown = begin _ none; listed = λ low h. h })

-- reading has come to the section
given : (c : After-count-first) (o : ReadResult) (u : Reading) → Told (model_with c.args.limits) c.args.s.now o (section_number c.args.section) c.args.reached u
    → Told (model_with c.args.limits) c.args.s.now o (section_number c.args.section) (done c.in_ok-at.field-0.at c.in_ok-at.field-0.tally) u
given c o u told = subst (λ (a : Result Reached Refusal). Told (model_with c.args.limits) c.args.s.now o (section_number c.args.section) a u) c.in_ok-at.was told

-- what the loop has kept, where a turn begins
kept : (c : In-loop-at) (o : ReadResult) (u : Reading) → Told (model_with c.args.limits) c.args.s.now o (section_number c.args.section) c.args.reached u
    → u.own (section_number c.args.section) ≡ [] → NamedListed c.args.s.now c.args.points.now c.args.methods.now (section_number c.args.section) u
    → Filled (model_with c.args.limits) c.args.s.now o (section_number c.args.section) (done c.loop-at.at c.loop-at.tally) (section_number c.args.section) u c.args.table.now c.loop-at.table
kept c o u told none listed =
    c.loop-at.invariant.1 o u (subst (λ (a : Result Reached Refusal). Told (model_with c.args.limits) c.args.s.now o (section_number c.args.section) a u) c.in_ok-at.was told) none listed

-- the record that the turn reads
standing : (c : In-Some) → Stood (model_with c.args.limits) c.args.s.now c.loop-at.at (kind_number c.in-Some.field-0.kind) c.in-Some.field-0.next
standing c = stood _ _ _ (sym c.record_at.ensures ∙ ap numbered c.in-Some.is)

pub returns-in_default : goal.returns-in_default
returns-in_default c =
    λ o u told none listed.
    let k = kept (goal.at.returns-in_default c).In-loop-at o u told none listed in
    let M = model_with c.args.limits in
    let why = refused M c.args.s.now c.loop-at.at k.state (sym c.record_at.ensures ∙ ap numbered c.in_default.is) in
    no_record c.requires.0 k c.loop-at-test.true _
    (subst (λ (x : Refusal). Refuses M c.args.s.now c.loop-at.at k.state x) (sym c.refusal_at.ensures) why)

pub returns-then-is_before : goal.returns-then-is_before
returns-then-is_before c =
    λ o u told none listed.
    let way = goal.at.returns-then-is_before c in
    too-early c.requires.0 (kept way.In-loop-at o u told none listed) c.loop-at-test.true (standing way.In-Some)
    (omega (arith, ltb-true _ _ (sym c.is_before.ensures ∙ c.if-is_before.true), c.section-here.ensures))

pub returns-then-is_before-2 : goal.returns-then-is_before-2
returns-then-is_before-2 c =
    λ o u told none listed.
    let way = goal.at.returns-then-is_before-2 c in
    later-section c.requires.0 (kept way.In-loop-at o u told none listed) c.loop-at-test.true (standing way.In-Some)
    (omega (arith, ltb-true _ _ (sym c.is_before-in-loop-at.ensures ∙ c.if-is_before-2.true), c.section-here.ensures))

-- the record is of the section
same : (c : After-stop_fits) → section_of (kind_number c.in-Some.field-0.kind) ≡ (section_number c.args.section)
same c = omega (arith, ltb-false _ _ (sym c.is_before.ensures ∙ c.if-is_before.false), ltb-false _ _ (sym c.is_before-in-loop-at.ensures ∙ c.if-is_before-2.false), c.section-here.ensures)

pub returns-then-not-stop_fits : goal.returns-then-not-stop_fits
returns-then-not-stop_fits c =
    λ o u told none listed.
    let way = goal.at.returns-then-not-stop_fits c in
    old-stop c.requires.0 (kept way.In-loop-at o u told none listed) c.loop-at-test.true (standing way.In-Some) (same way.After-stop_fits)
    (sym c.stop_fits.ensures ∙ c.if-not-stop_fits.true)

-- it is no stop of an old sheet
stops : (c : After-count-n) → stop_fits c.args.s.now (kind_number c.in-Some.field-0.kind) ≡ true
stops c = sym c.stop_fits.ensures ∙ c.if-not-stop_fits.false

-- how many of the section are counted
counted : (c : After-count-n) → c.count-n.result ≡ count_of c.loop-at.tally (section_number c.args.section)
counted c = c.count-n.ensures ∙ ap (count_of c.loop-at.tally) c.number-number.ensures

pub returns-then-limit-n : goal.returns-then-limit-n
returns-then-limit-n c =
    λ o u told none listed.
    let way = goal.at.returns-then-limit-n c in
    over-limit c.requires.0 (kept way.In-loop-at o u told none listed) c.loop-at-test.true (standing way.In-Some) (same way.After-stop_fits)
    (stops way.After-count-n) (le-leb c.args.limit (count_of c.loop-at.tally (section_number c.args.section)) (omega (arith, c.if-limit-n.true, counted way.After-count-n)))

pub judge-requires : goal.judge-requires
judge-requires c =
    let way = goal.at.judge-requires c in
    let is = same way.After-stop_fits in
    let w = standing way.In-Some in
    record { is = w.kind; low = omega (arith, c.requires.0.low); high = omega (arith, c.requires.0.high); inside = w.inside }

-- there is room for one more
within : (c : Else-limit-n) → leb c.args.limit (count_of c.loop-at.tally (section_number c.args.section)) ≡ false
within c = lt-leb c.args.limit (count_of c.loop-at.tally (section_number c.args.section)) (omega (arith, c.if-limit-n.false, c.count-n.ensures ∙ ap (count_of c.loop-at.tally) c.number-number.ensures))

-- .. in the table, too
free : (c : Else-limit-n) → c.count-n.result < length c.loop-at.table
free c = omega (arith, c.if-limit-n.false, c.requires.0.room, c.loop-at.invariant.0)

pub returns-in_err-judge : goal.returns-in_err-judge
returns-in_err-judge c =
    let e : c.from_residual-in_err-judge.result ≡ Err c.in_err-judge.field-0.0 = search rules in
    λ o u told none listed.
    let way = goal.at.returns-in_err-judge c in
    misnamed c.requires.0 (kept way.In-loop-at o u told none listed) c.loop-at-test.true (standing way.In-Some) (same way.After-stop_fits) (stops way.After-count-n)
    (within way.Else-limit-n) (given way.After-count-first o u told).1 none c.args.points.now c.args.methods.now listed
    (c.count-n.ensures ∙ ap (count_of c.loop-at.tally) c.number-number.ensures) (c.count-first.ensures ∙ ap (count_of c.in_ok-at.field-0.tally) c.number-number.ensures) c.judge.ensures e c.in_err-judge.was

pub loop-at-smaller : goal.loop-at-smaller
loop-at-smaller c =
    let w = standing (goal.at.loop-at-smaller c).In-Some in
    omega (arith, w.next, w.inside, next-lt c.args.s.now c.loop-at.at)

pub loop-at-preserved : goal.loop-at-preserved
loop-at-preserved c =
    let way = goal.at.loop-at-preserved c in (
      length-set c.loop-at.table c.count-n.result c.loop-at.at ∙ c.loop-at.invariant.0,
      λ o u told none listed.
          again c.requires.0 (c.loop-at.invariant.1 o u told none listed) c.loop-at-test.true (standing way.In-Some) (same way.After-stop_fits) (stops way.After-count-n)
          (within way.Else-limit-n) told.1 none c.args.points.now c.args.methods.now listed
          (c.count-n.ensures ∙ ap (count_of c.loop-at.tally) c.number-number.ensures) (c.count-first.ensures ∙ ap (count_of c.in_ok-at.field-0.tally) c.number-number.ensures) c.judge.ensures c.in_ok-judge.was
          (free way.Else-limit-n) (c.past-tally.ensures ∙ ap (tally_after c.loop-at.tally) c.number-number.ensures),
    )

pub returns : goal.returns
returns c =
    λ o u told none listed.
    no_more c.requires.0 (c.loop-at.invariant.1 o u (given (goal.at.returns c).After-count-first o u told) none listed) c.loop-at-test.false
