use mathlib.Core.Path.{◌≡◌, sym, ◌∙◌, subst}
use Rattle.std.specs.Prelude.{Err}
use Rattle.runs.specs.Rules.{rules as rules_of}
use Rattle.trial.specs.Tested.{Tries}
use Rattle.checker.proofs.Laws.{walk_ends, walk-stops, walk-on, next-claim, next-end}
use borrow.Author.Rules.{rules}
use Rattle.checker.proofs.test_rules.Goals as goal

pub loop-claim-init : goal.loop-claim-init
loop-claim-init c = λ S x. record { left = _; left_at = c.start-cursor.ensures S x; leads = λ u t. t }

pub next_claim-requires : goal.next_claim-requires
next_claim-requires c =
    let (S, x) = c.requires.sheet_in in
    let h = c.loop-claim.invariant S x in
    (S, x, (h.left, h.left_at))

pub returns-in_err-at : goal.returns-in_err-at
returns-in_err-at c =
    let e : c.from_residual.result ≡ Err c.in_err-at.field-0.0 = search rules in
    λ S x.
    let h = c.loop-claim.invariant S x in
    let g = next-claim _ S _ _ c.in-Some.is (c.next_claim.ensures.next S h.left x h.left_at) in
    subst (Tries c.args.events c.args.x.sheet.now (rules_of S) c.args.from) (c.in_err-at.was ∙ sym e)
    (walk-stops h g (λ y says. c.test.ensures.tried y (c.sides_of-question.ensures.asks y says)) c.in_err-at.was)

pub loop-claim-preserved : goal.loop-claim-preserved
loop-claim-preserved c =
    λ S x.
    let h = c.loop-claim.invariant S x in
    let g = next-claim _ S _ _ c.in-Some.is (c.next_claim.ensures.next S h.left x h.left_at) in
    walk-on h g (λ y says. c.test.ensures.tried y (c.sides_of-question.ensures.asks y says)) c.in_ok-at.was

pub returns : goal.returns
returns c =
    λ S x.
    let h = c.loop-claim.invariant S x in
    walk_ends h (next-end _ S _ _ c.in_default.is (c.next_claim.ensures.next S h.left x h.left_at))
