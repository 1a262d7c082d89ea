use Rattle.bits.proofs.Filling.{unions-none}
use Rattle.condition.proofs.Longest.{along-start}
use Rattle.matching.proofs.Words.{stepped, matched-wrong, one_along, matched-unfinished, matched-whole}
use Rattle.matching.proofs.word_along.Goals as goal

pub loop-i-init : goal.loop-i-init
loop-i-init c = (λ r t. along-start r c.args.word.now, unions-none _ _)

pub returns-then-places-live-eq0 : goal.returns-then-places-live-eq0
returns-then-places-live-eq0 c =
    let g = c.loop-i in
    λ r t.
    matched-wrong (g.invariant.0 r t) c.loop-i-test.true _ _
    (stepped t c.fill_for.ensures g.places c.union_of-union.result g.i _ c.from.ensures c.loop-i-test.true c.union_of-union.ensures.union)
    (c.live_of-live.ensures r t)
    c.if-places-live-eq0.true

pub loop-i-preserved : goal.loop-i-preserved
loop-i-preserved c =
    let g = c.loop-i in (
      λ r t.
          one_along (g.invariant.0 r t) c.loop-i-test.true _ _
          (stepped t c.fill_for.ensures g.places c.union_of-union.result g.i _ c.from.ensures c.loop-i-test.true c.union_of-union.ensures.union)
          (c.live_of-live.ensures r t)
          c.if-places-live-eq0.false,
      c.union_of-union.ensures.kept,
    )

pub returns-then-places-ends-eq0 : goal.returns-then-places-ends-eq0
returns-then-places-ends-eq0 c =
    let g = c.loop-i in
    λ r t. matched-unfinished (g.invariant.0 r t) c.loop-i-test.false t c.if-places-ends-eq0.true

pub returns : goal.returns
returns c =
    let g = c.loop-i in
    λ r t. matched-whole (g.invariant.0 r t) c.loop-i-test.false t c.if-places-ends-eq0.false
