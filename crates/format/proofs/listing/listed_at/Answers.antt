-- `listed_at` meets its contract: a pair stands there, whole, or none does.
use native.Mathlib.Omega.{arith}
use Rattle.sheet.specs.Record.{byte_at}
use Rattle.format.proofs.Pairs.{listed-pair, listed-fields, listed-past}
use Rattle.format.proofs.listing.listed_at.Goals as goal

pub returns-then-s-at : goal.returns-then-s-at
unfolding byte_at
returns-then-s-at c = listed-pair _ _ (omega (arith, c.if-at-saturating_sub.true)) c.if-s-at.true c.pair_at-pair.ensures

pub returns-else-s-at : goal.returns-else-s-at
unfolding byte_at
returns-else-s-at c = listed-fields _ _ (omega (arith, c.if-at-saturating_sub.true)) c.if-s-at.false c.pair_at-pair.ensures

pub returns : goal.returns
returns c = listed-past _ _ (omega (arith, c.if-at-saturating_sub.false))
