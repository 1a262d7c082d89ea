-- `known_pair` meets its contract: pair i stands 6 * i bytes on, whole.
use native.Mathlib.Omega.{arith}
use Rattle.pairs.proofs.Laws.{pair-whole, pair_inside, read_is}
use Rattle.pairs.proofs.known_pair.Goals as goal

pub overflow_mul-i : goal.overflow_mul-i
overflow_mul-i c = let a = c.args in omega (arith, pair_inside a.pairs.now a.i c.requires)

pub pair_at-requires : goal.pair_at-requires
pair_at-requires c = let a = c.args in pair-whole a.pairs.now a.i c.requires

pub returns : goal.returns
returns c = read_is _ _ c.pair_at.ensures c.requires
