-- `pair_in` meets its contract: up to the last pair one stands there, and then something else.
use mathlib.Core.Path.{◌∙◌}
use native.Mathlib.Omega.{arith}
use Rattle.pairs.proofs.Laws.{pairs-near, found-is}
use Rattle.pairs.proofs.pair_in.Goals as goal

pub overflow_mul-i : goal.overflow_mul-i
overflow_mul-i c = let a = c.args in record { fits = pairs-near a.pairs.now a.i _ c.requires (omega arith) }

pub returns : goal.returns
returns c = c.ok.ensures.value ∙ found-is _ _ c.requires c.listed_in.ensures
