use Rattle.clause4.proofs.Wanting.{active-none, active-more}
use Rattle.clause4.proofs.active.Goals as goal

pub loop-q-init : goal.loop-q-init
loop-q-init c = active-none _ _

pub loop-q-preserved : goal.loop-q-preserved
loop-q-preserved c = active-more _ _ c.below-mask.result c.loop-q.invariant c.below-mask.ensures c.bit.ensures c.chosen-found.ensures
