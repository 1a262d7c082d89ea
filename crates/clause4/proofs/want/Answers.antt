use Rattle.clause4.proofs.Wanting.{wanting-more, wanting-all}
use Rattle.clause4.proofs.want.Goals as goal

pub loop-q-preserved : goal.loop-q-preserved
loop-q-preserved c = wanting-more _ _ _ c.loop-q.invariant c.in-Some.ensures.steps

pub returns : goal.returns
returns c = wanting-all _ _ _ c.loop-q.invariant c.in-None.ensures.steps
