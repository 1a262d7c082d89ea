use Rattle.bits.proofs.Filling.{linking-more, linking-all}
use Rattle.bits.proofs.rows.link.Goals as goal

pub loop-p-preserved : goal.loop-p-preserved
loop-p-preserved c = linking-more c.loop-p.invariant c.in-Some.ensures.steps

pub returns : goal.returns
returns c = linking-all c.loop-p.invariant c.in-None.ensures.steps
