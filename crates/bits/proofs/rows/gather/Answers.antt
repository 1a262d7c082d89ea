use Rattle.bits.proofs.Filling.{gathering-none, gathering-more, gathering-all}
use borrow.Author.Rules.{rules}
use Rattle.bits.proofs.rows.gather.Goals as goal

pub loop-p-init : goal.loop-p-init
loop-p-init c = search (rules, gathering-none c.args.rows.now c.args.n c.args.set _ c.below.ensures)

pub loop-p-preserved : goal.loop-p-preserved
loop-p-preserved c = gathering-more c.loop-p.invariant c.in-Some.ensures.steps

pub returns : goal.returns
returns c = gathering-all c.loop-p.invariant c.in-None.ensures.steps
