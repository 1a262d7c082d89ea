use Rattle.meets.proofs.Meeting.{meeting-none, meeting-more, meeting-all}
use borrow.Author.Rules.{rules}
use Rattle.meets.proofs.meet.Goals as goal

pub loop-k-init : goal.loop-k-init
loop-k-init c = search (rules, meeting-none c.args.sets.now c.args.m c.args.set _ c.below.ensures)

pub loop-k-preserved : goal.loop-k-preserved
loop-k-preserved c = meeting-more _ _ _ c.loop-k.invariant c.in-Some.ensures.steps

pub returns : goal.returns
returns c = meeting-all _ _ _ c.loop-k.invariant c.in-None.ensures.steps
