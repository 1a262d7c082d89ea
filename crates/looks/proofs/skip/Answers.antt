-- `skip` meets its contract: no pair is passed over, or those that `next_within` or `next_serving` passes over.
use Rattle.looks.proofs.skip.Goals as goal

pub returns-then-tries-gt0 : goal.returns-then-tries-gt0
returns-then-tries-gt0 c = (c.next_within.ensures.passed.0, c.next_within.ensures.passed.1 _ _ _)
