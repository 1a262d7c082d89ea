use Rattle.verdict.specs.Line.{ascii}
use Rattle.line.proofs.Lines.{accepted-line, refused-line}
use Rattle.line.proofs.VerdictAnswer.put.Goals as goal

pub returns-in-Accepted-clause-put : goal.returns-in-Accepted-clause-put
unfolding ascii
returns-in-Accepted-clause-put c = rw (c.in-Accepted.is, accepted-line) c.put_value.ensures.put

pub returns-in-Refused-clause-put : goal.returns-in-Refused-clause-put
returns-in-Refused-clause-put c = rw (c.in-Refused.is, refused-line) c.put_refusal.ensures.put
