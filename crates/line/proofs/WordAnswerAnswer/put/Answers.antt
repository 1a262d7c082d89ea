use Rattle.verdict.specs.Line.{ascii}
use Rattle.line.proofs.Lines.{yes-line, no_line, untested-line}
use Rattle.line.proofs.WordAnswerAnswer.put.Goals as goal

pub returns-in-Yes-clause-put : goal.returns-in-Yes-clause-put
unfolding ascii
returns-in-Yes-clause-put c = rw (c.in-Yes.is, yes-line) c.put_text.ensures

pub returns-in-No-clause-put : goal.returns-in-No-clause-put
unfolding ascii
returns-in-No-clause-put c = rw (c.in-No.is, no_line) c.put_value.ensures.put

pub returns-in-Refused-clause-put : goal.returns-in-Refused-clause-put
returns-in-Refused-clause-put c = rw (c.in-Refused.is, untested-line) c.put_refusal.ensures.put
