use Rattle.verdict.specs.Line.{ascii}
use Rattle.line.proofs.Lines.{refused-somewhere, refused-nowhere}
use Rattle.line.proofs.put_refusal.Goals as goal

pub returns-in-Some-clause-put : goal.returns-in-Some-clause-put
unfolding ascii
returns-in-Some-clause-put c = refused-somewhere _ c.refusal_number.ensures c.put_value.ensures.put c.in-Some.ensures c.put_value-in-Some.ensures.put

pub returns-in_default-clause-put : goal.returns-in_default-clause-put
unfolding ascii
returns-in_default-clause-put c = refused-nowhere _ c.refusal_number.ensures c.put_value.ensures.put c.in_default.ensures
