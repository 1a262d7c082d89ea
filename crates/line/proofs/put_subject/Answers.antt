use Rattle.std.proofs.Common.{sym, ◌∙◌}
use Rattle.verdict.specs.Line.{ascii}
use Rattle.line.proofs.put_subject.Goals as goal

pub returns-then-of_method-clause-put : goal.returns-then-of_method-clause-put
unfolding ascii
returns-then-of_method-clause-put c = rw (sym c.of_method.ensures ∙ c.if-of_method.true) c.put_value.ensures.put

pub returns-else-of_method-clause-put : goal.returns-else-of_method-clause-put
unfolding ascii
returns-else-of_method-clause-put c = rw (sym c.of_method.ensures ∙ c.if-of_method.false) c.put_value-else-of_method.ensures.put
