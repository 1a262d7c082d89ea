use mathlib.Core.Path.{ap}
use Rattle.verdict.specs.Line.{ascii}
use Rattle.answers.specs.declared.RuleNumbers.{RuleNumbers}
use Rattle.line.proofs.Lines.{unproved-pieces}
use Rattle.line.proofs.put_unproved.Goals as goal

pub returns-clause-put : goal.returns-clause-put
unfolding ascii
returns-clause-put c =
    let numbers = c.rule_numbers-numbers.ensures.value in
    unproved-pieces _ _
    (ap (λ (n : RuleNumbers). n.number) numbers)
    (ap (λ (n : RuleNumbers). n.subject) numbers)
    c.put_rule.ensures.put
    c.put_subject.ensures.put
    c.put_value.ensures.put
    c.put_value-2.ensures.put
    c.put_value-3.ensures.put
    c.put_value-4.ensures.put
