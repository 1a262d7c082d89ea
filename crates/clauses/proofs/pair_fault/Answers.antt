-- `pair_fault` meets its contract: clauses 2, 3 and 4 by the tables are the definition's (`ByTables`).
use mathlib.Core.Path.{sym, ◌∙◌}
use Rattle.clauses.proofs.ByTables.{at-clause2, at-clause3, at-clause4}
use Rattle.clauses.proofs.pair_fault.Goals as goal

pub returns-then-not-clause2-clause-finding : goal.returns-then-not-clause2-clause-finding
returns-then-not-clause2-clause-finding c = λ l g sides.
    let a = c.args in
    c.fault_of.ensures ∙ at-clause2 a.task.now l g c.requires.ready sides a.turn.number a.turn.pair (sym c.clause2.ensures ∙ c.if-not-clause2.true)

pub returns-then-not-clause3-clause-finding : goal.returns-then-not-clause3-clause-finding
returns-then-not-clause3-clause-finding c = λ l g sides.
    let a = c.args in
    c.fault_of-then-not-clause3.ensures
    ∙ at-clause3 a.task.now l g c.requires.ready sides a.turn.number a.turn.pair (sym c.clause2.ensures ∙ c.if-not-clause2.false) (sym c.clause3.ensures ∙ c.if-not-clause3.true)

pub returns-clause-finding : goal.returns-clause-finding
returns-clause-finding c = λ l g sides.
    let a = c.args in
    c.clause4_once.ensures.finding
    ∙ at-clause4 a.task.now l g c.requires.ready sides a.turn.number a.turn.pair c.gather.result c.gather.ensures
    (sym c.clause2.ensures ∙ c.if-not-clause2.false) (sym c.clause3.ensures ∙ c.if-not-clause3.false)
