-- `first_fault` meets its contract: clause 1 by the first pair, then the pairs in order (`AllPairs`).
use mathlib.Core.Path.{sym, ◌∙◌}
use Rattle.std.proofs.lemmas.Result.{IfOk-weaker}
use Rattle.sheet_laws.specs.AtOffset.{certificate_at}
use Rattle.clauses.specs.Clauses.{Spans}
use Rattle.clauses.proofs.AllPairs.{wrong_start, right-start, spans}
use Rattle.clauses.proofs.first_fault.Goals as goal

pub returns-then-not-clause1-clause-finding : goal.returns-then-not-clause1-clause-finding
returns-then-not-clause1-clause-finding c = λ l g tl tg.
    let a = c.args in
    c.fault_of.ensures ∙ wrong_start a.t.events l g (certificate_at a.pairs.now 0) (sym c.clause1.ensures ∙ c.if-not-clause1.true)

pub returns-clause-finding : goal.returns-clause-finding
returns-clause-finding c = λ l g tl tg.
    let a = c.args in
    c.in_turn.ensures.finding l g (record { left_is = tl; right_is = tg })
    ∙ right-start a.t.events l g (certificate_at a.pairs.now 0) (sym c.clause1.ensures ∙ c.if-not-clause1.false)

pub returns-clause-bytes : goal.returns-clause-bytes
returns-clause-bytes c =
    let a = c.args in
    IfOk-weaker _ _ (Spans a.pairs.now) (λ n e. spans a.pairs.now (sym c.clause1.ensures ∙ c.if-not-clause1.false) e) c.in_turn.ensures.bytes
