use mathlib.Core.Path.{sym, ◌∙◌}
use Rattle.values.proofs.MethodKinds.{declares-15, declares-16}
use Rattle.values.proofs.failed_at.Goals as goal

pub returns-then-byte_at : goal.returns-then-byte_at
returns-then-byte_at c =
    let a = c.args in
    declares-15 a.s.now a.at (sym c.byte_at.ensures ∙ c.if-byte_at.true) c.declared_at.ensures

pub returns : goal.returns
returns c =
    let a = c.args in
    declares-16 a.s.now a.at (λ e. c.if-byte_at.false (c.byte_at.ensures ∙ e)) c.declared_at-2.ensures
