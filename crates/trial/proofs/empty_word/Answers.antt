use mathlib.Core.Path.{sym, ◌∙◌}
use mathlib.Core.Bool.{true, false}
use Rattle.certificate.specs.Certificate.{fine}
use Rattle.trial.proofs.Laws.{trial-finds, ends-empty}
use Rattle.trial.proofs.empty_word.Goals as goal

pub returns-then-member : goal.returns-then-member
returns-then-member c = λ events s a follow sets t. record { comes_to = trial-finds events s _ _ fine (ends-empty a _ _ _ t true (sym c.member.ensures ∙ c.if-member.true)) }

pub returns : goal.returns
returns c =
    λ events s a follow sets t.
    record { comes_to = trial-finds events s _ _ _ (c.fault_of.ensures ∙ ends-empty a _ _ _ t false (sym c.member.ensures ∙ c.if-member.false)) }
