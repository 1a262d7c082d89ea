-- The rules of a step that leads straight from one point to another, an event, which it raises, or a pass, which raises nothing.
use Rattle.std.specs.Prelude.{ℕ, ◌+◌, List, [], ◌∷◌}
use Rattle.std.proofs.Math.Option.{Option}
use Rattle.condition.specs.Condition.{Condition}
use Rattle.sheet.specs.Sheet.{Sheet, past, own, due}
use Rattle.runs.specs.Rules.{Rule, ◌of◌says◌, ◌is_in◌}
use Rattle.claims.specs.Claims.{RuleIs, then_raised, raised_then}
use Rattle.step_claims.specs.declared.DirectRules.{DirectRules}

-- the three names are those of the rules from n on about the step i
pub record DirectRulesAre (x : DirectRules) (n i : ℕ) : Type 0 where
  pub past_is : RuleIs x.past n i
  pub own_is : RuleIs x.own (n + 1) i
  pub due_is : RuleIs x.due (n + 2) i

-- these rules, from n on, of the step i from a point to another that raises t
abbrev pub direct_rules : Sheet → (n i from to : ℕ) → Option Condition → List Rule
direct_rules S n i from to t =
    (n of i says then_raised (past S from) t is_in past S to)
    ∷ (n + 1 of i says then_raised (own S from) t is_in own S to)
    ∷ (n + 2 of i says raised_then t (due S to) is_in due S from)
    ∷ []
