-- The names of the rules about one way of returning, as the code has them.
use Rattle.std.specs.Prelude.{ℕ, ◌+◌}
use Rattle.claims.specs.Claims.{RuleIs}
use Rattle.step_claims.specs.declared.ReturnRules.{ReturnRules}

-- the four names are those of the rules from n on about the step i
pub record ReturnRulesAre (x : ReturnRules) (n i : ℕ) : Type 0 where
  pub past_is : RuleIs x.past n i
  pub own_is : RuleIs x.own (n + 1) i
  pub future_is : RuleIs x.future (n + 2) i
  pub due_is : RuleIs x.due (n + 3) i
