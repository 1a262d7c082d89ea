-- What a question asks.
use Rattle.std.specs.Prelude.{◌≡◌}
use Rattle.condition.specs.Condition.{Condition}
use Rattle.runs.specs.Rules as runs
use Rattle.runs.specs.Rules.{◌is_in◌, holds_empty}
use Rattle.items.specs.declared.Places.{Places}
use Rattle.places.specs.Tables.{Tables}
use Rattle.places.specs.declared.Side.{Side}
use Rattle.answers.specs.declared.Rule.{Rule}
use Rattle.claims.specs.Claims.{◌says◌}
use Rattle.sides.specs.declared.Question.{Question}
use Rattle.sides.specs.declared.Question.TheVariants.{Inclusion, HoldsEmpty}

-- a question about the rule x, of the conditions whose places are in the tables: the left ones, and for an inclusion the right ones
pub record AsksInclusion (p p' : Places) (r : Rule) (left right : Side) (x : runs.Rule) : Type 0 where
  pub left_one : Condition
  pub right_one : Condition
  pub left_is : Tables left_one left p.follow p.sets
  pub right_is : Tables right_one right p'.follow p'.sets
  pub rule_is : x ≡ (r says left_one is_in right_one)

pub record AsksEmpty (p : Places) (r : Rule) (side : Side) (x : runs.Rule) : Type 0 where
  pub part_one : Condition
  pub part_is : Tables part_one side p.follow p.sets
  pub rule_is : x ≡ (r says holds_empty part_one)

abbrev pub QuestionIs : (p p' : Places) → Question → runs.Rule → Type 0
QuestionIs p p' (Inclusion r left right) x = AsksInclusion p p' r left right x
QuestionIs p p' (HoldsEmpty r side) x = AsksEmpty p r side x
