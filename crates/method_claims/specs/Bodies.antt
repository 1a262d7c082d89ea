-- A method with body, as the code has it.
use Rattle.std.specs.Prelude.{ℕ, ◌≡◌, List}
use Rattle.sheet.specs.Sheet as sheet
use Rattle.sheet.specs.Sheet.{normal, Sheet}
use Rattle.runs.specs.Rules.{is_among}
use Rattle.postfix.specs.Parts.{StandsAt}
use Rattle.index.specs.Indexed.{PointIs}
use Rattle.index.specs.Ways.{WayIs, FailingIs}
use Rattle.method_claims.specs.declared.MethodBody.{MethodBody}

-- the method has the body b, and its conditions stand at these offsets; runs start at the methods of a list
pub record BodyIs (s : List ℕ) (S : Sheet) (starts : List ℕ) (b : sheet.Body) (x : MethodBody) : Type 0 where
  pub first_is : x.first ≡ is_among starts x.method
  pub pre_is : StandsAt s x.pre (sheet.pre S x.method)
  pub entry_is : PointIs s S b.entry x.entry
  pub exit_is : WayIs s S x.method normal b.exit x.exit
  pub failing_is : FailingIs s S x.method b.failed_exit x.failed
