-- The rules of each subject.
use Rattle.std.specs.Prelude.{ℕ, ◌<◌, ◌≡◌, List, [], Option, Some, None}
use Rattle.std.proofs.Math.Option.{some}
use Rattle.sheet.specs.Sheet as sheet
use Rattle.sheet.specs.Sheet.{CallStep, event_step, call_step, pass_step, stop_step, Sheet}
use Rattle.runs.specs.Rules.{Rule, first_rules, method_rules, step_rules}
use Rattle.index.specs.declared.PointConditions.{PointConditions}
use Rattle.index.specs.declared.MethodConditions.{MethodConditions}
use Rattle.index.specs.Indexed.{PointIs, MethodIs}
use Rattle.postfix.specs.Parts.{StandsAt}
use Rattle.method_claims.specs.declared.MethodBody.{MethodBody}
use Rattle.method_claims.specs.Bodies.{BodyIs}
use Rattle.step_claims.specs.declared.Call as steps
use Rattle.step_claims.specs.Calls.{CallIs}
use Rattle.rules.specs.declared.subjects.Subject.{Subject}
use Rattle.rules.specs.declared.subjects.Subject.TheVariants.{First, Body, Event, Call, Pass, Stop}

-- the method m, at which runs start, declares the conditions d, and xs are its rules 1 and 2
pub record FirstIs (s : List ℕ) (S : Sheet) (m : ℕ) (d : MethodConditions) (xs : List Rule) : Type 0 where
  pub declared_is : MethodIs s S m d
  pub rules_are : xs ≡ first_rules S m

-- the method with body, and its rules, where runs start at the methods of a list
pub record BodyHas (s : List ℕ) (S : Sheet) (x : MethodBody) (xs : List Rule) : Type 0 where
  pub starts : List ℕ
  pub inner : sheet.Body
  pub body_is : BodyIs s S starts inner x
  pub rules_are : xs ≡ method_rules S starts x.method (some inner)

-- the event step i, by the points that it leads from and to and its event, and its rules 7 to 9
pub record EventIs (s : List ℕ) (S : Sheet) (i : ℕ) (p q : PointConditions) (a : ℕ) (xs : List Rule) : Type 0 where
  pub from : ℕ
  pub to : ℕ
  pub from_is : PointIs s S from p
  pub to_is : PointIs s S to q
  pub fits : a < 64
  pub rules_are : xs ≡ step_rules S i (event_step from to a)

-- the call step, and its rules
pub record CallHas (s : List ℕ) (S : Sheet) (x : steps.Call) (xs : List Rule) : Type 0 where
  pub call : CallStep
  pub call_is : CallIs s S call x
  pub rules_are : xs ≡ step_rules S x.step (call_step call)

-- the pass step i, by its points, and its rules 15 to 17
pub record PassIs (s : List ℕ) (S : Sheet) (i : ℕ) (p q : PointConditions) (xs : List Rule) : Type 0 where
  pub from : ℕ
  pub to : ℕ
  pub from_is : PointIs s S from p
  pub to_is : PointIs s S to q
  pub rules_are : xs ≡ step_rules S i (pass_step from to)

-- the stop step i, by the due of its point, and its rule 25
pub record StopIs (s : List ℕ) (S : Sheet) (i d : ℕ) (xs : List Rule) : Type 0 where
  pub from : ℕ
  pub due_is : StandsAt s d (sheet.due S from)
  pub rules_are : xs ≡ step_rules S i (stop_step from)

-- the subject is one of the sheet S in the bytes s, and xs are its rules
abbrev pub SubjectIs : List ℕ → Sheet → Subject → List Rule → Type 0
SubjectIs s S (First m d) xs = FirstIs s S m d xs
SubjectIs s S (Body x) xs = BodyHas s S x xs
SubjectIs s S (Event i p q a) xs = EventIs s S i p q a xs
SubjectIs s S (Call x) xs = CallHas s S x xs
SubjectIs s S (Pass i p q) xs = PassIs s S i p q xs
SubjectIs s S (Stop i d) xs = StopIs s S i d xs

-- the same of what a number is of: a primitive is no subject, and has no rules
abbrev pub ListedIs : List ℕ → Sheet → Option Subject → List Rule → Type 0
ListedIs s S (Some x) xs = SubjectIs s S x xs
ListedIs s S None xs = xs ≡ []
