-- An indexed sheet: tables of offsets lead to the conditions, the points, the methods and the steps of a sheet, by their numbers.
use Rattle.std.specs.Prelude.{ℕ, ◌≤◌, ◌<◌, ◌≡◌, List, length, get_or}
use Rattle.std.proofs.Math.Option.{some}
use Rattle.std.proofs.Math.ListN.{get_elem?}
use Rattle.condition.specs.Condition.{Condition}
use Rattle.sheet.specs.Each.{Each}
use Rattle.sheet.specs.Model.{condition_limit, method_limit, step_limit}
use Rattle.sheet_laws.specs.AtOffset.{point_at, method_at, step_at}
use Rattle.sheet.specs.Reading.{is_new}
use Rattle.sheet.specs.Sheet.{Outcome, normal, failed, Declared, Sheet, condition, past, own, due, pre, trace, future}
use Rattle.sheet_laws.specs.Names.{NamesExist, OutcomesFit, ChannelsFit, EventBelow}
use Rattle.postfix.specs.Parts.{StandsAt}
use Rattle.index.specs.declared.PointConditions.{PointConditions}
use Rattle.index.specs.declared.OutcomeConditions.{OutcomeConditions}
use Rattle.index.specs.declared.MethodConditions.{MethodConditions}
use Rattle.index.specs.declared.Index.{Index}

-- what stands in the bytes s at the offsets of a table with so many rows: xs, numbered from 0
pub record Tabled {A : Type 0} (at : List ℕ → ℕ → A) (s : List ℕ) (rows : ℕ) (table : List ℕ) (xs : List A) : Type 0 where
  pub few : length xs ≤ rows
  pub inside : (k : ℕ) → k < length xs → get_or table k 0 < length s
  pub is : (k : ℕ) → k < length xs → get_elem? xs k ≡ some (at s (get_or table k 0))

-- the condition number c is r, and stands where the table says
pub record ConditionIn (s conditions : List ℕ) (c : ℕ) (r : Condition) : Type 0 where
  pub exists : c < condition_limit
  pub inside : get_or conditions c 0 < length s
  pub stands : StandsAt s (get_or conditions c 0) r

-- each condition of the sheet S stands where the table says
abbrev pub ConditionsIn : Sheet → (s conditions : List ℕ) → Type 0
ConditionsIn S s conditions = (c : ℕ) → c < length S.conditions → ConditionIn s conditions c (condition S c)

-- the tables lead to the sheet S in the bytes s; its names exist, its outcomes, channels and events fit, it has a method, and the bytes tell its edition
pub record Indexes (S : Sheet) (s conditions points methods steps : List ℕ) : Type 0 where
  pub conditions-in : ConditionsIn S s conditions
  pub points_tabled : Tabled point_at s (length points) points S.points
  pub methods_tabled : Tabled method_at s method_limit methods S.methods
  pub steps_tabled : Tabled step_at s step_limit steps S.steps
  pub names_exist : NamesExist S
  pub outcomes_fit : OutcomesFit S
  pub channels_fit : ChannelsFit S
  pub events_fit : Each (EventBelow 64) S.steps
  pub a_method : 0 < length S.methods
  pub edition_is : S.new ≡ is_new s

-- the point p of the sheet S: the point where the table says, with its conditions
pub record PointIn (S : Sheet) (s conditions points : List ℕ) (p : ℕ) : Type 0 where
  pub exists : p < length points
  pub inside : get_or points p 0 < length s
  pub past_named : ConditionIn s conditions (point_at s (get_or points p 0)).past (past S p)
  pub own_named : ConditionIn s conditions (point_at s (get_or points p 0)).own (own S p)
  pub due_named : ConditionIn s conditions (point_at s (get_or points p 0)).due (due S p)

-- what the method m of the sheet S declares of the outcome o, where its conditions have the numbers of d
pub record DeclaredIn (S : Sheet) (s conditions : List ℕ) (d : Declared) (m : ℕ) (o : Outcome) : Type 0 where
  pub trace_named : ConditionIn s conditions d.trace (trace S m o)
  pub future_named : ConditionIn s conditions d.future (future S m o)

-- the method m of the sheet S: the method where the table says, with its conditions; and one that has two outcomes, with those of the failed one
pub record MethodIn (S : Sheet) (s conditions methods : List ℕ) (m : ℕ) : Type 0 where
  pub exists : m < method_limit
  pub inside : get_or methods m 0 < length s
  pub pre_named : ConditionIn s conditions (method_at s (get_or methods m 0)).pre (pre S m)
  pub normal_named : DeclaredIn S s conditions (method_at s (get_or methods m 0)).normal m normal

pub record FailedIn (S : Sheet) (s conditions methods : List ℕ) (m : ℕ) : Type 0 where
  pub exists : m < method_limit
  pub inside : get_or methods m 0 < length s
  pub declared : Declared
  pub failing_is : (method_at s (get_or methods m 0)).failing ≡ some declared
  pub failed_named : DeclaredIn S s conditions declared m failed

-- the method m of the sheet S, as a call of it asks: the method where the table says, and the edition that the bytes tell
pub record CalledIn (S : Sheet) (s methods : List ℕ) (m : ℕ) : Type 0 where
  pub exists : m < method_limit
  pub inside : get_or methods m 0 < length s
  pub is : get_elem? S.methods m ≡ some (method_at s (get_or methods m 0))
  pub edition_is : S.new ≡ is_new s

-- the offsets where the conditions of the point p stand, those of the outcome o of the method m, and those of the method m
pub record PointIs (s : List ℕ) (S : Sheet) (p : ℕ) (x : PointConditions) : Type 0 where
  pub past_stands : StandsAt s x.past (past S p)
  pub own_stands : StandsAt s x.own (own S p)
  pub due_stands : StandsAt s x.due (due S p)

pub record OutcomeIs (s : List ℕ) (S : Sheet) (m : ℕ) (o : Outcome) (x : OutcomeConditions) : Type 0 where
  pub trace_stands : StandsAt s x.trace (trace S m o)
  pub future_stands : StandsAt s x.future (future S m o)

pub record MethodIs (s : List ℕ) (S : Sheet) (m : ℕ) (x : MethodConditions) : Type 0 where
  pub pre_stands : StandsAt s x.pre (pre S m)
  pub normal_is : OutcomeIs s S m normal x.normal

-- The tables of an index of the code lead to the sheet S; to its point p; to its method m, to what that declares of the failed outcome, and to it as a
-- call asks
abbrev pub IndexesAll : Sheet → Index → Type 0
IndexesAll S x = Indexes S x.sheet.now x.offsets.now.conditions x.points.now x.offsets.now.methods x.offsets.now.steps

abbrev pub HasPoint : Sheet → Index → ℕ → Type 0
HasPoint S x p = PointIn S x.sheet.now x.offsets.now.conditions x.points.now p

abbrev pub HasMethod : Sheet → Index → ℕ → Type 0
HasMethod S x m = MethodIn S x.sheet.now x.offsets.now.conditions x.offsets.now.methods m

abbrev pub HasFailed : Sheet → Index → ℕ → Type 0
HasFailed S x m = FailedIn S x.sheet.now x.offsets.now.conditions x.offsets.now.methods m

abbrev pub HasCalled : Sheet → Index → ℕ → Type 0
HasCalled S x m = CalledIn S x.sheet.now x.offsets.now.methods m
