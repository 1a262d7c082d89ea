-- What holds of each sheet that is read whole: every name exists (document 01, "Names point only backward"; proofs/Named), the event of each step is
-- one of the instrument's (proofs/Named), the first method has a body (proofs/First), outcomes fit (proofs/Outcomes), stops stand in new sheets alone
-- (proofs/Editions), owners fit (proofs/Owners), and so do channels (proofs/Channels).
use Rattle.std.specs.Prelude.{ℕ, ◌≤◌, ◌<◌, ◌≡◌, Bool, true, length}
use Rattle.std.proofs.Math.Option.{Option, none, some}
use Rattle.std.proofs.Math.ListN.{get_elem?}
use Rattle.sheet.specs.Each.{Each}
use Rattle.sheet.specs.Reading.{last_channel}
use Rattle.sheet.specs.Sheet.{Outcome, failed, Point, Declared, Body, Method, Step, event_step, call_step, pass_step, stop_step, Sheet, is_some, owner, declared_for, declared_in, body}

-- the names of a point, of a body, of what a method declares, of a method and of a step are below the numbers of conditions, points and methods
pub record PointNamed (conditions : ℕ) (x : Point) : Type 0 where
  pub past_exists : x.past < conditions
  pub own_exists : x.own < conditions
  pub due_exists : x.due < conditions

-- a name that need not be there
abbrev pub NamedIfAny : ℕ → Option ℕ → Type 0
NamedIfAny n none = Unit {0}
NamedIfAny n (some x) = x < n

abbrev pub BodyNamed : ℕ → Option Body → Type 0
BodyNamed points none = Unit {0}
BodyNamed points (some b) = (b.entry < points) × (b.exit < points) × NamedIfAny points b.failed_exit

-- what a method declares of an outcome, if it has that outcome
abbrev pub DeclaredNamed : ℕ → Option Declared → Type 0
DeclaredNamed conditions none = Unit {0}
DeclaredNamed conditions (some d) = (d.trace < conditions) × (d.future < conditions)

pub record MethodNamed (conditions points : ℕ) (x : Method) : Type 0 where
  pub pre_exists : x.pre < conditions
  pub declared_named : (o : Outcome) → DeclaredNamed conditions (declared_for o x)
  pub body_named : BodyNamed points x.body

abbrev pub StepNamed : ℕ → ℕ → Step → Type 0
StepNamed points methods (event_step p q a) = (p < points) × (q < points)
StepNamed points methods (call_step t) = (t.from < points) × (t.to < points) × NamedIfAny points t.failed_to × (t.method < methods)
StepNamed points methods (pass_step p q) = (p < points) × (q < points)
StepNamed points methods (stop_step p) = p < points

-- an owner, which may point forward, is a method: what 25 leaves
pub record NamesExist (S : Sheet) : Type 0 where
  pub points_named : Each (PointNamed (length S.conditions)) S.points
  pub methods_named : Each (MethodNamed (length S.conditions) (length S.points)) S.methods
  pub steps_named : Each (StepNamed (length S.points) (length S.methods)) S.steps
  pub owners_named : Each (λ (x : Point). NamedIfAny (length S.methods) x.owner) S.points

-- a method is one with body
abbrev pub HasBody : Option Body → Type 0
HasBody none = ⊥
HasBody (some b) = Unit {0}

-- a method with body has a failed exit exactly if it has two outcomes
abbrev pub ExitsFit : Option Declared → Option Body → Type 0
ExitsFit failing none = Unit {0}
ExitsFit failing (some b) = is_some b.failed_exit ≡ is_some failing

-- a call has a failed target exactly if the method that it names has two outcomes: what 18 leaves
abbrev pub TargetsFit : Sheet → Step → Type 0
TargetsFit S (event_step p q a) = Unit {0}
TargetsFit S (call_step t) = is_some t.failed_to ≡ is_some (declared_in failed (get_elem? S.methods t.method))
TargetsFit S (pass_step p q) = Unit {0}
TargetsFit S (stop_step p) = Unit {0}

pub record OutcomesFit (S : Sheet) : Type 0 where
  pub exits_fit : Each (λ (x : Method). ExitsFit x.failing x.body) S.methods
  pub targets_fit : Each (TargetsFit S) S.steps

-- the event of a step, if it has one, is below n
abbrev pub EventBelow : ℕ → Step → Type 0
EventBelow n (event_step p q a) = a < n
EventBelow n (call_step c) = Unit {0}
EventBelow n (pass_step p q) = Unit {0}
EventBelow n (stop_step p) = Unit {0}

-- a stop stands in a sheet of the new edition: what 20 leaves
abbrev pub StopFits : (new : Bool) → Step → Type 0
StopFits new (event_step p q a) = Unit {0}
StopFits new (call_step c) = Unit {0}
StopFits new (pass_step p q) = Unit {0}
StopFits new (stop_step p) = new ≡ true

-- "Owners are compared only where there are any": where both are there they are the same
abbrev pub SameIfAny : Option ℕ → Option ℕ → Type 0
SameIfAny none b = Unit {0}
SameIfAny (some m) none = Unit {0}
SameIfAny (some m) (some n) = m ≡ n

-- the owner of a point that need not be there
abbrev pub owner_if_any : Sheet → Option ℕ → Option ℕ
owner_if_any S none = none
owner_if_any S (some p) = owner S p

-- the entry, the exit and the failed exit of the method m belong to it, and the points that a step joins to one method, where they have owners: what 24
-- leaves
abbrev pub BodyOwned : Sheet → ℕ → Option Body → Type 0
BodyOwned S m none = Unit {0}
BodyOwned S m (some b) =
    SameIfAny (some m) (owner S b.entry) × SameIfAny (some m) (owner S b.exit) × SameIfAny (some m) (owner_if_any S b.failed_exit)

abbrev pub StepOwned : Sheet → Step → Type 0
StepOwned S (event_step p q a) = SameIfAny (owner S p) (owner S q)
StepOwned S (call_step t) =
    SameIfAny (owner S t.from) (owner S t.to)
    × SameIfAny (owner S t.from) (owner_if_any S t.failed_to)
    × SameIfAny (owner S t.to) (owner_if_any S t.failed_to)
StepOwned S (pass_step p q) = SameIfAny (owner S p) (owner S q)
StepOwned S (stop_step p) = Unit {0}

pub record OwnersFit (S : Sheet) : Type 0 where
  pub bodies_owned : (m : ℕ) → BodyOwned S m (body S m)
  pub steps_owned : Each (StepOwned S) S.steps

-- a call on a channel is one of a primitive of one outcome, and the channel is one of 0 to 3: what 26 leaves
abbrev pub ChannelFits : Sheet → (method : ℕ) → Option ℕ → Type 0
ChannelFits S m none = Unit {0}
ChannelFits S m (some c) = (body S m ≡ none) × (declared_in failed (get_elem? S.methods m) ≡ none) × (c ≤ last_channel)

abbrev pub StepOnChannel : Sheet → Step → Type 0
StepOnChannel S (event_step p q a) = Unit {0}
StepOnChannel S (call_step t) = ChannelFits S t.method t.channel
StepOnChannel S (pass_step p q) = Unit {0}
StepOnChannel S (stop_step p) = Unit {0}

abbrev pub ChannelsFit : Sheet → Type 0
ChannelsFit S = Each (StepOnChannel S) S.steps

-- a step names no channel
abbrev pub NoChannel : Step → Type 0
NoChannel (event_step p q a) = Unit {0}
NoChannel (call_step t) = t.channel ≡ none
NoChannel (pass_step p q) = Unit {0}
NoChannel (stop_step p) = Unit {0}
