-- What a sheet is: conditions, points, methods, steps and certificates, "each counted from 0", which name each other by number.
use Rattle.std.specs.Prelude.{ℕ, Bool, true, false, List, get_or}
use Rattle.std.proofs.Math.Option.{Option, none, some}
use Rattle.std.proofs.Math.ListN.{get_elem?}
use Rattle.condition.specs.Condition.{Condition, no_word}
use Rattle.condition.specs.Exchange.{exchange}
use Rattle.certificate.specs.Certificate.{Certificate}

-- a point: "conditions past, own, due"; of kind 20 "an owner, its method's number", too
pub record Point : Type 0 where
  pub past : ℕ
  pub own : ℕ
  pub due : ℕ
  pub owner : Option ℕ

-- the points of kinds 7 and 20
abbrev pub point_from : (past own due : ℕ) → Point
point_from p o d = record { past = p; own = o; due = d; owner = none }

abbrev pub owned_point_from : (past own due owner : ℕ) → Point
owned_point_from p o d m = record { past = p; own = o; due = d; owner = some m }

-- how a call returns: document 02, Ask 2, "Failing is a way of returning"
pub data Outcome : Type 0 where
  normal failed : Outcome

-- what a method declares of one outcome: "trace, future", or "failed trace, failed future"
pub record Declared : Type 0 where
  pub trace : ℕ
  pub future : ℕ

-- what a method with body has more than a primitive: "entry point, exit point"; of kind 16 a "failed exit" too
pub record Body : Type 0 where
  pub entry : ℕ
  pub exit : ℕ
  pub failed_exit : Option ℕ

-- a primitive: "conditions pre, trace, future"; a method with body: "pre, trace, future, entry point, exit point"; those of kinds 15 and 16 have two
-- outcomes
pub record Method : Type 0 where
  pub pre : ℕ
  pub normal : Declared
  pub failing : Option Declared
  pub body : Option Body

-- a call step: "from, to, method"; of kind 17: "from, to, failed target, method"; of kind 22: "from, to, method .., channel"
pub record CallStep : Type 0 where
  pub from : ℕ
  pub to : ℕ
  pub failed_to : Option ℕ
  pub method : ℕ
  pub channel : Option ℕ

-- an event step: "from, to (2 each), event (1)"; a pass step: "from, to"; a stop step, kind 19: "from"
pub data Step : Type 0 where
  event_step : (from to event : ℕ) → Step
  call_step : CallStep → Step
  pass_step : (from to : ℕ) → Step
  stop_step : (from : ℕ) → Step

-- the steps of kinds 11, 17 and 22
abbrev pub call_from : (from to method : ℕ) → Step
call_from p q m = call_step (record { from = p; to = q; failed_to = none; method = m; channel = none })

abbrev pub failing_call_from : (from to failed_to method : ℕ) → Step
failing_call_from p q f m = call_step (record { from = p; to = q; failed_to = some f; method = m; channel = none })

abbrev pub channel_call_from : (from to method channel : ℕ) → Step
channel_call_from p q m c = call_step (record { from = p; to = q; failed_to = none; method = m; channel = some c })

-- a sheet: what its records stand for, by section, and whether it is "a sheet of the new edition" (document 02, Ask 4)
pub record Sheet : Type 0 where
  pub conditions : List Condition
  pub points : List Point
  pub methods : List Method
  pub steps : List Step
  pub certificates : List Certificate
  pub new : Bool

-- Conditions by the numbers that name them. A number that names nothing stands for a condition without words; no name of a well formed
-- sheet is such a number.
abbrev pub condition : Sheet → ℕ → Condition
condition S c = get_or S.conditions c no_word

-- the condition that a point, a method or what it declares names, if there is such a one
abbrev pub condition_named : {A : Type 0} → Sheet → (A → ℕ) → Option A → Condition
condition_named S name none = no_word
condition_named S name (some x) = condition S (name x)

-- past(p), own(p), due(p) of the point p
abbrev pub past : Sheet → ℕ → Condition
past S p = condition_named S (λ (x : Point). x.past) (get_elem? S.points p)

abbrev pub own : Sheet → ℕ → Condition
own S p = condition_named S (λ (x : Point). x.own) (get_elem? S.points p)

abbrev pub due : Sheet → ℕ → Condition
due S p = condition_named S (λ (x : Point). x.due) (get_elem? S.points p)

-- something is there
abbrev pub is_some : {A : Type 0} → Option A → Bool
is_some none = false
is_some (some x) = true

-- the owner of the point p, if it has one
abbrev pub owner_in : Option Point → Option ℕ
owner_in none = none
owner_in (some x) = x.owner

abbrev pub owner : Sheet → ℕ → Option ℕ
owner S p = owner_in (get_elem? S.points p)

-- what a method declares of an outcome, if it has that outcome
abbrev pub declared_for : Outcome → Method → Option Declared
declared_for normal x = some x.normal
declared_for failed x = x.failing

abbrev pub declared_in : Outcome → Option Method → Option Declared
declared_in o none = none
declared_in o (some x) = declared_for o x

-- pre of the method m; trace and future of its outcome o
abbrev pub pre : Sheet → ℕ → Condition
pre S m = condition_named S (λ (x : Method). x.pre) (get_elem? S.methods m)

abbrev pub trace : Sheet → ℕ → Outcome → Condition
trace S m o = condition_named S (λ (x : Declared). x.trace) (declared_in o (get_elem? S.methods m))

abbrev pub future : Sheet → ℕ → Outcome → Condition
future S m o = condition_named S (λ (x : Declared). x.future) (declared_in o (get_elem? S.methods m))

-- a condition that a method declares, as a call reads it: by kind 22 "with the events of channel 0 and that channel exchanged"
abbrev pub on_channel : Option ℕ → Condition → Condition
on_channel none r = r
on_channel (some c) r = exchange c r

-- the body of the method m, if it is a method with body
abbrev pub body_in : Option Method → Option Body
body_in none = none
body_in (some x) = x.body

abbrev pub body : Sheet → ℕ → Option Body
body S m = body_in (get_elem? S.methods m)

-- the entry point of a method with body
abbrev pub entry_in : Option Body → Option ℕ
entry_in none = none
entry_in (some b) = some b.entry

-- the exit point of a method for an outcome, and the target of a call step for one, if they have one
abbrev pub exit_for : Outcome → Body → Option ℕ
exit_for normal b = some b.exit
exit_for failed b = b.failed_exit

abbrev pub exit_in : Outcome → Option Body → Option ℕ
exit_in o none = none
exit_in o (some b) = exit_for o b

abbrev pub target_for : Outcome → CallStep → Option ℕ
target_for normal t = some t.to
target_for failed t = t.failed_to
