-- The point, the method and the step that a value of the code stands for.
use Rattle.std.specs.Prelude.{◌≡◌, ℕ}
use Rattle.std.proofs.Math.Option.{Option, none, some}
use Rattle.sheet.specs.Sheet as sheet
use Rattle.sheet.specs.Sheet.{event_step, call_step, pass_step, stop_step}
use Rattle.values.specs.declared.Point.{Point}
use Rattle.values.specs.declared.Declared.{Declared}
use Rattle.values.specs.declared.Declaration.{Declaration}
use Rattle.values.specs.declared.Body.{Body}
use Rattle.values.specs.declared.Method.{Method}
use Rattle.values.specs.declared.Method.TheVariants.{Primitive, WithBody, TwoOutcomePrimitive, TwoOutcomeBody}
use Rattle.values.specs.declared.CallStep.{CallStep}
use Rattle.values.specs.declared.Step.{Step}
use Rattle.values.specs.declared.Step.TheVariants.{Event, Call, TwoOutcomeCall, ChannelCall, Pass, Stop}

-- the point has these conditions; its owner is none of the value's
pub record PointHas (v : Point) (p : sheet.Point) : Type 0 where
  pub past_is : v.past ≡ p.past
  pub own_is : v.own ≡ p.own
  pub due_is : v.due ≡ p.due

-- what is declared of an outcome, a method, a call and a step, each by the value of the code
abbrev pub declared_value : Declared → sheet.Declared
declared_value x = record { trace = x.trace; future = x.future }

abbrev pub body_value : Body → Option ℕ → sheet.Body
body_value x failed_exit = record { entry = x.entry; exit = x.exit; failed_exit = failed_exit }

abbrev pub method_with : Declaration → Option sheet.Declared → Option sheet.Body → sheet.Method
method_with d failing body = record { pre = d.pre; normal = declared_value d.normal; failing = failing; body = body }

abbrev pub method_value : Method → sheet.Method
method_value (Primitive d) = method_with d none none
method_value (WithBody d b) = method_with d none (some (body_value b none))
method_value (TwoOutcomePrimitive d f) = method_with d (some (declared_value f)) none
method_value (TwoOutcomeBody d b f) = method_with d (some (declared_value f.declared)) (some (body_value b (some f.exit)))

-- the method declares these conditions, and, if it has two outcomes, these of the failed one
pub record Declares (d : Declaration) (m : sheet.Method) : Type 0 where
  pub pre_is : d.pre ≡ m.pre
  pub normal_is : declared_value d.normal ≡ m.normal

abbrev pub DeclaresFailed : Declared → sheet.Method → Type 0
DeclaresFailed d m = (x : sheet.Declared) → m.failing ≡ some x → declared_value d ≡ x

abbrev pub call_value : CallStep → (failed_to channel : Option ℕ) → sheet.CallStep
call_value x failed_to channel = record { from = x.from; to = x.to; failed_to = failed_to; method = x.method; channel = channel }

abbrev pub step_value : Step → sheet.Step
step_value (Event p q a) = event_step p q a
step_value (Call c) = call_step (call_value c none none)
step_value (TwoOutcomeCall c f) = call_step (call_value c (some f) none)
step_value (ChannelCall c k) = call_step (call_value c none (some k))
step_value (Pass p q) = pass_step p q
step_value (Stop p) = stop_step p
