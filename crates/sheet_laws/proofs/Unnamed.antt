-- Sheets in which a name does not exist: `NamesExist` does not hold of them. Each differs in one name from a sheet of which it holds. And a step with
-- an event that the instrument has not, a primitive, outcomes that do not fit, a stop in an old sheet, and owners and channels that do not fit.
use mathlib.Core.Path.{◌≡◌, refl, ap}
use mathlib.Core.Bool.{true, false}
use mathlib.Core.Option.{Option, none, some}
use mathlib.Core.List.{[], ◌∷◌}
use Prim.Native.Nat.{ℕ, zero, suc}
use native.Mathlib.Omega.{arith}
use Rattle.condition.specs.Condition.{empty}
use Rattle.sheet.specs.Each.{nil, cons}
use Rattle.sheet.specs.Sheet.{Outcome, normal, failed, Point, point_from, owned_point_from, Declared, Body, Method, Step, event_step, call_from, failing_call_from, channel_call_from, pass_step, stop_step, Sheet, is_some, declared_for, body}
use Rattle.sheet_laws.specs.Names.{PointNamed, NamedIfAny, BodyNamed, DeclaredNamed, MethodNamed, StepNamed, NamesExist, HasBody, ExitsFit, TargetsFit, OutcomesFit, EventBelow, StopFits, BodyOwned, StepOwned, OwnersFit, StepOnChannel, ChannelsFit, NoChannel}
use Rattle.sheet.proofs.Each.{each-head}

-- one condition, and the point, the method and the step that are given; so each name that exists is 0
abbrev sheet : Point → Method → Step → Sheet
sheet p m t = record { conditions = empty ∷ []; points = p ∷ []; methods = m ∷ []; steps = t ∷ []; certificates = []; new = true }

abbrev point : ℕ → ℕ → ℕ → Point
point past own due = point_from past own due

abbrev declared : ℕ → ℕ → Declared
declared trace future = record { trace = trace; future = future }

abbrev method : ℕ → ℕ → ℕ → ℕ → ℕ → Method
method pre trace future entry exit =
    record { pre = pre; normal = declared trace future; failing = none; body = some (record { entry = entry; exit = exit; failed_exit = none }) }

abbrev primitive : ℕ → ℕ → ℕ → Method
primitive pre trace future = record { pre = pre; normal = declared trace future; failing = none; body = none }

-- with two outcomes: the failed trace, failed future and failed exit
abbrev failing_method : ℕ → ℕ → ℕ → Method
failing_method trace future exit =
    record { pre = 0; normal = declared 0 0; failing = some (declared trace future); body = some (record { entry = 0; exit = 0; failed_exit = some exit }) }

abbrev failing_primitive : ℕ → ℕ → Method
failing_primitive trace future = record { pre = 0; normal = declared 0 0; failing = some (declared trace future); body = none }

-- every name exists, with a step of each kind
all_named : (p : Point) (m : Method) (t : Step) → PointNamed 1 p → NamedIfAny 1 p.owner → MethodNamed 1 1 m → StepNamed 1 1 t → NamesExist (sheet p m t)
all_named p m t x o y z = record { points_named = cons x nil; methods_named = cons y nil; steps_named = cons z nil; owners_named = cons o nil }

-- all names of a method with one outcome, and with two, are 0
one_outcome : (b : Option Body) → BodyNamed 1 b → MethodNamed 1 1 (record { pre = 0; normal = declared 0 0; failing = none; body = b })
one_outcome b h = record { pre_exists = omega arith; declared_named = go; body_named = h }
  where
    go : (o : Outcome) → DeclaredNamed 1 (declared_for o (record { pre = 0; normal = declared 0 0; failing = none; body = b }))
    go normal = omega arith
    go failed = tt

two-outcomes : (b : Option Body) → BodyNamed 1 b → MethodNamed 1 1 (record { pre = 0; normal = declared 0 0; failing = some (declared 0 0); body = b })
two-outcomes b h = record { pre_exists = omega arith; declared_named = go; body_named = h }
  where
    go : (o : Outcome) → DeclaredNamed 1 (declared_for o (record { pre = 0; normal = declared 0 0; failing = some (declared 0 0); body = b }))
    go normal = omega arith
    go failed = omega arith

all-exist : NamesExist (sheet (point 0 0 0) (method 0 0 0 0 0) (event_step 0 0 31))
    × NamesExist (sheet (point 0 0 0) (primitive 0 0 0) (call_from 0 0 0))
    × NamesExist (sheet (point 0 0 0) (method 0 0 0 0 0) (pass_step 0 0))
    × NamesExist (sheet (point 0 0 0) (failing_method 0 0 0) (failing_call_from 0 0 0 0))
    × NamesExist (sheet (point 0 0 0) (failing_primitive 0 0) (failing_call_from 0 0 0 0))
    × NamesExist (sheet (point 0 0 0) (method 0 0 0 0 0) (stop_step 0))
    × NamesExist (sheet (owned_point_from 0 0 0 0) (method 0 0 0 0 0) (pass_step 0 0))
    × NamesExist (sheet (point 0 0 0) (primitive 0 0 0) (channel_call_from 0 0 0 3))
all-exist = (
  all_named (point 0 0 0) (method 0 0 0 0 0) (event_step 0 0 31) (omega arith) tt (one_outcome _ (omega arith)) (omega arith),
  all_named (point 0 0 0) (primitive 0 0 0) (call_from 0 0 0) (omega arith) tt (one_outcome none tt) (omega arith),
  all_named (point 0 0 0) (method 0 0 0 0 0) (pass_step 0 0) (omega arith) tt (one_outcome _ (omega arith)) (omega arith),
  all_named (point 0 0 0) (failing_method 0 0 0) (failing_call_from 0 0 0 0) (omega arith) tt (two-outcomes _ (omega arith)) (omega arith),
  all_named (point 0 0 0) (failing_primitive 0 0) (failing_call_from 0 0 0 0) (omega arith) tt (two-outcomes none tt) (omega arith),
  all_named (point 0 0 0) (method 0 0 0 0 0) (stop_step 0) (omega arith) tt (one_outcome _ (omega arith)) (omega arith),
  all_named (owned_point_from 0 0 0 0) (method 0 0 0 0 0) (pass_step 0 0) (omega arith) (omega arith) (one_outcome _ (omega arith)) (omega arith),
  all_named (point 0 0 0) (primitive 0 0 0) (channel_call_from 0 0 0 3) (omega arith) tt (one_outcome none tt) (omega arith),
)

-- one name does not

no-past : NamesExist (sheet (point 1 0 0) (method 0 0 0 0 0) (pass_step 0 0)) → ⊥
no-past n = omega (arith, (each-head n.points_named).past_exists)

no_own : NamesExist (sheet (point 0 1 0) (method 0 0 0 0 0) (pass_step 0 0)) → ⊥
no_own n = omega (arith, (each-head n.points_named).own_exists)

no_due : NamesExist (sheet (point 0 0 1) (method 0 0 0 0 0) (pass_step 0 0)) → ⊥
no_due n = omega (arith, (each-head n.points_named).due_exists)

no-owner : NamesExist (sheet (owned_point_from 0 0 0 1) (method 0 0 0 0 0) (pass_step 0 0)) → ⊥
no-owner n = omega (arith, each-head n.owners_named)

no-pre : NamesExist (sheet (point 0 0 0) (method 1 0 0 0 0) (pass_step 0 0)) → ⊥
no-pre n = omega (arith, (each-head n.methods_named).pre_exists)

no-trace : NamesExist (sheet (point 0 0 0) (method 0 1 0 0 0) (pass_step 0 0)) → ⊥
no-trace n = omega (arith, (each-head n.methods_named).declared_named normal)

no-future : NamesExist (sheet (point 0 0 0) (method 0 0 1 0 0) (pass_step 0 0)) → ⊥
no-future n = omega (arith, (each-head n.methods_named).declared_named normal)

no-entry : NamesExist (sheet (point 0 0 0) (method 0 0 0 1 0) (pass_step 0 0)) → ⊥
no-entry n = omega (arith, (each-head n.methods_named).body_named)

no-exit : NamesExist (sheet (point 0 0 0) (method 0 0 0 0 1) (pass_step 0 0)) → ⊥
no-exit n = omega (arith, (each-head n.methods_named).body_named)

no-failed-trace : NamesExist (sheet (point 0 0 0) (failing_method 1 0 0) (pass_step 0 0)) → ⊥
no-failed-trace n = omega (arith, (each-head n.methods_named).declared_named failed)

no-failed-future : NamesExist (sheet (point 0 0 0) (failing_primitive 0 1) (pass_step 0 0)) → ⊥
no-failed-future n = omega (arith, (each-head n.methods_named).declared_named failed)

no-failed-exit : NamesExist (sheet (point 0 0 0) (failing_method 0 0 1) (pass_step 0 0)) → ⊥
no-failed-exit n = omega (arith, (each-head n.methods_named).body_named)

no-primitive-pre : NamesExist (sheet (point 0 0 0) (primitive 1 0 0) (pass_step 0 0)) → ⊥
no-primitive-pre n = omega (arith, (each-head n.methods_named).pre_exists)

no-event-from : NamesExist (sheet (point 0 0 0) (method 0 0 0 0 0) (event_step 1 0 0)) → ⊥
no-event-from n = omega (arith, each-head n.steps_named)

no-event-to : NamesExist (sheet (point 0 0 0) (method 0 0 0 0 0) (event_step 0 1 0)) → ⊥
no-event-to n = omega (arith, each-head n.steps_named)

no-call-from : NamesExist (sheet (point 0 0 0) (method 0 0 0 0 0) (call_from 1 0 0)) → ⊥
no-call-from n = omega (arith, each-head n.steps_named)

no-call-to : NamesExist (sheet (point 0 0 0) (method 0 0 0 0 0) (call_from 0 1 0)) → ⊥
no-call-to n = omega (arith, each-head n.steps_named)

no-call-method : NamesExist (sheet (point 0 0 0) (method 0 0 0 0 0) (call_from 0 0 1)) → ⊥
no-call-method n = omega (arith, each-head n.steps_named)

no-failed-target : NamesExist (sheet (point 0 0 0) (failing_method 0 0 0) (failing_call_from 0 0 1 0)) → ⊥
no-failed-target n = omega (arith, each-head n.steps_named)

no-failing-call-method : NamesExist (sheet (point 0 0 0) (failing_method 0 0 0) (failing_call_from 0 0 0 1)) → ⊥
no-failing-call-method n = omega (arith, each-head n.steps_named)

no-channel-call-to : NamesExist (sheet (point 0 0 0) (primitive 0 0 0) (channel_call_from 0 1 0 0)) → ⊥
no-channel-call-to n = omega (arith, each-head n.steps_named)

no-channel-call-method : NamesExist (sheet (point 0 0 0) (primitive 0 0 0) (channel_call_from 0 0 1 0)) → ⊥
no-channel-call-method n = omega (arith, each-head n.steps_named)

no-pass-from : NamesExist (sheet (point 0 0 0) (method 0 0 0 0 0) (pass_step 1 0)) → ⊥
no-pass-from n = omega (arith, each-head n.steps_named)

no-pass-to : NamesExist (sheet (point 0 0 0) (method 0 0 0 0 0) (pass_step 0 1)) → ⊥
no-pass-to n = omega (arith, each-head n.steps_named)

no-stop-from : NamesExist (sheet (point 0 0 0) (method 0 0 0 0 0) (stop_step 1)) → ⊥
no-stop-from n = omega (arith, each-head n.steps_named)

-- of 32 events 31 is the last; a method has a body, and a primitive has none
no-event : EventBelow 32 (event_step 0 0 32) → ⊥
no-event e = omega (arith, e)

last-event : EventBelow 32 (event_step 0 0 31)
last-event = omega arith

a_body : HasBody (method 0 0 0 0 0).body
a_body = tt

no_body : HasBody (primitive 0 0 0).body → ⊥
no_body b = b

-- Outcomes --------------------------------------------------------------------------------------------------------------

-- a method and a call of it fit, with one outcome and with two
fits : (m : Method) (t : Step) → ExitsFit m.failing m.body → TargetsFit (sheet (point 0 0 0) m t) t → OutcomesFit (sheet (point 0 0 0) m t)
fits m t e f = record { exits_fit = cons e nil; targets_fit = cons f nil }

all_fit : OutcomesFit (sheet (point 0 0 0) (method 0 0 0 0 0) (call_from 0 0 0))
    × OutcomesFit (sheet (point 0 0 0) (primitive 0 0 0) (call_from 0 0 0))
    × OutcomesFit (sheet (point 0 0 0) (failing_method 0 0 0) (failing_call_from 0 0 0 0))
    × OutcomesFit (sheet (point 0 0 0) (failing_primitive 0 0) (failing_call_from 0 0 0 0))
all_fit = (
  fits (method 0 0 0 0 0) (call_from 0 0 0) (search) (search),
  fits (primitive 0 0 0) (call_from 0 0 0) (search) (search),
  fits (failing_method 0 0 0) (failing_call_from 0 0 0 0) (search) (search),
  fits (failing_primitive 0 0) (failing_call_from 0 0 0 0) (search) (search),
)

-- what 18 is for
no_target : OutcomesFit (sheet (point 0 0 0) (failing_method 0 0 0) (call_from 0 0 0)) → false ≡ true
no_target f = each-head f.targets_fit

no-target-for-primitive : OutcomesFit (sheet (point 0 0 0) (failing_primitive 0 0) (call_from 0 0 0)) → false ≡ true
no-target-for-primitive f = each-head f.targets_fit

stray-target : OutcomesFit (sheet (point 0 0 0) (method 0 0 0 0 0) (failing_call_from 0 0 0 0)) → true ≡ false
stray-target f = each-head f.targets_fit

-- a failed exit without a failed trace, and the other way
abbrev with_exit : Option Declared → Option ℕ → Method
with_exit failing exit = record { pre = 0; normal = declared 0 0; failing = failing; body = some (record { entry = 0; exit = 0; failed_exit = exit }) }

stray-exit : OutcomesFit (sheet (point 0 0 0) (with_exit none (some 0)) (pass_step 0 0)) → true ≡ false
stray-exit f = each-head f.exits_fit

no-exit-for-failing : OutcomesFit (sheet (point 0 0 0) (with_exit (some (declared 0 0)) none) (pass_step 0 0)) → false ≡ true
no-exit-for-failing f = each-head f.exits_fit

-- Editions --------------------------------------------------------------------------------------------------------------

-- what 20 is for
stop-in-new : StopFits true (stop_step 0)
stop-in-new = refl

stop-in-old : StopFits false (stop_step 0) → false ≡ true
stop-in-old f = f

-- Owners ----------------------------------------------------------------------------------------------------------------

-- the point 0 belongs to the method 0, the point 1 to the method 1, which is a primitive, and the point 2 to none
abbrev owned : Method → Step → Sheet
owned m t =
    record {
      conditions = empty ∷ [];
      points = owned_point_from 0 0 0 0 ∷ owned_point_from 0 0 0 1 ∷ point 0 0 0 ∷ [];
      methods = m ∷ primitive 0 0 0 ∷ [];
      steps = t ∷ [];
      certificates = [];
      new = true;
    }

-- a method with these points
abbrev between : ℕ → ℕ → ℕ → Method
between entry exit failed_exit =
    record {
      pre = 0;
      normal = declared 0 0;
      failing = some (declared 0 0);
      body = some (record { entry = entry; exit = exit; failed_exit = some failed_exit });
    }

owners-agree : (m : Method) (t : Step) → BodyOwned (owned m t) 0 m.body → StepOwned (owned m t) t → OwnersFit (owned m t)
owners-agree m t b o = record { bodies_owned = bodies; steps_owned = cons o nil }
  where
    bodies : (i : ℕ) → BodyOwned (owned m t) i (body (owned m t) i)
    bodies zero = b
    bodies (suc zero) = tt
    bodies (suc (suc i)) = tt

-- a point without owner agrees with any; the method that is called is not compared, and a stop joins nothing
all-agree : OwnersFit (owned (between 0 0 0) (event_step 1 1 0))
    × OwnersFit (owned (between 2 2 2) (pass_step 1 2))
    × OwnersFit (owned (between 0 2 0) (failing_call_from 1 1 1 0))
    × OwnersFit (owned (between 0 0 2) (failing_call_from 2 0 2 1))
    × OwnersFit (owned (method 0 0 0 0 2) (call_from 1 1 0))
    × OwnersFit (owned (between 2 0 0) (stop_step 1))
    × OwnersFit (owned (between 0 0 0) (channel_call_from 0 2 1 3))
all-agree = (
  owners-agree (between 0 0 0) (event_step 1 1 0) (search) (search),
  owners-agree (between 2 2 2) (pass_step 1 2) (search) (search),
  owners-agree (between 0 2 0) (failing_call_from 1 1 1 0) (search) (search),
  owners-agree (between 0 0 2) (failing_call_from 2 0 2 1) (search) (search),
  owners-agree (method 0 0 0 0 2) (call_from 1 1 0) (search) (search),
  owners-agree (between 2 0 0) (stop_step 1) (search) (search),
  owners-agree (between 0 0 0) (channel_call_from 0 2 1 3) (search) (search),
)

-- what 24 is for
other-entry : OwnersFit (owned (between 1 0 0) (stop_step 0)) → ⊥
other-entry f = omega (arith, (f.bodies_owned 0).0)

other-exit : OwnersFit (owned (between 0 1 0) (stop_step 0)) → ⊥
other-exit f = omega (arith, (f.bodies_owned 0).1)

other-failed-exit : OwnersFit (owned (between 0 0 1) (stop_step 0)) → ⊥
other-failed-exit f = omega (arith, (f.bodies_owned 0).2)

event-elsewhere : OwnersFit (owned (between 0 0 0) (event_step 0 1 0)) → ⊥
event-elsewhere f = omega (arith, each-head f.steps_owned)

pass-elsewhere : OwnersFit (owned (between 0 0 0) (pass_step 1 0)) → ⊥
pass-elsewhere f = omega (arith, each-head f.steps_owned)

call-elsewhere : OwnersFit (owned (between 0 0 0) (call_from 0 1 0)) → ⊥
call-elsewhere f = omega (arith, (each-head f.steps_owned).0)

channel-call-elsewhere : OwnersFit (owned (between 0 0 0) (channel_call_from 0 1 1 3)) → ⊥
channel-call-elsewhere f = omega (arith, (each-head f.steps_owned).0)

failing-call-elsewhere : OwnersFit (owned (between 0 0 0) (failing_call_from 0 1 2 0)) → ⊥
failing-call-elsewhere f = omega (arith, (each-head f.steps_owned).0)

failed-target-elsewhere : OwnersFit (owned (between 0 0 0) (failing_call_from 0 2 1 0)) → ⊥
failed-target-elsewhere f = omega (arith, (each-head f.steps_owned).1)

targets-apart : OwnersFit (owned (between 0 0 0) (failing_call_from 2 0 1 0)) → ⊥
targets-apart f = omega (arith, (each-head f.steps_owned).2)

-- Channels ----------------------------------------------------------------------------------------------------------------

-- of the one step
channel-fits : (m : Method) (t : Step) → StepOnChannel (sheet (point 0 0 0) m t) t → ChannelsFit (sheet (point 0 0 0) m t)
channel-fits m t f = cons f nil

-- a primitive of one outcome is called on each of the channels 0 to 3; of a call on none nothing is said
channels_fit : ChannelsFit (sheet (point 0 0 0) (primitive 0 0 0) (channel_call_from 0 0 0 0))
    × ChannelsFit (sheet (point 0 0 0) (primitive 0 0 0) (channel_call_from 0 0 0 3))
    × ChannelsFit (sheet (point 0 0 0) (method 0 0 0 0 0) (call_from 0 0 0))
    × ChannelsFit (sheet (point 0 0 0) (failing_primitive 0 0) (failing_call_from 0 0 0 0))
channels_fit = (
  channel-fits (primitive 0 0 0) (channel_call_from 0 0 0 0) (refl, refl, omega arith),
  channel-fits (primitive 0 0 0) (channel_call_from 0 0 0 3) (refl, refl, omega arith),
  channel-fits (method 0 0 0 0 0) (call_from 0 0 0) tt,
  channel-fits (failing_primitive 0 0) (failing_call_from 0 0 0 0) tt,
)

-- what 26 is for
channel-above : ChannelsFit (sheet (point 0 0 0) (primitive 0 0 0) (channel_call_from 0 0 0 4)) → ⊥
channel-above f = omega (arith, (each-head f).2)

body-on-channel : ChannelsFit (sheet (point 0 0 0) (method 0 0 0 0 0) (channel_call_from 0 0 0 0)) → true ≡ false
body-on-channel f = ap is_some (each-head f).0

failing-on-channel : ChannelsFit (sheet (point 0 0 0) (failing_primitive 0 0) (channel_call_from 0 0 0 0)) → true ≡ false
failing-on-channel f = ap is_some (each-head f).1

-- a call by kind 22 names a channel, also the channel 0; one by kind 11 or 17 names none
names-channel : NoChannel (channel_call_from 0 0 0 0) → true ≡ false
names-channel e = ap is_some e

names-none : NoChannel (call_from 0 0 0) × NoChannel (failing_call_from 0 0 0 0)
names-none = (refl, refl)
