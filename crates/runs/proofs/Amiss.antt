-- Runs in which a future that is owed is not met: what is owed, as defined, does not hold of them.
use mathlib.Core.Path.{◌≡◌, refl, subst}
use mathlib.Core.Bool.{true, false}
use mathlib.Core.List.Memᴰ
use mathlib.Core.List.{List, [], ◌∷◌, ◌++◌}
use lib.Dec.{T}
use Rattle.condition.specs.Condition.{Word, Condition, empty, join, either, star, Holds, event, any}
use Rattle.condition.specs.Places.{accepts}
use Rattle.condition.proofs.Words.{words}
use Rattle.sheet.specs.Each.{nil, cons}
use Rattle.sheet.proofs.Each.{each-head, each_tail}
use Rattle.sheet.specs.Sheet.{normal, failed, point_from, event_step, call_from, failing_call_from, stop_step, Sheet}
use Rattle.runs.specs.Runs.{Move, return, by_step, run}
use Rattle.runs.specs.Owing.{Owing}
use Rattle.runs.proofs.Methods.{primitive, with_body, failing_primitive, failing_with_body}

-- what may follow the primitive: nothing more, or next the event 2 (advance); its trace is the one word 1 (close)
abbrev asked : Condition
asked = either empty (join (event 2) (star (any 32)))

lacks : (c : Condition) (w : Word) → accepts c w ≡ false → Holds c w → ⊥
lacks c w e h = subst T e ((words c w).1 h)

-- Method 0 goes from point 0 to 1 by the primitive 2, which it calls itself (step 3) or through method 1 (steps 0 and 2), and on to point 2 by the
-- event 0 (open). So open is due at point 1, and neither the primitive nor method 1 allows it.
abbrev opening : Sheet
opening = record {
  conditions = empty ∷ star (any 32) ∷ event 0 ∷ event 1 ∷ asked ∷ [];
  points = point_from 1 1 1 ∷ point_from 1 1 2 ∷ point_from 1 1 0 ∷ point_from 1 1 1 ∷ point_from 1 1 0 ∷ [];
  methods = with_body 1 1 0 0 2 ∷ with_body 1 1 4 3 4 ∷ primitive 1 3 4 ∷ [];
  steps = call_from 0 1 1 ∷ event_step 1 2 0 ∷ call_from 3 4 2 ∷ call_from 0 1 2 ∷ [];
  certificates = [];
  new = false;
}

-- control is in the activation that made the call, and open is due
pub unmet-in-maker : Owing opening (run opening 0 (by_step 3 normal (1 ∷ []) ∷ [])) → ⊥
unfolding run
unmet-in-maker o = lacks asked (0 ∷ []) refl (each-head o (Memᴰ.head refl) (0 ∷ []) (0, tt, refl))

-- the moves to where method 1, which made the call, returns
abbrev to_return : List Move
to_return = by_step 0 normal [] ∷ by_step 2 normal (1 ∷ []) ∷ return normal ∷ []

-- control is in that activation's caller, and open is due
pub unmet-in-caller : Owing opening (run opening 0 to_return) → ⊥
unfolding run
unmet-in-caller o = lacks asked (0 ∷ []) refl (each-head (each_tail o) (Memᴰ.tail (Memᴰ.head refl)) (0 ∷ []) (0, tt, refl))

-- the call of method 1, which has a body, asks the same: control is in the activation that made it
pub unmet-of-body : Owing opening (run opening 0 to_return) → ⊥
unfolding run
unmet-of-body o = lacks asked (0 ∷ []) refl (each-head o (Memᴰ.head refl) (0 ∷ []) (0, tt, refl))

-- open has been raised, and nothing more is due
pub unmet-since : Owing opening (run opening 0 (to_return ++ (by_step 1 normal [] ∷ []))) → ⊥
unfolding run
unmet-since o = lacks asked (0 ∷ []) refl (each-head (each_tail o) (Memᴰ.tail (Memᴰ.head refl)) [] refl)

-- Calls that fail: as `opening`, where the failed futures of method 1 and of the primitive do not allow open, and their futures ask for it.
abbrev failing : Sheet
failing = record {
  conditions = opening.conditions;
  points = opening.points;
  methods = with_body 1 1 0 0 2 ∷ failing_with_body 1 1 2 3 4 1 4 4 ∷ failing_primitive 1 3 2 3 4 ∷ [];
  steps = failing_call_from 0 1 1 1 ∷ event_step 1 2 0 ∷ failing_call_from 3 4 4 2 ∷ failing_call_from 0 1 1 2 ∷ [];
  certificates = [];
  new = false;
}

-- of the primitive, in the activation that made the call
pub unmet-of-failed : Owing failing (run failing 0 (by_step 3 failed (1 ∷ []) ∷ [])) → ⊥
unfolding run
unmet-of-failed o = lacks asked (0 ∷ []) refl (each-head o (Memᴰ.head refl) (0 ∷ []) (0, tt, refl))

abbrev to_failure : List Move
to_failure = by_step 0 normal [] ∷ by_step 2 failed (1 ∷ []) ∷ return failed ∷ []

-- of the primitive, in that activation's caller, and of method 1, in the activation that made it
pub unmet-of-failed-in-caller : Owing failing (run failing 0 to_failure) → ⊥
unfolding run
unmet-of-failed-in-caller o = lacks asked (0 ∷ []) refl (each-head (each_tail o) (Memᴰ.tail (Memᴰ.head refl)) (0 ∷ []) (0, tt, refl))

pub unmet-of-failed-body : Owing failing (run failing 0 to_failure) → ⊥
unfolding run
unmet-of-failed-body o = lacks asked (0 ∷ []) refl (each-head o (Memᴰ.head refl) (0 ∷ []) (0, tt, refl))

-- of the same call, where it does not fail, what is owed holds
pub met-of-normal : Owing failing (run failing 0 (by_step 3 normal (1 ∷ []) ∷ []))
unfolding run
met-of-normal = cons (λ i v h. h) nil

-- A run that stops: as `opening`, where there is a stop at point 1. Control is still in the activation that made the call, and open is due.
abbrev stopping : Sheet
stopping = record {
  conditions = opening.conditions;
  points = opening.points;
  methods = opening.methods;
  steps = call_from 0 1 2 ∷ stop_step 1 ∷ [];
  certificates = [];
  new = true;
}

pub unmet-at-stop : Owing stopping (run stopping 0 (by_step 0 normal (1 ∷ []) ∷ by_step 1 normal [] ∷ [])) → ⊥
unfolding run
unmet-at-stop o = lacks asked (0 ∷ []) refl (each-head o (Memᴰ.head refl) (0 ∷ []) (0, tt, refl))
