-- What the facts of runs say is false of other states and steps: of states whose histories do not go on from each other, after the end, of a step that
-- calls no primitive, and of an outcome that a step has no target for.
use mathlib.Core.Path.{ap}
use mathlib.Core.Bool.{true, false}
use mathlib.Core.Option.{none}
use mathlib.Core.List.{List, [], ◌∷◌}
use native.Mathlib.Omega.{arith}
use Rattle.condition.specs.Condition.{Word, event}
use Rattle.condition.specs.Places.{accepts}
use Rattle.condition.proofs.Words.{words}
use Rattle.sheet.specs.Sheet.{normal, failed, point_from, CallStep, event_step, call_step, Sheet}
use Rattle.sheet.proofs.Each.{each-head}
use lib.ListN.{length, get_or}
use Rattle.runs.specs.Runs.{Call, Returned, State, Grown, move, MadeByTrace}
use Rattle.runs.proofs.Methods.{failing_primitive}

-- Histories ---------------------------------------------------------------------------------------------------------------

abbrev began_after : Word → Call
began_after w = record { method = 0; channel = none; step = none; began = w; activation = record { number = 0; callers = [] } }

abbrev state : Word → List Call → List Returned → State
state h cs rs = record { history = h; open_calls = cs; returned_calls = rs; point = 0; ended = false }

-- the history is 2: an open call began after 1; a call that began after 1 returned after 2; one returned after 1
not-since-beginning : Grown (state (2 ∷ []) (began_after (1 ∷ []) ∷ []) []) → ⊥
not-since-beginning g = let e = ap (λ (w : Word). get_or w 0 0) (each-head g.since_beginning) in omega (arith, e)

not-while-open : Grown (state (2 ∷ []) [] (record { call = began_after (1 ∷ []); outcome = normal; at = 2 ∷ [] } ∷ [])) → ⊥
not-while-open g = let e = ap (λ (w : Word). get_or w 0 0) (each-head g.while_open) in omega (arith, e)

not-since-return : Grown (state (2 ∷ []) [] (record { call = began_after []; outcome = normal; at = 1 ∷ [] } ∷ [])) → ⊥
not-since-return g = let e = ap (λ (w : Word). get_or w 0 0) (each-head g.since_return) in omega (arith, e)

-- Steps -------------------------------------------------------------------------------------------------------------------

-- step 0 calls the primitive 0, whose trace and failed trace are the one word 7, and has no failed target; step 1 raises 3
abbrev called : CallStep
called = record { from = 0; to = 0; failed_to = none; method = 0; channel = none }

abbrev sheet : Sheet
sheet = record {
  conditions = event 7 ∷ [];
  points = point_from 0 0 0 ∷ [];
  methods = failing_primitive 0 0 0 0 0 ∷ [];
  steps = call_step called ∷ event_step 0 0 3 ∷ [];
  certificates = [];
  new = false;
}

abbrev over : State
over = record { history = []; open_calls = []; returned_calls = []; point = 0; ended = true }

-- after the end the primitive is not called with a word of its trace
not-made-after-end : MadeByTrace sheet over 0 called normal 0 (7 ∷ []) → ⊥
unfolding move accepts
not-made-after-end m =
    let e = ap (λ (s : State). length s.returned_calls) (m.made ((words (event 7) (7 ∷ [])).0 tt)) in
    omega (arith, e)

-- with the word 8, which is not of that trace, the event step changes the run
made-by-event : MadeByTrace sheet (state [] [] []) 1 called normal 0 (8 ∷ []) → ⊥
unfolding move accepts
made-by-event m =
    let e = ap (λ (s : State). length s.history) (m.not_made (λ h. (words (event 7) (8 ∷ [])).1 h)) in
    omega (arith, e)

-- failing, the primitive is not called with a word of its failed trace
not-made-without-target : MadeByTrace sheet (state [] [] []) 0 called failed 0 (7 ∷ []) → ⊥
unfolding move accepts
not-made-without-target m =
    let e = ap (λ (s : State). length s.returned_calls) (m.made ((words (event 7) (7 ∷ [])).0 tt)) in
    omega (arith, e)
