-- A run of a small sheet by evaluation, move by move, and its rules' numbers and subjects; what the rules of another say; and a sheet whose rules
-- are true.
use mathlib.Core.Path.{◌≡◌, refl}
use Prim.Native.Nat.{ℕ}
use mathlib.Core.Bool.{true, false}
use mathlib.Core.Option.{none, some}
use mathlib.Core.List.{List, [], ◌∷◌, ◌++◌, map}
use Rattle.condition.specs.Condition.{Word, empty, join, star, event, any, ◌⊆◌}
use Rattle.sheet.specs.Each.{nil, cons}
use Rattle.sheet.specs.Sheet.{normal, failed, Point, point_from, Method, event_step, call_from, pass_step, Sheet}
use Rattle.runs.specs.Rules.{◌is_in◌, holds_empty, ◌of◌says◌, exit_rules, return_rules, firsts_rules, rules, AllMet}
use Rattle.runs.specs.Runs.{Call, Returned, State, Move, return, by_step, run}
use Rattle.runs.proofs.Methods.{primitive, with_body}

abbrev pub anywhere : Point
anywhere = point_from 0 0 0

abbrev with-body : ℕ → ℕ → Method
with-body entry exit = with_body 0 0 0 entry exit

-- Method 0 goes from point 0 to 3: it raises 2, calls method 1 and passes. Method 1 goes from point 4 to 5: it calls the primitive 2, whose
-- trace is the one word 7. Step 4 leads out of the exit of method 0.
abbrev sheet : Sheet
sheet = record {
  conditions = star (any 32) ∷ event 7 ∷ [];
  points = anywhere ∷ anywhere ∷ anywhere ∷ anywhere ∷ anywhere ∷ anywhere ∷ [];
  methods = with-body 0 3 ∷ with-body 4 5 ∷ primitive 0 1 0 ∷ [];
  steps = event_step 0 1 2 ∷ call_from 1 2 1 ∷ pass_step 2 3 ∷ call_from 4 5 2 ∷ event_step 3 3 5 ∷ [];
  certificates = [];
  new = false;
}

-- its calls
abbrev pub of_0 : Call
of_0 = record { method = 0; channel = none; step = none; began = []; activation = record { number = 0; callers = [] } }

abbrev of_1 : Call
of_1 = record { method = 1; channel = none; step = some 1; began = 2 ∷ []; activation = record { number = 1; callers = 0 ∷ [] } }

abbrev of_2 : Call
of_2 = record { method = 2; channel = none; step = some 3; began = 2 ∷ []; activation = record { number = 2; callers = 1 ∷ 0 ∷ [] } }

infix 30 ◌returned-at◌
abbrev pub ◌returned-at◌ : Call → Word → Returned
c returned-at h = record { call = c; outcome = normal; at = h }

-- a state before the end: the history, the point, the open and the returned calls
abbrev pub midway : Word → ℕ → List Call → List Returned → State
midway h p cs rs = record { history = h; open_calls = cs; returned_calls = rs; point = p; ended = false }

abbrev at-end : State
at-end = record {
  history = 2 ∷ 7 ∷ [];
  open_calls = [];
  returned_calls = (of_0 returned-at (2 ∷ 7 ∷ [])) ∷ (of_1 returned-at (2 ∷ 7 ∷ [])) ∷ (of_2 returned-at (2 ∷ 7 ∷ [])) ∷ [];
  point = 3;
  ended = true;
}

-- a move and the state that it leaves
pub record Row : Type 0 where
  pub made : Move
  pub leaves : State

infix 20 ◌leaves◌
abbrev pub ◌leaves◌ : Move → State → Row
m leaves s = record { made = m; leaves = s }

abbrev rows : List Row
rows =
    -- control is not at the exit of method 0
    (return normal leaves midway [] 0 (of_0 ∷ []) [])
    -- the event step
    ∷ (by_step 0 normal [] leaves midway (2 ∷ []) 1 (of_0 ∷ []) [])
    -- control is no longer at that step's from, and there is no step 9
    ∷ (by_step 0 normal [] leaves midway (2 ∷ []) 1 (of_0 ∷ []) [])
    ∷ (by_step 9 normal [] leaves midway (2 ∷ []) 1 (of_0 ∷ []) [])
    -- the call of method 1
    ∷ (by_step 1 normal [] leaves midway (2 ∷ []) 4 (of_1 ∷ of_0 ∷ []) [])
    -- the call of the primitive, with a word that is not of its trace and with one that is
    ∷ (by_step 3 normal (8 ∷ []) leaves midway (2 ∷ []) 4 (of_1 ∷ of_0 ∷ []) [])
    ∷ (by_step 3 normal (7 ∷ []) leaves midway (2 ∷ 7 ∷ []) 5 (of_1 ∷ of_0 ∷ []) ((of_2 returned-at (2 ∷ 7 ∷ [])) ∷ []))
    -- method 1 returns to the target of step 1
    ∷ (return normal leaves midway (2 ∷ 7 ∷ []) 2 (of_0 ∷ []) ((of_1 returned-at (2 ∷ 7 ∷ [])) ∷ (of_2 returned-at (2 ∷ 7 ∷ [])) ∷ []))
    -- the pass
    ∷ (by_step 2 normal [] leaves midway (2 ∷ 7 ∷ []) 3 (of_0 ∷ []) ((of_1 returned-at (2 ∷ 7 ∷ [])) ∷ (of_2 returned-at (2 ∷ 7 ∷ [])) ∷ []))
    -- method 0 returns, and the run ends
    ∷ (return normal leaves at-end)
    -- moves after the end, also by a step whose from is the point where control is
    ∷ (return normal leaves at-end)
    ∷ (by_step 2 normal [] leaves at-end)
    ∷ (by_step 4 normal [] leaves at-end)
    ∷ []

-- the states of a run of the moves before, then each row's
abbrev pub states : Sheet → List Move → List Row → List State
states S before [] = []
states S before (x ∷ xs) = let now = before ++ (x.made ∷ []) in run S 0 now ∷ states S now xs

pub rows-are-so : states sheet [] rows ≡ map (λ x. x.leaves) rows
unfolding run
rows-are-so = refl

-- Its rules, in the order of testing: of the first method, of methods 0 and 1, and of the steps 0 to 4 ----------------------

rule-numbers : map (λ x. x.number) (rules sheet)
    ≡ 1 ∷ 2 ∷ 3 ∷ 4 ∷ 5 ∷ 6 ∷ 3 ∷ 4 ∷ 5 ∷ 6 ∷ 7 ∷ 8 ∷ 9 ∷ 10 ∷ 11 ∷ 12 ∷ 13 ∷ 14 ∷ 15 ∷ 16 ∷ 17 ∷ 10 ∷ 11 ∷ 12 ∷ 13 ∷ 14 ∷ 7 ∷ 8 ∷ 9 ∷ []
unfolding rules
rule-numbers = refl

rule-subjects : map (λ x. x.subject) (rules sheet)
    ≡ 0 ∷ 0 ∷ 0 ∷ 0 ∷ 0 ∷ 0 ∷ 1 ∷ 1 ∷ 1 ∷ 1 ∷ 0 ∷ 0 ∷ 0 ∷ 1 ∷ 1 ∷ 1 ∷ 1 ∷ 1 ∷ 2 ∷ 2 ∷ 2 ∷ 3 ∷ 3 ∷ 3 ∷ 3 ∷ 3 ∷ 4 ∷ 4 ∷ 4 ∷ []
unfolding rules
rule-subjects = refl

-- What the rules say, of a sheet with one method with body, one primitive and a step of each kind. Each condition is told by its one event: 0, 1
-- and 2 are past, own and due of point p, 3 to 5 of point q, 6 to 8 pre, trace and future of the method, 9 to 11 of the primitive.
abbrev told : Sheet
told = record {
  conditions =
      event 0 ∷ event 1 ∷ event 2 ∷ event 3 ∷ event 4 ∷ event 5 ∷ event 6 ∷ event 7 ∷ event 8 ∷ event 9 ∷ event 10 ∷ event 11 ∷ [];
  points = point_from 0 1 2 ∷ point_from 3 4 5 ∷ [];
  methods = with_body 6 7 8 0 1 ∷ primitive 9 10 11 ∷ [];
  steps = event_step 0 1 31 ∷ call_from 0 1 1 ∷ pass_step 0 1 ∷ [];
  certificates = [];
  new = false;
}

rule-claims : map (λ x. x.claim) (rules told)
    ≡ holds_empty (event 6) ∷ holds_empty (event 8)
    ∷ (event 6 is_in event 0) ∷ holds_empty (event 1) ∷ (event 4 is_in event 7) ∷ (event 8 is_in event 5)
    ∷ (join (event 0) (event 31) is_in event 3) ∷ (join (event 1) (event 31) is_in event 4) ∷ (join (event 31) (event 5) is_in event 2)
    ∷ (event 0 is_in event 9) ∷ (join (event 0) (event 10) is_in event 3) ∷ (join (event 1) (event 10) is_in event 4)
    ∷ (event 5 is_in event 11) ∷ (join (event 10) (event 5) is_in event 2)
    ∷ (event 0 is_in event 3) ∷ (event 1 is_in event 4) ∷ (event 5 is_in event 2)
    ∷ []
unfolding rules
rule-claims = refl

-- Document 01's sheet M ---------------------------------------------------------------------------------------------------

-- one method, at whose one point it starts and ends; each condition is EMPTY
abbrev M : Sheet
M = record { conditions = empty ∷ []; points = anywhere ∷ []; methods = with-body 0 0 ∷ []; steps = []; certificates = []; new = false }

in_itself : empty ⊆ empty
in_itself w h = h

pub M-rules : AllMet (rules M)
unfolding rules
M-rules = cons refl (cons refl (cons in_itself (cons refl (cons in_itself (cons in_itself nil)))))

-- More of both sheets -----------------------------------------------------------------------------------------------------

-- a word or an outcome that is given with an event step, with the call of a method with body, or with a pass is not read
words-unread : run sheet 0
    (by_step 0 failed (9 ∷ []) ∷ by_step 1 failed (9 ∷ []) ∷ by_step 3 normal (7 ∷ []) ∷ return normal ∷ by_step 2 failed (9 ∷ []) ∷ return normal ∷ [])
    ≡ at-end
unfolding run
words-unread = refl

-- a run that starts at method 1
starts-at-1 : run sheet 1 [] ≡ midway [] 4 (record { method = 1; channel = none; step = none; began = []; activation = record { number = 0; callers = [] } } ∷ []) []
unfolding run
starts-at-1 = refl

-- rules 1 and 2 of each method at which runs start, in the order of the list
rules-of-starts : firsts_rules told (1 ∷ 0 ∷ [])
    ≡ (1 of 1 says holds_empty (event 9)) ∷ (2 of 1 says holds_empty (event 11))
    ∷ (1 of 0 says holds_empty (event 6)) ∷ (2 of 0 says holds_empty (event 8))
    ∷ []
unfolding firsts_rules
rules-of-starts = refl

-- the rules of an exit and of a return, numbered from 20 on; the return is to point 1, the step's own target is point 0
rules-of-exit : exit_rules told 20 0 normal 1 ≡ (20 of 0 says event 4 is_in event 7) ∷ (21 of 0 says event 8 is_in event 5) ∷ []
rules-of-exit = refl

rules-of-return : return_rules told 20 3 (record { from = 0; to = 0; failed_to = none; method = 1; channel = none }) normal 1
    ≡ (20 of 3 says join (event 0) (event 10) is_in event 3)
    ∷ (21 of 3 says join (event 1) (event 10) is_in event 4)
    ∷ (22 of 3 says event 5 is_in event 11)
    ∷ (23 of 3 says join (event 10) (event 5) is_in event 2)
    ∷ []
rules-of-return = refl
