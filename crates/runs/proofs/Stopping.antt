-- Runs that stop, by evaluation, move by move; rules 25 and 26 in their order; and the gate, which a stop would leave open if 25 or 26 were not asked.
use mathlib.Core.Path.{◌≡◌, refl, sym, ◌∙◌}
use mathlib.Core.Logic.{inl, inr}
use mathlib.Core.Bool.{Bool, true, false, false≢true}
use mathlib.Core.Option.{none, some}
use mathlib.Core.List.Memᴰ
use mathlib.Core.List.{List, [], ◌∷◌, ◌++◌, map}
use Prim.Native.Nat.{ℕ}
use Rattle.condition.specs.Condition.{Condition, empty, join, either, star, event, any, ◌⊆◌}
use Rattle.condition.specs.Places.{accepts}
use Rattle.condition.proofs.Words.{words}
use Rattle.sheet.specs.Each.{Each, nil, cons}
use Rattle.sheet.proofs.Each.{each-head}
use Rattle.sheet.specs.Sheet.{normal, failed, point_from, event_step, call_from, failing_call_from, pass_step, stop_step, Sheet, due}
use Rattle.runs.specs.Rules.{◌is_in◌, holds_empty, Met, Rule, ◌of◌says◌, of_method, rules_from, rules, AllMet, count}
use Rattle.runs.specs.Runs.{Call, Returned, State, start, Move, return, by_step, none_open, run, Safe}
use Rattle.runs.proofs.Methods.{primitive, with_body, failing_primitive, failing_with_body}
use Rattle.runs.proofs.Examples.{anywhere, of_0, ◌returned-at◌, midway, Row, ◌leaves◌, states}
use Rattle.runs.proofs.Failing.{same, first, second}
use Rattle.runs.proofs.Safe.{runs-are-safe}
use Rattle.runs.proofs.Moves.{Makes, event_made, pass_made, primitive_made, open_made, stop_made, return_made, run-keeps}

-- Moves that stop ---------------------------------------------------------------------------------------------------------

-- Method 0 goes from point 0 to 2: it calls the primitive 2, which raises 7, and then method 1. Method 1 goes from point 3 to 4 and raises 5. There are
-- stops at points 4 and 0, and step 4 leads out of the exit of method 1.
abbrev stopping : Bool → Sheet
stopping new = record {
  conditions = star (any 32) ∷ event 7 ∷ [];
  points = anywhere ∷ anywhere ∷ anywhere ∷ anywhere ∷ anywhere ∷ [];
  methods = with_body 0 0 0 0 2 ∷ with_body 0 0 0 3 4 ∷ primitive 0 1 0 ∷ [];
  steps = call_from 0 1 2 ∷ call_from 1 2 1 ∷ event_step 3 4 5 ∷ stop_step 4 ∷ event_step 4 4 6 ∷ stop_step 0 ∷ [];
  certificates = [];
  new = new;
}

abbrev of_1 : Call
of_1 = record { method = 1; channel = none; step = some 1; began = 7 ∷ []; activation = record { number = 2; callers = 0 ∷ [] } }

-- the call of the primitive
abbrev of_2 : Returned
of_2 = record { method = 2; channel = none; step = some 0; began = []; activation = record { number = 1; callers = 0 ∷ [] } } returned-at (7 ∷ [])

-- in both editions
abbrev to_stop : List Row
to_stop =
    -- control is not at the from of the stop
    (by_step 3 normal [] leaves midway [] 0 (of_0 ∷ []) [])
    ∷ (by_step 0 normal (7 ∷ []) leaves midway (7 ∷ []) 1 (of_0 ∷ []) (of_2 ∷ []))
    ∷ (by_step 1 normal [] leaves midway (7 ∷ []) 3 (of_1 ∷ of_0 ∷ []) (of_2 ∷ []))
    ∷ (by_step 3 normal [] leaves midway (7 ∷ []) 3 (of_1 ∷ of_0 ∷ []) (of_2 ∷ []))
    ∷ (by_step 2 normal [] leaves midway (7 ∷ 5 ∷ []) 4 (of_1 ∷ of_0 ∷ []) (of_2 ∷ []))
    ∷ []

-- history, point, open and returned calls stay
abbrev stopped : State
stopped = record { history = 7 ∷ 5 ∷ []; open_calls = of_1 ∷ of_0 ∷ []; returned_calls = of_2 ∷ []; point = 4; ended = true }

abbrev new_rows : List Row
new_rows =
    to_stop
    -- the stop: a word and an outcome given with it are not read
    ++ ((by_step 3 failed (9 ∷ []) leaves stopped)
    -- moves after it, by which the run would go on
    ∷ (return normal leaves stopped)
    ∷ (by_step 4 normal [] leaves stopped)
    ∷ (by_step 3 normal [] leaves stopped)
    ∷ [])

pub new-moves : states (stopping true) [] new_rows ≡ map (λ x. x.leaves) new_rows
unfolding run
new-moves = refl

abbrev old_rows : List Row
old_rows =
    to_stop
    -- the stop is no move, and the run goes on
    ++ ((by_step 3 failed (9 ∷ []) leaves midway (7 ∷ 5 ∷ []) 4 (of_1 ∷ of_0 ∷ []) (of_2 ∷ []))
    ∷ (by_step 4 normal [] leaves midway (7 ∷ 5 ∷ 6 ∷ []) 4 (of_1 ∷ of_0 ∷ []) (of_2 ∷ []))
    ∷ (return normal leaves midway (7 ∷ 5 ∷ 6 ∷ []) 2 (of_0 ∷ []) ((of_1 returned-at (7 ∷ 5 ∷ 6 ∷ [])) ∷ of_2 ∷ []))
    ∷ [])

pub old-moves : states (stopping false) [] old_rows ≡ map (λ x. x.leaves) old_rows
unfolding run
old-moves = refl

-- a stop in the outermost call
pub stops-at-start : run (stopping true) 0 (by_step 5 normal [] ∷ [])
    ≡ record { history = []; open_calls = of_0 ∷ []; returned_calls = []; point = 0; ended = true }
unfolding run
stops-at-start = refl

-- The runs of a sheet of the old edition end only when the outermost call returns.
module _ (S : Sheet) (unmarked : S.new ≡ false) where
  abbrev EndsByReturn : State → Type 0
  EndsByReturn s = s.ended ≡ true → s.open_calls ≡ []

  none-there : (cs : List Call) → none_open cs ≡ true → cs ≡ []
  none-there [] e = refl
  none-there (c ∷ cs) e = absurd (false≢true e)

  made_ends : (s t : State) → s.ended ≡ false → Makes S s t → EndsByReturn s → EndsByReturn t
  made_ends s t z (event_made i found) g = g
  made_ends s t z (pass_made i found) g = g
  made_ends s t z (primitive_made i o w found at is to h) g = g
  made_ends s t z (open_made i found at is) g = λ e. absurd (false≢true (sym z ∙ e))
  made_ends s t z (stop_made i found marked) g = absurd (false≢true (sym unmarked ∙ marked))
  made_ends s t z (return_made {cs = cs} o opened is at to) g = none-there cs

  pub old-ends : (m : ℕ) (ms : List Move) → (run S m ms).ended ≡ true → (run S m ms).open_calls ≡ []
  unfolding start
  old-ends m ms = run-keeps S EndsByReturn made_ends m (λ e. absurd (false≢true e)) ms

-- The rules ----------------------------------------------------------------------------------------------------------------

-- Step 0 calls a method with body of two outcomes, step 1 one of one outcome, steps 2 and 3 the primitives; step 4 is a stop, and step 5 a pass.
abbrev calling : Bool → Sheet
calling new = record {
  conditions = [];
  points = [];
  methods =
      with_body 0 0 0 0 1 ∷ failing_with_body 0 0 0 2 3 0 0 4 ∷ with_body 0 0 0 5 6 ∷ primitive 0 0 0 ∷ failing_primitive 0 0 0 0 0 ∷ [];
  steps = failing_call_from 0 1 1 1 ∷ call_from 0 1 2 ∷ call_from 0 1 3 ∷ failing_call_from 0 1 1 4 ∷ stop_step 0 ∷ pass_step 0 1 ∷ [];
  certificates = [];
  new = new;
}

-- "after a call's other rules": of the methods, and of the steps 0 to 5
pub new-numbers : map (λ x. x.number) (rules (calling true))
    ≡ 1 ∷ 2 ∷ 3 ∷ 4 ∷ 5 ∷ 6 ∷ 3 ∷ 4 ∷ 5 ∷ 6 ∷ 22 ∷ 23 ∷ 3 ∷ 4 ∷ 5 ∷ 6
    ∷ 10 ∷ 11 ∷ 12 ∷ 13 ∷ 14 ∷ 18 ∷ 19 ∷ 20 ∷ 21 ∷ 26 ∷ 10 ∷ 11 ∷ 12 ∷ 13 ∷ 14 ∷ 26
    ∷ 10 ∷ 11 ∷ 12 ∷ 13 ∷ 14 ∷ 10 ∷ 11 ∷ 12 ∷ 13 ∷ 14 ∷ 18 ∷ 19 ∷ 20 ∷ 21 ∷ 25 ∷ 15 ∷ 16 ∷ 17 ∷ []
unfolding rules
new-numbers = refl

-- "new edition only"
pub old-numbers : map (λ x. x.number) (rules (calling false))
    ≡ 1 ∷ 2 ∷ 3 ∷ 4 ∷ 5 ∷ 6 ∷ 3 ∷ 4 ∷ 5 ∷ 6 ∷ 22 ∷ 23 ∷ 3 ∷ 4 ∷ 5 ∷ 6
    ∷ 10 ∷ 11 ∷ 12 ∷ 13 ∷ 14 ∷ 18 ∷ 19 ∷ 20 ∷ 21 ∷ 10 ∷ 11 ∷ 12 ∷ 13 ∷ 14
    ∷ 10 ∷ 11 ∷ 12 ∷ 13 ∷ 14 ∷ 10 ∷ 11 ∷ 12 ∷ 13 ∷ 14 ∷ 18 ∷ 19 ∷ 20 ∷ 21 ∷ 25 ∷ 15 ∷ 16 ∷ 17 ∷ []
unfolding rules
old-numbers = refl

-- "Each adds one to the count"
pub counts : ◌≡◌ {A = List ℕ} (count (calling true) ∷ count (calling false) ∷ []) (50 ∷ 48 ∷ [])
unfolding count
counts = refl

-- both are about a step
pub nouns : map of_method (25 ∷ 26 ∷ []) ≡ false ∷ false ∷ []
nouns = refl

-- What they say, of a call by step 0 from point 1 of the method, whose entry is point 0, and of a stop at point 2, by step 1. Each condition is told by
-- its one event: 0 to 2 are past, own and due of point 0, 3 to 5 of point 1, 6 to 8 of point 2; 9 to 11 are pre, trace and future of the method.
abbrev told : Sheet
told = record {
  conditions =
      event 0 ∷ event 1 ∷ event 2 ∷ event 3 ∷ event 4 ∷ event 5 ∷ event 6 ∷ event 7 ∷ event 8 ∷ event 9 ∷ event 10 ∷ event 11 ∷ [];
  points = point_from 0 1 2 ∷ point_from 3 4 5 ∷ point_from 6 7 8 ∷ [];
  methods = with_body 9 10 11 0 1 ∷ [];
  steps = call_from 1 2 0 ∷ stop_step 2 ∷ [];
  certificates = [];
  new = true;
}

pub rules-told : rules told
    ≡ (1 of 0 says holds_empty (event 9))
    ∷ (2 of 0 says holds_empty (event 11))
    ∷ (3 of 0 says event 9 is_in event 0)
    ∷ (4 of 0 says holds_empty (event 1))
    ∷ (5 of 0 says event 4 is_in event 10)
    ∷ (6 of 0 says event 11 is_in event 5)
    ∷ (10 of 0 says event 3 is_in event 9)
    ∷ (11 of 0 says join (event 3) (event 10) is_in event 6)
    ∷ (12 of 0 says join (event 4) (event 10) is_in event 7)
    ∷ (13 of 0 says event 8 is_in event 11)
    ∷ (14 of 0 says join (event 10) (event 8) is_in event 5)
    ∷ (26 of 0 says event 2 is_in event 5)
    ∷ (25 of 1 says holds_empty (event 8))
    ∷ []
unfolding rules
rules-told = refl

-- The gate -----------------------------------------------------------------------------------------------------------------

-- 0 is open and 1 close. The primitive opens the gate, and asks for a close; then method 0 calls method 1, which closes it. Method 1 may also raise the
-- event `last` and be at point 5. There is one stop, at the point `at`. The conditions are joined as the rules join them.
abbrev opened : Condition
opened = join empty (event 0)

abbrev closing : Condition
closing = join empty (event 1)

abbrev to_close : Condition
to_close = join closing empty

abbrev from_1 : ℕ → Condition
from_1 last = either (join (event 1) empty) (join (event last) empty)

abbrev gate : (last at : ℕ) → Sheet
gate last at = record {
  conditions =
      empty ∷ event 0 ∷ opened ∷ closing ∷ to_close ∷ join (event 0) to_close ∷ join opened closing
      ∷ join opened (event 1) ∷ join opened (event last) ∷ join empty (event last) ∷ from_1 last ∷ [];
  points = point_from 0 0 5 ∷ point_from 2 2 4 ∷ point_from 6 6 0 ∷ point_from 2 0 10 ∷ point_from 7 3 0 ∷ point_from 8 9 0 ∷ [];
  methods = with_body 0 6 0 0 2 ∷ with_body 2 3 0 3 4 ∷ primitive 0 1 4 ∷ [];
  steps = call_from 0 1 2 ∷ call_from 1 2 1 ∷ event_step 3 4 1 ∷ event_step 3 5 last ∷ stop_step at ∷ [];
  certificates = [];
  new = true;
}

-- All its rules are true but for 26 of step 1 and 25: what follows for each true rule, and holds of these two, holds of all.
module _ (last at : ℕ) (P : Rule → Type 0) (met : (x : Rule) → Met x.claim → P x)
    (rule_26 : P (26 of 1 says from_1 last is_in to_close)) (rule-25 : P (25 of 4 says holds_empty (due (gate last at) at))) where
  holds : {x : Rule} {xs : List Rule} → Met x.claim → Each P xs → Each P (x ∷ xs)
  holds {x} h t = cons (met x h) t

  -- 1 and 2; of the methods; 10 to 14 of the primitive's call; 10 to 14 and 26 of the other; 7 to 9 of both events; 25
  gate-rules : Each P (rules_from (0 ∷ []) (gate last at))
  unfolding rules_from
  gate-rules =
      holds refl (holds refl
      (holds (same empty) (holds refl (holds (same (join opened closing)) (holds (same empty)
      (holds (same opened) (holds refl (holds (same closing) (holds (same empty)
      (holds (same empty) (holds (same opened) (holds (same opened) (holds (same to_close) (holds (same (join (event 0) to_close))
      (holds (same opened) (holds (same (join opened closing)) (holds (same (join opened closing)) (holds (same empty) (holds (same to_close) (cons rule_26
      (holds (same (join opened (event 1))) (holds (same closing) (holds (first (join (event 1) empty) (join (event last) empty))
      (holds (same (join opened (event last))) (holds (same (join empty (event last))) (holds (second (join (event 1) empty) (join (event last) empty))
      (cons rule-25 nil)))))))))))))))))))))))))))

-- All rules but those with the number n are true.
abbrev pub MetBut : ℕ → List Rule → Type 0
MetBut n = Each (λ x. (x.number ≡ n → ⊥) → Met x.claim)

-- Where the last event is the close, and the stop is behind it, all rules are true: every run is safe, also one that stops in method 1.
close-in-due : from_1 1 ⊆ to_close
close-in-due w (inl (u, v, e, x, y)) = (u, v, e, ([], u, refl, refl, x), y)
close-in-due w (inr (u, v, e, x, y)) = (u, v, e, ([], u, refl, refl, x), y)

pub closed-rules : AllMet (rules_from (0 ∷ []) (gate 1 5))
closed-rules = gate-rules 1 5 (λ x. Met x.claim) (λ x h. h) close-in-due refl

pub closed-runs : (ms : List Move) → Safe (gate 1 5) (run (gate 1 5) 0 ms)
closed-runs ms = runs-are-safe (gate 1 5) (cons tt (cons tt (cons tt (cons tt (cons tt nil))))) (0 ∷ []) closed-rules 0 (Memᴰ.head refl) tt ms

-- the primitive opens the gate, method 0 calls method 1, that raises the last event, and the run stops
abbrev to_gate_stop : List Move
to_gate_stop = by_step 0 normal (0 ∷ []) ∷ by_step 1 normal [] ∷ by_step 3 normal [] ∷ by_step 4 normal [] ∷ []

-- such a run: the gate is closed, and both methods are still open
pub stops-closed :
    ((run (gate 1 5) 0 to_gate_stop).ended ≡ true)
    × ((run (gate 1 5) 0 to_gate_stop).history ≡ 0 ∷ 1 ∷ [])
    × (map (λ c. c.method) (run (gate 1 5) 0 to_gate_stop).open_calls ≡ 1 ∷ 0 ∷ [])
unfolding run
stops-closed = (refl, refl, refl)

-- Where the last event is 2, only 26 is not true: the run stops in method 1 with the gate open, which the primitive that method 0 called does not allow.
pub left-open-rules : MetBut 26 (rules_from (0 ∷ []) (gate 2 5))
left-open-rules = gate-rules 2 5 (λ x. (x.number ≡ 26 → ⊥) → Met x.claim) (λ x h n. h) (λ n. absurd (n refl)) (λ n. refl)

pub not-in-due : from_1 2 ⊆ to_close → ⊥
unfolding accepts
not-in-due h = (words to_close (2 ∷ [])).1 (h (2 ∷ []) ((words (from_1 2) (2 ∷ [])).0 tt))

pub left_open : Safe (gate 2 5) (run (gate 2 5) 0 to_gate_stop) → ⊥
unfolding run
left_open s = (words to_close (2 ∷ [])).1 (each-head (s.ended_well refl))

-- Where the stop is at point 1, only 25 is not true: the run stops in method 0 with the gate open.
pub stop-before-close-rules : MetBut 25 (rules_from (0 ∷ []) (gate 1 1))
stop-before-close-rules = gate-rules 1 1 (λ x. (x.number ≡ 25 → ⊥) → Met x.claim) (λ x h n. h) (λ n. close-in-due) (λ n. absurd (n refl))

pub stop-before-close : Safe (gate 1 1) (run (gate 1 1) 0 (by_step 0 normal (0 ∷ []) ∷ by_step 4 normal [] ∷ [])) → ⊥
unfolding run
stop-before-close s = (words to_close []).1 (each-head (s.ended_well refl))
