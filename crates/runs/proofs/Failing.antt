-- Calls that fail: runs by evaluation, move by move; the rules of sheets with failing calls, in their order; a method of one outcome, which never
-- fails; and the gate, which need not be closed if it could not be opened.
use mathlib.Core.Path.{◌≡◌, refl, sym, ap, ◌∙◌, subst}
use mathlib.Core.Logic.{inl, inr}
use Prim.Native.Nat.{ℕ}
use mathlib.Core.Bool.{true, false}
use mathlib.Core.Option.{Option, none, some, none-ne-some}
use mathlib.Core.List.Memᴰ
use mathlib.Core.List.{List, [], ◌∷◌, map}
use lib.ListN.{get_elem?}
use lib.Dec.{T}
use Rattle.bits.proofs.Sets.{has-none}
use Rattle.condition.specs.Condition.{Word, Condition, empty, join, either, star, event, any, Holds, ◌⊆◌}
use Rattle.condition.proofs.Words.{words}
use Rattle.condition.proofs.Exchange.{swap_word, exchange-holds}
use Rattle.sheet.specs.Each.{Each, nil, cons}
use Rattle.sheet.proofs.Each.{each-head, each_tail}
use Rattle.sheet.specs.Sheet.{Outcome, normal, failed, point_from, Declared, event_step, call_from, failing_call_from, pass_step, Sheet, condition_named, declared_in, trace, on_channel, body, exit_in}
use Rattle.runs.specs.Rules.{◌is_in◌, holds_empty, ◌of◌says◌, rules_from, rules, AllMet, count}
use Rattle.runs.specs.Runs.{Call, Returned, State, start, Move, return, by_step, run, Safe}
use Rattle.runs.proofs.Methods.{primitive, with_body, failing_primitive, failing_with_body}
use Rattle.runs.proofs.Examples.{anywhere, of_0, ◌returned-at◌, midway, Row, ◌leaves◌, states}
use Rattle.runs.proofs.Safe.{runs-are-safe}
use Rattle.runs.proofs.Moves.{Makes, event_made, pass_made, primitive_made, open_made, stop_made, return_made, run-keeps}

-- Moves that fail ---------------------------------------------------------------------------------------------------------

infix 30 ◌failed-at◌
abbrev ◌failed-at◌ : Call → Word → Returned
c failed-at h = record { call = c; outcome = failed; at = h }

-- the end of a run: the history, the point and the returned calls
abbrev ended_with : Word → ℕ → List Returned → State
ended_with h p rs = record { history = h; open_calls = []; returned_calls = rs; point = p; ended = true }

-- the call of method 1 by step i, and the call of a primitive in it, at the start of a run
abbrev of_1 : ℕ → Call
of_1 i = record { method = 1; channel = none; step = some i; began = []; activation = record { number = 1; callers = 0 ∷ [] } }

abbrev of_2 : Call
of_2 = record { method = 2; channel = none; step = some 1; began = []; activation = record { number = 2; callers = 1 ∷ 0 ∷ [] } }

-- Method 0 goes from point 0 to 1, and fails at 2: it calls method 1, which leads to 1, or to 2 where it fails. Method 1 goes from point 3 to 4, and
-- fails at 5: it calls the primitive 2, which raises 7, or 9 where it fails. Step 2 leads out of the failed exit of method 0.
abbrev failing : Sheet
failing = record {
  conditions = star (any 32) ∷ event 7 ∷ event 9 ∷ [];
  points = anywhere ∷ anywhere ∷ anywhere ∷ anywhere ∷ anywhere ∷ anywhere ∷ [];
  methods = failing_with_body 0 0 0 0 1 0 0 2 ∷ failing_with_body 0 0 0 3 4 0 0 5 ∷ failing_primitive 0 1 0 2 0 ∷ [];
  steps = failing_call_from 0 1 2 1 ∷ failing_call_from 3 4 5 2 ∷ event_step 2 2 6 ∷ [];
  certificates = [];
  new = false;
}

abbrev failed_calls : List Returned
failed_calls = (of_1 0 failed-at (9 ∷ [])) ∷ (of_2 failed-at (9 ∷ [])) ∷ []

abbrev failed_end : State
failed_end = ended_with (9 ∷ []) 2 ((of_0 failed-at (9 ∷ [])) ∷ failed_calls)

abbrev to_failure : List Row
to_failure =
    -- control is at no failed exit
    (return failed leaves midway [] 0 (of_0 ∷ []) [])
    -- the call of a method with body: the outcome is not read
    ∷ (by_step 0 failed [] leaves midway [] 3 (of_1 0 ∷ of_0 ∷ []) [])
    -- the primitive, with a word of the other outcome's trace
    ∷ (by_step 1 failed (7 ∷ []) leaves midway [] 3 (of_1 0 ∷ of_0 ∷ []) [])
    ∷ (by_step 1 normal (9 ∷ []) leaves midway [] 3 (of_1 0 ∷ of_0 ∷ []) [])
    -- it fails by a word of its failed trace, and leads to the failed target of step 1
    ∷ (by_step 1 failed (9 ∷ []) leaves midway (9 ∷ []) 5 (of_1 0 ∷ of_0 ∷ []) ((of_2 failed-at (9 ∷ [])) ∷ []))
    -- control is at the failed exit of method 1, not at its exit: it fails, and leads to the failed target of step 0
    ∷ (return normal leaves midway (9 ∷ []) 5 (of_1 0 ∷ of_0 ∷ []) ((of_2 failed-at (9 ∷ [])) ∷ []))
    ∷ (return failed leaves midway (9 ∷ []) 2 (of_0 ∷ []) failed_calls)
    -- method 0 fails, and the run ends
    ∷ (return normal leaves midway (9 ∷ []) 2 (of_0 ∷ []) failed_calls)
    ∷ (return failed leaves failed_end)
    -- moves after the end, also by a step whose from is the point where control is
    ∷ (return failed leaves failed_end)
    ∷ (by_step 2 normal [] leaves failed_end)
    ∷ []

pub failing-moves : states failing [] to_failure ≡ map (λ x. x.leaves) to_failure
unfolding run
failing-moves = refl

-- the same without a failure: at an exit no method fails
abbrev returned_calls : List Returned
returned_calls = (of_1 0 returned-at (7 ∷ [])) ∷ (of_2 returned-at (7 ∷ [])) ∷ []

abbrev to_return : List Row
to_return =
    (by_step 0 normal [] leaves midway [] 3 (of_1 0 ∷ of_0 ∷ []) [])
    ∷ (by_step 1 normal (7 ∷ []) leaves midway (7 ∷ []) 4 (of_1 0 ∷ of_0 ∷ []) ((of_2 returned-at (7 ∷ [])) ∷ []))
    ∷ (return failed leaves midway (7 ∷ []) 4 (of_1 0 ∷ of_0 ∷ []) ((of_2 returned-at (7 ∷ [])) ∷ []))
    ∷ (return normal leaves midway (7 ∷ []) 1 (of_0 ∷ []) returned_calls)
    ∷ (return failed leaves midway (7 ∷ []) 1 (of_0 ∷ []) returned_calls)
    ∷ (return normal leaves ended_with (7 ∷ []) 1 ((of_0 returned-at (7 ∷ [])) ∷ returned_calls))
    ∷ []

pub returning-moves : states failing [] to_return ≡ map (λ x. x.leaves) to_return
unfolding run
returning-moves = refl

-- The move decides: method 0 and method 1 have one point as exit and failed exit, and the primitive 2 one trace for both outcomes.
abbrev undecided : Sheet
undecided = record {
  conditions = star (any 32) ∷ event 7 ∷ [];
  points = anywhere ∷ anywhere ∷ [];
  methods = failing_with_body 0 0 0 0 0 0 0 0 ∷ failing_with_body 0 0 0 3 3 0 0 3 ∷ failing_primitive 0 1 0 1 0 ∷ [];
  steps = failing_call_from 0 1 2 1 ∷ failing_call_from 0 1 2 2 ∷ [];
  certificates = [];
  new = false;
}

-- the state after the move, or the two moves, with an outcome
abbrev decided : Outcome → Word → ℕ → Call → State
decided o h p c = midway h p (of_0 ∷ []) (record { call = c; outcome = o; at = h } ∷ [])

pub move-decides : (o : Outcome) → run undecided 0 (return o ∷ []) ≡ ended_with [] 0 (record { call = of_0; outcome = o; at = [] } ∷ [])
unfolding run
move-decides normal = refl
move-decides failed = refl

pub move-decides-of-body :
    (run undecided 0 (by_step 0 normal [] ∷ return normal ∷ []) ≡ decided normal [] 1 (of_1 0))
    × (run undecided 0 (by_step 0 normal [] ∷ return failed ∷ []) ≡ decided failed [] 2 (of_1 0))
unfolding run
move-decides-of-body = (refl, refl)

abbrev called : Call
called = record { method = 2; channel = none; step = some 1; began = []; activation = record { number = 1; callers = 0 ∷ [] } }

pub move-decides-of-primitive :
    (run undecided 0 (by_step 1 normal (7 ∷ []) ∷ []) ≡ decided normal (7 ∷ []) 1 called)
    × (run undecided 0 (by_step 1 failed (7 ∷ []) ∷ []) ≡ decided failed (7 ∷ []) 2 called)
unfolding run
move-decides-of-primitive = (refl, refl)

-- Moves that cannot fail: no failed target, or one outcome --------------------------------------------------------------

-- Method 0 goes from point 0 to 1, method 1 from 2 to 3, where it may fail too, method 2 the same with one outcome; of the primitives 3 has two
-- outcomes and 4 has one. Steps 0 and 2 have no failed target, steps 1 and 3 call what has one outcome.
abbrev unfit : Sheet
unfit = record {
  conditions = star (any 32) ∷ event 7 ∷ event 9 ∷ [];
  points = anywhere ∷ anywhere ∷ anywhere ∷ anywhere ∷ [];
  methods = with_body 0 0 0 0 1 ∷ failing_with_body 0 0 0 2 3 0 0 3 ∷ with_body 0 0 0 2 3 ∷ failing_primitive 0 1 0 2 0 ∷ primitive 0 1 0 ∷ [];
  steps = call_from 0 1 1 ∷ failing_call_from 0 1 1 2 ∷ call_from 0 1 3 ∷ failing_call_from 0 1 1 4 ∷ pass_step 2 3 ∷ [];
  certificates = [];
  new = false;
}

abbrev without_target : List Row
without_target =
    -- the primitive 3 by a step without a failed target, the primitive 4 by one with it
    (by_step 2 failed (9 ∷ []) leaves midway [] 0 (of_0 ∷ []) [])
    ∷ (by_step 3 failed (7 ∷ []) leaves midway [] 0 (of_0 ∷ []) [])
    ∷ (by_step 3 failed [] leaves midway [] 0 (of_0 ∷ []) [])
    -- method 1, at its failed exit, by a step without a failed target
    ∷ (by_step 0 normal [] leaves midway [] 2 (of_1 0 ∷ of_0 ∷ []) [])
    ∷ (by_step 4 normal [] leaves midway [] 3 (of_1 0 ∷ of_0 ∷ []) [])
    ∷ (return failed leaves midway [] 3 (of_1 0 ∷ of_0 ∷ []) [])
    ∷ (return normal leaves midway [] 1 (of_0 ∷ []) ((of_1 0 returned-at []) ∷ []))
    -- method 0, at its exit
    ∷ (return failed leaves midway [] 1 (of_0 ∷ []) ((of_1 0 returned-at []) ∷ []))
    ∷ []

pub without-target-stays : states unfit [] without_target ≡ map (λ x. x.leaves) without_target
unfolding run
without-target-stays = refl

abbrev one_outcome : Call
one_outcome = record { method = 2; channel = none; step = some 1; began = []; activation = record { number = 1; callers = 0 ∷ [] } }

abbrev without_exit : List Row
without_exit =
    -- method 2, at its exit, by a step with a failed target
    (by_step 1 normal [] leaves midway [] 2 (one_outcome ∷ of_0 ∷ []) [])
    ∷ (by_step 4 normal [] leaves midway [] 3 (one_outcome ∷ of_0 ∷ []) [])
    ∷ (return failed leaves midway [] 3 (one_outcome ∷ of_0 ∷ []) [])
    ∷ []

pub without-exit-stays : states unfit [] without_exit ≡ map (λ x. x.leaves) without_exit
unfolding run
without-exit-stays = refl

-- a condition that holds a word on a channel holds one
held-by-it : (c : Option ℕ) (r : Condition) (w : Word) → Holds (on_channel c r) w → (v : Word) × Holds r v
held-by-it none r w h = (w, h)
held-by-it (some c) r w h = (swap_word c w, (exchange-holds c r w).0 h)

-- In the runs of every sheet a method with neither a failed trace and future nor a failed exit does not fail.
module _ (S : Sheet) (m : ℕ) (undeclared : declared_in failed (get_elem? S.methods m) ≡ none) (no-exit : exit_in failed (body S m) ≡ none) where
  abbrev Normal : Returned → Type 0
  Normal r = r.call.method ≡ m → r.outcome ≡ normal

  no_word : (w : Word) → Holds (trace S m failed) w → ⊥
  no_word w h =
      let (x, in-none, e) = subst (λ d. Holds (condition_named S (λ (x : Declared). x.trace) d) w) undeclared h in
      subst T (has-none x) in-none

  by_word : (k : ℕ) (c : Option ℕ) (o : Outcome) (w : Word) → Holds (on_channel c (trace S k o)) w → k ≡ m → o ≡ normal
  by_word k c normal w h e = refl
  by_word k c failed w h e = let (v, x) = held-by-it c (trace S k failed) w h in absurd (no_word v (subst (λ n. Holds (trace S n failed) v) e x))

  by-exit : (k : ℕ) (o : Outcome) {p : ℕ} → exit_in o (body S k) ≡ some p → k ≡ m → o ≡ normal
  by-exit k normal at e = refl
  by-exit k failed at e = absurd (none-ne-some _ (sym no-exit ∙ (ap (λ n. exit_in failed (body S n)) (sym e) ∙ at)))

  made-normal : (s t : State) → s.ended ≡ false → Makes S s t → Each Normal s.returned_calls → Each Normal t.returned_calls
  made-normal s t z (event_made i found) g = g
  made-normal s t z (pass_made i found) g = g
  made-normal s t z (primitive_made {t = x} i o w found at is to h) g = cons (by_word x.method x.channel o w h) g
  made-normal s t z (open_made i found at is) g = g
  made-normal s t z (stop_made i found marked) g = g
  made-normal s t z (return_made {c = c} o opened is at to) g = cons (by-exit c.method o (ap (exit_in o) is ∙ at)) g

  pub never-fails : (k : ℕ) (ms : List Move) → Each (λ r. r.call.method ≡ m → r.outcome ≡ normal) (run S k ms).returned_calls
  unfolding start
  never-fails k ms = run-keeps S (λ s. Each Normal s.returned_calls) made-normal k nil ms

-- The rules ----------------------------------------------------------------------------------------------------------------

-- "They .. follow the ordinary ones of their subject in order of number": of method 0, of method 1, and of the steps 0 to 2
pub numbers-in-order : map (λ x. x.number) (rules failing)
    ≡ 1 ∷ 2 ∷ 3 ∷ 4 ∷ 5 ∷ 6 ∷ 22 ∷ 23 ∷ 24 ∷ 3 ∷ 4 ∷ 5 ∷ 6 ∷ 22 ∷ 23
    ∷ 10 ∷ 11 ∷ 12 ∷ 13 ∷ 14 ∷ 18 ∷ 19 ∷ 20 ∷ 21 ∷ 10 ∷ 11 ∷ 12 ∷ 13 ∷ 14 ∷ 18 ∷ 19 ∷ 20 ∷ 21 ∷ 7 ∷ 8 ∷ 9 ∷ []
unfolding rules
numbers-in-order = refl

pub subjects-in-order : map (λ x. x.subject) (rules failing)
    ≡ 0 ∷ 0 ∷ 0 ∷ 0 ∷ 0 ∷ 0 ∷ 0 ∷ 0 ∷ 0 ∷ 1 ∷ 1 ∷ 1 ∷ 1 ∷ 1 ∷ 1
    ∷ 0 ∷ 0 ∷ 0 ∷ 0 ∷ 0 ∷ 0 ∷ 0 ∷ 0 ∷ 0 ∷ 1 ∷ 1 ∷ 1 ∷ 1 ∷ 1 ∷ 1 ∷ 1 ∷ 1 ∷ 1 ∷ 2 ∷ 2 ∷ 2 ∷ []
unfolding rules
subjects-in-order = refl

pub counts : ◌≡◌ {A = List ℕ} (count failing ∷ count unfit ∷ []) (36 ∷ 47 ∷ [])
unfolding count
counts = refl

-- What they say, of a sheet with one method, one primitive and one call. Each condition is told by its one event: 0 to 2 are past, own and due of
-- point 0, 3 to 5 of point 1, 6 to 8 of point 2; 9 to 13 are pre, trace, future, failed trace and failed future of the method, 14 to 18 of the primitive.
abbrev told : Sheet
told = record {
  conditions =
      event 0 ∷ event 1 ∷ event 2 ∷ event 3 ∷ event 4 ∷ event 5 ∷ event 6 ∷ event 7 ∷ event 8 ∷ event 9 ∷ event 10 ∷ event 11 ∷ event 12 ∷ event 13
      ∷ event 14 ∷ event 15 ∷ event 16 ∷ event 17 ∷ event 18 ∷ [];
  points = point_from 0 1 2 ∷ point_from 3 4 5 ∷ point_from 6 7 8 ∷ [];
  methods = failing_with_body 9 10 11 0 1 12 13 2 ∷ failing_primitive 14 15 16 17 18 ∷ [];
  steps = failing_call_from 0 1 2 1 ∷ [];
  certificates = [];
  new = false;
}

pub rules-told : rules told
    ≡ (1 of 0 says holds_empty (event 9))
    ∷ (2 of 0 says holds_empty (event 11))
    ∷ (3 of 0 says event 9 is_in event 0)
    ∷ (4 of 0 says holds_empty (event 1))
    ∷ (5 of 0 says event 4 is_in event 10)
    ∷ (6 of 0 says event 11 is_in event 5)
    ∷ (22 of 0 says event 7 is_in event 12)
    ∷ (23 of 0 says event 13 is_in event 8)
    ∷ (24 of 0 says holds_empty (event 13))
    ∷ (10 of 0 says event 0 is_in event 14)
    ∷ (11 of 0 says join (event 0) (event 15) is_in event 3)
    ∷ (12 of 0 says join (event 1) (event 15) is_in event 4)
    ∷ (13 of 0 says event 5 is_in event 16)
    ∷ (14 of 0 says join (event 15) (event 5) is_in event 2)
    ∷ (18 of 0 says join (event 0) (event 17) is_in event 6)
    ∷ (19 of 0 says join (event 1) (event 17) is_in event 7)
    ∷ (20 of 0 says event 8 is_in event 18)
    ∷ (21 of 0 says join (event 17) (event 8) is_in event 2)
    ∷ []
unfolding rules
rules-told = refl

-- where runs start at both methods, 24 is asked of both
pub starts-told : map (λ x. x.number) (rules_from (1 ∷ 0 ∷ []) (record {
  conditions = [];
  points = [];
  methods = failing_with_body 0 0 0 0 1 0 0 2 ∷ failing_with_body 0 0 0 3 4 0 0 5 ∷ [];
  steps = [];
  certificates = [];
  new = false;
})) ≡ 1 ∷ 2 ∷ 1 ∷ 2 ∷ 3 ∷ 4 ∷ 5 ∷ 6 ∷ 22 ∷ 23 ∷ 24 ∷ 3 ∷ 4 ∷ 5 ∷ 6 ∷ 22 ∷ 23 ∷ 24 ∷ []
unfolding rules_from
starts-told = refl

-- The gate -----------------------------------------------------------------------------------------------------------------

-- "A gate that could not be opened need not be closed": 0 is open and 1 close. The primitive opens the gate, and asks for a close; failing, it raises
-- nothing and asks for nothing more. The method calls it, and where that did not fail it closes the gate. Its conditions: an open, a close, and nothing
-- more, each joined as the rules join them.
abbrev opened : Condition
opened = join empty (event 0)

abbrev closed : Condition
closed = join opened (event 1)

abbrev to_close : Condition
to_close = join (event 1) empty

abbrev to_open : Condition
to_open = join (event 0) to_close

abbrev nothing : Condition
nothing = join empty empty

-- point 0 is the entry, point 1 is where the gate is open, point 2 is the exit; the failed future of the primitive is given
abbrev gate_with : ℕ → Sheet
gate_with failed-future = record {
  conditions = empty ∷ event 0 ∷ to_close ∷ opened ∷ either closed nothing ∷ either to_open nothing ∷ [];
  points = point_from 0 0 5 ∷ point_from 3 3 2 ∷ point_from 4 4 0 ∷ [];
  methods = with_body 0 4 0 0 2 ∷ failing_primitive 0 1 2 0 failed-future ∷ [];
  steps = failing_call_from 0 1 2 1 ∷ event_step 1 2 1 ∷ [];
  certificates = [];
  new = false;
}

abbrev gate : Sheet
gate = gate_with 0

pub same : (c : Condition) → c ⊆ c
same c w h = h

pub first : (a b : Condition) → a ⊆ either a b
first a b w h = inl h

pub second : (a b : Condition) → b ⊆ either a b
second a b w h = inr h

-- 1 to 6 of the method; 10, 11 to 14 and 18 to 21 of the call; 7 to 9 of the close
pub gate-rules : AllMet (rules_from (0 ∷ []) gate)
unfolding rules_from
gate-rules =
    cons refl (cons refl (cons (same empty) (cons refl (cons (same (either closed nothing)) (cons (same empty)
    (cons (same empty)
    (cons (same opened) (cons (same opened) (cons (same to_close) (cons (first to_open nothing)
    (cons (second closed nothing) (cons (second closed nothing) (cons (same empty) (cons (second to_open nothing)
    (cons (first closed nothing) (cons (first closed nothing) (cons (same to_close) nil)))))))))))))))))

-- so every run of it is safe, and one that fails to open the gate ends without a close
pub gate-runs : (ms : List Move) → Safe gate (run gate 0 ms)
gate-runs ms = runs-are-safe gate (cons tt (cons tt nil)) (0 ∷ []) gate-rules 0 (Memᴰ.head refl) tt ms

abbrev not_opening : List Move
not_opening = by_step 0 failed [] ∷ return normal ∷ []

pub not_opened : ((run gate 0 not_opening).history ≡ []) × ((run gate 0 not_opening).ended ≡ true)
unfolding run
not_opened = (refl, refl)

-- if the failed future asked for a close too, that run would not be safe
pub close-asked : Safe (gate_with 2) (run (gate_with 2) 0 not_opening) → ⊥
unfolding run
close-asked s = (words to_close []).1 (each-head (each_tail (s.ended_well refl)))
