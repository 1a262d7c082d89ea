-- What a move does: nothing, or one of six things. An invariant of runs is shown by what it says of each of them.
use mathlib.Core.Path.{◌≡◌, refl, sym, ap, ◌∙◌, subst}
use Prim.Native.Nat.{ℕ}
use mathlib.Core.Bool.{Bool, true, false, cond}
use mathlib.Core.Option.{Option, none, some}
use mathlib.Core.List.{List, [], ◌∷◌, ◌++◌}
use lib.ListN.{get_elem?}
use lib.Dec.{T, eqb, eqb→eq, eqb_refl}
use Rattle.bits.proofs.Tests.{T_true, T_false}
use Rattle.condition.specs.Condition.{Word, Condition, Holds}
use Rattle.condition.specs.Places.{accepts}
use Rattle.condition.proofs.Words.{words}
use Rattle.sheet.specs.Sheet.{Outcome, Body, CallStep, Step, event_step, call_step, pass_step, stop_step, Sheet, body, exit_for, exit_in, target_for}
use Rattle.runs.specs.Runs.{Call, State, trace_of, start, Move, return, by_step, raise, new_call, open_call, returned_now, make_return, make_call, stop, make_step, from_of, try_step, made_by, target_or, close, close_to, is_at, try_return, try_move, move, MadeByTrace, run_on, run}

-- what holds of both sides holds of the choice
by-test : {A : Type 0} (P : A → Type 0) (b : Bool) {x y : A} → (b ≡ true → P x) → (b ≡ false → P y) → P (cond b x y)
by-test P true f g = f refl
by-test P false f g = g refl

-- a choice between a state and itself
either_way : (b : Bool) (s : State) → cond b s s ≡ s
either_way true s = refl
either_way false s = refl

same_number : (m n : ℕ) → eqb m n ≡ true → m ≡ n
same_number m n e = eqb→eq m n (subst T (sym e) tt)

held : (r : Condition) (w : Word) → accepts r w ≡ true → Holds r w
held r w e = (words r w).0 (subst T (sym e) tt)

module _ (S : Sheet) where
  -- the moves that can be made from s, and the state that each leads to
  pub data Makes (s : State) : State → Type 0 where
    event_made : {q a : ℕ} (i : ℕ) → get_elem? S.steps i ≡ some (event_step s.point q a) → Makes s (raise (a ∷ []) q s)
    pass_made : {q : ℕ} (i : ℕ) → get_elem? S.steps i ≡ some (pass_step s.point q) → Makes s (raise [] q s)
    primitive_made : {t : CallStep} {q : ℕ} (i : ℕ) (o : Outcome) (w : Word) → get_elem? S.steps i ≡ some (call_step t) → s.point ≡ t.from
        → body S t.method ≡ none → target_for o t ≡ some q → Holds (trace_of S (new_call s i t) o) w
        → Makes s (returned_now (new_call s i t) o (raise w q s))
    open_made : {t : CallStep} {b : Body} (i : ℕ) → get_elem? S.steps i ≡ some (call_step t) → s.point ≡ t.from
        → body S t.method ≡ some b → Makes s (open_call (new_call s i t) b.entry s)
    stop_made : (i : ℕ) → get_elem? S.steps i ≡ some (stop_step s.point) → S.new ≡ true → Makes s (stop s)
    return_made : {c : Call} {cs : List Call} {b : Body} {q : ℕ} (o : Outcome) → s.open_calls ≡ c ∷ cs → body S c.method ≡ some b
        → exit_for o b ≡ some s.point → target_or s.point o (made_by S c.step) ≡ some q → Makes s (close s o c cs q)

  -- what holds of s, and of what each move that can be made from s leads to, holds after trying any move
  module _ (P : State → Type 0) (s : State) (same : P s) (made : (t : State) → Makes s t → P t) where
    module _ (i : ℕ) (o : Outcome) (w : Word) where
      primitive-case : {t : CallStep} → get_elem? S.steps i ≡ some (call_step t) → s.point ≡ t.from → body S t.method ≡ none
          → (q : Option ℕ) → target_for o t ≡ q → P (make_return s (new_call s i t) o w (trace_of S (new_call s i t) o) q)
      primitive-case found at is none to = same
      primitive-case {t} found at is (some q) to =
          by-test P _ (λ e. made _ (primitive_made i o w found at is to (held (trace_of S (new_call s i t) o) w e))) (λ e. same)

      call-case : {t : CallStep} → get_elem? S.steps i ≡ some (call_step t) → s.point ≡ t.from → (d : Option Body) → body S t.method ≡ d
          → P (make_call S s (new_call s i t) o w (target_for o t) d)
      call-case {t} found at none is = primitive-case found at is (target_for o t) refl
      call-case found at (some b) is = made _ (open_made i found at is)

      step_case : (t : Step) → get_elem? S.steps i ≡ some t → s.point ≡ from_of t → P (make_step S s i o w t)
      step_case (event_step p q a) found at = made _ (event_made i (rw at found))
      step_case (call_step t) found at = call-case found at (body S t.method) refl
      step_case (pass_step p q) found at = made _ (pass_made i (rw at found))
      step_case (stop_step p) found at = by-test P _ (λ e. made _ (stop_made i (rw at found) e)) (λ e. same)

      try-step-case : (t : Option Step) → get_elem? S.steps i ≡ t → P (try_step S s i o w t)
      try-step-case none found = same
      try-step-case (some t) found = by-test P _ (λ e. step_case t found (same_number _ _ e)) (λ e. same)

    module _ (o : Outcome) where
      close-case : {c : Call} {cs : List Call} {b : Body} → s.open_calls ≡ c ∷ cs → body S c.method ≡ some b → exit_for o b ≡ some s.point
          → (q : Option ℕ) → target_or s.point o (made_by S c.step) ≡ q → P (close_to s o c cs q)
      close-case opened is at none to = same
      close-case opened is at (some q) to = made _ (return_made o opened is at to)

      exit-case : {c : Call} {cs : List Call} {b : Body} → s.open_calls ≡ c ∷ cs → body S c.method ≡ some b → (e : Option ℕ) → exit_for o b ≡ e
          → P (cond (is_at e s.point) (close_to s o c cs (target_or s.point o (made_by S c.step))) s)
      exit-case opened is none at = same
      exit-case opened is (some e) at = by-test P _ (λ x. close-case opened is (at ∙ ap some (sym (same_number _ _ x))) _ refl) (λ x. same)

      body-case : {c : Call} {cs : List Call} → s.open_calls ≡ c ∷ cs → (d : Option Body) → body S c.method ≡ d
          → P (cond (is_at (exit_in o d) s.point) (close_to s o c cs (target_or s.point o (made_by S c.step))) s)
      body-case opened none is = same
      body-case opened (some b) is = exit-case opened is (exit_for o b) refl

      try-return-case : (cs : List Call) → s.open_calls ≡ cs → P (try_return S s o cs)
      try-return-case [] opened = same
      try-return-case (c ∷ cs) opened = body-case opened (body S c.method) refl

    try-move-case : (m : Move) → P (try_move S s m)
    try-move-case (return o) = try-return-case o s.open_calls refl
    try-move-case (by_step i o w) = try-step-case i o w (get_elem? S.steps i) refl

  -- what holds of s, and of what each move that is made leads to, holds after any move
  pub move-case : (P : State → Type 0) (s : State) → P s → ((t : State) → s.ended ≡ false → Makes s t → P t) → (m : Move) → P (move S s m)
  unfolding move
  move-case P s same made m = by-test P s.ended (λ e. same) (λ e. try-move-case P s same (λ t. made t e) m)

  run_is : (m : ℕ) (ms : List Move) → run_on S (start S m) ms ≡ run S m ms
  unfolding run
  run_is m ms = refl

  pub run-on-append : (s : State) (xs ys : List Move) → run_on S s (xs ++ ys) ≡ run_on S (run_on S s xs) ys
  unfolding run_on
  run-on-append s [] ys = refl
  run-on-append s (x ∷ xs) ys = run-on-append (move S s x) xs ys

  pub run-append : (m : ℕ) (xs ys : List Move) → run S m (xs ++ ys) ≡ run_on S (run S m xs) ys
  unfolding run
  run-append m xs ys = run-on-append (start S m) xs ys

  -- "any move after the end, changes nothing"
  pub after-end : (s : State) → s.ended ≡ true → (ms : List Move) → run_on S s ms ≡ s
  unfolding run_on move
  after-end s e [] = refl
  after-end s e (m ∷ ms) = ap (λ (t : State). run_on S t ms) (ap (λ (b : Bool). cond b s (try_move S s m)) e) ∙ after-end s e ms

  -- what holds at the start, and is kept by each move that is made, holds after every list of moves
  module _ (P : State → Type 0) (kept : (s t : State) → s.ended ≡ false → Makes s t → P s → P t) where
    pub run-on-keeps : (s : State) (ms : List Move) → P s → P (run_on S s ms)
    unfolding run_on
    run-on-keeps s [] h = h
    run-on-keeps s (m ∷ ms) h = run-on-keeps (move S s m) ms (move-case P s h (λ t e made. kept s t e made h) m)

    pub run-keeps : (m : ℕ) → P (start S m) → (ms : List Move) → P (run S m ms)
    run-keeps m h ms = subst P (run_is m ms) (run-on-keeps (start S m) ms h)

-- A step that starts where control is, a stop in a new sheet, and a primitive's step, which is made with exactly the words of the outcome's trace ---

module _ (S : Sheet) (s : State) (i : ℕ) (o : Outcome) (w : Word) (going : s.ended ≡ false) where
  pub step-made : (t : Step) → get_elem? S.steps i ≡ some t → s.point ≡ from_of t → move S s (by_step i o w) ≡ make_step S s i o w t
  unfolding move
  step-made t found at =
      ap (λ (b : Bool). cond b s (try_move S s (by_step i o w))) going
      ∙ (ap (try_step S s i o w) found
      ∙ ap (λ (b : Bool). cond b (make_step S s i o w t) s) (subst (λ x. eqb s.point x ≡ true) at (T_true _ (eqb_refl s.point))))

  -- a stop, whatever the outcome and the word
  pub stop-in-new : get_elem? S.steps i ≡ some (stop_step s.point) → S.new ≡ true → move S s (by_step i o w) ≡ stop s
  stop-in-new found marked = step-made (stop_step s.point) found refl ∙ ap (λ (b : Bool). cond b (stop s) s) marked

  module _ (t : CallStep) (found : get_elem? S.steps i ≡ some (call_step t)) (at : s.point ≡ t.from) (primitive : body S t.method ≡ none)
      {q : ℕ} (to : target_for o t ≡ some q) where
    pub by-trace : (b : Bool) → accepts (trace_of S (new_call s i t) o) w ≡ b
        → move S s (by_step i o w) ≡ cond b (returned_now (new_call s i t) o (raise w q s)) s
    by-trace b e =
        step-made (call_step t) found at
        ∙ (ap (make_call S s (new_call s i t) o w (target_for o t)) primitive
        ∙ (ap (make_return s (new_call s i t) o w (trace_of S (new_call s i t) o)) to
        ∙ ap (λ (x : Bool). cond x (returned_now (new_call s i t) o (raise w q s)) s) e))

    pub made_by_trace : MadeByTrace S s i t o q w
    made_by_trace =
        let T = trace_of S (new_call s i t) o in
        record {
          made = λ h. by-trace true (T_true (accepts T w) ((words T w).1 h));
          not_made = λ n. by-trace false (T_false (accepts T w) (λ a. n ((words T w).0 a)));
        }

-- What changes nothing: without a target for the outcome a primitive's step, a stop in an old sheet, and without an exit or a target a return ------

module _ (S : Sheet) (s : State) (o : Outcome) where
  module _ (i : ℕ) (w : Word) where
    -- a step that would change nothing from its from
    step_stays : {t : Step} → get_elem? S.steps i ≡ some t → make_step S s i o w t ≡ s → move S s (by_step i o w) ≡ s
    unfolding move
    step_stays {t} found stays =
        ap (λ (x : Option Step). cond s.ended s (try_step S s i o w x)) found
        ∙ (ap (λ (x : State). cond s.ended s (cond (eqb s.point (from_of t)) x s)) stays
        ∙ (ap (cond s.ended s) (either_way (eqb s.point (from_of t)) s) ∙ either_way s.ended s))

    pub step-without-target : {t : CallStep} → get_elem? S.steps i ≡ some (call_step t) → body S t.method ≡ none → target_for o t ≡ none
        → move S s (by_step i o w) ≡ s
    step-without-target {t} found primitive nowhere =
        step_stays found
        (ap (make_call S s (new_call s i t) o w (target_for o t)) primitive
        ∙ ap (make_return s (new_call s i t) o w (trace_of S (new_call s i t) o)) nowhere)

    pub stop-in-old : {p : ℕ} → get_elem? S.steps i ≡ some (stop_step p) → S.new ≡ false → move S s (by_step i o w) ≡ s
    stop-in-old found unmarked = step_stays found (ap (λ (b : Bool). cond b (stop s) s) unmarked)

  module _ (c : Call) (cs : List Call) (opened : s.open_calls ≡ c ∷ cs) where
    abbrev exit : Option ℕ
    exit = exit_in o (body S c.method)

    abbrev target : Option ℕ
    target = target_or s.point o (made_by S c.step)

    -- a return with the exit e to q
    abbrev tried : Option ℕ → Option ℕ → State
    tried e q = cond s.ended s (cond (is_at e s.point) (close_to s o c cs q) s)

    returning : move S s (return o) ≡ tried exit target
    unfolding move
    returning = ap (λ (x : List Call). cond s.ended s (try_return S s o x)) opened

    pub return-without-exit : exit_in o (body S c.method) ≡ none → move S s (return o) ≡ s
    return-without-exit e = returning ∙ (ap (λ x. tried x target) e ∙ either_way s.ended s)

    pub return-without-target : target_or s.point o (made_by S c.step) ≡ none → move S s (return o) ≡ s
    return-without-target e =
        returning
        ∙ (ap (tried exit) e
        ∙ (ap (cond s.ended s) (either_way (is_at exit s.point) s) ∙ either_way s.ended s))
