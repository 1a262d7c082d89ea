-- The rules of a sheet of the old edition, which is not marked as new and has no stop: none of them is 25 or 26. Where it also has one outcome, that
-- is no failed exit and no failed target, they are among document 01's seventeen, and its count is that document's formula.
use mathlib.Core.Path.{◌≡◌, refl, sym, ap, subst}
use mathlib.Core.Logic.{◌⊎◌, inl, inr}
use mathlib.Core.Bool.{Bool, true, false, cond}
use mathlib.Core.Option.{Option, none, some}
use mathlib.Core.List.{List, [], ◌∷◌}
use Prim.Native.Nat.{ℕ, suc, ◌+◌, ◌*◌, ◌≤◌}
use native.Mathlib.Nat.{le_trans}
use native.Mathlib.Omega.{arith}
use lib.Dec.{leb}
use borrow.Author.Tests.{leb-true}
use Rattle.sheet.specs.Each.{Each, nil, cons}
use Rattle.sheet.proofs.Each.{each_map, each_all, each_append, each-head, each_tail}
use Rattle.sheet.specs.Sheet.{failed, Body, Method, CallStep, Step, event_step, call_step, pass_step, stop_step, Sheet, future, body, entry_in}
use Rattle.runs.specs.Rules.{holds_empty, Rule, ◌of◌says◌, is_among, if_any, failed_exit_rules, method_rules, return_rules, entry_asked, entry_rules, step_rules, firsts_rules, methods_rules, steps_rules, rules, how_many, body_count, event_count, call_count, pass_count, failed_exits, failed_exit_count, failed_call_count, stop_count, entry_count, total, failing_starts, count}

-- no element of a list has what f counts
abbrev NoneHas : {A : Type 0} → (A → ℕ) → List A → Type 0
NoneHas f = Each (λ x. f x ≡ 0)

no-total : {A : Type 0} (f : A → ℕ) {xs : List A} → NoneHas f xs → total f xs ≡ 0
unfolding total
no-total f nil = refl
no-total f (cons h t) = omega (arith, h, no-total f t)

-- so none has where runs start
nothing-at-starts : (starts : List ℕ) (k : ℕ) {ms : List Method} → NoneHas failed_exit_count ms → failing_starts starts k ms ≡ 0
unfolding failing_starts
nothing-at-starts starts k nil = refl
nothing-at-starts starts k (cons {x = x} h t) = omega (arith, either_way (is_among starts k), nothing-at-starts starts (suc k) t)
  where
    either_way : (b : Bool) → cond b (failed_exit_count x) 0 ≡ 0
    either_way true = h
    either_way false = refl

module _ (S : Sheet) (unmarked : S.new ≡ false) where
  -- 26 is not asked
  none-asked : (m : ℕ) → entry_asked S m ≡ none
  none-asked m = ap (λ (b : Bool). cond b (entry_in (body S m)) none) unmarked

  -- The numbers of the rules ------------------------------------------------------------------------------------------------

  -- each is at most n: for n from 17 on where there is no failed exit and no failed target, for n from 24 on in any case
  module _ (n : ℕ) (least : 17 ≤ n) where
    abbrev AtMost : List Rule → Type 0
    AtMost = Each (λ x. x.number ≤ n)

    -- k failed exits, or failed targets, which have 18 to 24
    abbrev Allowed : ℕ → Type 0
    Allowed k = (k ≡ 0) ⊎ (24 ≤ n)

    of-any : {A : Type 0} (f : A → List Rule) (x : Option A) → Allowed (how_many x) → (24 ≤ n → (a : A) → AtMost (f a)) → AtMost (if_any x f)
    of-any f none h g = nil
    of-any f (some a) (inl e) g = absurd (omega (arith, e))
    of-any f (some a) (inr l) g = g l a

    -- one more, of a number that is at most k
    within : {k : ℕ} → k ≤ n → {x : Rule} {xs : List Rule} → leb x.number k ≡ true → AtMost xs → AtMost (x ∷ xs)
    within {k} l {x} e t = cons (le_trans (leb-true x.number k e) l) t

    of-firsts : (ms : List ℕ) → AtMost (firsts_rules S ms)
    unfolding firsts_rules
    of-firsts [] = nil
    of-firsts (m ∷ ms) = within least refl (within least refl (of-firsts ms))

    module _ (starts : List ℕ) where
      of-failed-exit : (m : ℕ) → 24 ≤ n → (e : ℕ) → AtMost (failed_exit_rules S starts m e)
      of-failed-exit m l e = within l refl (within l refl (go (is_among starts m)))
        where
          go : (b : Bool) → AtMost (cond b ((24 of m says holds_empty (future S m failed)) ∷ []) [])
          go true = within l refl nil
          go false = nil

      of-method : (m : ℕ) (b : Option Body) → Allowed (failed_exits b) → AtMost (method_rules S starts m b)
      of-method m none h = nil
      of-method m (some b) h =
          within least refl (within least refl (within least refl (within least refl
          (of-any (failed_exit_rules S starts m) b.failed_exit h (of-failed-exit m)))))

      of-methods : (k : ℕ) {ms : List Method} → Each (λ x. Allowed (failed_exit_count x)) ms → AtMost (methods_rules S starts k ms)
      unfolding methods_rules
      of-methods k nil = nil
      of-methods k (cons {x = m} h t) = each_append (of-method k m.body h) (of-methods (suc k) t)

    of-failed-target : (i : ℕ) (t : CallStep) → 24 ≤ n → (q : ℕ) → AtMost (return_rules S 18 i t failed q)
    of-failed-target i t l q = within l refl (within l refl (within l refl (within l refl nil)))

    of-step : (i : ℕ) (t : Step) → stop_count t ≡ 0 → Allowed (failed_call_count t) → AtMost (step_rules S i t)
    of-step i (event_step p q a) e h = within least refl (within least refl (within least refl nil))
    of-step i (call_step t) e h =
        within least refl (within least refl (within least refl (within least refl (within least refl
        (each_append
        (of-any (return_rules S 18 i t failed) t.failed_to h (of-failed-target i t))
        (subst (λ (x : Option ℕ). AtMost (if_any x (entry_rules S i t))) (sym (none-asked t.method)) nil))))))
    of-step i (pass_step p q) e h = within least refl (within least refl (within least refl nil))
    of-step i (stop_step p) e h = absurd (omega (arith, e))

    of_steps : (k : ℕ) {ts : List Step} → NoneHas stop_count ts → Each (λ t. Allowed (failed_call_count t)) ts → AtMost (steps_rules S k ts)
    unfolding steps_rules
    of_steps k nil h = nil
    of_steps k (cons {x = t} e es) h = each_append (of-step k t e (each-head h)) (of_steps (suc k) es (each_tail h))

    at_most : NoneHas stop_count S.steps → Each (λ x. Allowed (failed_exit_count x)) S.methods → Each (λ t. Allowed (failed_call_count t)) S.steps
        → AtMost (rules S)
    unfolding rules
    at_most no_stops exits targets =
        each_append (of-firsts (0 ∷ [])) (each_append (of-methods (0 ∷ []) 0 exits) (of_steps 0 no_stops targets))

  module _ (no_stops : Each (λ (t : Step). stop_count t ≡ 0) S.steps) where
    pub twenty_four : Each (λ (x : Rule). x.number ≤ 24) (rules S)
    twenty_four = at_most 24 (omega arith) no_stops (each_all (λ x. inr (omega arith))) (each_all (λ t. inr (omega arith)))

    module _ (exits : Each (λ (x : Method). failed_exit_count x ≡ 0) S.methods) (targets : Each (λ (t : Step). failed_call_count t ≡ 0) S.steps) where
      pub seventeen : Each (λ (x : Rule). x.number ≤ 17) (rules S)
      seventeen = at_most 17 (omega arith) no_stops (each_map (λ x. inl) exits) (each_map (λ t. inl) targets)

      -- The count ---------------------------------------------------------------------------------------------------------------

      no-entry : (t : Step) → entry_count S t ≡ 0
      no-entry (event_step p q a) = refl
      no-entry (call_step t) = ap how_many (none-asked t.method)
      no-entry (pass_step p q) = refl
      no-entry (stop_step p) = refl

      -- "2 + 4b + 3e + 5c + 3p for b methods with body, e event, c call and p pass steps"
      pub formula : count S
          ≡ 2 + 4 * total body_count S.methods + 3 * total event_count S.steps + 5 * total call_count S.steps + 3 * total pass_count S.steps
      unfolding count
      formula =
          omega (
            arith,
            no-total failed_exit_count exits,
            nothing-at-starts (0 ∷ []) 0 exits,
            no-total failed_call_count targets,
            no-total stop_count no_stops,
            no-total (entry_count S) {xs = S.steps} (each_all no-entry),
          )
