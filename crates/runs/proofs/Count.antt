-- The number of rules is the count's formula.
use mathlib.Core.Path.{◌≡◌, refl, ◌∙◌}
use Prim.Native.Nat.{ℕ, suc, ◌+◌, ◌*◌}
use native.Mathlib.Omega.{arith}
use mathlib.Core.Bool.{Bool, true, false, cond}
use mathlib.Core.Option.{Option, none, some}
use mathlib.Core.List.{List, [], ◌∷◌, ◌++◌}
use lib.ListN.{length, length-append}
use Rattle.sheet.specs.Sheet.{failed, Body, Method, CallStep, Step, event_step, call_step, pass_step, stop_step, Sheet, future}
use Rattle.runs.specs.Rules.{holds_empty, Rule, ◌of◌says◌, is_among, if_any, failed_exit_rules, method_rules, return_rules, entry_asked, entry_rules, step_rules, firsts_rules, methods_rules, steps_rules, rules_from, rules, how_many, body_count, event_count, call_count, pass_count, failed_exits, failed_exit_count, failed_call_count, stop_count, entry_count, total, failing_starts, count_from, count}

-- one rule, or none
length-if : (b : Bool) (x : Rule) → length (cond b (x ∷ []) []) ≡ cond b 1 0
length-if true x = refl
length-if false x = refl

nothing : (b : Bool) → ◌≡◌ {A = ℕ} (cond b 0 0) 0
nothing true = refl
nothing false = refl

module _ (S : Sheet) where
  of-firsts : (ms : List ℕ) → length (firsts_rules S ms) ≡ 2 * length ms
  unfolding firsts_rules
  of-firsts [] = refl
  of-firsts (m ∷ ms) = omega (arith, of-firsts ms)

  module _ (starts : List ℕ) where
    -- 22 and 23, and 24 where runs start
    of-failed-exit : (m : ℕ) (e : Option ℕ)
        → length (if_any e (failed_exit_rules S starts m)) ≡ 2 * how_many e + cond (is_among starts m) (how_many e) 0
    of-failed-exit m none = omega (arith, nothing (is_among starts m))
    of-failed-exit m (some e) = omega (arith, length-if (is_among starts m) (24 of m says holds_empty (future S m failed)))

    of-method : (m : ℕ) (b : Option Body)
        → length (method_rules S starts m b) ≡ 4 * how_many b + 2 * failed_exits b + cond (is_among starts m) (failed_exits b) 0
    of-method m none = omega (arith, nothing (is_among starts m))
    of-method m (some b) = omega (arith, of-failed-exit m b.failed_exit)

    of-methods : (k : ℕ) (ms : List Method)
        → length (methods_rules S starts k ms) ≡ 4 * total body_count ms + 2 * total failed_exit_count ms + failing_starts starts k ms
    unfolding methods_rules total failing_starts
    of-methods k [] = refl
    of-methods k (m ∷ ms) =
        length-append (method_rules S starts k m.body) (methods_rules S starts (suc k) ms)
        ∙ omega (arith, of-method k m.body, of-methods (suc k) ms)

  -- 18 to 21
  of-failed-target : (i : ℕ) (t : CallStep) (q : Option ℕ) → length (if_any q (return_rules S 18 i t failed)) ≡ 4 * how_many q
  of-failed-target i t none = refl
  of-failed-target i t (some q) = refl

  -- 26
  of_entry : (i : ℕ) (t : CallStep) (e : Option ℕ) → length (if_any e (entry_rules S i t)) ≡ how_many e
  of_entry i t none = refl
  of_entry i t (some e) = refl

  of-step : (k : ℕ) (t : Step)
      → length (step_rules S k t) ≡ 3 * event_count t + 5 * call_count t + 3 * pass_count t + 4 * failed_call_count t + stop_count t + entry_count S t
  of-step k (event_step p q a) = refl
  of-step k (call_step t) =
      omega (
        arith,
        length-append (if_any t.failed_to (return_rules S 18 k t failed)) (if_any (entry_asked S t.method) (entry_rules S k t)),
        of-failed-target k t t.failed_to,
        of_entry k t (entry_asked S t.method),
      )
  of-step k (pass_step p q) = refl
  of-step k (stop_step p) = refl

  of_steps : (k : ℕ) (ts : List Step) → length (steps_rules S k ts)
      ≡ 3 * total event_count ts + 5 * total call_count ts + 3 * total pass_count ts + 4 * total failed_call_count ts + total stop_count ts + total (entry_count S) ts
  unfolding steps_rules total
  of_steps k [] = refl
  of_steps k (t ∷ ts) = length-append (step_rules S k t) (steps_rules S (suc k) ts) ∙ omega (arith, of-step k t, of_steps (suc k) ts)

  pub counted-from : (starts : List ℕ) → length (rules_from starts S) ≡ count_from starts S
  unfolding rules_from count_from
  counted-from starts =
      omega (
        arith,
        length-append (firsts_rules S starts) (methods_rules S starts 0 S.methods ++ steps_rules S 0 S.steps),
        length-append (methods_rules S starts 0 S.methods) (steps_rules S 0 S.steps),
        of-firsts starts,
        of-methods starts 0 S.methods,
        of_steps 0 S.steps,
      )

  -- "2 + 4b + 3e + 5c + 3p", and one for each of 18 to 26
  pub counted : length (rules S) ≡ count S
  unfolding rules count
  counted = counted-from (0 ∷ [])
