-- The table of the rules about methods: it has the rules of each method, and none of a step's.
use mathlib.Core.Path.{◌≡◌, refl}
use mathlib.Core.Bool.{Bool, true, false, cond}
use mathlib.Core.Option.{Option, none, some}
use mathlib.Core.List.{List, [], ◌∷◌}
use Prim.Native.Nat.{ℕ}
use Rattle.sheet.specs.Each.{Each, nil, cons}
use Rattle.sheet.proofs.Each.{each_append}
use Rattle.sheet.specs.Sheet.{failed, Body, CallStep, Step, event_step, call_step, pass_step, stop_step, Sheet, future}
use Rattle.runs.specs.Rules.{holds_empty, Rule, ◌of◌says◌, is_among, of_method, if_any, first_rules, failed_exit_rules, method_rules, return_rules, entry_asked, entry_rules, step_rules}

abbrev Told : Bool → Rule → Type 0
Told b x = of_method x.number ≡ b

-- one rule, or none
if-told : (b : Bool) (x : Rule) → Told true x → Each (Told true) (cond b (x ∷ []) [])
if-told true x h = cons h nil
if-told false x h = nil

module _ (S : Sheet) where
  first-of-method : (m : ℕ) → Each (Told true) (first_rules S m)
  first-of-method m = cons refl (cons refl nil)

  failed-exit-of-method : (starts : List ℕ) (m : ℕ) (e : Option ℕ) → Each (Told true) (if_any e (failed_exit_rules S starts m))
  failed-exit-of-method starts m none = nil
  failed-exit-of-method starts m (some e) = cons refl (cons refl (if-told (is_among starts m) (24 of m says holds_empty (future S m failed)) refl))

  rules-of-method : (starts : List ℕ) (m : ℕ) (b : Option Body) → Each (Told true) (method_rules S starts m b)
  rules-of-method starts m none = nil
  rules-of-method starts m (some b) = cons refl (cons refl (cons refl (cons refl (failed-exit-of-method starts m b.failed_exit))))

  failed-target-of-step : (i : ℕ) (t : CallStep) (q : Option ℕ) → Each (Told false) (if_any q (return_rules S 18 i t failed))
  failed-target-of-step i t none = nil
  failed-target-of-step i t (some q) = cons refl (cons refl (cons refl (cons refl nil)))

  entry-of-step : (i : ℕ) (t : CallStep) (e : Option ℕ) → Each (Told false) (if_any e (entry_rules S i t))
  entry-of-step i t none = nil
  entry-of-step i t (some e) = cons refl nil

  rules-of-step : (i : ℕ) (t : Step) → Each (Told false) (step_rules S i t)
  rules-of-step i (event_step p q a) = cons refl (cons refl (cons refl nil))
  rules-of-step i (call_step t) =
      cons refl (cons refl (cons refl (cons refl (cons refl
      (each_append (failed-target-of-step i t t.failed_to) (entry-of-step i t (entry_asked S t.method)))))))
  rules-of-step i (pass_step p q) = cons refl (cons refl (cons refl nil))
  rules-of-step i (stop_step p) = cons refl nil
