-- The rules of a failed exit.
use Prim.Native.Nat.{ℕ}
use mathlib.Core.Path.{◌≡◌, sym, ap₂}
use mathlib.Core.Bool.{Bool, cond}
use mathlib.Core.Option.{Option, some}
use mathlib.Core.List.{List, [], ◌∷◌, ◌++◌}
use Rattle.sheet.specs.Sheet.{failed, Sheet, future}
use Rattle.runs.specs.Rules.{Rule, ◌of◌says◌, holds_empty, if_any, is_among, exit_rules, failed_exit_rules}

-- The rules of the failed exit p of the method m, with 24 or without
abbrev pub failed_rules : Sheet → Bool → (m p : ℕ) → List Rule
failed_rules S first m p = exit_rules S 22 m failed p ++ cond first ((24 of m says holds_empty (future S m failed)) ∷ []) []

module _ (S : Sheet) (starts : List ℕ) (m : ℕ) {first : Bool} (starting : first ≡ is_among starts m) {e : Option ℕ} {p : ℕ} (is : e ≡ some p) where
  pub failed-rules : if_any e (failed_exit_rules S starts m) ≡ failed_rules S first m p
  failed-rules = ap₂ (λ (e : Option ℕ) (first : Bool). if_any e (failed_rules S first m)) is (sym starting)
