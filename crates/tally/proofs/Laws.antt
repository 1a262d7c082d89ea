-- The counts of a tally, and of the one with one more in a section.
use mathlib.Core.Path.{◌≡◌, refl, sym, ap}
use mathlib.Core.Bool.{Bool}
use Prim.Native.Nat.{ℕ, zero, suc, ◌≤◌}
use native.Mathlib.Omega.{arith}
use lib.Dec.{eqb}
use borrow.Author.Tests.{ne_eqb}
use Rattle.tally.specs.declared.Tally.{Tally}
use Rattle.tally.specs.Tally.{count_of, plus_if, tally_after}

-- section k has one more, and each other section as many as before
pub count_past : (t : Tally) (k : ℕ) → 1 ≤ k → k ≤ 5 → (j : ℕ) → count_of (tally_after t k) j ≡ plus_if (eqb k j) (count_of t j)
count_past t k low high zero = simp (ne_eqb k 0 (λ e. omega arith))
count_past t k low high (suc zero) = refl
count_past t k low high (suc (suc zero)) = refl
count_past t k low high (suc (suc (suc zero))) = refl
count_past t k low high (suc (suc (suc (suc zero)))) = refl
count_past t k low high (suc (suc (suc (suc (suc zero))))) = refl
count_past t k low high (suc (suc (suc (suc (suc (suc j)))))) =
    ap (λ (b : Bool). plus_if b 0) (sym (ne_eqb k (suc (suc (suc (suc (suc (suc j)))))) (λ e. omega arith)))
