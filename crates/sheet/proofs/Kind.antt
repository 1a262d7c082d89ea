-- A table, read row by row.
use mathlib.Core.List.{List, [], ◌∷◌}
use Prim.Native.Nat.{ℕ, zero, suc}
use lib.ListN.{get_or}

infixr 20 ◌and◌
pub ◌and◌ : {A B : Type 0} → A → B → A × B
a and b = (a, b)

-- P i of the i-th element, for each i, and of the default past the end
abbrev pub Numbered : {A : Type 0} → (ℕ → A → Type 0) → List A → A → Type 0
Numbered P [] d = (i : ℕ) → P i d
Numbered P (x ∷ xs) d = P 0 x × Numbered (λ i. P (suc i)) xs d

pub numbered : {A : Type 0} (P : ℕ → A → Type 0) (xs : List A) (d : A) → Numbered P xs d → (i : ℕ) → P i (get_or xs i d)
numbered P [] d h i = h i
numbered P (x ∷ xs) d h zero = h.0
numbered P (x ∷ xs) d h (suc i) = numbered (λ i. P (suc i)) xs d h.1 i
