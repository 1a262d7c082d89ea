-- Laws of the tests of leaves that stand behind others: those of two conditions, one after the other, by those of each.
use mathlib.Core.Path.{◌≡◌, refl, sym, ap, ap₂, ◌∙◌}
use mathlib.Core.Bool.{Bool, true, false, ◌||◌, or-false}
use mathlib.Core.Logic.{◌⊎◌, inl, inr, ⊎_elim}
use Prim.Native.Nat.{ℕ, zero, suc, ◌+◌, ◌≤◌, zero-le}
use native.Mathlib.Omega.{arith}
use native.Mathlib.Nat.{zero-add}
use lib.Dec.{T, eqb}
use borrow.Author.Tests.{eq-eqb, ne_eqb}
use Rattle.condition.specs.Condition.{Condition}
use Rattle.condition.specs.Places.{leaves, beside, first, last, follow}
use Rattle.condition.proofs.Beside.{beside-left, beside-right, side, first_leaf, last_leaf, follow-leaf}
use Rattle.items.specs.Stack.{behind}

pub fails : (t : Bool) → (T t → ⊥) → t ≡ false
fails true h = absurd (h tt)
fails false h = refl

module _ (b : ℕ) (f : ℕ → Bool) where
  pub behind-low : (k : ℕ) → k ≤ b → behind b f k ≡ false
  behind-low k h = beside-left b (λ _. false) f k h

  pub behind-at : (j : ℕ) → behind b f (suc (b + j)) ≡ f (suc j)
  behind-at j = beside-right b (λ _. false) f j

  -- a test is `behind b f` where it is so at the first b and at the leaves behind them
  pub behind-is : (g : ℕ → Bool) → ((k : ℕ) → k ≤ b → g k ≡ false) → ((j : ℕ) → g (suc (b + j)) ≡ f (suc j)) → (k : ℕ) → g k ≡ behind b f k
  behind-is g low high k =
      ⊎_elim
      (λ (h : k ≤ b). low k h ∙ sym (behind-low k h))
      (λ (h : (j : ℕ) × (k ≡ suc (b + j))). rw h.1 (high h.0 ∙ sym (behind-at h.0)))
      (side b k)

pub behind-cong : (b : ℕ) (f g : ℕ → Bool) → ((j : ℕ) → f (suc j) ≡ g (suc j)) → (k : ℕ) → behind b f k ≡ behind b g k
behind-cong b f g e = behind-is b g (λ k. behind b f k) (behind-low b f) (λ j. behind-at b f j ∙ e j)

-- a test made of another, or of two
pub behind-map : (h : Bool → Bool) → h false ≡ false → (b : ℕ) (f : ℕ → Bool) (k : ℕ) → h (behind b f k) ≡ behind b (λ i. h (f i)) k
behind-map h z b f = behind-is b (λ i. h (f i)) (λ k. h (behind b f k)) (λ k l. ap h (behind-low b f k l) ∙ z) (λ j. ap h (behind-at b f j))

pub behind-or : (b : ℕ) (f g : ℕ → Bool) (k : ℕ) → (behind b f k || behind b g k) ≡ behind b (λ i. f i || g i) k
behind-or b f g =
    behind-is b (λ i. f i || g i) (λ k. behind b f k || behind b g k)
    (λ k l. ap₂ (λ (x y : Bool). x || y) (behind-low b f k l) (behind-low b g k l))
    (λ j. ap₂ (λ (x y : Bool). x || y) (behind-at b f j) (behind-at b g j))

pub behind-none : (b k : ℕ) → false ≡ behind b (λ _. false) k
behind-none b = behind-is b (λ _. false) (λ _. false) (λ k l. refl) (λ j. refl)

-- leaf 1 behind b others
pub behind-leaf : (b k : ℕ) → eqb k (suc b) ≡ behind b (λ i. eqb i 1) k
behind-leaf b = behind-is b (λ i. eqb i 1) (λ k. eqb k (suc b)) (λ k l. ne_eqb k (suc b) (λ (e : k ≡ suc b). omega arith)) at
  where
    at : (j : ℕ) → eqb (suc (b + j)) (suc b) ≡ eqb (suc j) 1
    at zero = eq-eqb (suc (b + 0)) (suc b) (omega arith)
    at (suc j) = ne_eqb (suc (b + suc j)) (suc b) (λ (e : suc (b + suc j) ≡ suc b). omega arith) ∙ sym (ne_eqb (suc (suc j)) 1 (λ (e : suc (suc j) ≡ 1). omega arith))

-- behind no leaves, where 0 is none
pub behind-zero : (f : ℕ → Bool) → f 0 ≡ false → (k : ℕ) → behind 0 f k ≡ f k
behind-zero f e zero = behind-low 0 f 0 zero-le ∙ sym e
behind-zero f e (suc k) = ap (λ (x : ℕ). behind 0 f (suc x)) (sym (zero-add k)) ∙ behind-at 0 f k

-- Two conditions --------------------------------------------------------------------------------------------------------

-- the test f passes no number above m
abbrev pub UpTo : ℕ → (ℕ → Bool) → Type 0
UpTo m f = (j : ℕ) → f (suc (m + j)) ≡ false

pub behind-beside : (b m : ℕ) (f g : ℕ → Bool) → UpTo m f → (k : ℕ) → (behind b f k || behind (b + m) g k) ≡ behind b (λ i. beside m f g i) k
behind-beside b m f g up =
    behind-is b (λ i. beside m f g i) (λ k. behind b f k || behind (b + m) g k)
    (λ k l. ap₂ (λ (x y : Bool). x || y) (behind-low b f k l) (behind-low (b + m) g k (omega arith)))
    (λ j. ap (λ (x : Bool). x || behind (b + m) g (suc (b + j))) (behind-at b f j) ∙ at j (side m (suc j)))
  where
    at : (j : ℕ) → (suc j ≤ m) ⊎ ((i : ℕ) × (suc j ≡ suc (m + i))) → (f (suc j) || behind (b + m) g (suc (b + j))) ≡ beside m f g (suc j)
    at j (inl h) =
        ap (λ (x : Bool). f (suc j) || x) (behind-low (b + m) g (suc (b + j)) (omega arith)) ∙ or-false (f (suc j))
        ∙ sym (beside-left m f g (suc j) h)
    at j (inr h) =
        let (i, e) = h in
        let far : suc (b + j) ≡ suc (b + m + i) = omega arith in
        ap₂ (λ (x : Bool) (y : ℕ). x || behind (b + m) g y) (ap f e ∙ up i) far
        ∙ behind-at (b + m) g i
        ∙ sym (ap (λ (x : ℕ). beside m f g x) e ∙ beside-right m f g i)

module _ (r : Condition) where
  pub first-up : UpTo (leaves r) (λ i. first r i)
  first-up j = fails (first r (suc (leaves r + j))) (λ t. let i = first_leaf r _ t in omega arith)

  pub last_up : UpTo (leaves r) (λ i. last r i)
  last_up j = fails (last r (suc (leaves r + j))) (λ t. let i = last_leaf r _ t in omega arith)

  pub follow-up : (p : ℕ) → UpTo (leaves r) (λ i. follow r p i)
  follow-up p j = fails (follow r p (suc (leaves r + j))) (λ t. let i = follow-leaf r p _ t in omega arith)
