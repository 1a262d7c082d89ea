-- Laws of tests: both, one of two, implication, and the bounded quantifiers.
use mathlib.Core.Path.{◌≡◌, refl, ap₂}
use mathlib.Core.Bool.{Bool, true, false, ◌&&◌, ◌||◌}
use mathlib.Core.Logic.{◌⊎◌, inl, inr, ⊎_elim}
use Prim.Native.Nat.{ℕ, zero, suc, ◌<◌}
use native.Mathlib.Nat.{not-suc-le-zero, le_of_suc-le-suc, le_refl, eq-or-lt_of_le}
use native.Mathlib.Omega.{arith}
use lib.Dec.{T}
use Rattle.bits.specs.Bits.{◌⇒◌, any_below, all_below}

pub and-out : (a b : Bool) → T (a && b) → T a × T b
and-out true b h = (tt, h)
and-out false b h = absurd h

pub and_in : (a b : Bool) → T a → T b → T (a && b)
and_in true b h k = k
and_in false b h k = absurd h

pub or-out : (a b : Bool) → T (a || b) → T a ⊎ T b
or-out true b h = inl tt
or-out false b h = inr h

pub or_left : (a b : Bool) → T a → T (a || b)
or_left true b h = tt
or_left false b h = absurd h

pub or_right : (a b : Bool) → T b → T (a || b)
or_right true b h = tt
or_right false b h = h

pub if-out : (a b : Bool) → T (a ⇒ b) → T a → T b
if-out true b h k = h
if-out false b h k = absurd k

pub if-in : (a b : Bool) → (T a → T b) → T (a ⇒ b)
if-in true b h = h tt
if-in false b h = tt

pub T_true : (b : Bool) → T b → b ≡ true
T_true true h = refl
T_true false h = absurd h

pub T_false : (b : Bool) → (T b → ⊥) → b ≡ false
T_false true n = absurd (n tt)
T_false false n = refl

-- two tests that pass together are equal
pub T-ext : (a b : Bool) → (T a → T b) → (T b → T a) → a ≡ b
T-ext true true h k = refl
T-ext true false h k = absurd (h tt)
T-ext false true h k = absurd (k tt)
T-ext false false h k = refl

-- The bounded quantifiers -----------------------------------------------------------------------------------------------

pub any_out : (n : ℕ) (f : ℕ → Bool) → T (any_below n f) → (k : ℕ) × (k < n) × T (f k)
unfolding any_below
any_out zero f h = absurd h
any_out (suc n) f h =
    ⊎_elim
    (λ h. let r = any_out n f h in (r.0, omega (arith, r.1), r.2))
    (λ h. (n, le_refl (suc n), h))
    (or-out (any_below n f) (f n) h)

pub any-in : (n : ℕ) (f : ℕ → Bool) (k : ℕ) → k < n → T (f k) → T (any_below n f)
unfolding any_below
any-in zero f k h t = absurd (not-suc-le-zero h)
any-in (suc n) f k h t =
    ⊎_elim
    (λ e. or_right (any_below n f) (f n) (rw e at t))
    (λ l. or_left (any_below n f) (f n) (any-in n f k l t))
    (eq-or-lt_of_le (le_of_suc-le-suc h))

pub any-cong : (n : ℕ) (f g : ℕ → Bool) → ((k : ℕ) → k < n → f k ≡ g k) → any_below n f ≡ any_below n g
unfolding any_below
any-cong zero f g e = refl
any-cong (suc n) f g e = ap₂ (λ (x y : Bool). x || y) (any-cong n f g (λ k l. e k (omega arith))) (e n (le_refl (suc n)))

pub all-out : (n : ℕ) (f : ℕ → Bool) → T (all_below n f) → (k : ℕ) → k < n → T (f k)
unfolding all_below
all-out zero f h k l = absurd (not-suc-le-zero l)
all-out (suc n) f h k l =
    let r = and-out (all_below n f) (f n) h in
    ⊎_elim (λ (e : k ≡ n). rw e r.1) (λ l. all-out n f r.0 k l) (eq-or-lt_of_le (le_of_suc-le-suc l))

pub all_in : (n : ℕ) (f : ℕ → Bool) → ((k : ℕ) → k < n → T (f k)) → T (all_below n f)
unfolding all_below
all_in zero f h = tt
all_in (suc n) f h = and_in (all_below n f) (f n) (all_in n f (λ k l. h k (omega arith))) (h n (le_refl (suc n)))

pub all-cong : (n : ℕ) (f g : ℕ → Bool) → ((k : ℕ) → k < n → f k ≡ g k) → all_below n f ≡ all_below n g
unfolding all_below
all-cong zero f g e = refl
all-cong (suc n) f g e = ap₂ (λ (x y : Bool). x && y) (all-cong n f g (λ k l. e k (omega arith))) (e n (le_refl (suc n)))
