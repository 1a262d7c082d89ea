-- Laws of sets as machine words: which numbers `&`, `|`, `^` and shifts leave, and when two words are the same set.
use mathlib.Core.Path.{◌≡◌, refl, sym, ap, ap₂, ◌∙◌}
use mathlib.Core.Bool.{Bool, true, false, cond, not, xor, ◌&&◌, ◌||◌, false≢true, true≢false}
use mathlib.Core.Logic.{◌⊎◌, inl, inr, ⊎_elim}
use Prim.Native.Nat.{ℕ, zero, suc, ◌+◌, ◌/◌, ◌%◌, ◌^◌, ◌<◌, min, max, zero-le, suc-le-suc}
use native.Mathlib.Nat.{pow-suc, lt_of_lt_of_le}
use native.Mathlib.Omega.{arith}
use lib.Dec.{T, not_T, eqb, eqb→eq, lit<, eqb-zero-suc, eqb-suc-zero, eqb-suc-suc}
use lib.Bits.{bit_and, bit_or, bit_xor, and_step, or_step, and_mask, xor_shr, xor_mod}
use lib.Pow.{pow_mono, pow_pos}
use Rattle.bits.specs.Bits.{has, any_below, set_of}
use Rattle.bits.proofs.Tests.{T-ext, any-in, any_out}
use Rattle.bits.proofs.Sets.{has-suc, has-none, has-lt, set-in, set-lt}

-- Digits ----------------------------------------------------------------------------------------------------------------

pub has-low : (s : ℕ) → has s 0 ≡ eqb (s % 2) 1
unfolding has
has-low s = let e : s / 1 % 2 ≡ s % 2 = omega arith in ap (λ (x : ℕ). eqb x 1) e

mod-two : (x : ℕ) → x % 2 < 2
mod-two x = omega arith

-- a digit is 0 or 1
pub zero-or-one : (x : ℕ) → x < 2 → (x ≡ 0) ⊎ (x ≡ 1)
zero-or-one zero h = inl refl
zero-or-one (suc zero) h = inr refl
zero-or-one (suc (suc x)) h = absurd (omega arith)

-- what holds of the digits 0 and 1 holds of every two digits
digits : (P : ℕ → ℕ → Type 0) → P 0 0 → P 0 1 → P 1 0 → P 1 1 → (x y : ℕ) → x < 2 → y < 2 → P x y
digits P a b c d x y h k =
    ⊎_elim
    (λ (e : x ≡ 0). ⊎_elim (λ (f : y ≡ 0). rw (e, f) a) (λ (f : y ≡ 1). rw (e, f) b) (zero-or-one y k))
    (λ (e : x ≡ 1). ⊎_elim (λ (f : y ≡ 0). rw (e, f) c) (λ (f : y ≡ 1). rw (e, f) d) (zero-or-one y k))
    (zero-or-one x h)

min-digit : (x y : ℕ) → x < 2 → y < 2 → eqb (min x y) 1 ≡ (eqb x 1 && eqb y 1)
min-digit = digits (λ x y. eqb (min x y) 1 ≡ (eqb x 1 && eqb y 1)) refl refl refl refl

max-digit : (x y : ℕ) → x < 2 → y < 2 → eqb (max x y) 1 ≡ (eqb x 1 || eqb y 1)
max-digit = digits (λ x y. eqb (max x y) 1 ≡ (eqb x 1 || eqb y 1)) refl refl refl refl

xor-digit : (x y : ℕ) → x < 2 → y < 2 → eqb (bit_xor x y) 1 ≡ xor (eqb x 1) (eqb y 1)
unfolding xor
xor-digit = digits (λ x y. eqb (bit_xor x y) 1 ≡ xor (eqb x 1) (eqb y 1)) refl refl refl refl

same-digit : (x y : ℕ) → x < 2 → y < 2 → eqb x 1 ≡ eqb y 1 → x ≡ y
same-digit =
    digits (λ x y. eqb x 1 ≡ eqb y 1 → x ≡ y) (λ _. refl) (λ e. absurd (false≢true e)) (λ e. absurd (true≢false e)) (λ _. refl)

-- Meet, union and symmetric difference ----------------------------------------------------------------------------------

pub has-and : (a b k : ℕ) → has (bit_and a b) k ≡ (has a k && has b k)
has-and a b zero =
    let e : bit_and a b % 2 ≡ min (a % 2) (b % 2) = omega (arith, and_step a b) in
    has-low (bit_and a b)
    ∙ ap (λ (x : ℕ). eqb x 1) e
    ∙ min-digit (a % 2) (b % 2) (mod-two a) (mod-two b)
    ∙ sym (ap₂ (λ (x y : Bool). x && y) (has-low a) (has-low b))
has-and a b (suc k) =
    let e : bit_and a b / 2 ≡ bit_and (a / 2) (b / 2) = omega (arith, and_step a b) in
    has-suc (bit_and a b) k
    ∙ ap (λ (x : ℕ). has x k) e
    ∙ has-and (a / 2) (b / 2) k
    ∙ sym (ap₂ (λ (x y : Bool). x && y) (has-suc a k) (has-suc b k))

pub has-or : (a b k : ℕ) → has (bit_or a b) k ≡ (has a k || has b k)
has-or a b zero =
    let e : bit_or a b % 2 ≡ max (a % 2) (b % 2) = omega (arith, or_step a b) in
    has-low (bit_or a b)
    ∙ ap (λ (x : ℕ). eqb x 1) e
    ∙ max-digit (a % 2) (b % 2) (mod-two a) (mod-two b)
    ∙ sym (ap₂ (λ (x y : Bool). x || y) (has-low a) (has-low b))
has-or a b (suc k) =
    let e : bit_or a b / 2 ≡ bit_or (a / 2) (b / 2) = omega (arith, or_step a b) in
    has-suc (bit_or a b) k
    ∙ ap (λ (x : ℕ). has x k) e
    ∙ has-or (a / 2) (b / 2) k
    ∙ sym (ap₂ (λ (x y : Bool). x || y) (has-suc a k) (has-suc b k))

pub has-xor : (a b k : ℕ) → has (bit_xor a b) k ≡ xor (has a k) (has b k)
unfolding has
has-xor a b k =
    ap (λ (z : ℕ). eqb (z % 2) 1) (xor_shr a b k)
    ∙ ap (λ (z : ℕ). eqb z 1) (xor_mod (a / 2 ^ k) (b / 2 ^ k) 1)
    ∙ xor-digit (a / 2 ^ k % 2) (b / 2 ^ k % 2) (mod-two (a / 2 ^ k)) (mod-two (b / 2 ^ k))

-- the set x where the test passes, and the empty set where it fails
pub has-cond : (b : Bool) (x k : ℕ) → has (cond b x 0) k ≡ (b && has x k)
has-cond true x k = refl
has-cond false x k = has-none k

-- The machine's test of a number, `s >> k & 1 == 1`, and its set of one number, `1 << k` ----------------------------------

pub has-test : (s k : ℕ) → eqb (bit_and (s / 2 ^ k) 1) 1 ≡ has s k
unfolding has
has-test s k = ap (λ (x : ℕ). eqb x 1) (and_mask (s / 2 ^ k) 1)

pub has_one : (k j : ℕ) → has (2 ^ k) j ≡ eqb j k
has_one zero zero = has-low 1
has_one zero (suc j) = has-suc 1 j ∙ has-none j ∙ sym (eqb-suc-zero j)
has_one (suc k) zero =
    let e : 2 ^ suc k % 2 ≡ 0 = omega (arith, pow-suc 2 k) in
    has-low (2 ^ suc k) ∙ ap (λ (x : ℕ). eqb x 1) e ∙ sym (eqb-zero-suc k)
has_one (suc k) (suc j) =
    let e : 2 ^ suc k / 2 ≡ 2 ^ k = omega (arith, pow-suc 2 k) in
    has-suc (2 ^ suc k) j ∙ ap (λ (x : ℕ). has x j) e ∙ has_one k j ∙ sym (eqb-suc-suc j k)

-- Equal sets ------------------------------------------------------------------------------------------------------------

-- two sets below 2 ^ n with the same numbers are the same
pub set-ext : (n s t : ℕ) → s < 2 ^ n → t < 2 ^ n → ((k : ℕ) → k < n → has s k ≡ has t k) → s ≡ t
set-ext zero s t h k e = omega arith
set-ext (suc n) s t h k e =
    let low : s % 2 ≡ t % 2 =
    same-digit (s % 2) (t % 2) (mod-two s) (mod-two t) (sym (has-low s) ∙ e 0 (suc-le-suc zero-le) ∙ has-low t) in
    let high : s / 2 ≡ t / 2 =
    set-ext n (s / 2) (t / 2) (omega (arith, pow-suc 2 n)) (omega (arith, pow-suc 2 n))
    (λ j l. sym (has-suc s j) ∙ e (suc j) (suc-le-suc l) ∙ has-suc t j) in
    omega arith

lt-pow : (n : ℕ) → n < 2 ^ n
lt-pow zero = lit< tt
lt-pow (suc n) = omega (arith, lt-pow n, pow-suc 2 n)

-- the same without a bound
pub bits-ext : (s t : ℕ) → ((k : ℕ) → has s k ≡ has t k) → s ≡ t
bits-ext s t e =
    let a : s < 2 ^ (s + t) = lt_of_lt_of_le (lt-pow s) (pow_mono (omega arith)) in
    let b : t < 2 ^ (s + t) = lt_of_lt_of_le (lt-pow t) (pow_mono (omega arith)) in
    set-ext (s + t) s t a b (λ k _. e k)

-- the set of the numbers that pass a test, where only numbers below n pass
pub set-has : (n : ℕ) (f : ℕ → Bool) → ((k : ℕ) → T (f k) → k < n) → (k : ℕ) → has (set_of n f) k ≡ f k
set-has n f h k =
    T-ext (has (set_of n f) k) (f k)
    (λ t. rw (set-in n f k (has-lt n (set_of n f) k (set-lt n f) t)) at t)
    (λ t. rw (set-in n f k (h k t)) t)

-- a set is not empty where it has a number
pub nonzero-in : (x k : ℕ) → T (has x k) → T (not (eqb x 0))
nonzero-in x k h = not_T (eqb x 0) (λ z. absurd (rw (eqb→eq x 0 z, has-none k) at h))

pub nonzero-out : (x : ℕ) → T (not (eqb x 0)) → (k : ℕ) × T (has x k)
nonzero-out x h = go (any_below x (λ k. has x k)) refl
  where
    go : (b : Bool) → any_below x (λ k. has x k) ≡ b → (k : ℕ) × T (has x k)
    go true e = let (k, _, t) = any_out x (λ k. has x k) (rw e tt) in (k, t)
    go false e =
        let z : x ≡ 0 =
        set-ext x x 0 (lt-pow x) (pow_pos x)
        (λ k l. T-ext (has x k) (has 0 k) (λ t. absurd (rw e at (any-in x (λ k. has x k) k l t))) (λ t. absurd (rw (has-none k) at t))) in
        absurd (rw z at h)
