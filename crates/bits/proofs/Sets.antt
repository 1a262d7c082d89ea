-- Laws of sets as numbers: which numbers a set has.
use mathlib.Core.Path.{◌≡◌, refl, sym, ap, ◌∙◌}
use mathlib.Core.Bool.{Bool, true, false}
use Prim.Native.Nat.{ℕ, zero, suc, ◌+◌, ◌*◌, ◌/◌, ◌%◌, ◌^◌, ◌<◌, zero-le, suc-le-suc}
use native.Mathlib.Nat.{not-suc-le-zero, le_of_suc-le-suc, pow-suc}
use native.Mathlib.Omega.{arith}
use lib.Dec.{T, lit<, eqb}
use lib.Pow.{shr-shr}
use Rattle.bits.specs.Bits.{has, digit, set_of}

pub has-suc : (s k : ℕ) → has s (suc k) ≡ has (s / 2) k
unfolding has
has-suc s k = ap (λ (x : ℕ). eqb (x % 2) 1) (ap (λ (x : ℕ). s / 2 ^ x) (omega arith) ∙ sym (shr-shr s 1 k))

pub has-none : (k : ℕ) → has 0 k ≡ false
unfolding has
has-none zero = refl
has-none (suc k) = has-suc 0 k ∙ has-none k

-- A set as its lowest digit and the rest --------------------------------------------------------------------------------

digit_lt : (b : Bool) → digit b < 2
digit_lt true = lit< tt
digit_lt false = lit< tt

digit-test : (b : Bool) → eqb (digit b) 1 ≡ b
digit-test true = refl
digit-test false = refl

has-lowest : (b : Bool) (m : ℕ) → has (digit b + 2 * m) 0 ≡ b
unfolding has
has-lowest b m =
    let low : (digit b + 2 * m) / 1 % 2 ≡ digit b = omega (arith, digit_lt b) in
    ap (λ (x : ℕ). eqb x 1) low ∙ digit-test b

has_rest : (b : Bool) (m k : ℕ) → has (digit b + 2 * m) (suc k) ≡ has m k
has_rest b m k = has-suc (digit b + 2 * m) k ∙ ap (λ (x : ℕ). has x k) (omega (arith, digit_lt b))

-- The set of the numbers that pass a test -------------------------------------------------------------------------------

pub set-in : (n : ℕ) (f : ℕ → Bool) (k : ℕ) → k < n → has (set_of n f) k ≡ f k
unfolding set_of
set-in zero f k h = absurd (not-suc-le-zero h)
set-in (suc n) f zero h = has-lowest (f 0) (set_of n (λ k. f (suc k)))
set-in (suc n) f (suc k) h = has_rest (f 0) (set_of n (λ k. f (suc k))) k ∙ set-in n (λ k. f (suc k)) k (le_of_suc-le-suc h)

pub set-lt : (n : ℕ) (f : ℕ → Bool) → set_of n f < 2 ^ n
unfolding set_of
set-lt zero f = lit< tt
set-lt (suc n) f = omega (arith, set-lt n (λ k. f (suc k)), digit_lt (f 0), pow-suc 2 n)

-- a set below 2 ^ n has only numbers below n
pub has-lt : (n s k : ℕ) → s < 2 ^ n → T (has s k) → k < n
has-lt zero s k h t = let z : s ≡ 0 = omega arith in absurd (rw (z, has-none k) at t)
has-lt (suc n) s zero h t = suc-le-suc zero-le
has-lt (suc n) s (suc k) h t = suc-le-suc (has-lt n (s / 2) k (omega (arith, pow-suc 2 n)) (rw has-suc at t))

-- The set of one number -------------------------------------------------------------------------------------------------

-- the set 1 has 0 alone
pub start_has : T (has 1 0)
unfolding has
start_has = tt

pub has-start : (k : ℕ) → T (has 1 k) → k ≡ 0
has-start zero h = refl
has-start (suc k) h = absurd (rw (has-suc 1 k, has-none k) at h)

-- 2 ^ suc a as a lowest digit and the rest
single-suc : (a : ℕ) → 2 ^ suc a ≡ digit false + 2 * 2 ^ a
single-suc a = omega (arith, pow-suc 2 a)

-- the set 2 ^ a has a alone
pub single-has : (a : ℕ) → T (has (2 ^ a) a)
single-has zero = start_has
single-has (suc a) = rw (single-suc a, has_rest false (2 ^ a) a) (single-has a)

pub has-single : (a e : ℕ) → T (has (2 ^ a) e) → e ≡ a
has-single zero e h = has-start e h
has-single (suc a) zero h = absurd (rw (single-suc a, has-lowest false (2 ^ a)) at h)
has-single (suc a) (suc e) h = ap (λ (x : ℕ). suc x) (has-single a e (rw (single-suc a, has_rest false (2 ^ a) e) at h))
