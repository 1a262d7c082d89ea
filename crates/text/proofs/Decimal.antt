-- Numbers in decimal, digit by digit from the last.
use mathlib.Core.Path.{◌≡◌, refl, sym, ap, ◌∙◌}
use mathlib.Core.Bool.{Bool, true, false}
use mathlib.Core.List.{List, [], ◌∷◌, ◌++◌}
use Prim.Native.Nat.{ℕ, zero, suc, ◌+◌, ◌/◌, ◌%◌, ◌^◌, ◌<◌, ◌≤◌}
use native.Mathlib.Nat.{pow-suc, div-lt_self, div-lt_iff_lt-mul}
use native.Mathlib.Omega.{arith}
use borrow.Author.Tests.{lt-ltb, le-ltb, ltb-true, ltb-false}
use lib.ListN.{length, length-append}
use lib.Dec.{ltb}
use Rattle.verdict.specs.Line.{digits_on, decimal}

-- the two cases of a number's digits
small : (f n : ℕ) (after : List ℕ) → n < 10 → digits_on (suc f) n after ≡ (48 + n) ∷ after
unfolding digits_on
small f n after h = simp (lt-ltb n 10 h)

large : (f n : ℕ) (after : List ℕ) → 10 ≤ n → digits_on (suc f) n after ≡ digits_on f (n / 10) ((48 + n % 10) ∷ after)
unfolding digits_on
large f n after h = simp (le-ltb n 10 h)

-- P of every number, if of those with one digit and of the others
by_digits : (P : ℕ → Type 0) → ((n : ℕ) → n < 10 → P n) → ((n : ℕ) → 10 ≤ n → P n) → (n : ℕ) → P n
by_digits P one more n = go (ltb n 10) refl
  where
    go : (b : Bool) → ltb n 10 ≡ b → P n
    go true e = one n (ltb-true n 10 e)
    go false e = more n (ltb-false n 10 e)

tenth-less : (n : ℕ) → 10 ≤ n → n / 10 < n
tenth-less n h = div-lt_self (omega arith) (omega arith)

-- the digits come before what stands behind them
digits-before : (f n : ℕ) (a b : List ℕ) → digits_on f n (a ++ b) ≡ digits_on f n a ++ b
unfolding digits_on
digits-before zero n a b = refl
digits-before (suc f) n a b =
    by_digits (λ n. digits_on (suc f) n (a ++ b) ≡ digits_on (suc f) n a ++ b)
    (λ n h. simp (small f n a h, small f n (a ++ b) h))
    (λ n h. large f n (a ++ b) h ∙ digits-before f (n / 10) ((48 + n % 10) ∷ a) b ∙ ap (λ l. l ++ b) (sym (large f n a h)))
    n

-- any fuel above the number is enough
enough : (f g n : ℕ) (a : List ℕ) → n < f → n < g → digits_on f n a ≡ digits_on g n a
enough zero g n a h k = absurd (omega arith)
enough (suc f) zero n a h k = absurd (omega arith)
enough (suc f) (suc g) n a h k =
    by_digits (λ n. n < suc f → n < suc g → digits_on (suc f) n a ≡ digits_on (suc g) n a)
    (λ n l h k. small f n a l ∙ sym (small g n a l))
    (λ n l h k. large f n a l
    ∙ enough f g (n / 10) ((48 + n % 10) ∷ a) (omega (arith, tenth-less n l)) (omega (arith, tenth-less n l))
    ∙ sym (large g n a l))
    n h k

pub one-digit : (n : ℕ) → n < 10 → decimal n ≡ (48 + n) ∷ []
unfolding decimal
one-digit n h = small n n [] h

pub last-digit : (n : ℕ) → 10 ≤ n → decimal n ≡ decimal (n / 10) ++ ((48 + n % 10) ∷ [])
unfolding decimal
last-digit n h =
    large n n [] h
    ∙ enough n (suc (n / 10)) (n / 10) ((48 + n % 10) ∷ []) (tenth-less n h) (omega arith)
    ∙ digits-before (suc (n / 10)) (n / 10) [] ((48 + n % 10) ∷ [])

pub one-long : (n : ℕ) → n < 10 → length (decimal n) ≡ 1
one-long n h = ap length (one-digit n h)

pub one-longer : (n : ℕ) → 10 ≤ n → length (decimal n) ≡ length (decimal (n / 10)) + 1
one-longer n h = rw (last-digit n h) (length-append (decimal (n / 10)) ((48 + n % 10) ∷ []))

-- a number below 10 ^ (k + 1) has at most k + 1 digits
short : (k n : ℕ) → n < 10 ^ suc k → length (decimal n) ≤ suc k
short zero n h = omega (arith, one-long n h)
short (suc k) n h =
    by_digits (λ n. n < 10 ^ suc (suc k) → length (decimal n) ≤ suc (suc k))
    (λ n l h. omega (arith, one-long n l))
    (λ n l h. omega (arith, one-longer n l, short k (n / 10) ((div-lt_iff_lt-mul (omega arith)).1 (rw (pow-suc 10 (suc k)) at h))))
    n h

pub two_digits : (n : ℕ) → n < 100 → length (decimal n) ≤ 2
two_digits n h = short 1 n (omega arith)

pub twenty-digits : (n : ℕ) → n < 2 ^ 64 → length (decimal n) ≤ 20
twenty-digits n h = short 19 n (omega arith)
