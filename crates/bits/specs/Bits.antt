-- Sets of numbers as one number: bit k stands for k. Document 01: "a 4-byte set (bit e for event e)", "bit k is for right place k".
use Rattle.std.specs.Prelude.{Bool, true, false, ◌&&◌, ◌||◌, ℕ, zero, suc, ◌+◌, ◌*◌, ◌/◌, ◌%◌, ◌^◌, eqb}

-- implication: where a passes, so does b
infixr 25 ◌⇒◌
abbrev pub ◌⇒◌ : Bool → Bool → Bool
true ⇒ b = b
false ⇒ b = true

-- bounded quantifiers: some number below n passes the test f; every number below n does
unfoldable pub any_below : ℕ → (ℕ → Bool) → Bool
any_below zero f = false
any_below (suc n) f = any_below n f || f n

unfoldable pub all_below : ℕ → (ℕ → Bool) → Bool
all_below zero f = true
all_below (suc n) f = all_below n f && f n

-- membership: the set s has the number k
unfoldable pub has : ℕ → ℕ → Bool
has s k = eqb (s / 2 ^ k % 2) 1

-- the set of the numbers below n that pass the test f
abbrev pub digit : Bool → ℕ
digit true = 1
digit false = 0

unfoldable pub set_of : ℕ → (ℕ → Bool) → ℕ
set_of zero f = 0
set_of (suc n) f = digit (f 0) + 2 * set_of n (λ k. f (suc k))
