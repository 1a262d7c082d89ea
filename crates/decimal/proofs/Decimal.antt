-- A decimal number, digit by digit.
use Rattle.std.proofs.Common.{◌≡◌, ℕ, ◌+◌, ◌-◌, ◌*◌, ◌<◌, ◌≤◌, min, Bool, true, false, cond, List, [], ◌∷◌, length, drop, get_or, Option, Some, None, add-one, arith, drop-cons}
use Rattle.std.proofs.Math.Seq.{drop-length}
use Rattle.std.proofs.Math.Dec.{ltb}
use Rattle.std.specs.Char.{is_ascii_digit}
use Rattle.decimal.specs.Decimal.{number_from, number_in}
use Rattle.decimal.specs.Arguments.{NumberAtMost}

module _ (text : List ℕ) (i n : ℕ) where
  pub no-digit-left : i ≡ length text → number_from n (drop i text) ≡ Some n
  unfolding number_from
  no-digit-left e = rw (e, drop-length text)

  module _ (h : i < length text) where
    pub no-digit : is_ascii_digit (get_or text i 0) ≡ false → number_from n (drop i text) ≡ None
    unfolding number_from
    no-digit e = rw (drop-cons text i 0 h, e)

    pub one-digit : is_ascii_digit (get_or text i 0) ≡ true → number_from n (drop i text) ≡ number_from (min (10 * n + (get_or text i 0 - 48)) 65535) (drop (i + 1) text)
    unfolding number_from
    one-digit e = rw (add-one i, drop-cons text i 0 h, e)

-- The limit -------------------------------------------------------------------------------------------------------------

or-none : (b : Bool) (x y : Option ℕ) → NumberAtMost 65535 x → NumberAtMost 65535 y → NumberAtMost 65535 (cond b x y)
or-none true x y h k = h
or-none false x y h k = k

bounded : (n : ℕ) (text : List ℕ) → n ≤ 65535 → NumberAtMost 65535 (number_from n text)
unfolding number_from
bounded n [] h = h
bounded n (b ∷ bs) h = or-none (is_ascii_digit b) _ None (bounded (min (10 * n + (b - 48)) 65535) bs (omega arith)) tt

pub number-bounded : (text : List ℕ) → NumberAtMost 65535 (number_in text)
number-bounded text = or-none (ltb (length text) 1) None _ tt (bounded 0 text (omega arith))
