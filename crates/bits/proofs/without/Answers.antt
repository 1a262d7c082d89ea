-- `without` meets its contract: by whether the set has the number.
use mathlib.Core.Path.{◌≡◌, refl, ap, ◌∙◌}
use mathlib.Core.Bool.{Bool, true, false, not, ◌&&◌}
use Prim.Native.Nat.{ℕ}
use lib.Bits.{bit_and, bit_xor}
use Rattle.bits.specs.Bits.{has}
use Rattle.bits.proofs.Masks.{has-and}
use Rattle.bits.proofs.Bitwise.{has-without}
use Rattle.bits.proofs.without.Goals as goal

left_is : (a b k : ℕ) → has (bit_and a (bit_xor a b)) k ≡ (has a k && not (has b k))
left_is a b k = has-and a (bit_xor a b) k ∙ go (has a k) refl
  where
    go : (x : Bool) → has a k ≡ x → (x && has (bit_xor a b) k) ≡ (x && not (has b k))
    go true e = has-without a b k (λ _. rw e tt) ∙ ap (λ (x : Bool). x && not (has b k)) e
    go false e = refl

pub returns : goal.returns
returns c = λ k. left_is _ _ k
