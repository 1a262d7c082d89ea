-- `below` meets its contract: the numbers below n are 2 ^ n - 1.
use mathlib.Core.Path.{◌≡◌, ap, ◌∙◌}
use Prim.Native.Nat.{ℕ}
use native.Mathlib.Omega.{arith}
use lib.Dec.{ltb}
use Rattle.bits.proofs.Bitwise.{has-below}
use Rattle.bits.proofs.Filling.{one_shifted}
use Rattle.bits.proofs.below.Goals as goal

pub returns-then-n-lt64 : goal.returns-then-n-lt64
returns-then-n-lt64 c = λ k. simp (one_shifted _ c.if-n-lt64.true) (has-below _ k)

pub returns-else-n-lt64 : goal.returns-else-n-lt64
returns-else-n-lt64 c = λ k. let e : 64 ≡ c.args.n = omega arith in has-below 64 k ∙ ap (λ (n : ℕ). ltb k n) e
