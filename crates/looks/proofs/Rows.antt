-- Sets of one number.
use mathlib.Core.Path.{◌≡◌, ap, ◌∙◌}
use mathlib.Core.Bool.{Bool, cond, ◌&&◌}
use Prim.Native.Nat.{ℕ, ◌^◌}
use lib.Dec.{eqb}
use Rattle.bits.specs.Bits.{has}
use Rattle.bits.proofs.Masks.{has-cond, has_one}

-- the set of one number where a test passes
pub chosen-has : (b : Bool) (p q : ℕ) {one x : ℕ} → one ≡ 2 ^ p → x ≡ cond b one 0 → has x q ≡ (b && eqb q p)
chosen-has b p q {one} e f =
    ap (λ (v : ℕ). has v q) f ∙ has-cond b one q ∙ ap (λ (v : Bool). b && v) (ap (λ (v : ℕ). has v q) e ∙ has_one p q)
