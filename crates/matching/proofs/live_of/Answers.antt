use mathlib.Core.Path.{◌≡◌, subst}
use Prim.Native.Nat.{ℕ, ◌+◌, ◌-◌}
use native.Mathlib.Omega.{arith}
use lib.Bits.{bit_or}
use Rattle.matching.proofs.Live.{Found, none_found, next-found}
use Rattle.matching.proofs.live_of.Goals as goal

pub loop-p-init : goal.loop-p-init
loop-p-init c = λ r t. none_found t

pub loop-p-preserved : goal.loop-p-preserved
loop-p-preserved c =
    let g = c.loop-p in
    let e : g.p ≡ g.p - 1 + 1 = omega (arith, c.loop-p-test.true) in
    λ r t.
    subst (λ (k : ℕ). Found r c.args.rows.now.sets k (bit_or g.live c.chosen-live.result) (bit_or g.entered c.chosen-entered.result)) e
    (next-found t (omega arith) (g.invariant r t) c.bit-here.ensures c.chosen-live.ensures c.chosen-entered.ensures)

pub returns-2 : goal.returns-2
returns-2 c =
    let g = c.loop-p in
    λ r t k.
    (next-found t (omega arith) (g.invariant r t) c.bit-here.ensures c.chosen-live.ensures c.chosen-entered.ensures).found k (omega (arith, c.loop-p-test))
