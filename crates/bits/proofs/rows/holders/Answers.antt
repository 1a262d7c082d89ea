use Prim.Native.Nat.{ℕ}
use mathlib.Core.Path.{◌∙◌, ap₂}
use mathlib.Core.Bool.{Bool, cond}
use native.Mathlib.Omega.{arith}
use Rattle.bits.proofs.Filling.{holders-none, holders-more}
use Rattle.bits.proofs.rows.holders.Goals as goal

pub loop-q-init : goal.loop-q-init
loop-q-init c = holders-none c.args.rows.now c.args.n c.args.k

pub loop-q-preserved : goal.loop-q-preserved
loop-q-preserved c =
    holders-more c.loop-q.invariant (omega arith)
    (c.chosen-found.ensures ∙ ap₂ (λ (x : Bool) (y : ℕ). cond x y 0) c.member.ensures c.bit.ensures)

pub returns-2 : goal.returns-2
returns-2 c = λ q h l.
    let more = holders-more c.loop-q.invariant (omega arith)
    (c.chosen-found.ensures ∙ ap₂ (λ (x : Bool) (y : ℕ). cond x y 0) c.member.ensures c.bit.ensures) in
    more.below q h (omega arith)
