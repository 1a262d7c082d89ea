use mathlib.Core.Path.{refl, subst}
use Prim.Native.Nat.{ℕ}
use native.Mathlib.Nat.{le_antisymm}
use native.Mathlib.Omega.{arith}
use Rattle.meets.proofs.Groups.{Gone, gone-none, gone-more, gone-all}
use borrow.Author.Rules.{rules}
use Rattle.meets.proofs.meet_groups.Goals as goal

pub loop-g-init : goal.loop-g-init
loop-g-init c = λ r. gone-none _ _ _

pub loop-g-preserved : goal.loop-g-preserved
loop-g-preserved c = λ r. gone-more _ _ _ r (omega arith) refl (c.loop-g.invariant r)

pub returns : goal.returns
returns c =
    λ r.
    let a = c.args in
    let w = c.loop-g in
    gone-all a.m a.sets.now a.set
    (subst (λ (g : ℕ). Gone a.m a.sets.now a.set g w.events) (le_antisymm w.auto.g-end c.loop-g-test.false) (w.invariant r))
    (search rules)
