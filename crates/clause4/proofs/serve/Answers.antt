use mathlib.Core.Path.{sym, subst}
use Prim.Native.Nat.{ℕ, ◌<◌}
use native.Mathlib.Omega.{arith}
use Rattle.looks.specs.Looks.{certificate_of}
use Rattle.clause4.specs.Clause4.{Hint}
use Rattle.clause4.proofs.Serving.{Going, going-inside, going-passed, going_more, served-all, served-stop, hint-at}
use Rattle.clause4.proofs.serve.Goals as goal
use Rattle.clause4.proofs.serve.Goals.{After-skip-i, Joined-looked, Then-i-to, then-looked+then-i-lowest, then-looked+else-i-lowest, else-looked}

-- the pairs up to the next one to look at are passed over
passed : (c : After-skip-i)
    → let a = c.args in
    let w = c.loop-missers in
    Going (certificate_of a.search.now) c.start_of-start.result a.search.now.scope.m a.ask.onward a.search.now.sets.now
    a.wanted a.missing.now c.skip-i.result w.to w.missers w.missing
passed c = going-passed _ _ _ _ _ _ _ c.loop-missers.invariant.0 c.skip-i.ensures.0 c.skip-i.ensures.1

-- where it is on the way, it is a pair
is-pair : (c : Then-i-to) → c.skip-i.result < c.args.search.now.scope.count
is-pair c = omega (
  arith,
  going-inside _ _ _ _ _ _ _ (going-passed _ _ _ _ _ _ _ c.loop-missers.invariant.0 c.skip-i.ensures.0 c.skip-i.ensures.1) c.if-i-to.true,
  c.requires.count_is,
)

-- where the next search may start
keeps-hint : (c : Joined-looked)
    → let a = c.args in
    Hint (certificate_of a.search.now) a.ask.onward a.wanted c.if-looked.lowest
keeps-hint c =
    let a = c.args in
    let w = c.loop-missers in
    let l = going-inside _ _ _ _ _ _ _ (going-passed _ _ _ _ _ _ _ w.invariant.0 c.skip-i.ensures.0 c.skip-i.ensures.1) c.if-i-to.true in
    let Start : ℕ → Type 0 = λ k. Hint (certificate_of a.search.now) a.ask.onward a.wanted k in
    elim c.if-looked.branch as (λ _. Start c.if-looked.lowest) [
      | then-looked+then-i-lowest u ↦ subst Start (sym u.lowest-is) (hint-at l w.invariant.0.among (c.look-looked.ensures.served (rw u.if-looked.true tt)))
      | then-looked+else-i-lowest u ↦ subst Start (sym u.lowest-is) w.invariant.1
      | else-looked u ↦ subst Start (sym u.lowest-is) w.invariant.1
    ]

pub loop-missers-preserved-then-i-to : goal.loop-missers-preserved-then-i-to
loop-missers-preserved-then-i-to c = (going_more _ _ _ _ _ _ _ (passed (goal.at.loop-missers-preserved-then-i-to c).After-skip-i) c.if-i-to.true c.look-looked.ensures.left, keeps-hint c)

pub returns-then-to-start-clause-rest : goal.returns-then-to-start-clause-rest
returns-then-to-start-clause-rest c = served-all _ _ _ _ _ _ _ (passed (goal.at.returns-then-to-start-clause-rest c).After-skip-i) c.if-i-to.false c.if-to-start.true

pub returns-clause-rest : goal.returns-clause-rest
returns-clause-rest c = served-stop _ _ _ _ _ _ _ c.loop-missers.invariant.0 c.loop-missers-test.false
