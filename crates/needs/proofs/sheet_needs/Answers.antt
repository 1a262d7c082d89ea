use Prim.Native.Nat.{◌+◌, ◌≤◌}
use native.Mathlib.Omega.{arith}
use Rattle.rules.proofs.Groups.{rules-together}
use Rattle.needs.proofs.Summed.{few-rules, few-certificates, all-summed, few-together, next-summed}
use Rattle.rules.proofs.Walking.{subjects-many}
use Rattle.needs.proofs.sheet_needs.Goals as goal

pub overflow_add-all : goal.overflow_add-all
overflow_add-all c =
    let (S, h) = c.requires in
    let (cs, ps, x) = h in
    let more = next-summed x (c.loop-number.invariant S h) c.loop-number-test.true (λ xs. c.needs_at-needs.ensures S xs h) in
    omega (arith, few-rules more, few-together x)

pub overflow_add-all-in-loop-number : goal.overflow_add-all-in-loop-number
overflow_add-all-in-loop-number c =
    let (S, h) = c.requires in
    let (cs, ps, x) = h in
    let more = next-summed x (c.loop-number.invariant S h) c.loop-number-test.true (λ xs. c.needs_at-needs.ensures S xs h) in
    omega (arith, few-certificates more, few-together x)

pub loop-number-preserved : goal.loop-number-preserved
loop-number-preserved c =
    λ S h.
    let (cs, ps, x) = h in
    next-summed x (c.loop-number.invariant S h) c.loop-number-test.true (λ xs. c.needs_at-needs.ensures S xs h)

pub returns-2 : goal.returns-2
returns-2 c =
    λ S h.
    let (cs, ps, x) = h in
    let more = next-summed x (c.loop-number.invariant S h) c.loop-number-test.true (λ xs. c.needs_at-needs.ensures S xs h) in
    let last : c.args.x.counts.methods + c.args.x.counts.steps ≤ c.loop-number.number = omega arith in
    rw (rules-together S) at (all-summed more (omega (arith, subjects-many x, last)))
