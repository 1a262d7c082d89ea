use Prim.Native.Nat.{◌+◌}
use native.Mathlib.Omega.{arith}
use Rattle.rules.proofs.Walking.{subjects-many, a-subject, claimed, all-claimed, few-asked, one_more, goes_on, goes_to, ends}
use Rattle.rules.proofs.cursor.Cursor.next_claim.Goals as goal

pub overflow_add-self : goal.overflow_add-self
overflow_add-self c = let (S, x, (xs, h)) = c.requires in omega (arith, few-asked (c.loop-claim.invariant.1 S xs x h))

pub returns-in-Some : goal.returns-in-Some
returns-in-Some c =
    let (S, x, (xs, h)) = c.requires in
    let inv = c.loop-claim.invariant in
    let left = inv.1 S xs x h in
    record {
      next = λ S xs x h.
          let left = inv.1 S xs x h in
          goes_on left (claimed (c.claim_of.ensures _ S left.own left.subject_is) c.in-Some.is);
      nearer = λ some. omega (arith, inv.0, one_more left (claimed (c.claim_of.ensures _ S left.own left.subject_is) c.in-Some.is));
    }

pub returns-then-last-self-clause-next : goal.returns-then-last-self-clause-next
returns-then-last-self-clause-next c =
    λ S xs x h.
    let left = c.loop-claim.invariant.1 S xs x h in
    (ends left (all-claimed (c.claim_of.ensures _ S left.own left.subject_is) c.in_default.is) (omega (arith, subjects-many x, c.if-last-self.true)), left)

pub loop-claim-preserved : goal.loop-claim-preserved
loop-claim-preserved c =
    let inv = c.loop-claim.invariant in (
      omega (arith, inv.0, c.if-last-self.false),
      λ S xs x h.
          let left = inv.1 S xs x h in
          let (own, nth) = a-subject x (c.loop-claim.self.number + 1) (omega (arith, c.if-last-self.false)) in
          goes_to left (all-claimed (c.claim_of.ensures _ S left.own left.subject_is) c.in_default.is) own (c.subject_at-self.ensures S own x nth) nth,
    )
