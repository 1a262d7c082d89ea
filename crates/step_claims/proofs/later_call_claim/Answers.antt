use mathlib.Core.Path.{refl, ap}
use mathlib.Core.Option.{Option}
use mathlib.Core.List.{List, ◌++◌}
use Prim.Native.Nat.{ℕ}
use native.Mathlib.Omega.{arith}
use Rattle.sheet.specs.Sheet.{failed, CallStep, Sheet}
use Rattle.runs.specs.Rules.{Rule, if_any, return_rules, entry_asked, entry_rules}
use Rattle.index.proofs.There.{never, fails_by}
use Rattle.claims.proofs.Kth.{named, kth-as, kth-upto, kth-from}
use Rattle.step_claims.proofs.later_call_claim.Goals as goal

-- 18 to 21, if there is a failed target, and 26
abbrev later : Sheet → ℕ → CallStep → Option ℕ → List Rule
later S i t e = if_any e (return_rules S 18 i t failed) ++ if_any (entry_asked S t.method) (entry_rules S i t)

pub returns-in_default : goal.returns-in_default
returns-in_default c =
    λ s S t is.
    kth-as (ap (later S c.args.call.step t) (never s S t.failed_to _ c.in_default.is is.failing_is))
    (c.entry_claim.ensures s S t (entry_asked S t.method) is.from_is is.entered_is)

pub returns-then-k-lt4 : goal.returns-then-k-lt4
returns-then-k-lt4 c =
    λ s S t is.
    let x = fails_by s S t.failed_to _ c.in-Some.is is.failing_is in
    kth-as (ap (later S c.args.call.step t) x.is)
    (kth-upto refl c.if-k-lt4.true
    (c.return_claim.ensures s S 18 _ x.point t failed (record { past_is = named; own_is = named; future_is = named; due_is = named })
    is.channel_is is.from_is x.has))

pub returns : goal.returns
returns c =
    λ s S t is.
    let x = fails_by s S t.failed_to _ c.in-Some.is is.failing_is in
    kth-as (ap (later S c.args.call.step t) x.is)
    (kth-from 4 refl (omega (arith, c.if-k-lt4.false)) (c.entry_claim-2.ensures s S t (entry_asked S t.method) is.from_is is.entered_is))
