use mathlib.Core.Path.{refl, ap}
use mathlib.Core.Option.{Option}
use Prim.Native.Nat.{ℕ}
use Rattle.runs.specs.Rules.{if_any, entry_rules}
use Rattle.index.proofs.There.{enters}
use Rattle.claims.proofs.Kth.{kth-says, kth-as}
use Rattle.step_claims.proofs.entry_claim.Goals as goal

pub returns-in-0 : goal.returns-in-0
returns-in-0 c =
    λ s S t e p is.
    let x = enters s S e c.in_ok-due.was is in
    kth-as (ap (λ (e : Option ℕ). if_any e (entry_rules S c.args.i t)) x.is)
    (kth-says c.in-0.is refl (c.inclusion.ensures s _ _ x.has p.due_stands))
