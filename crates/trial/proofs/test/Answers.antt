use mathlib.Core.Path.{◌≡◌, ap, ◌∙◌}
use mathlib.Core.List.{List}
use Prim.Native.Nat.{ℕ, suc, ◌+◌, ◌*◌}
use native.Mathlib.Omega.{arith}
use lib.ListN.{length}
use Rattle.certificate.specs.Certificate.{fine, check}
use Rattle.sheet_laws.specs.AtOffset.{certificate_at}
use Rattle.index.specs.Trial.{passed}
use Rattle.pairs.proofs.Laws.{certificate-part}
use Rattle.trial.proofs.Laws.{asks-inclusion, asks-empty, trial-finds, tries-as}
use Rattle.trial.proofs.test.Goals as goal
use Rattle.trial.proofs.test.Goals.{After-first_fault}

-- the certificate of the part
part_is : (c : After-first_fault) → certificate_at c.part_from.result.now 0 ≡ certificate_at c.args.s.now c.args.trial.at
part_is c = let a = c.args in ap (λ (x : List ℕ). certificate_at x 0) c.part_from.ensures ∙ certificate-part a.s.now a.trial.at

pub returns-in-Ok-clause-tried : goal.returns-in-Ok-clause-tried
returns-in-Ok-clause-tried c =
    λ x q.
    let a = c.args in
    let h = asks-inclusion _ _ x c.in-Inclusion.is q in
    let next : a.trial.at + c.in-Ok.bytes ≡ suc (a.trial.at + 6 * length (certificate_at a.s.now a.trial.at)) =
    omega (arith, c.in-Ok.ensures.bytes.bytes_are, ap length (part_is (goal.at.returns-in-Ok-clause-tried c).After-first_fault)) in
    tries-as h.rule_is
    (record {
      comes_to =
          ap passed next
          ∙ trial-finds _ _ _ _ fine
          (c.in-Ok.ensures.finding _ _ h.left_is h.right_is ∙ ap (check _ _ _) (part_is (goal.at.returns-in-Ok-clause-tried c).After-first_fault));
    })

pub returns-in-Err-clause-tried : goal.returns-in-Err-clause-tried
returns-in-Err-clause-tried c =
    λ x q.
    let h = asks-inclusion _ _ x c.in-Inclusion.is q in
    tries-as h.rule_is
    (record {
      comes_to =
          trial-finds _ _ _ _ _
          (c.in-Err.ensures.finding _ _ h.left_is h.right_is ∙ ap (check _ _ _) (part_is (goal.at.returns-in-Err-clause-tried c).After-first_fault));
    })

pub returns-in-HoldsEmpty-clause-tried : goal.returns-in-HoldsEmpty-clause-tried
returns-in-HoldsEmpty-clause-tried c =
    λ x q.
    let h = asks-empty _ _ x c.in-HoldsEmpty.is q in
    tries-as h.rule_is (c.empty_word.ensures _ _ _ _ _ h.part_is)
