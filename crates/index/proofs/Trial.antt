-- Testing rules one after the other: laws, and the verdict that it comes to.
use mathlib.Core.Path.{◌≡◌, refl, sym, ap, ◌∙◌}
use mathlib.Core.List.{List, [], ◌∷◌, ◌++◌, map}
use Prim.Native.Nat.{ℕ, ◌+◌}
use native.Mathlib.Omega.{arith}
use lib.ListN.{length}
use Rattle.certificate.specs.Certificate.{Certificate, Finding, fine, found}
use Rattle.sheet_laws.specs.AtOffset.{certificate_at}
use Rattle.sheet_laws.proofs.Certified.{Chain, no_certificate, a_certificate_more}
use Rattle.runs.specs.Rules.{Claim, ◌is_in◌, holds_empty, Rule, ◌of◌says◌}
use Rattle.verdict.specs.Verdict.{Report, test_of, needed, certificates_needed, left_after, next_of, reported, first_fault}
use Rattle.verdict.proofs.Judged.{needed-is, first_is}
use Rattle.index.specs.Trial.{Trial, passed, failed, after_certificate, after_test, try_rules, report_on}

-- what a trial leads to: the trial of what is left, from the offset that it ends at, or its fault
abbrev pub onward : Trial → (ℕ → Trial) → Trial
onward (passed at) more = more at
onward (failed r k f) more = failed r k f

module _ (events : ℕ) (s : List ℕ) where
  abbrev pub trial : List Rule → ℕ → Trial
  trial xs at = try_rules events s xs at

  trial-is : (x : Rule) (xs : List Rule) (at : ℕ)
      → trial (x ∷ xs) at ≡ after_test x (test_of events x.claim (certificate_at s at)) (trial xs (after_certificate s x.claim at))
  unfolding try_rules
  trial-is x xs at = refl

  pub no-rules : (at : ℕ) → trial [] at ≡ passed at
  unfolding try_rules
  no-rules at = refl

  after-onward : (x : Rule) (f : Finding) (t : Trial) (more : ℕ → Trial) → after_test x f (onward t more) ≡ onward (after_test x f t) more
  after-onward x fine t more = refl
  after-onward x (found f) t more = refl

  -- some rules and then others
  pub trial-append : (xs ys : List Rule) (at : ℕ) → trial (xs ++ ys) at ≡ onward (trial xs at) (trial ys)
  trial-append [] ys at = ap (λ (t : Trial). onward t (trial ys)) (sym (no-rules at))
  trial-append (x ∷ xs) ys at =
      trial-is x (xs ++ ys) at
      ∙ ap (after_test x (test_of events x.claim (certificate_at s at))) (trial-append xs ys (after_certificate s x.claim at))
      ∙ after-onward x (test_of events x.claim (certificate_at s at)) (trial xs (after_certificate s x.claim at)) (trial ys)
      ∙ ap (λ (t : Trial). onward t (trial ys)) (sym (trial-is x xs at))

  -- one rule
  pub trial-one : (x : Rule) (at : ℕ) → trial (x ∷ []) at ≡ after_test x (test_of events x.claim (certificate_at s at)) (passed (after_certificate s x.claim at))
  trial-one x at = trial-is x [] at ∙ ap (after_test x (test_of events x.claim (certificate_at s at))) (no-rules (after_certificate s x.claim at))

-- With certificates that stand one after the other, as many as the rules need, the first fault is the trial's.
module _ (events : ℕ) (s : List ℕ) (otherwise : Report) where
  abbrev standing : List ℕ → List Certificate
  standing os = map (λ o. certificate_at s o) os

  report-after : (x : Rule) (f : Finding) (t : Trial) → reported x f (report_on otherwise t) ≡ report_on otherwise (after_test x f t)
  report-after x fine t = refl
  report-after x (found f) t = refl

  module _ (end : ℕ) where
    module _ (n k : ℕ) (xs : List Rule)
        (rest : (at : ℕ) (os : List ℕ) → Chain s end at os → length os ≡ certificates_needed xs
        → first_fault events xs (standing os) otherwise ≡ report_on otherwise (try_rules events s xs at)) where
      -- the next rule takes the next certificate, if it needs one
      next-chained : (claim : Claim) {at : ℕ} {os : List ℕ} → Chain s end at os → length os ≡ needed claim + certificates_needed xs
          → reported (n of k says claim) (test_of events claim (next_of (standing os))) (first_fault events xs (left_after claim (standing os)) otherwise)
          ≡ report_on otherwise (after_test (n of k says claim) (test_of events claim (certificate_at s at)) (try_rules events s xs (after_certificate s claim at)))
      next-chained (a is_in b) no_certificate l = absurd (omega arith)
      next-chained (a is_in b) (a_certificate_more {at = at} {os = os} t) l =
          ap (reported (n of k says a is_in b) (test_of events (a is_in b) (certificate_at s at))) (rest _ os t (omega arith))
          ∙ report-after (n of k says a is_in b) (test_of events (a is_in b) (certificate_at s at)) (try_rules events s xs (after_certificate s (a is_in b) at))
      next-chained (holds_empty a) {at} {os} t l =
          ap (reported (n of k says holds_empty a) (test_of events (holds_empty a) [])) (rest at os t (omega arith))
          ∙ report-after (n of k says holds_empty a) (test_of events (holds_empty a) []) (try_rules events s xs at)

    pub tried-chained : (xs : List Rule) {at : ℕ} {os : List ℕ} → Chain s end at os → length os ≡ certificates_needed xs
        → first_fault events xs (standing os) otherwise ≡ report_on otherwise (try_rules events s xs at)
    unfolding first_fault
    tried-chained [] {at} t l = ap (report_on otherwise) (sym (no-rules events s at))
    tried-chained (x ∷ xs) {at} {os} t l =
        first_is events otherwise x xs (standing os)
        ∙ next-chained x.number x.subject xs (λ at os. tried-chained xs {at = at} {os = os}) x.claim t (l ∙ needed-is x xs)
        ∙ ap (report_on otherwise) (sym (trial-is events s x xs at))
