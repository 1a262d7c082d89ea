-- The verdict, by what reading finds, by the number of certificates, and by the trial of the rules.
use mathlib.Core.Path.{◌≡◌, sym, ap, ◌∙◌}
use mathlib.Core.Bool.{cond}
use mathlib.Core.Option.{some}
use mathlib.Core.List.{List}
use Prim.Native.Nat.{ℕ}
use lib.ListN.{length, get_or}
use borrow.Author.Tests.{eq-eqb, ne_eqb}
use Rattle.certificate.specs.Certificate.{Certificate}
use Rattle.sheet.specs.Model.{Model}
use Rattle.sheet.specs.Kind.{certificates}
use Rattle.sheet.specs.Reading.{Reading, starts_of, whole, refusal, read_sheet}
use Rattle.sheet.specs.Decode.{sheet_of}
use Rattle.sheet_laws.proofs.Located.{certificates_are, certificates-counted}
use Rattle.sheet_laws.proofs.Certified.{Chain, no_certificate, a_certificate_more}
use Rattle.runs.specs.Rules.{rules, count}
use Rattle.verdict.specs.Verdict.{accepted, refused, certificates_needed, first_fault, verdict_after, verdict_of}
use Rattle.verdict.proofs.Loads.{verdict-is, after-whole, after-refusal, enough, first, judged-is}
use Rattle.index.specs.Trial.{try_rules, report_on}
use Rattle.index.proofs.Trial.{tried-chained}

module _ (M : Model) (s : List ℕ) where
  pub verdict-refused : (n at : ℕ) (r : Reading) → read_sheet M s ≡ refusal n at r → verdict_of M s ≡ refused n (some at)
  verdict-refused n at r h = verdict-is M s ∙ ap (verdict_after M s) h ∙ after-refusal M s n at r

  module _ (r : Reading) (h : read_sheet M s ≡ whole r) where
    by_number : verdict_of M s ≡ cond (enough M s (sheet_of M s)) (first M s (sheet_of M s)) (refused 10 (some (length s)))
    by_number = verdict-is M s ∙ ap (verdict_after M s) h ∙ after-whole M s r h ∙ judged-is M s (sheet_of M s)

    -- 10: "certificates are more or fewer than the rules need"
    pub verdict-miscounted : (length (starts_of (r.own certificates)) ≡ certificates_needed (rules (sheet_of M s)) → ⊥) → verdict_of M s ≡ refused 10 (some (length s))
    verdict-miscounted other =
        by_number
        ∙ ap (λ b. cond b (first M s (sheet_of M s)) (refused 10 (some (length s))))
        (ne_eqb _ _ (λ e. other (sym (certificates-counted M s r h) ∙ e)))

    module _ (end from : ℕ) (chain : Chain s end from (starts_of (r.own certificates))) where
      pub verdict-tried : length (starts_of (r.own certificates)) ≡ certificates_needed (rules (sheet_of M s))
          → verdict_of M s ≡ report_on (accepted (count (sheet_of M s))) (try_rules M.events s (rules (sheet_of M s)) from)
      verdict-tried same =
          by_number
          ∙ ap (λ b. cond b (first M s (sheet_of M s)) (refused 10 (some (length s)))) (eq-eqb _ _ (certificates-counted M s r h ∙ same))
          ∙ ap (λ (cs : List Certificate). first_fault M.events (rules (sheet_of M s)) cs (accepted (count (sheet_of M s)))) (certificates_are M s r h)
          ∙ tried-chained M.events s (accepted (count (sheet_of M s))) end (rules (sheet_of M s)) chain same

-- whichever offset stands for the first certificate where there is none
pub chained-from : {s : List ℕ} {end from : ℕ} {os : List ℕ} → Chain s end from os → (d : ℕ) → (end : ℕ) × Chain s end (get_or os 0 d) os
chained-from no_certificate d = (d, no_certificate)
chained-from {end = end} (a_certificate_more t) d = (end, a_certificate_more t)
