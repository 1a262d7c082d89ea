-- Testing rules one after the other, with the certificates that stand in the sheet's bytes from an offset on: document 01, "Seventeen rules".
use Rattle.std.specs.Prelude.{ℕ, suc, ◌+◌, ◌*◌, List, [], ◌∷◌, length}
use Rattle.certificate.specs.Certificate.{Fault, Finding, fine, found, check}
use Rattle.condition.specs.Places.{nullable}
use Rattle.sheet_laws.specs.AtOffset.{certificate_at}
use Rattle.runs.specs.Rules.{Claim, ◌is_in◌, holds_empty, Rule}
use Rattle.verdict.specs.Verdict.{Report, unproved, test_of}

pub data Trial : Type 0 where
  -- each rule passes, and the next certificate starts at an offset
  passed : (at : ℕ) → Trial
  -- the first fault, of a rule and its subject
  failed : (rule subject : ℕ) → Fault → Trial

-- the offset behind the certificate of a claim, if it needs one: a pair is six bytes, the end of a certificate one
abbrev pub after_certificate : List ℕ → Claim → ℕ → ℕ
after_certificate s (a is_in b) at = suc (at + 6 * length (certificate_at s at))
after_certificate s (holds_empty a) at = at

abbrev pub after_test : Rule → Finding → Trial → Trial
after_test x fine more = more
after_test x (found f) more = failed x.number x.subject f

unfoldable pub try_rules : ℕ → List ℕ → List Rule → ℕ → Trial
unfolding certificate_at check nullable
try_rules events s [] at = passed at
try_rules events s (x ∷ xs) at =
    let more = try_rules events s xs (after_certificate s x.claim at) in
    after_test x (test_of events x.claim (certificate_at s at)) more

-- the report of a trial, and of one that passes the report `otherwise`
abbrev pub report_on : Report → Trial → Report
report_on otherwise (passed at) = otherwise
report_on otherwise (failed r k f) = unproved r k f
