-- What the loader returns: document 01, "What the loader returns".
use Rattle.std.specs.Prelude.{ℕ, cond, List, [], ◌∷◌, length, eqb}
use Rattle.std.proofs.Math.Option.{Option, some}
use Rattle.condition.specs.Exchange.{exchange}
use Rattle.condition.specs.Places.{nullable}
use Rattle.certificate.specs.Certificate.{Certificate, Fault, Finding, fine, found, fault, unless, check}
use Rattle.sheet.specs.Model.{Model}
use Rattle.sheet.specs.Sheet.{Sheet}
use Rattle.sheet.specs.Reading.{is_new, ReadResult, whole, refusal, read_sheet}
use Rattle.sheet.specs.Decode.{sheet_read}
use Rattle.runs.specs.Rules.{Claim, ◌is_in◌, holds_empty, Rule, rules, total, count}

-- what the loader returns: the rows of document 01's table
pub data Report : Type 0 where
  -- "accepted, count"
  accepted : (count : ℕ) → Report
  -- a refusal's number, and its place where it has one
  refused : (number : ℕ) (at : Option ℕ) → Report
  -- "11, rule, subject, clause, pair, event, place"
  unproved : (rule subject : ℕ) → Fault → Report

-- One rule's test -------------------------------------------------------------------------------------------------------

-- "passes all rule tests": by its certificate, or, "Clause 5 is for rules without a certificate", by the empty word
abbrev pub test_of : ℕ → Claim → Certificate → Finding
test_of events (a is_in b) c = check events a b c
test_of events (holds_empty a) c = unless (nullable a) (fault 5 0 0 0)

-- "Rules 3, 5, 6 and 7 to 17 have a certificate each, in that order"; of 18 to 24, "24 has no certificate": how many certificates a claim needs
abbrev pub needed : Claim → ℕ
needed (a is_in b) = 1
needed (holds_empty a) = 0

-- and how many a list of rules needs
unfoldable pub certificates_needed : List Rule → ℕ
unfolding total
certificates_needed xs = total (λ x. needed x.claim) xs

-- the next certificate, and those that a claim leaves for the rules after it
abbrev pub next_of : List Certificate → Certificate
next_of [] = []
next_of (c ∷ cs) = c

abbrev pub all_but_next : List Certificate → List Certificate
all_but_next [] = []
all_but_next (c ∷ cs) = cs

abbrev pub left_after : Claim → List Certificate → List Certificate
left_after (a is_in b) cs = all_but_next cs
left_after (holds_empty a) cs = cs

-- The verdict -----------------------------------------------------------------------------------------------------------

-- the report of a rule's fault, and without one that of what comes after
abbrev pub reported : Rule → Finding → Report → Report
reported x fine after = after
reported x (found f) after = unproved x.number x.subject f

-- 11: "well formed, and this is the first fault"; with no fault, the report `otherwise`
unfoldable pub first_fault : ℕ → List Rule → List Certificate → Report → Report
first_fault events [] cs otherwise = otherwise
first_fault events (x ∷ xs) cs otherwise =
    let after = first_fault events xs (left_after x.claim cs) otherwise in
    reported x (test_of events x.claim (next_of cs)) after

-- 10, "length": "certificates are more or fewer than the rules need"; "accepted, count": "every rule is met"
unfoldable pub judged : Model → List ℕ → Sheet → Report
unfolding exchange rules count certificates_needed check nullable first_fault
judged M s S =
    let first = first_fault M.events (rules S) S.certificates (accepted (count S)) in
    cond (eqb (length S.certificates) (certificates_needed (rules S))) first (refused 10 (some (length s)))

-- 1 to 9, 18 to 20 and 24 to 26 end reading; a sheet that is read whole is judged
unfoldable pub verdict_after : Model → List ℕ → ReadResult → Report
unfolding judged
verdict_after M s (refusal n at r) = refused n (some at)
verdict_after M s (whole r) = judged M s (sheet_read (is_new s) r.own)

-- what the loader returns for the bytes s
unfoldable pub verdict_of : Model → List ℕ → Report
unfolding read_sheet verdict_after
verdict_of M s = verdict_after M s (read_sheet M s)
