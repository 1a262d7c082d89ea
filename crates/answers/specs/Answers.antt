-- The documents' numbers and values of each answer: "What the loader returns", "Seventeen rules", and document 02, Asks 2 and 4.
use Rattle.std.specs.Prelude.{ℕ}
use Rattle.verdict.specs.Verdict.{Report, accepted, refused, unproved}
use Rattle.verdict.specs.WordTest.{Answer, held, not_held, untested}
use Rattle.format.specs.Refusal.{number_of, place_of}
use Rattle.faults.specs.Fault.{fault_of}
use Rattle.answers.specs.declared.Rule.{Rule}
use Rattle.answers.specs.declared.Rule.TheVariants.{FirstPre, FirstFuture, EntryPast, EntryOwn, ExitOwn, ExitDue, EventPast, EventOwn, EventDue, CallPre, CallPast, CallOwn, CallFuture, CallDue, PassPast, PassOwn, PassDue, FailedPast, FailedOwn, FailedFuture, FailedDue, FailedExitOwn, FailedExitDue, FirstFailedFuture, StopDue, CallEntry}
use Rattle.answers.specs.declared.Verdict.{Verdict}
use Rattle.answers.specs.declared.Verdict.TheVariants.{Accepted, Refused as RefusedSheet, Unproved}
use Rattle.answers.specs.declared.WordAnswer.{WordAnswer}
use Rattle.answers.specs.declared.WordAnswer.TheVariants.{Yes, No, Refused as RefusedWord}

-- the number of a rule, 1 to 26
abbrev pub rule_number : Rule → ℕ
rule_number (FirstPre k) = 1
rule_number (FirstFuture k) = 2
rule_number (EntryPast k) = 3
rule_number (EntryOwn k) = 4
rule_number (ExitOwn k) = 5
rule_number (ExitDue k) = 6
rule_number (EventPast k) = 7
rule_number (EventOwn k) = 8
rule_number (EventDue k) = 9
rule_number (CallPre k) = 10
rule_number (CallPast k) = 11
rule_number (CallOwn k) = 12
rule_number (CallFuture k) = 13
rule_number (CallDue k) = 14
rule_number (PassPast k) = 15
rule_number (PassOwn k) = 16
rule_number (PassDue k) = 17
rule_number (FailedPast k) = 18
rule_number (FailedOwn k) = 19
rule_number (FailedFuture k) = 20
rule_number (FailedDue k) = 21
rule_number (FailedExitOwn k) = 22
rule_number (FailedExitDue k) = 23
rule_number (FirstFailedFuture k) = 24
rule_number (StopDue k) = 25
rule_number (CallEntry k) = 26

-- the number of a rule's method or step
abbrev pub rule_subject : Rule → ℕ
rule_subject (FirstPre k) = k
rule_subject (FirstFuture k) = k
rule_subject (EntryPast k) = k
rule_subject (EntryOwn k) = k
rule_subject (ExitOwn k) = k
rule_subject (ExitDue k) = k
rule_subject (EventPast k) = k
rule_subject (EventOwn k) = k
rule_subject (EventDue k) = k
rule_subject (CallPre k) = k
rule_subject (CallPast k) = k
rule_subject (CallOwn k) = k
rule_subject (CallFuture k) = k
rule_subject (CallDue k) = k
rule_subject (PassPast k) = k
rule_subject (PassOwn k) = k
rule_subject (PassDue k) = k
rule_subject (FailedPast k) = k
rule_subject (FailedOwn k) = k
rule_subject (FailedFuture k) = k
rule_subject (FailedDue k) = k
rule_subject (FailedExitOwn k) = k
rule_subject (FailedExitDue k) = k
rule_subject (FirstFailedFuture k) = k
rule_subject (StopDue k) = k
rule_subject (CallEntry k) = k

-- the report, and the word test's answer, that a value of the code stands for
abbrev pub report_of : Verdict → Report
report_of (Accepted n) = accepted n
report_of (RefusedSheet x) = refused (number_of x) (place_of x)
report_of (Unproved r f) = unproved (rule_number r) (rule_subject r) (fault_of f)

abbrev pub answer_of : WordAnswer → Answer
answer_of Yes = held
answer_of (No n) = not_held n
answer_of (RefusedWord x) = untested (number_of x) (place_of x)
