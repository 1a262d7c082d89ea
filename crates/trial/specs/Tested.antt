-- What an answer of the test of rules stands for.
use Rattle.std.specs.Prelude.{ℕ, ◌≡◌, List, Result, Ok, Err}
use Rattle.runs.specs.Rules as runs
use Rattle.faults.specs.Fault.{fault_of}
use Rattle.answers.specs.Answers.{rule_number, rule_subject}
use Rattle.index.specs.Trial.{Trial, passed, failed, try_rules}
use Rattle.trial.specs.declared.Failure.{Failure}

abbrev pub trial_of : Result ℕ Failure → Trial
trial_of (Ok at) = passed at
trial_of (Err f) = failed (rule_number f.rule) (rule_subject f.rule) (fault_of f.fault)

-- the answer is what testing the rules over so many events, with the certificates from an offset on, comes to
pub record Tries (events : ℕ) (s : List ℕ) (xs : List runs.Rule) (from : ℕ) (answer : Result ℕ Failure) : Type 0 where
  pub comes_to : trial_of answer ≡ try_rules events s xs from
