-- The numbers of the reader's answer, for a sheet that is read whole and for a refusal.
use Rattle.std.specs.Prelude.{ℕ, List, Result, Ok, Err}
use Rattle.format.specs.declared.Refusal.{Refusal}
use Rattle.format.specs.Refusal.{number_of, place_of}
use Rattle.tally.specs.Tally.{count_of}
use Rattle.sections.specs.declared.Contents.{Contents}
use Rattle.verdict.specs.Verdict.{refused}
use Rattle.numbers.specs.Numbers.{tally_reply, numbers_of, report_numbers}

abbrev pub numbers_read : Result Contents Refusal → List ℕ
numbers_read (Ok c) = numbers_of 1 (tally_reply (count_of c.tally))
numbers_read (Err x) = report_numbers (refused (number_of x) (place_of x))
