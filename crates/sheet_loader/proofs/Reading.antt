-- The numbers of the reader's answer are those of reading, and the first of them is the status.
use mathlib.Core.Path.{◌≡◌, refl}
use mathlib.Core.List.{List}
use Prim.Native.Nat.{ℕ}
use Rattle.sheet.specs.Model.{Model}
use Rattle.sheet.specs.Kind.{conditions, points, methods, steps, certificates}
use Rattle.sheet.specs.Reading.{read_sheet}
use Rattle.std.specs.Prelude.{Result, Ok, Err}
use Rattle.format.specs.declared.Refusal.{Refusal}
use Rattle.sections.specs.declared.Contents.{Contents}
use Rattle.reader.specs.Contract.{Answered}
use Rattle.numbers.specs.Numbers.{read_numbers}
use Rattle.sheet_loader.specs.Reading.{numbers_read}

pub read-numbers : (M : Model) (s : List ℕ) (r : Result Contents Refusal) → Answered M s r → numbers_read r ≡ read_numbers (read_sheet M s)
read-numbers M s (Ok c) a = rw (a.result, a.tally conditions, a.tally points, a.tally methods, a.tally steps, a.tally certificates) refl
read-numbers M s (Err x) a = rw (a.placed, a.result)
