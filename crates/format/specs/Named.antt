-- A record that names others: a point, a method or a step.
use Rattle.std.specs.Prelude.{ℕ, ◌≤◌, ◌≡◌, List, length}
use Rattle.sheet.specs.Kind.{points, steps, section_of}
use Rattle.sheet.specs.Record.{byte_at, next_at}

-- a point, a method or a step of a kind stands at an offset, inside the sheet
pub record Named (s : List ℕ) (at kind : ℕ) : Type 0 where
  pub is : byte_at s at ≡ kind
  pub low : points ≤ section_of kind
  pub high : section_of kind ≤ steps
  pub inside : next_at s at ≤ length s
