-- The symbols of a condition as the code has them: what they stand for, what each takes and has, and where the next one stands.
use Rattle.std.specs.Prelude.{◌≡◌, true, List, ℕ, ◌+◌, ◌≤◌, ◌<◌, length, Option, None, Some, is_some}
use Rattle.std.proofs.Math.Option as math
use Rattle.sheet.specs.Record.{next_at}
use Rattle.sheet_laws.specs.AtOffset.{leaf_symbol, empty-symbol, join-symbol, either-symbol, star-symbol, symbol_at}
use Rattle.sheet_laws.specs.AtOffset as sheet
use Rattle.format.specs.declared.symbols.Symbol.{Symbol}
use Rattle.format.specs.declared.symbols.Symbol.TheVariants.{Leaf, Empty, Join, Either, Star}

-- a symbol of the code for each symbol of a sheet
abbrev pub symbol_of : sheet.Symbol → Symbol
symbol_of (leaf_symbol set) = Leaf set
symbol_of empty-symbol = Empty
symbol_of join-symbol = Join
symbol_of either-symbol = Either
symbol_of star-symbol = Star

-- a symbol as a value, and None where there is none
abbrev pub value_of : math.Option sheet.Symbol → Option Symbol
value_of math.none = None
value_of (math.some y) = Some (symbol_of y)

-- how many items a symbol takes: two of JOIN and EITHER, one of STAR
abbrev pub items_taken : Symbol → ℕ
items_taken (Leaf set) = 0
items_taken Empty = 0
items_taken Join = 2
items_taken Either = 2
items_taken Star = 1

-- how many leaves it has
abbrev pub leaves_in : Symbol → ℕ
leaves_in (Leaf set) = 1
leaves_in Empty = 0
leaves_in Join = 0
leaves_in Either = 0
leaves_in Star = 0

-- y is the symbol at the offset; its record stands in the sheet
pub record IsSymbolAt (s : List ℕ) (at : ℕ) (y : Option Symbol) : Type 0 where
  pub symbol_is : y ≡ value_of (symbol_at s at)
  pub inside : is_some y ≡ true → at < length s

-- the next record stands n bytes behind the symbol at the offset, if there is one; no symbol has more than nine
pub record IsBehind (s : List ℕ) (at n : ℕ) : Type 0 where
  pub next_is : is_some (value_of (symbol_at s at)) ≡ true → next_at s at ≡ at + n
  pub few : n ≤ 9
