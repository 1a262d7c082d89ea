-- One record of a condition, as the code takes it.
use Rattle.std.specs.Prelude.{Result, Ok, Err, ℕ, ◌+◌, ◌-◌, ◌≤◌, Bool, cond, ◌&&◌, ltb, leb, eqb}
use Rattle.sheet.specs.Model.{condition_limit, symbol_limit, leaf_limit}
use Rattle.sheet.specs.Kind.{kind_of}
use Rattle.format.specs.declared.Refusal.{Refusal}
use Rattle.format.specs.declared.Refusal.TheVariants.{WrongItems, OverLimit}
use Rattle.kinds.specs.Kinds.{counts_one, takes_items, leaf_kind}
use Rattle.refusals.specs.declared.Begun.{Begun}

-- outside a condition
abbrev pub nothing_begun : Begun
nothing_begun = record { items = 0; symbols = 0; leaves = 0 }

-- each record adds an item or a leaf at most
pub record Modest (b : Begun) : Type 0 where
  pub items : b.items ≤ b.symbols
  pub leaves : b.leaves ≤ b.symbols

-- how many items a record of a kind takes, and how many leaves it has
abbrev pub items_of_kind : ℕ → ℕ
items_of_kind kind = takes_items (kind_of kind).role

abbrev pub leaves_of_kind : ℕ → ℕ
leaves_of_kind kind = cond (leaf_kind kind) 1 0

-- a symbol: refusals 5 and 6, or one more symbol and its item
abbrev pub symbol_step : Begun → ℕ → ℕ → Result Begun Refusal
symbol_step b kind at =
    cond (ltb b.items (items_of_kind kind)) (Err (WrongItems at))
    (cond (leb symbol_limit b.symbols) (Err (OverLimit at))
    (cond (leaf_kind kind && leb leaf_limit b.leaves) (Err (OverLimit at))
    (Ok (record { items = b.items - items_of_kind kind + 1; symbols = b.symbols + 1; leaves = b.leaves + leaves_of_kind kind }))))

-- the end of a condition, past n conditions: refusals 5 and 6, or nothing is begun
abbrev pub end_step : Begun → ℕ → ℕ → Result Begun Refusal
end_step b n at =
    cond (eqb b.items 1) (cond (leb condition_limit n) (Err (OverLimit at)) (Ok nothing_begun)) (Err (WrongItems at))

-- of the records of a condition its end counts
abbrev pub ends_one : ℕ → Bool
ends_one kind = counts_one (kind_of kind).role

-- a record of a condition
abbrev pub condition_step : Begun → ℕ → ℕ → ℕ → Result Begun Refusal
condition_step b kind n at = cond (ends_one kind) (end_step b n at) (symbol_step b kind at)
