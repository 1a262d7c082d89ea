-- Symbols that stand record after record from an offset on, and the condition that they stand for.
use mathlib.Core.Path.{◌≡◌, refl, ap, ◌∙◌}
use mathlib.Core.Option.{Option, none, some}
use mathlib.Core.List.{List, [], ◌∷◌, ◌++◌}
use Prim.Native.Nat.{ℕ, zero, suc, ◌+◌, ◌≤◌, ◌<◌}
use native.Mathlib.Nat.{le_of_suc-le-suc, not-suc-le-zero}
use native.Mathlib.Omega.{arith}
use lib.ListN.{length}
use Rattle.condition.specs.Condition.{Condition, leaf, empty, join, either, star}
use Rattle.condition.specs.Places.{leaves}
use Rattle.sheet.specs.Record.{next_at}
use Rattle.sheet_laws.specs.AtOffset.{Symbol, leaf_symbol, empty-symbol, join-symbol, either-symbol, star-symbol, symbol_at, in_front, symbols_on, symbols_at, postfix}
use Rattle.sheet_laws.proofs.Take.{next-lt}

-- Symbols in the bytes --------------------------------------------------------------------------------------------------

-- these symbols stand record after record from an offset on, and the record after them at the offset `end`
pub data SymbolsTo (s : List ℕ) (end : ℕ) : ℕ → List Symbol → Type 0 where
  no_symbol : SymbolsTo s end end []
  a_symbol : {at : ℕ} {ys : List Symbol} (y : Symbol) → symbol_at s at ≡ some y → SymbolsTo s end (next_at s at) ys → SymbolsTo s end at (y ∷ ys)

on-is : (s : List ℕ) (fuel at : ℕ) → symbols_on s (suc fuel) at ≡ in_front (symbol_at s at) (symbols_on s fuel (next_at s at))
unfolding symbols_on
on-is s fuel at = refl

module _ (s : List ℕ) (end : ℕ) where
  pub one-symbol-more : {at : ℕ} {ys : List Symbol} (y : Symbol) → symbol_at s end ≡ some y → SymbolsTo s end at ys
      → SymbolsTo s (next_at s end) at (ys ++ (y ∷ []))
  one-symbol-more y is no_symbol = a_symbol y is no_symbol
  one-symbol-more y is (a_symbol x e t) = a_symbol x e (one-symbol-more y is t)

  symbols-bytes : {at : ℕ} {ys : List Symbol} → SymbolsTo s end at ys → at + length ys ≤ end
  symbols-bytes no_symbol = omega arith
  symbols-bytes (a_symbol {at = at} y e t) = omega (arith, next-lt s at, symbols-bytes t)

  symbols-on : symbol_at s end ≡ none → (fuel : ℕ) {at : ℕ} {ys : List Symbol} → length ys < fuel → SymbolsTo s end at ys → symbols_on s fuel at ≡ ys
  symbols-on closes zero h t = absurd (not-suc-le-zero h)
  symbols-on closes (suc fuel) h no_symbol = on-is s fuel end ∙ ap (λ (x : Option Symbol). in_front x (symbols_on s fuel (next_at s end))) closes
  symbols-on closes (suc fuel) h (a_symbol {at = at} y e t) =
      on-is s fuel at
      ∙ ap (λ (x : Option Symbol). in_front x (symbols_on s fuel (next_at s at))) e
      ∙ ap (λ (ys : List Symbol). y ∷ ys) (symbols-on closes fuel (le_of_suc-le-suc h) t)

-- the condition c stands at an offset inside the sheet, in postfix order, with at most 96 symbols and 31 leaves
pub record Stands (s : List ℕ) (o : ℕ) (c : Condition) : Type 0 where
  pub in_postfix : symbols_at s o ≡ postfix c
  pub inside : o < length s
  pub few_symbols : length (postfix c) ≤ 96
  pub few_leaves : leaves c ≤ 31

pub stands : (s : List ℕ) (o end : ℕ) (c : Condition) → SymbolsTo s end o (postfix c) → symbol_at s end ≡ none → end < length s
    → length (postfix c) ≤ 96 → leaves c ≤ 31 → Stands s o c
unfolding symbols_at
stands s o end c t closes inside few few' =
    let before = symbols-bytes s end t in
    record { in_postfix = symbols-on s end closes (length s) (omega arith) t; inside = omega arith; few_symbols = few; few_leaves = few' }

-- Symbols of items --------------------------------------------------------------------------------------------------------

-- the symbols of items, the last item first: their postfix forms, one after another
unfoldable pub symbols_in : List Condition → List Symbol
symbols_in [] = []
symbols_in (a ∷ items) = symbols_in items ++ postfix a

abbrev pub leaf_count : Symbol → ℕ
leaf_count (leaf_symbol t) = 1
leaf_count empty-symbol = 0
leaf_count join-symbol = 0
leaf_count either-symbol = 0
leaf_count star-symbol = 0

unfoldable pub leaves_in : List Symbol → ℕ
leaves_in [] = 0
leaves_in (y ∷ ys) = leaf_count y + leaves_in ys

pub leaves-append : (xs ys : List Symbol) → leaves_in (xs ++ ys) ≡ leaves_in xs + leaves_in ys
unfolding leaves_in
leaves-append [] ys = omega arith
leaves-append (x ∷ xs) ys = omega (arith, leaves-append xs ys)

pub leaves-postfix : (c : Condition) → leaves_in (postfix c) ≡ leaves c
unfolding leaves_in postfix leaves
leaves-postfix (leaf t) = refl
leaves-postfix empty = refl
leaves-postfix (join a b) = simp (leaves-append, leaves-postfix a, leaves-postfix b) (omega arith)
leaves-postfix (either a b) = simp (leaves-append, leaves-postfix a, leaves-postfix b) (omega arith)
leaves-postfix (star a) = simp (leaves-append, leaves-postfix a) (omega arith)
