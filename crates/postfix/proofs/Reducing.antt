-- Symbols in postfix order, from the items before them on, leave one item; and the symbols from an offset on.
use mathlib.Core.Path.{◌≡◌, refl, subst}
use mathlib.Core.Option.{none, some}
use mathlib.Core.List.{List, [], ◌∷◌, ◌++◌, append_assoc, append-nil}
use Prim.Native.Nat.{ℕ, zero, suc, ◌+◌, ◌-◌, ◌≤◌, ◌<◌}
use native.Mathlib.Omega.{arith}
use lib.ListN.{length}
use Rattle.condition.specs.Condition.{Condition, leaf, empty, join, either, star}
use Rattle.condition.specs.Places.{leaves}
use Rattle.sheet_laws.specs.AtOffset.{Symbol, leaf_symbol, empty-symbol, join-symbol, either-symbol, star-symbol}
use Rattle.sheet.specs.Record.{next_at}
use Rattle.sheet_laws.specs.AtOffset.{symbol_at}
use Rattle.sheet_laws.specs.AtOffset.{symbols_on, postfix}
use Rattle.format.specs.declared.symbols.Symbol as value
use Rattle.format.specs.Symbols.{symbol_of, items_taken, leaves_in}
use Rattle.items.specs.Stack.{Makes, a_leaf, an_empty, a_join, an_either, a_star}

-- What a symbol makes ----------------------------------------------------------------------------------------------------

-- the leaves of the items
abbrev pub total : List Condition → ℕ
total [] = 0
total (r ∷ rs) = total rs + leaves r

-- the items that it takes, at most two, are there, and how many items and leaves there are then
pub record Made (y : value.Symbol) (rs rs' : List Condition) : Type 0 where
  pub taken : items_taken y ≤ length rs
  pub few : items_taken y ≤ 2
  pub height : length rs' ≡ length rs + 1 - items_taken y
  pub count : total rs' ≡ total rs + leaves_in y

pub made : {y : value.Symbol} {rs rs' : List Condition} → Makes y rs rs' → Made y rs rs'
unfolding leaves
made a_leaf = record { taken = omega arith; few = omega arith; height = omega arith; count = omega arith }
made an_empty = record { taken = omega arith; few = omega arith; height = omega arith; count = omega arith }
made a_join = record { taken = omega arith; few = omega arith; height = omega arith; count = omega arith }
made an_either = record { taken = omega arith; few = omega arith; height = omega arith; count = omega arith }
made a_star = record { taken = omega arith; few = omega arith; height = omega arith; count = omega arith }

-- Reducing a postfix form -----------------------------------------------------------------------------------------------

-- the symbols, from the items on, leave the one item r
pub data Reduces : List Symbol → List Condition → Condition → Type 0 where
  done : {r : Condition} → Reduces [] (r ∷ []) r
  next : {y : Symbol} {ys : List Symbol} {rs rs' : List Condition} {r : Condition}
      → Makes (symbol_of y) rs rs' → Reduces ys rs' r → Reduces (y ∷ ys) rs r

-- the postfix form of q adds the item q
reduces-form : (q : Condition) {ys : List Symbol} {rs : List Condition} {r : Condition} → Reduces ys (q ∷ rs) r → Reduces (postfix q ++ ys) rs r
unfolding postfix
reduces-form (leaf x) h = next {y = leaf_symbol x} a_leaf h
reduces-form empty h = next {y = empty-symbol} an_empty h
reduces-form (join a b) h = simp append_assoc (reduces-form a (reduces-form b (next {y = join-symbol} a_join h)))
reduces-form (either a b) h = simp append_assoc (reduces-form a (reduces-form b (next {y = either-symbol} an_either h)))
reduces-form (star a) h = simp append_assoc (reduces-form a (next {y = star-symbol} a_star h))

pub reduces-postfix : (r : Condition) → Reduces (postfix r) [] r
reduces-postfix r = subst (λ (ys : List Symbol). Reduces ys [] r) (append-nil (postfix r)) (reduces-form r done)

pub reduces-leaves : {ys : List Symbol} {rs : List Condition} {r : Condition} → Reduces ys rs r → total rs ≤ leaves r
reduces-leaves done = omega arith
reduces-leaves (next m h) = let l = reduces-leaves h in omega (arith, (made m).count)

-- each symbol takes away at most one item
pub reduces-items : {ys : List Symbol} {rs : List Condition} {r : Condition} → Reduces ys rs r → length rs ≤ length ys + 1
reduces-items done = omega arith
reduces-items (next m h) = let l = reduces-items h in omega (arith, (made m).height, (made m).taken, (made m).few)

-- what the first symbol made, and what the others make of it
pub record Next (y : Symbol) (ys : List Symbol) (rs : List Condition) (r : Condition) : Type 0 where
  pub items : List Condition
  pub makes : Makes (symbol_of y) rs items
  pub reduced : Reduces ys items r

pub first_taken : {y : Symbol} {ys : List Symbol} {rs : List Condition} {r : Condition} → Reduces (y ∷ ys) rs r → Next y ys rs r
first_taken (next {rs' = items} m h) = record { items = items; makes = m; reduced = h }

pub done-taken : {rs : List Condition} {r : Condition} → Reduces [] rs r → rs ≡ r ∷ []
done-taken done = refl

-- The symbols from an offset on -----------------------------------------------------------------------------------------

-- they go on behind the record at the offset
pub record Onward (s : List ℕ) (at : ℕ) (y : Symbol) (ys : List Symbol) : Type 0 where
  pub fuel : ℕ
  pub symbols_are : ys ≡ y ∷ symbols_on s fuel (next_at s at)
  pub enough : length s ≤ next_at s at + fuel

module _ (s : List ℕ) (at : ℕ) where
  next-above : at < next_at s at
  unfolding next_at
  next-above = omega arith

  pub symbol-first : {y : Symbol} (fuel : ℕ) → symbol_at s at ≡ some y → at < length s → length s ≤ at + fuel
      → Onward s at y (symbols_on s fuel at)
  unfolding symbols_on
  symbol-first zero e i l = absurd (omega arith)
  symbol-first (suc fuel) e i l = record { fuel = fuel; symbols_are = rw e; enough = omega (arith, next-above) }

  pub no-symbols : (fuel : ℕ) → symbol_at s at ≡ none → symbols_on s fuel at ≡ []
  unfolding symbols_on
  no-symbols zero e = refl
  no-symbols (suc fuel) e = rw e
