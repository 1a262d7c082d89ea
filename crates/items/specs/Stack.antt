-- The stack on which the places of a condition are found from its postfix form. It has an item for each condition that is not yet part of a
-- larger one; the leaves of an item stand behind those of the items below it.
use Rattle.std.specs.Prelude.{◌≡◌, Bool, false, List, [], ◌∷◌, ℕ, suc, ◌+◌, ◌-◌, ◌≤◌, length, get_or}
use Rattle.bits.specs.Bits.{has}
use Rattle.condition.specs.Condition.{Condition, leaf, empty, join, either, star}
use Rattle.condition.specs.Places.{leaves, beside, leaf_set, nullable, first, last, follow}
use Rattle.format.specs.declared.symbols.Symbol.{Symbol}
use Rattle.format.specs.declared.symbols.Symbol.TheVariants.{Leaf, Empty, Join, Either, Star}
use Rattle.format.specs.Symbols.{items_taken, leaves_in}
use Rattle.items.specs.declared.Item.{Item}
use Rattle.items.specs.declared.Stack.{Stack}
use Rattle.items.specs.declared.Places.{Places}

-- the test f of leaves that stand behind b others
abbrev pub behind : ℕ → (ℕ → Bool) → ℕ → Bool
behind b f k = beside b (λ _. false) f k

-- the item is that of r behind b leaves: whether r is nullable, the set of its first leaves and that of its last leaves
pub record ItemIs (r : Condition) (b : ℕ) (i : Item) : Type 0 where
  pub null_is : i.nullable ≡ nullable r
  pub first_is : (k : ℕ) → has i.first k ≡ behind b (λ i. first r i) k
  pub last_is : (k : ℕ) → has i.last k ≡ behind b (λ i. last r i) k

-- the rows of the leaves of r behind b leaves: their followers in F, and their sets in S
pub record RowsAre (r : Condition) (b : ℕ) (F S : List ℕ) : Type 0 where
  pub follow_is : (j q : ℕ) → suc j ≤ leaves r → has (get_or F (suc (b + j)) 0) q ≡ behind b (λ i. follow r (suc j) i) q
  pub sets_is : (j : ℕ) → suc j ≤ leaves r → get_or S (suc (b + j)) 0 ≡ leaf_set r (suc j)

-- the item of the stack at a place
abbrev pub item_at : Stack → ℕ → Item
item_at x i = record { nullable = get_or x.nullable i false; first = get_or x.first i 0; last = get_or x.last i 0 }

-- the stack has the items of the conditions rs, the topmost first: d items with m leaves, whose rows are in p
pub data Stacked (x : Stack) (p : Places) : ℕ → ℕ → List Condition → Type 0 where
  bottom : {d m : ℕ} → d ≡ 0 → m ≡ 0 → Stacked x p d m []
  above : {d m d' m' : ℕ} {r : Condition} {rs : List Condition} → Stacked x p d m rs → d' ≡ suc d → m' ≡ m + leaves r
      → ItemIs r m (item_at x d) → RowsAre r m p.follow p.sets → Stacked x p d' m' (r ∷ rs)

-- A stack has room for 50 items, and places have 64 rows in each table. The types say so of a value at hand, and these of what a call leaves behind a
-- loan.
abbrev pub Roomy : Stack → Type 0
Roomy x = (length x.nullable ≡ 50) × (length x.first ≡ 50) × (length x.last ≡ 50)

abbrev pub Rows : Places → Type 0
Rows p = (length p.follow ≡ 64) × (length p.sets ≡ 64)

-- what a symbol makes of the items before it, the topmost first
pub data Makes : Symbol → List Condition → List Condition → Type 0 where
  a_leaf : {set : ℕ} {rs : List Condition} → Makes (Leaf set) rs (leaf set ∷ rs)
  an_empty : {rs : List Condition} → Makes Empty rs (empty ∷ rs)
  a_join : {a b : Condition} {rs : List Condition} → Makes Join (b ∷ a ∷ rs) (join a b ∷ rs)
  an_either : {a b : Condition} {rs : List Condition} → Makes Either (b ∷ a ∷ rs) (either a b ∷ rs)
  a_star : {a : Condition} {rs : List Condition} → Makes Star (a ∷ rs) (star a ∷ rs)

-- the symbol y was pushed on d items with m leaves
pub record Turned (y : Symbol) (x : Stack) (p : Places) (x' : Stack) (p' : Places) (d m : ℕ) : Type 0 where
  pub turned : (rs rs' : List Condition) → Makes y rs rs' → Stacked x p d m rs → Stacked x' p' (d + 1 - items_taken y) (m + leaves_in y) rs'
