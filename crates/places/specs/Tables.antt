-- What the tables of a side hold: its places, bit for bit. Row p of `follow` is the set of the followers of place p, and row q of `sets` is
-- the set of leaf q.
use Rattle.std.specs.Prelude.{◌≡◌, cond, List, ℕ, ◌≤◌, ◌<◌, get_or}
use Rattle.std.specs.Int.Bits.{bit_or}
use Rattle.bits.specs.Bits.{has}
use Rattle.condition.specs.Condition.{Condition}
use Rattle.condition.specs.Places.{leaves, leaf_set, follows, ends}
use Rattle.items.specs.declared.Item.{Item}
use Rattle.items.specs.declared.Places.{Places}
use Rattle.places.specs.declared.Side.{Side}

pub record Tables (r : Condition) (side : Side) (follow sets : List ℕ) : Type 0 where
  pub few : leaves r ≤ 62
  pub leaves_is : side.leaves ≡ leaves r
  pub ends_is : (p : ℕ) → has side.ends p ≡ ends r p
  pub follow_is : (p q : ℕ) → p ≤ leaves r → has (get_or follow p 0) q ≡ follows r p q
  pub sets_is : (q : ℕ) → 0 < q → q ≤ leaves r → get_or sets q 0 ≡ leaf_set r q

-- the item of a whole side becomes its tables: row 0 of follow and bit 0 of ends are place 0's
pub record Settled (n : ℕ) (i : Item) (side : Side) (p p' : Places) : Type 0 where
  pub side_leaves : side.leaves ≡ n
  pub side_ends : side.ends ≡ bit_or i.last (cond i.nullable 1 0)
  pub row_start : get_or p'.follow 0 0 ≡ i.first
  pub rows_stay : (k : ℕ) → 0 < k → get_or p'.follow k 0 ≡ get_or p.follow k 0
  pub sets_stay : p'.sets ≡ p.sets
