-- From the stack to the tables of a side.
use mathlib.Core.Path.{◌≡◌, ap, ap₂, ◌∙◌, subst}
use mathlib.Core.Bool.{Bool, false, cond, ◌&&◌, ◌||◌, or-false, and-false, and-true}
use mathlib.Core.List.{List, [], ◌∷◌}
use Prim.Native.Nat.{ℕ, zero, suc, ◌+◌, ◌≤◌, ◌<◌}
use native.Mathlib.Omega.{arith}
use lib.ListN.{get_or}
use lib.Bits.{bit_or}
use Rattle.bits.specs.Bits.{has}
use Rattle.bits.proofs.Tests.{T_true}
use Rattle.bits.proofs.Sets.{start_has, has-start}
use Rattle.bits.proofs.Masks.{has-or, has-cond}
use Rattle.condition.specs.Condition.{Condition}
use Rattle.condition.specs.Places.{leaves, leaf_set, nullable, first, last, follow, follows, ends}
use Rattle.condition.proofs.Beside.{first_leaf, last_leaf, follow-leaf}
use Rattle.places.specs.declared.Side.{Side}
use Rattle.places.specs.Tables.{Tables, Settled}
use Rattle.items.specs.declared.Item.{Item}
use Rattle.items.specs.declared.Stack.{Stack}
use Rattle.items.specs.declared.Places.{Places}
use Rattle.items.specs.Stack.{item_at, ItemIs, RowsAre, Stacked, bottom, above}
use Rattle.items.proofs.Behind.{fails, behind-zero}

-- Tables ----------------------------------------------------------------------------------------------------------------

first-zero : (r : Condition) → first r 0 ≡ false
first-zero r = fails (first r 0) (λ t. let i = first_leaf r 0 t in absurd (omega arith))

last-zero : (r : Condition) → last r 0 ≡ false
last-zero r = fails (last r 0) (λ t. let i = last_leaf r 0 t in absurd (omega arith))

follow-zero : (r : Condition) (p : ℕ) → follow r p 0 ≡ false
follow-zero r p = fails (follow r p 0) (λ t. let i = follow-leaf r p 0 t in absurd (omega arith))

module _ {r : Condition} {x : Item} (i : ItemIs r 0 x) where
  ends-are : (p : ℕ) → has (bit_or x.last (cond x.nullable 1 0)) p ≡ ends r p
  unfolding ends
  ends-are zero =
      has-or x.last (cond x.nullable 1 0) 0
      ∙ ap₂ (λ (u v : Bool). u || v) (i.last_is 0 ∙ behind-zero (λ k. last r k) (last-zero r) 0 ∙ last-zero r)
      (has-cond x.nullable 1 0 ∙ ap₂ (λ (u v : Bool). u && v) i.null_is (T_true (has 1 0) start_has) ∙ and-true (nullable r))
  ends-are (suc p) =
      has-or x.last (cond x.nullable 1 0) (suc p)
      ∙ ap₂ (λ (u v : Bool). u || v) (i.last_is (suc p) ∙ behind-zero (λ k. last r k) (last-zero r) (suc p))
      (has-cond x.nullable 1 (suc p)
      ∙ ap (λ (v : Bool). x.nullable && v) (fails (has 1 (suc p)) (λ h. let z = has-start (suc p) h in absurd (omega arith)))
      ∙ and-false x.nullable)
      ∙ or-false (last r (suc p))

  -- where row 0 is that of place 0 and the others are the leaves'
  follows-are : {F S : List ℕ} (F' : List ℕ) → RowsAre r 0 F S → get_or F' 0 0 ≡ x.first → ((k : ℕ) → 0 < k → get_or F' k 0 ≡ get_or F k 0)
      → (p q : ℕ) → p ≤ leaves r → has (get_or F' p 0) q ≡ follows r p q
  unfolding follows
  follows-are F' w start others zero q h =
      ap (λ (y : ℕ). has y q) start ∙ i.first_is q ∙ behind-zero (λ k. first r k) (first-zero r) q
  follows-are {F} F' w start others (suc j) q h =
      let z : suc j ≡ suc (0 + j) = omega arith in
      ap (λ (y : ℕ). has y q) (others (suc j) (omega arith))
      ∙ ap (λ (y : ℕ). has (get_or F y 0) q) z
      ∙ w.follow_is j q h
      ∙ behind-zero (λ k. follow r (suc j) k) (follow-zero r (suc j)) q

sets_are : {r : Condition} {F S : List ℕ} → RowsAre r 0 F S → (q : ℕ) → 0 < q → q ≤ leaves r → get_or S q 0 ≡ leaf_set r q
sets_are w zero a b = absurd (omega arith)
sets_are {r} {F} {S} w (suc j) a b = let z : suc j ≡ suc (0 + j) = omega arith in ap (λ (x : ℕ). get_or S x 0) z ∙ w.sets_is j b

-- the only item of the stack
record Alone (x : Stack) (p : Places) (m : ℕ) (r : Condition) : Type 0 where
  count : m ≡ leaves r
  item : ItemIs r 0 (item_at x 0)
  rows : RowsAre r 0 p.follow p.sets

alone : {x : Stack} {p : Places} {m : ℕ} {r : Condition} → Stacked x p 1 m (r ∷ []) → Alone x p m r
alone {x} {p} {m} {r} (above {d = d₀} {m = m₀} t u v i w) = go t
  where
    go : Stacked x p d₀ m₀ [] → Alone x p m r
    go (bottom a b) = record {
      count = omega arith;
      item = subst (λ (k : ℕ). ItemIs r k (item_at x 0)) b (subst (λ (k : ℕ). ItemIs r m₀ (item_at x k)) a i);
      rows = subst (λ (k : ℕ). RowsAre r k p.follow p.sets) b w;
    }

-- the join of two items is the only one
pub joined : {x : Stack} {p : Places} {m : ℕ} {r : Condition} → Stacked x p 1 (m + 0) (r ∷ []) → Stacked x p 1 m (r ∷ [])
joined {x} {p} {m} {r} t = let e : m + 0 ≡ m = omega arith in subst (λ (k : ℕ). Stacked x p 1 k (r ∷ [])) e t

pub tables : {r : Condition} {x : Stack} {p p' : Places} {m : ℕ} {side : Side} → Settled m (item_at x 0) side p p'
    → m ≤ 62 → Stacked x p 1 m (r ∷ []) → Tables r side p'.follow p'.sets
tables {r} {x} {p} {p'} {m} {side} e few t =
    let g = alone t in
    let n = g.count in
    record {
      few = omega arith;
      leaves_is = e.side_leaves ∙ n;
      ends_is = λ k. ap (λ (y : ℕ). has y k) e.side_ends ∙ ends-are g.item k;
      follow_is = follows-are g.item p'.follow g.rows e.row_start e.rows_stay;
      sets_is = λ q a b. ap (λ (y : List ℕ). get_or y q 0) e.sets_stay ∙ sets_are g.rows q a b;
    }
