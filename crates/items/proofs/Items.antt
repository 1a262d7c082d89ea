-- Items and rows of each form of condition, from those of its parts.
use mathlib.Core.Path.{◌≡◌, refl, sym, ap, ap₂, ◌∙◌}
use mathlib.Core.Bool.{Bool, true, false, cond, ◌&&◌, ◌||◌, or-false, and-false, and_comm}
use mathlib.Core.Logic.{◌⊎◌, inl, inr}
use mathlib.Core.List.{List}
use Prim.Native.Nat.{ℕ, suc, ◌+◌, ◌^◌, ◌≤◌, ◌<◌}
use native.Mathlib.Omega.{arith}
use lib.ListN.{get_or}
use lib.Bits.{bit_or}
use Rattle.bits.specs.Bits.{has}
use Rattle.bits.specs.Rows.{Linked}
use Rattle.bits.proofs.Sets.{has-none}
use Rattle.bits.proofs.Masks.{has-or, has-cond, has_one}
use Rattle.condition.specs.Condition.{Condition, leaf, empty, join, either, star}
use Rattle.condition.specs.Places.{leaves, beside, leaf_set, nullable, first, last, follow}
use Rattle.condition.proofs.Beside.{beside-left, beside-right, side}
use Rattle.items.specs.declared.Item.{Item}
use Rattle.items.specs.Stack.{behind, ItemIs, RowsAre}
use Rattle.items.proofs.Behind.{behind-at, behind-cong, behind-map, behind-or, behind-none, behind-leaf, behind-beside, first-up, last_up, follow-up}

-- Equal entries ---------------------------------------------------------------------------------------------------------

pub item-same : {r : Condition} {b : ℕ} {i i' : Item} → i' ≡ i → ItemIs r b i → ItemIs r b i'
item-same e i = rw e i

pub rows_same : {r : Condition} {b : ℕ} {F F' S S' : List ℕ}
    → ((p : ℕ) → p ≤ b + leaves r → get_or F' p 0 ≡ get_or F p 0) → ((p : ℕ) → p ≤ b + leaves r → get_or S' p 0 ≡ get_or S p 0)
    → RowsAre r b F S → RowsAre r b F' S'
rows_same f s w = record {
  follow_is = λ j q h. ap (λ (x : ℕ). has x q) (f (suc _) (omega arith)) ∙ w.follow_is j q h;
  sets_is = λ j h. s (suc _) (omega arith) ∙ w.sets_is j h;
}

-- Leaf and empty --------------------------------------------------------------------------------------------------------

pub item-leaf : (x b : ℕ) → ItemIs (leaf x) b (record { nullable = false; first = 2 ^ suc b; last = 2 ^ suc b })
unfolding nullable first last
item-leaf x b = record {
  null_is = refl;
  first_is = λ k. has_one (suc b) k ∙ behind-leaf b k;
  last_is = λ k. has_one (suc b) k ∙ behind-leaf b k;
}

pub rows-leaf : (x b : ℕ) (F S : List ℕ) → get_or F (suc b) 0 ≡ 0 → get_or S (suc b) 0 ≡ x → RowsAre (leaf x) b F S
unfolding follow leaf_set leaves
rows-leaf x b F S f s = record {
  follow_is = λ j q h.
      let e : suc (b + j) ≡ suc b = omega arith in
      ap (λ (y : ℕ). has (get_or F y 0) q) e ∙ ap (λ (y : ℕ). has y q) f ∙ has-none q ∙ behind-none b q;
  sets_is = λ j h. let e : suc (b + j) ≡ suc b = omega arith in ap (λ (y : ℕ). get_or S y 0) e ∙ s;
}

pub item-empty : (b : ℕ) → ItemIs empty b (record { nullable = true; first = 0; last = 0 })
unfolding nullable first last
item-empty b = record { null_is = refl; first_is = λ k. has-none k ∙ behind-none b k; last_is = λ k. has-none k ∙ behind-none b k }

pub rows_empty : (b : ℕ) (F S : List ℕ) → RowsAre empty b F S
unfolding leaves
rows_empty b F S = record { follow_is = λ j q h. absurd (omega arith); sets_is = λ j h. absurd (omega arith) }

-- Join and either: items ------------------------------------------------------------------------------------------------

module _ (a c : Condition) (b : ℕ) {x y : Item} (i : ItemIs a b x) (j : ItemIs c (b + leaves a) y) where
  pub item-join : ItemIs (join a c) b
      (record {
        nullable = x.nullable && y.nullable;
        first = bit_or x.first (cond x.nullable y.first 0);
        last = bit_or (cond y.nullable x.last 0) y.last;
      })
  unfolding nullable first last
  item-join = record {
    null_is = ap₂ (λ (u v : Bool). u && v) i.null_is j.null_is;
    first_is = λ k.
        has-or x.first (cond x.nullable y.first 0) k
        ∙ ap₂ (λ (u v : Bool). u || v) (i.first_is k)
        (has-cond x.nullable y.first k ∙ ap₂ (λ (u v : Bool). u && v) i.null_is (j.first_is k)
        ∙ behind-map (λ (v : Bool). nullable a && v) (and-false (nullable a)) (b + leaves a) (λ i. first c i) k)
        ∙ behind-beside b (leaves a) (λ i. first a i) (λ i. nullable a && first c i) (first-up a) k;
    last_is = λ k.
        has-or (cond y.nullable x.last 0) y.last k
        ∙ ap₂ (λ (u v : Bool). u || v)
        (has-cond y.nullable x.last k ∙ ap₂ (λ (u v : Bool). u && v) j.null_is (i.last_is k) ∙ and_comm (nullable c) (behind b (λ i. last a i) k)
        ∙ behind-map (λ (v : Bool). v && nullable c) refl b (λ i. last a i) k)
        (j.last_is k)
        ∙ behind-beside b (leaves a) (λ i. last a i && nullable c) (λ i. last c i) (λ h. ap (λ (v : Bool). v && nullable c) (last_up a h)) k;
  }

  pub item-either : ItemIs (either a c) b
      (record { nullable = x.nullable || y.nullable; first = bit_or x.first y.first; last = bit_or x.last y.last })
  unfolding nullable first last
  item-either = record {
    null_is = ap₂ (λ (u v : Bool). u || v) i.null_is j.null_is;
    first_is = λ k.
        has-or x.first y.first k ∙ ap₂ (λ (u v : Bool). u || v) (i.first_is k) (j.first_is k)
        ∙ behind-beside b (leaves a) (λ i. first a i) (λ i. first c i) (first-up a) k;
    last_is = λ k.
        has-or x.last y.last k ∙ ap₂ (λ (u v : Bool). u || v) (i.last_is k) (j.last_is k)
        ∙ behind-beside b (leaves a) (λ i. last a i) (λ i. last c i) (last_up a) k;
  }

-- Join and either: rows -------------------------------------------------------------------------------------------------

pub linked-has : {la fc : ℕ} {F F' : List ℕ} → Linked la fc F F' → (p q : ℕ) → p < 64
    → has (get_or F' p 0) q ≡ (has (get_or F p 0) q || (has la p && has fc q))
linked-has {la} {fc} {F} {F'} k p q h =
    ap (λ (x : ℕ). has x q) (k.linked_is p h)
    ∙ has-or (get_or F p 0) (cond (has la p) fc 0) q
    ∙ ap (λ (x : Bool). has (get_or F p 0) q || x) (has-cond (has la p) fc q)

-- A condition r of the leaves of a and, behind them, those of c, where `across` says which leaves of c follow a leaf of a.
record Sides (a c r : Condition) (across : ℕ → ℕ → Bool) : Type 0 where
  leaves_are : leaves r ≡ leaves a + leaves c
  sets_are : (k : ℕ) → leaf_set r k ≡ beside (leaves a) (λ i. leaf_set a i) (λ i. leaf_set c i) k
  first_side : (j k : ℕ) → suc j ≤ leaves a → follow r (suc j) k ≡ beside (leaves a) (λ i. follow a (suc j) i) (λ i. across (suc j) i) k
  second_side : (j k : ℕ) → follow r (suc (leaves a + j)) k ≡ beside (leaves a) (λ _. false) (λ i. follow c (suc j) i) k

join-sides : (a c : Condition) → Sides a c (join a c) (λ i j. last a i && first c j)
unfolding leaves leaf_set follow
join-sides a c = record {
  leaves_are = refl;
  sets_are = λ k. refl;
  first_side = λ j k h. beside-left (leaves a) _ _ (suc j) h;
  second_side = λ j k. beside-right (leaves a) _ _ j;
}

either-sides : (a c : Condition) → Sides a c (either a c) (λ _ _. false)
unfolding leaves leaf_set follow
either-sides a c = record {
  leaves_are = refl;
  sets_are = λ k. refl;
  first_side = λ j k h. beside-left (leaves a) _ _ (suc j) h;
  second_side = λ j k. beside-right (leaves a) _ _ j;
}

module _ {a c r : Condition} {across : ℕ → ℕ → Bool} (x : Sides a c r across) (b : ℕ) {F S : List ℕ} (F' : List ℕ) (v : RowsAre a b F S)
    (w : RowsAre c (b + leaves a) F S)
    (more : (j q : ℕ) → suc j ≤ leaves a
    → has (get_or F' (suc (b + j)) 0) q ≡ (has (get_or F (suc (b + j)) 0) q || behind (b + leaves a) (λ i. across (suc j) i) q))
    (kept : (j q : ℕ) → suc j ≤ leaves c → has (get_or F' (suc (b + leaves a + j)) 0) q ≡ has (get_or F (suc (b + leaves a + j)) 0) q) where
  follow-at : (j q : ℕ) → suc j ≤ leaves a + leaves c → (suc j ≤ leaves a) ⊎ ((i : ℕ) × (suc j ≡ suc (leaves a + i)))
      → has (get_or F' (suc (b + j)) 0) q ≡ behind b (λ i. follow r (suc j) i) q
  follow-at j q h (inl l) =
      more j q l
      ∙ ap (λ (y : Bool). y || behind (b + leaves a) (λ i. across (suc j) i) q) (v.follow_is j q l)
      ∙ behind-beside b (leaves a) (λ i. follow a (suc j) i) (λ i. across (suc j) i) (follow-up a (suc j)) q
      ∙ sym (behind-cong b (λ i. follow r (suc j) i) _ (λ k. x.first_side j (suc k) l) q)
  follow-at j q h (inr l) =
      let (i, e) = l in
      let far : suc (b + j) ≡ suc (b + leaves a + i) = omega arith in
      ap (λ (y : ℕ). has (get_or F' y 0) q) far
      ∙ kept i q (omega arith)
      ∙ w.follow_is i q (omega arith)
      ∙ ap (λ (y : Bool). y || behind (b + leaves a) (λ k. follow c (suc i) k) q) (behind-none b q)
      ∙ behind-beside b (leaves a) (λ _. false) (λ k. follow c (suc i) k) (λ _. refl) q
      ∙ sym (behind-cong b (λ k. follow r (suc j) k) _ (λ k. ap (λ (y : ℕ). follow r y (suc k)) e ∙ x.second_side i (suc k)) q)

  set_at : (j : ℕ) → suc j ≤ leaves a + leaves c → (suc j ≤ leaves a) ⊎ ((i : ℕ) × (suc j ≡ suc (leaves a + i)))
      → get_or S (suc (b + j)) 0 ≡ leaf_set r (suc j)
  set_at j h (inl l) = v.sets_is j l ∙ sym (x.sets_are (suc j) ∙ beside-left (leaves a) _ _ (suc j) l)
  set_at j h (inr l) =
      let (i, e) = l in
      let far : suc (b + j) ≡ suc (b + leaves a + i) = omega arith in
      ap (λ (y : ℕ). get_or S y 0) far
      ∙ w.sets_is i (omega arith)
      ∙ sym (x.sets_are (suc j) ∙ ap (λ (y : ℕ). beside (leaves a) (λ i. leaf_set a i) (λ i. leaf_set c i) y) e ∙ beside-right (leaves a) _ _ i)

  rows-sides : RowsAre r b F' S
  rows-sides =
      let n = x.leaves_are in
      record {
        follow_is = λ j q h. follow-at j q (omega arith) (side (leaves a) (suc j));
        sets_is = λ j h. set_at j (omega arith) (side (leaves a) (suc j));
      }

module _ (a c : Condition) (b : ℕ) {F S : List ℕ} (v : RowsAre a b F S) (w : RowsAre c (b + leaves a) F S) where
  pub rows-either : RowsAre (either a c) b F S
  rows-either =
      rows-sides (either-sides a c) b F v w
      (λ j q h. sym (ap (λ (y : Bool). has (get_or F (suc (b + j)) 0) q || y) (sym (behind-none (b + leaves a) q)) ∙ or-false _))
      (λ j q h. refl)

  pub rows_join : {x y : Item} {F' : List ℕ} → ItemIs a b x → ItemIs c (b + leaves a) y
      → Linked x.last y.first F F' → b + leaves a + leaves c < 64 → RowsAre (join a c) b F' S
  rows_join {x} {y} {F'} i j k m =
      rows-sides (join-sides a c) b F' v w
      (λ n q h.
      linked-has k (suc (b + n)) q (omega arith)
      ∙ ap (λ (v : Bool). has (get_or F (suc (b + n)) 0) q || v)
      (ap₂ (λ (u v : Bool). u && v) (i.last_is (suc (b + n)) ∙ behind-at b (λ i. last a i) n) (j.first_is q)
      ∙ behind-map (λ (v : Bool). last a (suc n) && v) (and-false (last a (suc n))) (b + leaves a) (λ i. first c i) q))
      (λ n q h.
      linked-has k (suc (b + leaves a + n)) q (omega arith)
      ∙ ap (λ (v : Bool). has (get_or F (suc (b + leaves a + n)) 0) q || (v && has y.first q)) (not_last n)
      ∙ or-false _)
    where
      not_last : (n : ℕ) → has x.last (suc (b + leaves a + n)) ≡ false
      not_last n =
          let e : suc (b + leaves a + n) ≡ suc (b + (leaves a + n)) = omega arith in
          ap (λ (k : ℕ). has x.last k) e ∙ i.last_is (suc (b + (leaves a + n))) ∙ behind-at b (λ i. last a i) (leaves a + n) ∙ last_up a n

-- Star ------------------------------------------------------------------------------------------------------------------

module _ (a : Condition) (b : ℕ) {x : Item} (i : ItemIs a b x) where
  pub item-star : ItemIs (star a) b (record { nullable = true; first = x.first; last = x.last })
  unfolding nullable first last
  item-star = record { null_is = refl; first_is = i.first_is; last_is = i.last_is }

  pub rows-star : {F F' S : List ℕ} → RowsAre a b F S → Linked x.last x.first F F' → b + leaves a < 64 → RowsAre (star a) b F' S
  unfolding leaves leaf_set follow
  rows-star {F} {F'} {S} w k m = record {
    follow_is = λ j q h.
        linked-has k (suc (b + j)) q (omega arith)
        ∙ ap₂ (λ (u v : Bool). u || v) (w.follow_is j q h)
        (ap₂ (λ (u v : Bool). u && v) (i.last_is (suc (b + j)) ∙ behind-at b (λ i. last a i) j) (i.first_is q)
        ∙ behind-map (λ (x : Bool). last a (suc j) && x) (and-false (last a (suc j))) b (λ i. first a i) q)
        ∙ behind-or b (λ i. follow a (suc j) i) (λ i. last a (suc j) && first a i) q;
    sets_is = w.sets_is;
  }
