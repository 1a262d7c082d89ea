-- What each symbol does to the stack.
use mathlib.Core.Path.{◌≡◌, refl, sym, ap, ◌∙◌, subst}
use mathlib.Core.Bool.{Bool, true, false, cond, ◌&&◌, ◌||◌}
use mathlib.Core.List.{List, ◌∷◌}
use Prim.Native.Nat.{ℕ, suc, ◌+◌, ◌-◌, ◌^◌, ◌≤◌, ◌<◌}
use native.Mathlib.Omega.{arith}
use lib.ListN.{length, get_or, set}
use lib.Seq.{get_or-set_same, get_or-set_other}
use lib.Bits.{bit_or, or_zero_r}
use Rattle.condition.specs.Condition.{Condition, leaf, empty, join, either, star}
use Rattle.condition.specs.Places.{leaves, last}
use Rattle.bits.specs.Rows.{Linked}
use Rattle.format.specs.declared.symbols.Symbol.TheVariants.{Leaf, Empty, Join, Either, Star}
use Rattle.items.specs.declared.Item.{Item}
use Rattle.items.specs.declared.Stack.{Stack}
use Rattle.items.specs.declared.Places.{Places}
use Rattle.items.specs.Stack.{ItemIs, RowsAre, item_at, Stacked, bottom, above, Roomy, Makes, a_leaf, an_empty, a_join, an_either, a_star, Turned}
use Rattle.items.proofs.Behind.{behind-low}
use Rattle.items.proofs.Items.{item-same, rows_same, item-leaf, rows-leaf, item-empty, rows_empty, item-join, rows_join, item-either, rows-either, item-star, rows-star}

-- Stacks that agree at the first d items and the first m leaves ---------------------------------------------------------

pub record Agree (x x' : Stack) (p p' : Places) (d m : ℕ) : Type 0 where
  pub items : (k : ℕ) → k < d → item_at x' k ≡ item_at x k
  pub rows : (q : ℕ) → q ≤ m → get_or p'.follow q 0 ≡ get_or p.follow q 0
  pub sets : (q : ℕ) → q ≤ m → get_or p'.sets q 0 ≡ get_or p.sets q 0

module _ {x x' : Stack} {p p' : Places} where
  fewer : {d d' m m' : ℕ} → d' ≤ d → m' ≤ m → Agree x x' p p' d m → Agree x x' p p' d' m'
  fewer a b g = record {
    items = λ k l. g.items k (omega arith);
    rows = λ q l. g.rows q (omega arith);
    sets = λ q l. g.sets q (omega arith);
  }

  pub agree : {d m : ℕ} {rs : List Condition} → Agree x x' p p' d m → Stacked x p d m rs → Stacked x' p' d m rs
  agree g (bottom e f) = bottom e f
  agree g (above {d} {m} t e f i w) =
      above (agree (fewer (omega arith) (omega arith) g) t) e f (item-same (g.items d (omega arith)) i)
      (rows_same (λ q h. g.rows q (omega arith)) (λ q h. g.sets q (omega arith)) w)

-- what lies below the place of a write stays
kept : {X : Type 0} (l : List X) (i k : ℕ) (a d : X) → k < i → get_or (set l i a) k d ≡ get_or l k d
kept l i k a d h = get_or-set_other l i k a d (λ (e : k ≡ i). omega arith)

-- the stack with an item at a place, and with the item there made nullable
abbrev pub with_item : Stack → ℕ → Item → Stack
with_item x i a = record { nullable = set x.nullable i a.nullable; first = set x.first i a.first; last = set x.last i a.last }

abbrev pub with_null : Stack → ℕ → Stack
with_null x i = record x { nullable = set x.nullable i true }

-- an item from its fields
abbrev item_of : Bool → ℕ → ℕ → Item
item_of n f l = record { nullable = n; first = f; last = l }

item-equal : {n n' : Bool} {f f' l l' : ℕ} → n ≡ n' → f ≡ f' → l ≡ l' → item_of n f l ≡ item_of n' f' l'
item-equal e f l = rw (e, f, l) refl

-- what is written stands there, and the items below it stay
module _ (x : Stack) (i : ℕ) where
  module _ (a : Item) where
    item-with : Roomy x → i < 50 → item_at (with_item x i a) i ≡ a
    item-with room h =
        item-equal (get_or-set_same x.nullable i _ _ (omega (arith, room.0))) (get_or-set_same x.first i _ _ (omega (arith, room.1)))
        (get_or-set_same x.last i _ _ (omega (arith, room.2)))

    item-kept : (k : ℕ) → k < i → item_at (with_item x i a) k ≡ item_at x k
    item-kept k h = item-equal (kept x.nullable i k _ _ h) (kept x.first i k _ _ h) (kept x.last i k _ _ h)

  null-with : Roomy x → i < 50 → item_at (with_null x i) i ≡ record (item_at x i) { nullable = true }
  null-with room h = item-equal (get_or-set_same x.nullable i _ _ (omega (arith, room.0))) refl refl

  null-kept : (k : ℕ) → k < i → item_at (with_null x i) k ≡ item_at x k
  null-kept k h = item-equal (kept x.nullable i k _ _ h) refl refl

-- The topmost item ------------------------------------------------------------------------------------------------------

record Top (x : Stack) (p : Places) (d m : ℕ) (r : Condition) (rs : List Condition) : Type 0 where
  below : ℕ
  deep : 1 ≤ d
  count : m ≡ below + leaves r
  item : ItemIs r below (item_at x (d - 1))
  rows : RowsAre r below p.follow p.sets
  rest : Stacked x p (d - 1) below rs

top : {x : Stack} {p : Places} {d m : ℕ} {r : Condition} {rs : List Condition} → Stacked x p d m (r ∷ rs) → Top x p d m r rs
top {x} {p} {d} {m} {r} {rs} (above {d = d₀} {m = m₀} t a b i v) =
    let e : d₀ ≡ d - 1 = omega arith in
    record {
      below = m₀;
      deep = omega arith;
      count = b;
      item = subst (λ (k : ℕ). ItemIs r m₀ (item_at x k)) e i;
      rows = v;
      rest = subst (λ (k : ℕ). Stacked x p k m₀ rs) e t;
    }

-- Leaf and empty --------------------------------------------------------------------------------------------------------

leaf-leaves : (x : ℕ) → leaves (leaf x) ≡ 1
unfolding leaves
leaf-leaves x = refl

empty-leaves : leaves empty ≡ 0
unfolding leaves
empty-leaves = refl

-- a stack and places, with as many items and rows as they have in the code
module _ {x : Stack} {p : Places} (room : Roomy x) where
  module _ {d : ℕ} (h : d < 50) where
    pub push-leaf : (t m : ℕ) {f : ℕ} → length p.follow ≡ 64 → length p.sets ≡ 64 → m < 62 → f ≡ 2 ^ (m + 1)
        → Turned (Leaf t) x p (with_item x d (record { nullable = false; first = f; last = f }))
        (record { follow = set p.follow (m + 1) 0; sets = set p.sets (m + 1) t }) d m
    push-leaf t m {f} long long' few e = record { turned = λ rs rs' h t. go h t }
      where
        s : m + 1 ≡ suc m
        s = omega arith

        go : {rs rs' : List Condition} → Makes (Leaf t) rs rs' → Stacked x p d m rs
            → Stacked (with_item x d (record { nullable = false; first = f; last = f }))
            (record { follow = set p.follow (m + 1) 0; sets = set p.sets (m + 1) t }) (d + 1 - 0) (m + 1) rs'
        go a_leaf on =
            let n = leaf-leaves t in
            above {d' = d + 1 - 0} {m' = m + 1} {r = leaf t}
            (agree
            (record {
              items = λ k y. item-kept x d _ k y;
              rows = λ q y. kept p.follow (m + 1) q 0 0 (omega arith);
              sets = λ q y. kept p.sets (m + 1) q t 0 (omega arith);
            })
            on)
            (omega arith)
            (omega arith)
            (item-same
            (item-with x d _ room h
            ∙ ap (λ (f : ℕ). record { nullable = false; first = f; last = f }) (e ∙ ap (λ (k : ℕ). 2 ^ k) s))
            (item-leaf t m))
            (rows-leaf t m (set p.follow (m + 1) 0) (set p.sets (m + 1) t)
            (ap (λ (k : ℕ). get_or (set p.follow (m + 1) 0) k 0) (sym s) ∙ get_or-set_same p.follow (m + 1) 0 0 (omega (arith, long)))
            (ap (λ (k : ℕ). get_or (set p.sets (m + 1) t) k 0) (sym s) ∙ get_or-set_same p.sets (m + 1) t 0 (omega (arith, long'))))

    pub push-empty : (m : ℕ) → Turned Empty x p (with_item x d (record { nullable = true; first = 0; last = 0 })) p d m
    push-empty m = record { turned = λ rs rs' h t. go h t }
      where
        go : {rs rs' : List Condition} → Makes Empty rs rs' → Stacked x p d m rs
            → Stacked (with_item x d (record { nullable = true; first = 0; last = 0 })) p (d + 1 - 0) (m + 0) rs'
        go an_empty on =
            let n = empty-leaves in
            above {d' = d + 1 - 0} {m' = m + 0} {r = empty}
            (agree (record { items = λ k y. item-kept x d _ k y; rows = λ q y. refl; sets = λ q y. refl }) on)
            (omega arith)
            (omega arith)
            (item-same (item-with x d _ room h) (item-empty m))
            (rows_empty m p.follow p.sets)

-- Star, join and either -------------------------------------------------------------------------------------------------

star-leaves : (a : Condition) → leaves (star a) ≡ leaves a
unfolding leaves
star-leaves a = refl

join-leaves : (a c : Condition) → leaves (join a c) ≡ leaves a + leaves c
unfolding leaves
join-leaves a c = refl

either-leaves : (a c : Condition) → leaves (either a c) ≡ leaves a + leaves c
unfolding leaves
either-leaves a c = refl

-- rows at or below b stay where the lasts are of leaves behind b
linked-kept : {a : Condition} {b : ℕ} {i : Item} {f : ℕ} {F F' : List ℕ} → Linked i.last f F F' → ItemIs a b i
    → (q : ℕ) → q ≤ b → q < 64 → get_or F' q 0 ≡ get_or F q 0
linked-kept {a} {b} {i} {f} {F} {F'} k is q h few =
    k.linked_is q few
    ∙ ap (λ (y : Bool). bit_or (get_or F q 0) (cond y f 0)) (is.last_is q ∙ behind-low b (λ i. last a i) q h)
    ∙ or_zero_r (get_or F q 0)

module _ {x : Stack} {p : Places} {F' : List ℕ} {d m : ℕ} (room : Roomy x) (h : d ≤ 50) where
  pub star-top : Linked (item_at x (d - 1)).last (item_at x (d - 1)).first p.follow F' → m < 64
      → Turned Star x p (with_null x (d - 1)) (record p { follow = F' }) d m
  star-top k few = record { turned = λ rs rs' h t. go h t }
    where
      go : {rs rs' : List Condition} → Makes Star rs rs' → Stacked x p d m rs
          → Stacked (with_null x (d - 1)) (record p { follow = F' }) (d + 1 - 1) (m + 0) rs'
      go (a_star {a = a}) t =
          let o = top t in
          let n = star-leaves a in
          let g = o.deep in
          let y = o.count in
          above {d' = d + 1 - 1} {m' = m + 0} {r = star a}
          (agree
          (record {
            items = λ i z. null-kept x (d - 1) i z;
            rows = λ i z. linked-kept k o.item i z (omega arith);
            sets = λ i z. refl;
          })
          o.rest)
          (omega arith)
          (omega arith)
          (item-same (null-with x (d - 1) room (omega arith)) (item-star a o.below o.item))
          (rows-star a o.below o.item o.rows k (omega arith))

  -- the two topmost items, that of c on that of a, and the item that is written where a's stood
  merge : {a c r : Condition} {rs : List Condition} {i : Item} (o : Top x p d m c (a ∷ rs)) (q : Top x p (d - 1) o.below a rs)
      → leaves r ≡ leaves a + leaves c → ItemIs r q.below i → RowsAre r q.below F' p.sets
      → ((k : ℕ) → k ≤ q.below → get_or F' k 0 ≡ get_or p.follow k 0)
      → Stacked (with_item x (d - 1 - 1) i) (record p { follow = F' }) (d + 1 - 2) (m + 0) (r ∷ rs)
  merge {r = r} {i = i} o q e is w same =
      let g = q.deep in
      let y = o.count in
      let z = q.count in
      above {d' = d + 1 - 2} {m' = m + 0} {r = r}
      (agree (record { items = λ k l. item-kept x (d - 1 - 1) i k l; rows = same; sets = λ k l. refl }) q.rest)
      (omega arith)
      (omega arith)
      (item-same (item-with x (d - 1 - 1) i room (omega arith)) is)
      w

-- the second of two items, behind the leaves of the first
module _ {x : Stack} {p : Places} {d m : ℕ} {a c : Condition} {rs : List Condition} (o : Top x p d m c (a ∷ rs)) (q : Top x p (d - 1) o.below a rs) where
  second-item : ItemIs c (q.below + leaves a) (item_at x (d - 1))
  second-item = subst (λ (b : ℕ). ItemIs c b (item_at x (d - 1))) q.count o.item

  second-rows : RowsAre c (q.below + leaves a) p.follow p.sets
  second-rows = subst (λ (b : ℕ). RowsAre c b p.follow p.sets) q.count o.rows

-- the item of a join and that of a union, from those of its parts
abbrev pub joined : Item → Item → Item
joined a c = record {
  nullable = a.nullable && c.nullable;
  first = bit_or a.first (cond a.nullable c.first 0);
  last = bit_or (cond c.nullable a.last 0) c.last;
}

abbrev pub united : Item → Item → Item
united a c = record { nullable = a.nullable || c.nullable; first = bit_or a.first c.first; last = bit_or a.last c.last }

module _ {x : Stack} {p : Places} {d m : ℕ} {n : Bool} {f l : ℕ} (room : Roomy x) (h : d ≤ 50) where
  pub join-top : {F' : List ℕ} → Linked (item_at x (d - 1 - 1)).last (item_at x (d - 1)).first p.follow F'
      → item_of n f l ≡ joined (item_at x (d - 1 - 1)) (item_at x (d - 1)) → m < 64 → Turned Join x p (with_item x (d - 1 - 1) (item_of n f l)) (record p { follow = F' }) d m
  join-top {F'} k e few = record { turned = λ rs rs' h t. go h t }
    where
      go : {rs rs' : List Condition} → Makes Join rs rs' → Stacked x p d m rs
          → Stacked (with_item x (d - 1 - 1) (item_of n f l)) (record p { follow = F' }) (d + 1 - 2) (m + 0) rs'
      go (a_join {a = a} {b = c}) t =
          let o = top t in
          let q = top o.rest in
          let z = o.count in
          let z' = q.count in
          merge room h o q (join-leaves a c) (item-same e (item-join a c q.below q.item (second-item o q)))
          (rows_join a c q.below q.rows (second-rows o q) q.item (second-item o q) k (omega arith))
          (λ i l. linked-kept k q.item i l (omega arith))

  pub either-top : item_of n f l ≡ united (item_at x (d - 1 - 1)) (item_at x (d - 1)) → Turned Either x p (with_item x (d - 1 - 1) (item_of n f l)) p d m
  either-top e = record { turned = λ rs rs' h t. go h t }
    where
      go : {rs rs' : List Condition} → Makes Either rs rs' → Stacked x p d m rs → Stacked (with_item x (d - 1 - 1) (item_of n f l)) p (d + 1 - 2) (m + 0) rs'
      go (an_either {a = a} {b = c}) t =
          let o = top t in
          let q = top o.rest in
          merge room h o q (either-leaves a c) (item-same e (item-either a c q.below q.item (second-item o q)))
          (rows-either a c q.below q.rows (second-rows o q))
          (λ i l. refl)
