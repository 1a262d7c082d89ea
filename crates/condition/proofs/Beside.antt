-- The places of a join and of an either are the first side's and, behind them, the second side's.
use mathlib.Core.Path.{◌≡◌, refl, ap}
use mathlib.Core.Bool.{Bool, false, ◌&&◌}
use mathlib.Core.Logic.{◌⊎◌, inl, inr, ⊎_elim}
use Prim.Native.Nat.{ℕ, zero, suc, ◌+◌, ◌-◌, ◌≤◌, ◌<◌}
use native.Mathlib.Omega.{arith}
use native.Mathlib.Decide.{dec_le}
use lib.Dec.{T, eqb→eq}
use borrow.Author.Tests.{le-leb, lt-leb}
use Rattle.bits.specs.Bits.{has}
use Rattle.bits.proofs.Tests.{and-out, or-out}
use Rattle.condition.specs.Condition.{Condition, leaf, empty, join, either, star}
use Rattle.condition.specs.Places.{leaves, beside, leaf_set, leaf_holds, nullable, first, last, follow, follows, ends}

-- Two sides, one after the other ----------------------------------------------------------------------------------------

module _ {A : Type 0} (m : ℕ) (f g : ℕ → A) where
  pub beside-left : (k : ℕ) → k ≤ m → beside m f g k ≡ f k
  unfolding beside
  beside-left k h = rw (le-leb k m h, beside)

  pub beside-right : (k : ℕ) → beside m f g (suc (m + k)) ≡ g (suc k)
  unfolding beside
  beside-right k =
      let b : m < suc (m + k) = omega arith in
      let d : suc (m + k) - m ≡ suc k = omega arith in
      rw (lt-leb (suc (m + k)) m b, beside) (ap g d)

-- a place of the first side, or a leaf of the second
pub side : (m k : ℕ) → (k ≤ m) ⊎ ((j : ℕ) × (k ≡ suc (m + j)))
side m k = go (dec_le k m)
  where
    go : Dec (k ≤ m) → (k ≤ m) ⊎ ((j : ℕ) × (k ≡ suc (m + j)))
    go (yes h) = inl h
    go (no h) = inr (k - suc m, omega arith)

pub beside-out : (m : ℕ) (f g : ℕ → Bool) (k : ℕ) → T (beside m f g k)
    → ((k ≤ m) × T (f k)) ⊎ ((j : ℕ) × (k ≡ suc (m + j)) × T (g (suc j)))
beside-out m f g k t =
    ⊎_elim
    (λ (h : k ≤ m). inl (h, rw (beside-left m f g k h) at t))
    (λ (h : (j : ℕ) × (k ≡ suc (m + j))). inr (h.0, h.1, rw (h.1, beside-right m f g h.0) at t))
    (side m k)

-- Followers are leaves --------------------------------------------------------------------------------------------------

abbrev pub IsLeaf : Condition → ℕ → Type 0
IsLeaf r k = (0 < k) × (k ≤ leaves r)

module _ (a b : Condition) where
  -- two tests that only leaves of each side pass, one after the other
  pub beside-leaf : (f g : ℕ → Bool) → ((k : ℕ) → T (f k) → IsLeaf a k) → ((k : ℕ) → T (g k) → IsLeaf b k)
      → (k : ℕ) → T (beside (leaves a) f g k) → (0 < k) × (k ≤ leaves a + leaves b)
  beside-leaf f g p q k t =
      ⊎_elim
      (λ (h : (k ≤ leaves a) × T (f k)). let i = p k h.1 in omega arith)
      (λ (h : (j : ℕ) × (k ≡ suc (leaves a + j)) × T (g (suc j))). let i = q (suc h.0) h.2 in let e = h.1 in omega arith)
      (beside-out (leaves a) f g k t)

  -- the followers in a join or an either, which differ in `across`, the test from the first side to the second
  sides-leaf : (f g across : ℕ → ℕ → Bool)
      → ((p q : ℕ) → T (f p q) → IsLeaf a q) → ((p q : ℕ) → T (g p q) → IsLeaf b q) → ((p q : ℕ) → T (across p q) → IsLeaf b q) → (p q : ℕ)
      → T (beside (leaves a) (λ i. beside (leaves a) (λ j. f i j) (λ j. across i j) q) (λ i. beside (leaves a) (λ j. false) (λ j. g i j) q) p)
      → (0 < q) × (q ≤ leaves a + leaves b)
  sides-leaf f g across l r x p q t =
      ⊎_elim
      (λ h. beside-leaf (λ j. f p j) (λ j. across p j) (l p) (x p) q h.1)
      (λ h. beside-leaf (λ j. false) (λ j. g (suc h.0) j) (λ j k. absurd k) (r (suc h.0)) q h.2)
      (beside-out (leaves a) _ _ p t)

pub first_leaf : (r : Condition) (k : ℕ) → T (first r k) → IsLeaf r k
unfolding first leaves
first_leaf (leaf s) k t = let e = eqb→eq k 1 t in omega arith
first_leaf empty k t = absurd t
first_leaf (join a b) k t =
    beside-leaf a b (λ i. first a i) (λ i. nullable a && first b i) (first_leaf a)
    (λ j h. first_leaf b j (and-out (nullable a) (first b j) h).1) k t
first_leaf (either a b) k t = beside-leaf a b (λ i. first a i) (λ i. first b i) (first_leaf a) (first_leaf b) k t
first_leaf (star a) k t = first_leaf a k t

pub last_leaf : (r : Condition) (k : ℕ) → T (last r k) → IsLeaf r k
unfolding last leaves
last_leaf (leaf s) k t = let e = eqb→eq k 1 t in omega arith
last_leaf empty k t = absurd t
last_leaf (join a b) k t =
    beside-leaf a b (λ i. last a i && nullable b) (λ i. last b i) (λ j h. last_leaf a j (and-out (last a j) (nullable b) h).0) (last_leaf b) k t
last_leaf (either a b) k t = beside-leaf a b (λ i. last a i) (λ i. last b i) (last_leaf a) (last_leaf b) k t
last_leaf (star a) k t = last_leaf a k t

pub follow-leaf : (r : Condition) (p q : ℕ) → T (follow r p q) → IsLeaf r q
unfolding follow leaves
follow-leaf (leaf s) p q t = absurd t
follow-leaf empty p q t = absurd t
follow-leaf (join a b) p q t =
    sides-leaf a b (λ i j. follow a i j) (λ i j. follow b i j) (λ i j. last a i && first b j) (follow-leaf a) (follow-leaf b)
    (λ i j h. first_leaf b j (and-out (last a i) (first b j) h).1) p q t
follow-leaf (either a b) p q t =
    sides-leaf a b (λ i j. follow a i j) (λ i j. follow b i j) (λ i j. false) (follow-leaf a) (follow-leaf b) (λ i j h. absurd h) p q t
follow-leaf (star a) p q t =
    ⊎_elim
    (λ h. follow-leaf a p q h)
    (λ h. first_leaf a q (and-out (last a p) (first a q) h).1)
    (or-out (follow a p q) (last a p && first a q) t)

pub follows-leaf : (r : Condition) (p q : ℕ) → T (follows r p q) → (0 < q) × (q ≤ leaves r)
unfolding follows
follows-leaf r zero q t = first_leaf r q t
follows-leaf r (suc p) q t = follow-leaf r (suc p) q t

pub follows-suc : (r : Condition) (p q : ℕ) → T (follows r p q) → (j : ℕ) × (q ≡ suc j) × (suc j ≤ leaves r)
follows-suc r p q t = let i = follows-leaf r p q t in (q - 1, omega arith, omega arith)

-- The first side of a join ----------------------------------------------------------------------------------------------

module _ (a b : Condition) where
  pub join-ends : (p : ℕ) → p ≤ leaves a → ends (join a b) p ≡ (ends a p && nullable b)
  unfolding ends nullable last
  join-ends zero l = refl
  join-ends (suc p) l = beside-left (leaves a) _ _ (suc p) l

  pub join-follows : (p : ℕ) → p ≤ leaves a → (q : ℕ)
      → follows (join a b) p q ≡ beside (leaves a) (λ j. follows a p j) (λ j. ends a p && first b j) q
  unfolding ends follows first follow
  join-follows zero l q = refl
  join-follows (suc p) l q = beside-left (leaves a) _ _ (suc p) l

  pub join-holds : (p : ℕ) → p ≤ leaves a → (e : ℕ) → leaf_holds (join a b) p e ≡ leaf_holds a p e
  unfolding leaf_holds leaf_set
  join-holds p l e = ap (λ (s : ℕ). has s e) (beside-left (leaves a) _ _ p l)

-- Sides whose leaves are followed by their own leaves alone -------------------------------------------------------------

-- The condition b is a part of r: leaf suc j of b is leaf (at j) of r, ends a word where it does in b, and is followed by the same leaves.
pub record Part (r b : Condition) (at : ℕ → ℕ) : Type 0 where
  pub part_ends : (j : ℕ) → suc j ≤ leaves b → ends r (at j) ≡ ends b (suc j)
  pub part_holds : (j e : ℕ) → suc j ≤ leaves b → leaf_holds r (at j) e ≡ leaf_holds b (suc j) e
  pub follower_out : (j q : ℕ) → suc j ≤ leaves b → T (follows r (at j) q)
      → (k : ℕ) × (suc k ≤ leaves b) × (q ≡ at k) × T (follows b (suc j) (suc k))
  pub follower_in : (j k : ℕ) → suc j ≤ leaves b → suc k ≤ leaves b → T (follows b (suc j) (suc k)) → T (follows r (at j) (at k))

module _ (a b : Condition) where
  either-follows : (j : ℕ) → suc j ≤ leaves a → (q : ℕ)
      → follows (either a b) (suc j) q ≡ beside (leaves a) (λ k. follows a (suc j) k) (λ k. false) q
  unfolding follows follow
  either-follows j l q = beside-left (leaves a) _ _ (suc j) l

  pub either_first : Part (either a b) a (λ j. suc j)
  unfolding ends last leaf_holds leaf_set
  either_first = record {
    part_ends = λ j l. beside-left (leaves a) _ _ (suc j) l;
    part_holds = λ j e l. ap (λ (s : ℕ). has s e) (beside-left (leaves a) _ _ (suc j) l);
    follower_out = λ j q l n.
        ⊎_elim
        (λ (x : (q ≤ leaves a) × T (follows a (suc j) q)).
        let (k, g, i) = follows-suc a (suc j) q x.1 in
        (k, i, g, rw g at x.1))
        (λ (x : (k : ℕ) × (q ≡ suc (leaves a + k)) × ⊥). absurd x.2)
        (beside-out (leaves a) (λ k. follows a (suc j) k) (λ k. false) q (rw (either-follows j l q) at n));
    follower_in = λ j k l i n. rw (either-follows j l (suc k), beside-left (leaves a) (λ k. follows a (suc j) k) (λ k. false) (suc k) i) n;
  }

  -- the second side of a condition r that is a join or an either
  second : (r : Condition)
      → ((j : ℕ) → ends r (suc (leaves a + j)) ≡ ends b (suc j))
      → ((j : ℕ) → leaf_set r (suc (leaves a + j)) ≡ leaf_set b (suc j))
      → ((j q : ℕ) → follows r (suc (leaves a + j)) q ≡ beside (leaves a) (λ k. false) (λ k. follows b (suc j) k) q)
      → Part r b (λ j. suc (leaves a + j))
  unfolding leaf_holds
  second r ends_is set_is follows_is = record {
    part_ends = λ j l. ends_is j;
    part_holds = λ j e l. ap (λ (s : ℕ). has s e) (set_is j);
    follower_out = λ j q l n.
        ⊎_elim
        (λ (x : (q ≤ leaves a) × ⊥). absurd x.1)
        (λ (x : (k : ℕ) × (q ≡ suc (leaves a + k)) × T (follows b (suc j) (suc k))).
        (x.0, (follows-leaf b (suc j) (suc x.0) x.2).1, x.1, x.2))
        (beside-out (leaves a) (λ k. false) (λ k. follows b (suc j) k) q (rw (follows_is j q) at n));
    follower_in = λ j k l i n. rw (follows_is j (suc (leaves a + k)), beside-right (leaves a) (λ k. false) (λ k. follows b (suc j) k) k) n;
  }

  pub join-second : Part (join a b) b (λ j. suc (leaves a + j))
  unfolding ends last leaf_set follows follow
  join-second = second (join a b) (beside-right (leaves a) _ _) (beside-right (leaves a) _ _) (λ j q. beside-right (leaves a) _ _ j)

  pub either_second : Part (either a b) b (λ j. suc (leaves a + j))
  unfolding ends last leaf_set follows follow
  either_second = second (either a b) (beside-right (leaves a) _ _) (beside-right (leaves a) _ _) (λ j q. beside-right (leaves a) _ _ j)
