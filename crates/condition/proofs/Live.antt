-- The live places are those from which a word leads to a place that ends a word; and a live place that ends none is followed by a live leaf further right,
-- whose set is not 0.
use mathlib.Core.Path.{◌≡◌, refl}
use mathlib.Core.Bool.{Bool, not, ◌&&◌, ◌||◌}
use mathlib.Core.Logic.{◌⊎◌, inl, inr, ⊎_elim, ◌↔◌}
use mathlib.Core.List.{[], ◌∷◌, ◌++◌}
use Prim.Native.Nat.{ℕ, zero, suc, ◌+◌, ◌≤◌, ◌<◌, zero-le, suc-le-suc}
use native.Mathlib.Omega.{arith}
use lib.Dec.{T, eqb, eqb→eq}
use lib.Bits.{bit_and}
use Rattle.bits.specs.Bits.{has}
use Rattle.bits.proofs.Tests.{and-out, and_in, or-out, or_left, or_right, T-ext}
use Rattle.bits.proofs.Masks.{has-and, nonzero-in, nonzero-out}
use Rattle.condition.specs.Condition.{Condition, leaf, empty, join, either, star, Word, Holds, never}
use Rattle.condition.specs.Places.{leaves, places, leaf_set, leaf_holds, nullable, first, last, follow, follows, ends, has_word, live_leaf, live}
use Rattle.condition.proofs.Beside.{beside-left, beside-right, side, IsLeaf, beside-leaf, follows-leaf, follows-suc, join-ends, join-follows, join-holds, Part, join-second, either_first, either_second}
use Rattle.condition.proofs.Paths.{Leads, part→, part←, first←, join→, join←, star-leaf→, star-leaf←}
use Rattle.condition.proofs.Words.{leads→holds, holds→leads}

-- Conditions with a word ------------------------------------------------------------------------------------------------

pub word_of : (r : Condition) → T (has_word r) → (w : Word) × Holds r w
unfolding has_word
word_of (leaf s) h = let (e, t) = nonzero-out s h in (e ∷ [], (e, t, refl))
word_of empty h = ([], refl)
word_of (join a b) h =
    let (x, y) = and-out (has_word a) (has_word b) h in
    let (u, k) = word_of a x in
    let (v, l) = word_of b y in
    (u ++ v, (u, v, refl, k, l))
word_of (either a b) h =
    ⊎_elim
    (λ (x : T (has_word a)). let (w, k) = word_of a x in (w, inl k))
    (λ (x : T (has_word b)). let (w, k) = word_of b x in (w, inr k))
    (or-out (has_word a) (has_word b) h)
word_of (star a) h = ([], never)

pub has-word : (r : Condition) (w : Word) → Holds r w → T (has_word r)
unfolding has_word
has-word (leaf s) w h = nonzero-in s h.0 h.1
has-word empty w h = tt
has-word (join a b) w h = let (u, v, f, x, y) = h in and_in (has_word a) (has_word b) (has-word a u x) (has-word b v y)
has-word (either a b) w h =
    ⊎_elim (λ x. or_left (has_word a) (has_word b) (has-word a w x)) (λ x. or_right (has_word a) (has_word b) (has-word b w x)) h
has-word (star a) w h = tt

-- Live places -----------------------------------------------------------------------------------------------------------

-- some word leads from place p
abbrev pub Leading : Condition → ℕ → Type 0
Leading r p = (w : Word) × Leads r p w

-- the leaves of a join and of an either are those of its parts
module _ (a b : Condition) where
  join-first-live : (j : ℕ) → suc j ≤ leaves a → live_leaf (join a b) (suc j) ≡ (live_leaf a (suc j) && has_word b)
  unfolding live_leaf
  join-first-live j l = beside-left (leaves a) _ _ (suc j) l

  join-second-live : (j : ℕ) → live_leaf (join a b) (suc (leaves a + j)) ≡ live_leaf b (suc j)
  unfolding live_leaf
  join-second-live j = beside-right (leaves a) _ _ j

  either-first-live : (j : ℕ) → suc j ≤ leaves a → live_leaf (either a b) (suc j) ≡ live_leaf a (suc j)
  unfolding live_leaf
  either-first-live j l = beside-left (leaves a) _ _ (suc j) l

  either-second-live : (j : ℕ) → live_leaf (either a b) (suc (leaves a + j)) ≡ live_leaf b (suc j)
  unfolding live_leaf
  either-second-live j = beside-right (leaves a) _ _ j

-- a part whose leaves are live in it where they are in the whole
part-leads : {r b : Condition} {at : ℕ → ℕ} (part : Part r b at) (j : ℕ) → suc j ≤ leaves b → {x : Bool} → x ≡ live_leaf b (suc j)
    → T (live_leaf b (suc j)) ↔ Leading b (suc j) → T x ↔ Leading r (at j)
part-leads part j l same (out, into) = (
  λ h. let (w, k) = out (rw same at h) in (w, part← part w j l k),
  λ h. rw same (into (h.0, part→ part h.0 j l h.1)),
)

-- the first part of a join: its words are followed by one of the second
first-leads : (a b : Condition) (j : ℕ) → suc j ≤ leaves a → T (live_leaf a (suc j)) ↔ Leading a (suc j)
    → T (live_leaf (join a b) (suc j)) ↔ Leading (join a b) (suc j)
first-leads a b j l (out, into) = (
  λ h.
      let (x, y) = and-out (live_leaf a (suc j)) (has_word b) (rw (join-first-live a b j l) at h) in
      let (u, k) = out x in
      let (v, m) = word_of b y in
      (u ++ v, join← a b u v (suc j) l k (holds→leads b v m)),
  λ h.
      let (u, v, f, x, y) = join→ a b h.0 (suc j) l h.1 in
      rw (join-first-live a b j l) (and_in (live_leaf a (suc j)) (has_word b) (into (u, x)) (has-word b v (leads→holds b v y))),
)

-- the only leaf ends a word
only-leads : (s j : ℕ) → j ≡ 0 → T (live_leaf (leaf s) (suc j)) ↔ Leading (leaf s) (suc j)
unfolding live_leaf ends last
only-leads s zero e = (λ h. ([], tt), λ h. tt)
only-leads s (suc j) e = absurd (omega arith)

star-leads : (a : Condition) (j : ℕ) → T (live_leaf a (suc j)) ↔ Leading a (suc j) → T (live_leaf (star a) (suc j)) ↔ Leading (star a) (suc j)
unfolding live_leaf ends nullable
star-leads a j (out, into) = (
  λ h. let (w, k) = out h in (w ++ [], star-leaf← a (λ u. Holds a u) w [] j k tt),
  λ h. let (u, v, f, x, y) = star-leaf→ a (λ u. Holds a u) (leads→holds a) h.0 j h.1 in into (u, x),
)

leaf-leads : (r : Condition) (j : ℕ) → suc j ≤ leaves r → T (live_leaf r (suc j)) ↔ Leading r (suc j)
unfolding leaves
leaf-leads (leaf s) j l = only-leads s j (omega arith)
leaf-leads empty j l = absurd (omega arith)
leaf-leads (join a b) j l =
    ⊎_elim
    (λ (i : suc j ≤ leaves a). first-leads a b j i (leaf-leads a j i))
    (λ (i : (k : ℕ) × (suc j ≡ suc (leaves a + k))).
    let e = i.1 in
    let m : suc i.0 ≤ leaves b = omega arith in
    rw e (part-leads (join-second a b) i.0 m (join-second-live a b i.0) (leaf-leads b i.0 m)))
    (side (leaves a) (suc j))
leaf-leads (either a b) j l =
    ⊎_elim
    (λ (i : suc j ≤ leaves a). part-leads (either_first a b) j i (either-first-live a b j i) (leaf-leads a j i))
    (λ (i : (k : ℕ) × (suc j ≡ suc (leaves a + k))).
    let e = i.1 in
    let m : suc i.0 ≤ leaves b = omega arith in
    rw e (part-leads (either_second a b) i.0 m (either-second-live a b i.0) (leaf-leads b i.0 m)))
    (side (leaves a) (suc j))
leaf-leads (star a) j l = star-leads a j (leaf-leads a j l)

pub live-leads : (r : Condition) (p : ℕ) → p ≤ leaves r → T (live r p) ↔ Leading r p
unfolding live
live-leads r zero l =
    (λ h. let (w, k) = word_of r h in (w, holds→leads r w k), λ h. has-word r h.0 (leads→holds r h.0 h.1))
live-leads r (suc j) l = leaf-leads r j l

-- only places are live
live-leaf : (r : Condition) (k : ℕ) → T (live_leaf r k) → IsLeaf r k
unfolding live_leaf leaves
live-leaf (leaf s) k t = let e = eqb→eq k 1 t in omega arith
live-leaf empty k t = absurd t
live-leaf (join a b) k t =
    beside-leaf a b (λ i. live_leaf a i && has_word b) (λ i. live_leaf b i) (λ j h. live-leaf a j (and-out (live_leaf a j) (has_word b) h).0) (live-leaf b) k t
live-leaf (either a b) k t = beside-leaf a b (λ i. live_leaf a i) (λ i. live_leaf b i) (live-leaf a) (live-leaf b) k t
live-leaf (star a) k t = live-leaf a k t

pub live-place : (r : Condition) (p : ℕ) → T (live r p) → p < places r
unfolding live places
live-place r zero t = suc-le-suc zero-le
live-place r (suc p) t = suc-le-suc (live-leaf r (suc p) t).1

-- From left to right ----------------------------------------------------------------------------------------------------

-- leaf q holds some event, and a word leads on from it
abbrev Entered : Condition → ℕ → Type 0
Entered r q = (e : ℕ) × T (leaf_holds r q e) × Leading r q

-- place p ends a word, or is followed by such a leaf further right
abbrev Right : Condition → ℕ → Type 0
Right r p = T (ends r p) ⊎ ((q : ℕ) × (p < q) × T (follows r p q) × Entered r q)

part_right : {r b : Condition} {at : ℕ → ℕ} (part : Part r b at) → ((j k : ℕ) → j < k → at j < at k) → (j : ℕ) → suc j ≤ leaves b → Right b (suc j) → Right r (at j)
part_right {r} {b} {at} part ascends j l (inl h) = inl (rw (part.part_ends j l) h)
part_right {r} {b} {at} part ascends j l (inr (q, less, n, (e, t, (w, k)))) =
    let (i, g, m) = follows-suc b (suc j) q n in
    inr (
      at i,
      ascends j i (omega arith),
      part.follower_in j i l m (rw g at n),
      (e, rw (part.part_holds i e m) (rw g at t), (w, part← part w i m (rw g at k))),
    )

-- the first side of a join
module _ (a b : Condition) (v : Word) (rest : Leads b 0 v) (p : ℕ) (l : p ≤ leaves a) where
  join-right : Right a p → Right (join a b) p
  unfolding ends
  join-right (inr (q, less, n, (e, t, (w, k)))) =
      let m = (follows-leaf a p q n).1 in
      inr (
        q,
        less,
        rw (join-follows a b p l q, beside-left (leaves a) (λ i. follows a p i) (λ i. ends a p && first b i) q m) n,
        (e, rw (join-holds a b q m e) t, (w ++ v, join← a b w v q m k rest)),
      )
  join-right (inl h) = go v rest
    where
      go : (v : Word) → Leads b 0 v → Right (join a b) p
      go [] k = inl (rw (join-ends a b p l) (and_in (ends a p) (nullable b) h k))
      go (e ∷ v) k =
          let (j, i, n, t, z) = first← (join-second a b) e v k in
          inr (
            suc (leaves a + j),
            omega arith,
            rw (join-follows a b p l (suc (leaves a + j)), beside-right (leaves a) (λ i. follows a p i) (λ i. ends a p && first b i) j)
                (and_in (ends a p) (first b (suc j)) h n),
            (e, t, (v, z)),
          )

only-ends : (s j : ℕ) → j ≡ 0 → T (ends (leaf s) (suc j))
unfolding ends last
only-ends s zero e = tt
only-ends s (suc j) e = absurd (omega arith)

star-right : (a : Condition) (j : ℕ) → Right a (suc j) → Right (star a) (suc j)
unfolding ends nullable last follows follow leaf_holds leaf_set
star-right a j (inl k) = inl k
star-right a j (inr (q, less, n, (e, t, (w, k)))) =
    let (i, g, m) = follows-suc a (suc j) q n in
    inr (
      q,
      less,
      or_left (follow a (suc j) q) (last a (suc j) && first a q) n,
      (e, t, (w ++ [], rw g (star-leaf← a (λ u. Holds a u) w [] i (rw g at k) tt))),
    )

leaf-right : (r : Condition) (j : ℕ) → suc j ≤ leaves r → Leading r (suc j) → Right r (suc j)
unfolding leaves
leaf-right (leaf s) j l h = inl (only-ends s j (omega arith))
leaf-right empty j l h = absurd (omega arith)
leaf-right (join a b) j l h =
    ⊎_elim
    (λ (i : suc j ≤ leaves a).
    let (u, v, f, x, y) = join→ a b h.0 (suc j) i h.1 in
    join-right a b v y (suc j) i (leaf-right a j i (u, x)))
    (λ (i : (k : ℕ) × (suc j ≡ suc (leaves a + k))).
    let e = i.1 in
    let m : suc i.0 ≤ leaves b = omega arith in
    rw e (part_right (join-second a b) (λ j k x. omega (arith, x)) i.0 m
    (leaf-right b i.0 m (h.0, part→ (join-second a b) h.0 i.0 m (rw e at h.1)))))
    (side (leaves a) (suc j))
leaf-right (either a b) j l h =
    ⊎_elim
    (λ (i : suc j ≤ leaves a).
    part_right (either_first a b) (λ j k x. suc-le-suc x) j i (leaf-right a j i (h.0, part→ (either_first a b) h.0 j i h.1)))
    (λ (i : (k : ℕ) × (suc j ≡ suc (leaves a + k))).
    let e = i.1 in
    let m : suc i.0 ≤ leaves b = omega arith in
    rw e (part_right (either_second a b) (λ j k x. omega (arith, x)) i.0 m
    (leaf-right b i.0 m (h.0, part→ (either_second a b) h.0 i.0 m (rw e at h.1)))))
    (side (leaves a) (suc j))
leaf-right (star a) j l h =
    let (u, v, f, x, y) = star-leaf→ a (λ u. Holds a u) (leads→holds a) h.0 j h.1 in
    star-right a j (leaf-right a j l (u, x))

right : (r : Condition) (p : ℕ) → p ≤ leaves r → Leading r p → Right r p
right r (suc j) l h = leaf-right r j l h
right r zero l ([], k) = inl k
right r zero l (e ∷ w, (q, n, t, k)) = inr (q, (follows-leaf r 0 q n).0, n, (e, t, (w, k)))

-- the live places further right whose leaf holds some event, as one set: a place is live that ends a word or has one of them among its followers
module _ (r : Condition) (p followers entered : ℕ) (l : p ≤ leaves r) (followers-are : (q : ℕ) → has followers q ≡ follows r p q)
    (entered-are : (q : ℕ) → p < q → q ≤ leaves r → has entered q ≡ (not (eqb (leaf_set r q) 0) && live r q)) (none-else : (q : ℕ) → T (has entered q) → p < q) where
  -- one of them follows place p
  abbrev meets : Bool
  meets = not (eqb (bit_and followers entered) 0)

  live_in : T (ends r p || meets) → T (live r p)
  unfolding leaf_holds
  live_in h =
      ⊎_elim
      (λ (x : T (ends r p)). (live-leads r p l).1 ([], x))
      (λ (x : T meets).
      let (q, y) = nonzero-out (bit_and followers entered) x in
      let (a, b) = and-out (has followers q) (has entered q) (rw (has-and followers entered q) at y) in
      let n : T (follows r p q) = rw (followers-are q) at a in
      let m = (follows-leaf r p q n).1 in
      let (z, k) = and-out (not (eqb (leaf_set r q) 0)) (live r q) (rw (entered-are q (none-else q b) m) at b) in
      let (e, t) = nonzero-out (leaf_set r q) z in
      let (w, o) = (live-leads r q m).0 k in
      (live-leads r p l).1 (e ∷ w, (q, n, t, o)))
      (or-out (ends r p) meets h)

  live_out : Right r p → T (ends r p || meets)
  unfolding leaf_holds
  live_out (inl x) = or_left (ends r p) meets x
  live_out (inr (q, less, n, (e, t, k))) =
      let m = (follows-leaf r p q n).1 in
      let z = and_in (not (eqb (leaf_set r q) 0)) (live r q) (nonzero-in (leaf_set r q) e t) ((live-leads r q m).1 k) in
      or_right (ends r p) meets
      (nonzero-in (bit_and followers entered) q
      (rw (has-and followers entered q) (and_in (has followers q) (has entered q) (rw (followers-are q) n) (rw (entered-are q less m) z))))

  pub live-by-right : (ends r p || not (eqb (bit_and followers entered) 0)) ≡ live r p
  live-by-right = T-ext (ends r p || meets) (live r p) live_in (λ h. live_out (right r p l ((live-leads r p l).0 h)))
