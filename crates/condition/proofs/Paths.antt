-- The words that lead from a place to one that ends a word, and how those of a condition are made of those of its parts.
use mathlib.Core.Path.{◌≡◌, refl, ap}
use mathlib.Core.Bool.{◌&&◌}
use mathlib.Core.Logic.{◌⊎◌, inl, inr, ⊎_elim}
use mathlib.Core.List.{[], ◌∷◌, ◌++◌}
use Prim.Native.Nat.{ℕ, suc, ◌+◌, ◌≤◌}
use lib.Dec.{T, eqb→eq}
use Rattle.bits.proofs.Tests.{and-out, and_in, or-out, or_left, or_right}
use Rattle.condition.specs.Condition.{Condition, leaf, empty, join, either, star, Word, Holds, Repeated, never, once_more}
use Rattle.condition.specs.Places.{leaves, leaf_set, leaf_holds, nullable, first, last, follow, follows, ends}
use Rattle.condition.proofs.Beside.{beside-left, beside-right, beside-out, follows-leaf, follows-suc, join-ends, join-follows, join-holds, Part, join-second, either_first, either_second}

-- from place p of r the word leads to a place that ends a word
abbrev pub Leads : Condition → ℕ → Word → Type 0
Leads r p [] = T (ends r p)
Leads r p (e ∷ w) = (q : ℕ) × T (follows r p q) × T (leaf_holds r q e) × Leads r q w

-- Parts -----------------------------------------------------------------------------------------------------------------

module _ {r b : Condition} {at : ℕ → ℕ} (part : Part r b at) where
  pub part→ : (w : Word) (j : ℕ) → suc j ≤ leaves b → Leads r (at j) w → Leads b (suc j) w
  part→ [] j l h = rw (part.part_ends j l) at h
  part→ (e ∷ w) j l h =
      let (q, n, t, k) = h in
      let (i, m, g, o) = part.follower_out j q l n in
      (suc i, o, rw (g, part.part_holds i e m) at t, part→ w i m (rw g at k))

  pub part← : (w : Word) (j : ℕ) → suc j ≤ leaves b → Leads b (suc j) w → Leads r (at j) w
  part← [] j l h = rw (part.part_ends j l) h
  part← (e ∷ w) j l h =
      let (q, n, t, k) = h in
      let (i, g, m) = follows-suc b (suc j) q n in
      (at i, part.follower_in j i l m (rw g at n), rw (part.part_holds i e m) (rw g at t), part← w i m (rw g at k))

  -- a word of b begins at one of its first leaves
  first→ : (e : ℕ) (w : Word) (j : ℕ) → T (first b (suc j)) → T (leaf_holds r (at j) e) → Leads r (at j) w → Leads b 0 (e ∷ w)
  unfolding follows
  first→ e w j n t k = let l = (follows-leaf b 0 (suc j) n).1 in (suc j, n, rw (part.part_holds j e l) at t, part→ w j l k)

  pub first← : (e : ℕ) (w : Word) → Leads b 0 (e ∷ w)
      → (j : ℕ) × (suc j ≤ leaves b) × T (first b (suc j)) × T (leaf_holds r (at j) e) × Leads r (at j) w
  unfolding follows
  first← e w h =
      let (q, n, t, k) = h in
      let (j, g, l) = follows-suc b 0 q n in
      (j, l, rw g at n, rw (part.part_holds j e l) (rw g at t), part← w j l (rw g at k))

-- Join ------------------------------------------------------------------------------------------------------------------

module _ (a b : Condition) where
  pub join→ : (w : Word) (p : ℕ) → p ≤ leaves a → Leads (join a b) p w
      → (u : Word) × (v : Word) × (w ≡ u ++ v) × Leads a p u × Leads b 0 v
  unfolding ends
  join→ [] p l h = let x = and-out (ends a p) (nullable b) (rw (join-ends a b p l) at h) in ([], [], refl, x.0, x.1)
  join→ (e ∷ w) p l h =
      let (q, n, t, k) = h in
      ⊎_elim
      (λ (x : (q ≤ leaves a) × T (follows a p q)).
      let (u, v, f, y, z) = join→ w q x.0 k in
      (e ∷ u, v, ap (λ (w : Word). e ∷ w) f, (q, x.1, rw (join-holds a b q x.0 e) at t, y), z))
      (λ (x : (j : ℕ) × (q ≡ suc (leaves a + j)) × T (ends a p && first b (suc j))).
      let (y, z) = and-out (ends a p) (first b (suc x.0)) x.2 in
      ([], e ∷ w, refl, y, first→ (join-second a b) e w x.0 z (rw x.1 at t) (rw x.1 at k)))
      (beside-out (leaves a) (λ j. follows a p j) (λ j. ends a p && first b j) q (rw (join-follows a b p l q) at n))

  pub join← : (u v : Word) (p : ℕ) → p ≤ leaves a → Leads a p u → Leads b 0 v → Leads (join a b) p (u ++ v)
  unfolding ends
  join← [] [] p l h k = rw (join-ends a b p l) (and_in (ends a p) (nullable b) h k)
  join← [] (e ∷ v) p l h k =
      let (j, i, n, t, z) = first← (join-second a b) e v k in (
        suc (leaves a + j),
        rw (join-follows a b p l (suc (leaves a + j)), beside-right (leaves a) (λ i. follows a p i) (λ i. ends a p && first b i) j)
            (and_in (ends a p) (first b (suc j)) h n),
        t,
        z,
      )
  join← (e ∷ u) v p l h k =
      let (q, n, t, z) = h in
      let i = (follows-leaf a p q n).1 in (
        q,
        rw (join-follows a b p l q, beside-left (leaves a) (λ i. follows a p i) (λ i. ends a p && first b i) q i) n,
        rw (join-holds a b q i e) t,
        join← u v q i z k,
      )

-- Either ----------------------------------------------------------------------------------------------------------------

module _ (a b : Condition) where
  pub either→ : (w : Word) → Leads (either a b) 0 w → Leads a 0 w ⊎ Leads b 0 w
  unfolding ends follows nullable first
  either→ [] h = or-out (nullable a) (nullable b) h
  either→ (e ∷ w) h =
      let (q, n, t, k) = h in
      ⊎_elim
      (λ (x : (q ≤ leaves a) × T (first a q)).
      let (j, f, i) = follows-suc a 0 q x.1 in
      inl (first→ (either_first a b) e w j (rw f at x.1) (rw f at t) (rw f at k)))
      (λ (x : (j : ℕ) × (q ≡ suc (leaves a + j)) × T (first b (suc j))).
      inr (first→ (either_second a b) e w x.0 x.2 (rw x.1 at t) (rw x.1 at k)))
      (beside-out (leaves a) (λ i. first a i) (λ i. first b i) q n)

  pub either_left : (w : Word) → Leads a 0 w → Leads (either a b) 0 w
  unfolding ends follows nullable first
  either_left [] h = or_left (nullable a) (nullable b) h
  either_left (e ∷ w) h =
      let (j, i, n, t, k) = first← (either_first a b) e w h in
      (suc j, rw (beside-left (leaves a) (λ i. first a i) (λ i. first b i) (suc j) i) n, t, k)

  pub either-right : (w : Word) → Leads b 0 w → Leads (either a b) 0 w
  unfolding ends follows nullable first
  either-right [] h = or_right (nullable a) (nullable b) h
  either-right (e ∷ w) h =
      let (j, i, n, t, k) = first← (either_second a b) e w h in
      (suc (leaves a + j), rw (beside-right (leaves a) (λ i. first a i) (λ i. first b i) j) n, t, k)

-- Star ------------------------------------------------------------------------------------------------------------------

module _ (a : Condition) (P : Word → Type 0) where
  -- a first word e ∷ u of the item, and then further ones
  first_word : ((w : Word) → Leads a 0 w → P w) → (e : ℕ) (u v w : Word) (q : ℕ)
      → w ≡ u ++ v → T (first a q) → T (leaf_holds a q e) → Leads a q u → Repeated P v → Repeated P (e ∷ w)
  unfolding follows
  first_word all e u v w q g n t y z = rw g (once_more {u = e ∷ u} {v = v} (all (e ∷ u) (q, n, t, y)) z)

  -- from a leaf, a word of the star is the rest of a word of the item, and then further ones
  pub star-leaf→ : ((w : Word) → Leads a 0 w → P w) → (w : Word) (p : ℕ) → Leads (star a) (suc p) w
      → (u : Word) × (v : Word) × (w ≡ u ++ v) × Leads a (suc p) u × Repeated P v
  unfolding ends follows last follow leaf_holds leaf_set
  star-leaf→ all [] p h = ([], [], refl, h, never)
  star-leaf→ all (e ∷ w) p h =
      let (q, n, t, k) = h in
      let (j, f, i) = follows-suc (star a) (suc p) q n in
      let (u, v, g, y, z) = star-leaf→ all w j (rw f at k) in
      let t' : T (leaf_holds a (suc j) e) = rw f at t in
      ⊎_elim
      (λ (x : T (follow a (suc p) q)). (e ∷ u, v, ap (λ (w : Word). e ∷ w) g, (suc j, rw f at x, t', y), z))
      (λ (x : T (last a (suc p) && first a q)).
      let (l, s) = and-out (last a (suc p)) (first a q) x in
      ([], e ∷ w, refl, l, first_word all e u v w (suc j) g (rw f at s) t' y z))
      (or-out (follow a (suc p) q) (last a (suc p) && first a q) n)

  pub star→ : ((w : Word) → Leads a 0 w → P w) → (w : Word) → Leads (star a) 0 w → Repeated P w
  unfolding follows first leaf_holds leaf_set
  star→ all [] h = never
  star→ all (e ∷ w) h =
      let (q, n, t, k) = h in
      let (j, f, i) = follows-suc a 0 q n in
      let (u, v, g, y, z) = star-leaf→ all w j (rw f at k) in
      first_word all e u v w (suc j) g (rw f at n) (rw f at t) y z

  pub star-leaf← : (u v : Word) (p : ℕ) → Leads a (suc p) u → Leads (star a) 0 v → Leads (star a) (suc p) (u ++ v)
  unfolding ends follows last first follow leaf_holds leaf_set
  star-leaf← [] [] p h k = h
  star-leaf← [] (e ∷ v) p h k =
      let (q, n, t, z) = k in
      (q, or_right (follow a (suc p) q) (last a (suc p) && first a q) (and_in (last a (suc p)) (first a q) h n), t, z)
  star-leaf← (e ∷ u) v p h k =
      let (q, n, t, z) = h in
      let (j, f, i) = follows-suc a (suc p) q n in (
        suc j,
        or_left (follow a (suc p) (suc j)) (last a (suc p) && first a (suc j)) (rw f at n),
        rw f at t,
        star-leaf← u v j (rw f at z) k,
      )

  star-append : (u v : Word) → Leads a 0 u → Leads (star a) 0 v → Leads (star a) 0 (u ++ v)
  unfolding follows first leaf_holds leaf_set
  star-append [] v h k = k
  star-append (e ∷ u) v h k =
      let (q, n, t, z) = h in
      let (j, f, i) = follows-suc a 0 q n in
      (suc j, rw f at n, rw f at t, star-leaf← u v j (rw f at z) k)

  pub star← : ((w : Word) → P w → Leads a 0 w) → {w : Word} → Repeated P w → Leads (star a) 0 w
  unfolding ends nullable
  star← all never = tt
  star← all (once_more {u = u} {v = v} x y) = star-append u v (all u x) (star← all y)

-- Leaf and empty --------------------------------------------------------------------------------------------------------

pub leaf→ : (s : ℕ) (w : Word) → Leads (leaf s) 0 w → Holds (leaf s) w
unfolding ends nullable follows first follow leaf_holds leaf_set
leaf→ s [] h = absurd h
leaf→ s (e ∷ []) h = (e, h.2, refl)
leaf→ s (e ∷ e' ∷ w) h =
    let (q, n, t, k) = h in
    let k' : Leads (leaf s) 1 (e' ∷ w) = rw (eqb→eq q 1 n) at k in
    absurd k'.1

pub empty→ : (w : Word) → Leads empty 0 w → w ≡ []
unfolding follows first
empty→ [] h = refl
empty→ (e ∷ w) h = absurd h.1
