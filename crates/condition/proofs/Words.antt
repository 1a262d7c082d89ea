-- The word test is right: it accepts exactly the words that the condition holds.
use mathlib.Core.Path.{◌≡◌, refl}
use mathlib.Core.Bool.{Bool, ◌&&◌}
use mathlib.Core.Logic.{inl, inr, ⊎_elim, ◌↔◌}
use mathlib.Core.List.{[], ◌∷◌}
use Prim.Native.Nat.{ℕ, ◌^◌, ◌<◌, zero-le, suc-le-suc}
use native.Mathlib.Nat.{pow-suc}
use native.Mathlib.Omega.{arith}
use lib.Dec.{T}
use lib.Pow.{pow_pos}
use Rattle.bits.specs.Bits.{has, any_below, set_of}
use Rattle.bits.proofs.Tests.{and-out, and_in, any_out, any-in}
use Rattle.bits.proofs.Sets.{start_has, has-start, set-in, set-lt, has-lt}
use Rattle.condition.specs.Condition.{Condition, leaf, empty, join, either, star, Word, Holds}
use Rattle.condition.specs.Places.{leaves, places, leaf_set, leaf_holds, nullable, first, last, follows, ends, step, step_all, some_ends, accepts}
use Rattle.condition.proofs.Beside.{follows-leaf}
use Rattle.condition.proofs.Paths.{Leads, join→, join←, either→, either_left, either-right, star→, star←, leaf→, empty→}

-- The words that lead from the start are the condition's ----------------------------------------------------------------

pub leads→holds : (r : Condition) (w : Word) → Leads r 0 w → Holds r w
leads→holds (leaf s) w h = leaf→ s w h
leads→holds empty w h = empty→ w h
leads→holds (join a b) w h =
    let (u, v, f, x, y) = join→ a b w 0 zero-le h in
    (u, v, f, leads→holds a u x, leads→holds b v y)
leads→holds (either a b) w h = ⊎_elim (λ x. inl (leads→holds a w x)) (λ x. inr (leads→holds b w x)) (either→ a b w h)
leads→holds (star a) w h = star→ a (λ u. Holds a u) (leads→holds a) w h

pub holds→leads : (r : Condition) (w : Word) → Holds r w → Leads r 0 w
unfolding ends nullable follows first last leaf_holds leaf_set
holds→leads (leaf s) w h = rw h.2 (1, tt, h.1, tt)
holds→leads empty w h = rw h tt
holds→leads (join a b) w h =
    let (u, v, f, x, y) = h in
    rw f (join← a b u v 0 zero-le (holds→leads a u x) (holds→leads b v y))
holds→leads (either a b) w h = ⊎_elim (λ x. either_left a b w (holds→leads a w x)) (λ x. either-right a b w (holds→leads b w x)) h
holds→leads (star a) w h = star← a (λ u. Holds a u) (holds→leads a) h

pub nullable-holds : (r : Condition) → T (nullable r) ↔ Holds r []
unfolding ends
nullable-holds r = (leads→holds r [], holds→leads r [])

-- Sets of places --------------------------------------------------------------------------------------------------------

-- from one of the places of the set s the word leads to a place that ends a word
abbrev pub SomeLeads : Condition → ℕ → Word → Type 0
SomeLeads r s w = (p : ℕ) × T (has s p) × Leads r p w

module _ (r : Condition) where
  pub start-lt : 1 < 2 ^ places r
  unfolding places
  start-lt = omega (arith, pow_pos (leaves r), pow-suc 2 (leaves r))

  -- some place of the set s is followed by leaf q
  abbrev followed : ℕ → ℕ → Bool
  followed s q = any_below (places r) (λ p. has s p && follows r p q)

  -- the set that stepping gives has every follower that holds the event
  step_is : (s e : ℕ) → (step r s e).set ≡ set_of (places r) (λ q. followed s q && leaf_holds r q e)
  unfolding step
  step_is s e = refl

  pub step-lt : (s e : ℕ) → (step r s e).set < 2 ^ places r
  step-lt s e = rw (step_is s e) (set-lt (places r) _)

  pub step-out : (s e q : ℕ) → T (has (step r s e).set q) → (p : ℕ) × T (has s p) × T (follows r p q) × T (leaf_holds r q e)
  step-out s e q h =
      let l = has-lt (places r) (step r s e).set q (step-lt s e) h in
      let (x, t) = and-out (followed s q) (leaf_holds r q e) (rw (step_is s e, set-in (places r) (λ q. followed s q && leaf_holds r q e) q l) at h) in
      let (p, _, y) = any_out (places r) (λ p. has s p && follows r p q) x in
      let (z, n) = and-out (has s p) (follows r p q) y in
      (p, z, n, t)

  pub step_in : (s e p q : ℕ) → p < places r → T (has s p) → T (follows r p q) → T (leaf_holds r q e) → T (has (step r s e).set q)
  unfolding places
  step_in s e p q l h n t =
      rw (step_is s e, set-in (places r) (λ q. followed s q && leaf_holds r q e) q (suc-le-suc (follows-leaf r p q n).1))
      (and_in (followed s q) (leaf_holds r q e)
      (any-in (places r) (λ p. has s p && follows r p q) p l (and_in (has s p) (follows r p q) h n))
      t)

  pub some_ends-out : (s : ℕ) → T (some_ends r s) → SomeLeads r s []
  unfolding some_ends
  some_ends-out s h =
      let (p, _, y) = any_out (places r) (λ p. has s p && ends r p) h in
      let (z, n) = and-out (has s p) (ends r p) y in
      (p, z, n)

  pub some_ends-in : (s : ℕ) → s < 2 ^ places r → SomeLeads r s [] → T (some_ends r s)
  unfolding some_ends
  some_ends-in s l h =
      let (p, z, n) = h in
      any-in (places r) (λ p. has s p && ends r p) p (has-lt (places r) s p l z) (and_in (has s p) (ends r p) z n)

  pub step_all-out : (w : Word) (s : ℕ) → T (some_ends r (step_all r s w)) → SomeLeads r s w
  unfolding step_all
  step_all-out [] s h = some_ends-out s h
  step_all-out (e ∷ w) s h =
      let (q, x, k) = step_all-out w (step r s e).set h in
      let (p, y, n, t) = step-out s e q x in
      (p, y, (q, n, t, k))

  pub step_all-in : (w : Word) (s : ℕ) → s < 2 ^ places r → SomeLeads r s w → T (some_ends r (step_all r s w))
  unfolding step_all
  step_all-in [] s l h = some_ends-in s l h
  step_all-in (e ∷ w) s l h =
      let (p, y, k) = h in
      let (q, n, t, z) = k in
      step_all-in w (step r s e).set (step-lt s e) (q, step_in s e p q (has-lt (places r) s p l y) y n t, z)

-- The word test ---------------------------------------------------------------------------------------------------------

pub accepts-is : (r : Condition) (w : Word) → accepts r w ≡ some_ends r (step_all r 1 w)
unfolding accepts
accepts-is r w = refl

pub words : (r : Condition) (w : Word) → T (accepts r w) ↔ Holds r w
words r w = (
  λ h. let (p, x, k) = step_all-out r w 1 (rw (accepts-is r w) at h) in leads→holds r w (rw (has-start p x) at k),
  λ h. rw (accepts-is r w) (step_all-in r w 1 (start-lt r) (0, start_has, holds→leads r w h)),
)
