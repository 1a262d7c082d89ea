-- Stepping and ending with sets as machine words, and stepping a word event by event.
use mathlib.Core.Path.{◌≡◌, refl, sym, ap, ◌∙◌}
use mathlib.Core.Bool.{Bool, not, ◌&&◌}
use mathlib.Core.List.{[], ◌∷◌, ◌++◌}
use Prim.Native.Nat.{ℕ, zero, suc, ◌≤◌, ◌<◌, zero-le, suc-le-suc}
use lib.Dec.{T, eqb}
use lib.ListN.{length, get_or, take}
use lib.Seq.{take-suc}
use lib.Bits.{bit_and}
use Rattle.bits.specs.Bits.{has, any_below}
use Rattle.bits.proofs.Tests.{and-out, and_in, T-ext, any_out, any-in}
use Rattle.bits.proofs.Masks.{has-and, bits-ext, set-has, nonzero-in, nonzero-out}
use Rattle.condition.specs.Condition.{Condition, Word}
use Rattle.condition.specs.Places.{leaves, places, leaf_holds, follows, ends, step, step_all, some_ends}
use Rattle.condition.proofs.Beside.{follows-leaf, last_leaf}

module _ (r : Condition) where
  -- some place of the set s is followed by leaf q
  abbrev followed : ℕ → ℕ → Bool
  followed s q = any_below (places r) (λ p. has s p && follows r p q)

  -- only leaves follow, and only places end a word
  followed-leaf : (s q : ℕ) → T (followed s q) → (0 < q) × (q ≤ leaves r)
  followed-leaf s q h =
      let (p, _, x) = any_out (places r) (λ p. has s p && follows r p q) h in
      follows-leaf r p q (and-out (has s p) (follows r p q) x).1

  pub ends-place : (p : ℕ) → T (ends r p) → p < places r
  unfolding ends places
  ends-place zero t = suc-le-suc zero-le
  ends-place (suc p) t = suc-le-suc (last_leaf r (suc p) t).1

  step-has : (s e q : ℕ) → has (step r s e).set q ≡ (followed s q && leaf_holds r q e)
  unfolding step places
  step-has s e q =
      set-has (places r) (λ q. followed s q && leaf_holds r q e)
      (λ q t. suc-le-suc (followed-leaf s q (and-out (followed s q) (leaf_holds r q e) t).0).1)
      q

  -- the set s stepped by e is the meet of the followers of its places and the leaves that hold e
  pub step-mask : (s e onward holders : ℕ)
      → ((q : ℕ) → has onward q ≡ any_below (places r) (λ p. has s p && follows r p q))
      → ((q : ℕ) → 0 < q → q ≤ leaves r → has holders q ≡ leaf_holds r q e)
      → bit_and onward holders ≡ (step r s e).set
  step-mask s e onward holders f h =
      bits-ext (bit_and onward holders) (step r s e).set
      (λ q. has-and onward holders q ∙ ap (λ (x : Bool). x && has holders q) (f q) ∙ at q ∙ sym (step-has s e q))
    where
      at : (q : ℕ) → (followed s q && has holders q) ≡ (followed s q && leaf_holds r q e)
      at q =
          T-ext (followed s q && has holders q) (followed s q && leaf_holds r q e)
          (λ t. let (x, y) = and-out (followed s q) (has holders q) t in
          let (i, j) = followed-leaf s q x in
          and_in (followed s q) (leaf_holds r q e) x (rw (h q i j) at y))
          (λ t. let (x, y) = and-out (followed s q) (leaf_holds r q e) t in
          let (i, j) = followed-leaf s q x in
          and_in (followed s q) (has holders q) x (rw (h q i j) y))

  -- a set has a place that passes a test, which only places pass, where it meets the set x of those that do
  pub some-mask : (test : ℕ → Bool) → ((p : ℕ) → T (test p) → p < places r) → (s x : ℕ) → ((p : ℕ) → has x p ≡ test p)
      → not (eqb (bit_and s x) 0) ≡ any_below (places r) (λ p. has s p && test p)
  some-mask test only s x f =
      T-ext (not (eqb (bit_and s x) 0)) (any_below (places r) (λ p. has s p && test p))
      (λ t. let (p, y) = nonzero-out (bit_and s x) t in
      let z : T (has s p && test p) = rw (has-and s x p, f p) at y in
      any-in (places r) (λ p. has s p && test p) p (only p (and-out (has s p) (test p) z).1) z)
      (λ t. let (p, _, y) = any_out (places r) (λ p. has s p && test p) t in
      nonzero-in (bit_and s x) p (rw (has-and s x p, f p) y))

  -- so of the places that end a word
  pub ends-mask : (s ending : ℕ) → ((p : ℕ) → has ending p ≡ ends r p) → not (eqb (bit_and s ending) 0) ≡ some_ends r s
  unfolding some_ends
  ends-mask = some-mask (λ p. ends r p) ends-place

  -- Words, event by event ---------------------------------------------------------------------------------------------

  pub step_all-append : (u v : Word) (s : ℕ) → step_all r s (u ++ v) ≡ step_all r (step_all r s u) v
  unfolding step_all
  step_all-append [] v s = refl
  step_all-append (e ∷ u) v s = step_all-append u v (step r s e).set

  pub step_all-take : (s : ℕ) (w : Word) (i : ℕ) → i < length w
      → step_all r s (take (suc i) w) ≡ (step r (step_all r s (take i w)) (get_or w i 0)).set
  unfolding step_all
  step_all-take s w i h = rw (take-suc w i 0 h) (step_all-append (take i w) (get_or w i 0 ∷ []) s)
