-- The exact certificate of a true inclusion is found without fault.
use mathlib.Core.Path.{◌≡◌}
use mathlib.Core.List.{[], ◌∷◌}
use Prim.Native.Nat.{ℕ, ◌^◌, ◌<◌, zero-le, suc-le-suc}
use lib.Dec.{T, eqb, ltb, eqb_refl, lt→ltb}
use lib.ListN.{length}
use Rattle.bits.specs.Bits.{◌⇒◌, has, all_below}
use Rattle.bits.proofs.Tests.{and_in, if-in, any-in, all_in}
use Rattle.bits.proofs.Sets.{start_has, has-lt}
use Rattle.condition.specs.Condition.{Condition, Word, ◌⊆◌}
use Rattle.condition.specs.Places.{places, step}
use Rattle.condition.proofs.Beside.{follows-leaf}
use Rattle.condition.proofs.Paths.{Leads}
use Rattle.condition.proofs.Words.{leads→holds, holds→leads, SomeLeads, start-lt, step-lt, step_in, some_ends-in}
use Rattle.certificate.specs.Certificate.{Pair, pair, Certificate, pair_of, only_places, within, listed, check, fine, Reachable, start, onward, Exact}
use Rattle.certificate.proofs.Valid.{valid}

only-in : (r : Condition) (s : ℕ) → s < 2 ^ places r → T (only_places r s)
unfolding only_places
only-in r s l = lt→ltb s (2 ^ places r) l

within-itself : (r : Condition) (s : ℕ) → s < 2 ^ places r → T (within r s s)
unfolding within
within-itself r s l =
    and_in (only_places r s) (all_below (places r) (λ k. has s k ⇒ has s k)) (only-in r s l)
    (all_in (places r) (λ k. has s k ⇒ has s k) (λ k _. if-in (has s k) (has s k) (λ h. h)))

-- a pair with the very set t is one with a set within t
listed_in : (right : Condition) (c : Certificate) (q t : ℕ) → t < 2 ^ places right → (i : ℕ) × (i < length c) × (pair_of c i ≡ pair q t)
    → T (listed right c q t)
unfolding listed
listed_in right c q t l h =
    let (j, m, f) = h in
    any-in (length c) _ j m (rw f (and_in (eqb q q) (within right t t) (eqb_refl q) (within-itself right t l)))

module _ (events : ℕ) (left right : Condition) where
  pub reach-place : {p : Pair} → Reachable events left right p → p.place < places left
  unfolding places
  reach-place start = suc-le-suc zero-le
  reach-place (onward {l = l} e q r h n t) = suc-le-suc (follows-leaf left l q n).1

  pub reach-set : {p : Pair} → Reachable events left right p → p.set < 2 ^ places right
  reach-set start = start-lt right
  reach-set (onward {s = s} e q r h n t) = step-lt right s e

  -- where the inclusion is true, a word that leads from a reachable pair's left place leads from one of its right places
  reach_leads : left ⊆ right → {p : Pair} → Reachable events left right p → (w : Word) → Leads left p.place w → SomeLeads right p.set w
  reach_leads inc start w h = (0, start_has, holds→leads right w (inc w (leads→holds left w h)))
  reach_leads inc (onward {s = s} e q r l n t) w h =
      let (p, x, d) = reach_leads inc r (e ∷ w) (q, n, t, h) in
      let (q', n', t', k) = d in
      (q', step_in right s e p q' (has-lt (places right) s p (reach-set r) x) x n' t', k)

pub complete : (events : ℕ) (left right : Condition) (c : Certificate) → left ⊆ right → Exact events left right c → check events left right c ≡ fine
complete events left right c inc exact =
    (valid events left right c).1 (record {
      clause1 = exact.start_first;
      pairs = λ i l.
          let p = pair_of c i in
          let reached = exact.only_reachable i l in
          let below = reach-set events left right reached in
          record {
            clause2 =
                and_in (ltb p.place (places left)) (only_places right p.set)
                (lt→ltb p.place (places left) (reach-place events left right reached))
                (only-in right p.set below);
            clause3 = λ h. some_ends-in right p.set below (reach_leads events left right inc reached [] h);
            clause4 = λ e q m n t.
                let s = (step right p.set e).set in
                listed_in right c q s (step-lt right p.set e) (exact.all_reachable (pair q s) (onward e q reached m n t));
          };
    })
