-- More events than the left side has change nothing: clause 4 finds nothing at them, and they reach no pair.
use mathlib.Core.Path.{◌≡◌, refl, ap, ◌∙◌}
use mathlib.Core.Bool.{◌&&◌}
use mathlib.Core.Logic.{⊎_elim, ◌↔◌}
use Prim.Native.Nat.{ℕ, zero, suc, ◌≤◌, ◌<◌}
use native.Mathlib.Nat.{eq-or-lt_of_le, le_of_suc-le-suc, lt_of_lt_of_le}
use native.Mathlib.Omega.{arith}
use lib.Dec.{T}
use lib.ListN.{length}
use Rattle.bits.proofs.Tests.{and-out, if-in}
use Rattle.bits.proofs.Sets.{has-lt}
use Rattle.condition.specs.Condition.{Condition}
use Rattle.condition.specs.Places.{places, leaf_set, leaf_holds, follows, step}
use Rattle.condition.proofs.Narrow.{EventsBelow, leaf-below}
use Rattle.certificate.specs.Certificate.{Pair, Certificate, pair_of, Finding, fine, found, fault, ◌then◌, in_order, unless, starts_right, listed, clause4_at, pair_finding, check, Reachable, start, onward, Exact}
use Rattle.certificate.proofs.Findings.{Fine, fine-is, unless-in, in_order-in, in_order-cong}
use Rattle.certificate.proofs.Valid.{test4}

-- a test that finds nothing wrong adds nothing
then-fine : (u v : Finding) → Fine v → (u then v) ≡ u
then-fine fine v h = fine-is v h
then-fine (found x) v h = refl

-- the first fault of more tests, where those from n on find nothing wrong
in_order-more : (n n' : ℕ) (f : ℕ → Finding) → n ≤ n' → ((k : ℕ) → n ≤ k → Fine (f k)) → in_order n' f ≡ in_order n f
unfolding in_order
in_order-more n zero f l h = let e : n ≡ 0 = omega arith in rw e
in_order-more n (suc n') f l h =
    ⊎_elim
    (λ (e : n ≡ suc n'). rw e)
    (λ m. let k = le_of_suc-le-suc m in then-fine (in_order n' f) (f n') (h n' k) ∙ in_order-more n n' f k h)
    (eq-or-lt_of_le l)

module _ (n n' : ℕ) (more : n ≤ n') (left right : Condition) (below : EventsBelow n left) where
  -- a leaf of the left side has only events below n
  held-lt : (q e : ℕ) → T (leaf_holds left q e) → e < n
  unfolding leaf_holds
  held-lt q e t = has-lt n (leaf_set left q) e (leaf-below n left below q) t

  module _ (c : Certificate) where
    -- what clause 4 finds of the follower q at the event e
    abbrev finding : ℕ → Pair → ℕ → ℕ → Finding
    finding i p e q = unless (test4 n' left right c p e q) (fault 4 i e q)

    -- nothing, at an event from n on
    finding-fine : (i : ℕ) (p : Pair) (e q : ℕ) → n ≤ e → Fine (finding i p e q)
    finding-fine i p e q l =
        unless-in (test4 n' left right c p e q) (fault 4 i e q)
        (if-in (follows left p.place q && leaf_holds left q e) (listed right c q (step right p.set e).set)
        (λ h.
        let (_, t) = and-out (follows left p.place q) (leaf_holds left q e) h in
        let m = held-lt q e t in
        absurd (omega arith)))

    abbrev clause4 : ℕ → ℕ → Pair → Finding
    clause4 m i p = in_order m (λ e. clause4_at m left right c i p e)

    clause4-more : (i : ℕ) (p : Pair) → clause4 n' i p ≡ clause4 n i p
    unfolding clause4_at
    clause4-more i p =
        in_order-more n n' (λ e. in_order (places left) (λ q. finding i p e q)) more
        (λ e l. in_order-in (places left) (λ q. finding i p e q) (λ q _. finding-fine i p e q l))

    pair-more : (i : ℕ) (p : Pair) → pair_finding n left right c i p ≡ pair_finding n' left right c i p
    unfolding pair_finding
    pair-more i p = rw (clause4-more i p, pair_finding)

    -- the check finds the same over n events and over more
    pub check-more : check n left right c ≡ check n' left right c
    unfolding check
    check-more =
        ap (λ (v : Finding). unless (starts_right c) (fault 1 0 0 0) then v)
        (in_order-cong (length c) _ _ (λ i _. pair-more i (pair_of c i)))

  -- the same pairs are reachable
  pub reach-more : {p : Pair} → Reachable n left right p → Reachable n' left right p
  reach-more start = start
  reach-more (onward e q r l m t) = onward e q (reach-more r) (lt_of_lt_of_le l more) m t

  pub reach-fewer : {p : Pair} → Reachable n' left right p → Reachable n left right p
  reach-fewer start = start
  reach-fewer (onward e q r l m t) = onward e q (reach-fewer r) (held-lt q e t) m t

  -- and the same certificates are exact
  pub exact-more : (c : Certificate) → Exact n left right c ↔ Exact n' left right c
  exact-more c = (
    λ x.
        record {
          start_first = x.start_first;
          only_reachable = λ i l. reach-more (x.only_reachable i l);
          all_reachable = λ p r. x.all_reachable p (reach-fewer r);
        },
    λ x.
        record {
          start_first = x.start_first;
          only_reachable = λ i l. reach-fewer (x.only_reachable i l);
          all_reachable = λ p r. x.all_reachable p (reach-more r);
        },
  )
