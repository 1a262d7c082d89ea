-- Exact certificates exist: for every left and right side the reachable pairs are a finite list, whether or not the inclusion is true.
-- There are finitely many pairs of a left place and a set of right places. One of them after the other is allowed as a next pair, and the list is
-- grown until each allowed pair that comes next after a listed one is listed.
use mathlib.Core.Path.{◌≡◌, refl, sym, subst, ap}
use mathlib.Core.Bool.{Bool, true, false, ◌&&◌, ◌||◌}
use mathlib.Core.List.Memᴰ
use mathlib.Core.List.{List, [], ◌∷◌, ◌++◌, Memᴰ}
use mathlib.Core.Logic.{⊎_elim}
use Prim.Native.Nat.{ℕ, zero, suc, ◌^◌, ◌<◌, zero-le, suc-le-suc}
use native.Mathlib.Nat.{le_of_suc-le-suc, not-suc-le-zero, eq-or-lt_of_le}
use lib.Dec.{T, eqb, eqb→eq, eqb_refl}
use lib.ListN.{length}
use Rattle.bits.specs.Bits.{any_below}
use Rattle.bits.proofs.Tests.{and-out, and_in, or-out, or_left, or_right, any_out, any-in}
use Rattle.condition.specs.Condition.{Condition}
use Rattle.condition.specs.Places.{places, leaf_holds, follows, step}
use Rattle.certificate.specs.Certificate.{Pair, pair, Certificate, pair_of, Reachable, start, onward, Exact}
use Rattle.certificate.proofs.Complete.{reach-place, reach-set}

-- Members by their numbers ------------------------------------------------------------------------------------------------

numbered : {p : Pair} {c : Certificate} → Memᴰ p c → (i : ℕ) × (i < length c) × (pair_of c i ≡ p)
numbered (Memᴰ.head e) = (0, suc-le-suc zero-le, sym e)
numbered (Memᴰ.tail m) = let (i, l, e) = numbered m in (suc i, suc-le-suc l, e)

pair-member : (c : Certificate) (i : ℕ) → i < length c → Memᴰ (pair_of c i) c
pair-member [] i l = absurd (not-suc-le-zero l)
pair-member (p ∷ c) zero l = Memᴰ.head refl
pair-member (p ∷ c) (suc i) l = Memᴰ.tail (pair-member c i (le_of_suc-le-suc l))

-- All pairs -----------------------------------------------------------------------------------------------------------------

-- the pairs of the place q with a set below n
abbrev pairs_at : ℕ → ℕ → List Pair
pairs_at q zero = []
pairs_at q (suc n) = pair q n ∷ pairs_at q n

at-member : (q n s : ℕ) → s < n → Memᴰ (pair q s) (pairs_at q n)
at-member q zero s l = absurd (not-suc-le-zero l)
at-member q (suc n) s l =
    ⊎_elim (λ e. Memᴰ.head (ap (λ (x : ℕ). pair q x) e)) (λ k. Memᴰ.tail (at-member q n s k)) (eq-or-lt_of_le (le_of_suc-le-suc l))

-- the pairs of a place below m with a set below n
abbrev pairs_below : ℕ → ℕ → List Pair
pairs_below zero n = []
pairs_below (suc m) n = pairs_at m n ++ pairs_below m n

below-member : (m n : ℕ) (p : Pair) → p.place < m → p.set < n → Memᴰ p (pairs_below m n)
below-member zero n p l k = absurd (not-suc-le-zero l)
below-member (suc m) n p l k =
    ⊎_elim
    (λ e. Memᴰ.append_left (pairs_below m n) (subst (λ q. Memᴰ p (pairs_at q n)) e (at-member p.place n p.set k)))
    (λ j. Memᴰ.append_right (pairs_at m n) (below-member m n p j k))
    (eq-or-lt_of_le (le_of_suc-le-suc l))

module _ (events : ℕ) (left right : Condition) where
  abbrev Reached : Pair → Type 0
  Reached p = Reachable events left right p

  -- Next pairs ------------------------------------------------------------------------------------------------------------

  -- the pair q comes next after the pair p, by the event e
  abbrev is_next_by : Pair → Pair → ℕ → Bool
  is_next_by p q e = follows left p.place q.place && (leaf_holds left q.place e && eqb q.set (step right p.set e).set)

  -- the pair q comes next after one of the pairs c
  abbrev is_next : Certificate → Pair → Bool
  is_next [] q = false
  is_next (p ∷ c) q = any_below events (is_next_by p q) || is_next c q

  -- a next pair is reachable where the listed ones are
  next-reachable : (c : Certificate) (q : Pair) → ((p : Pair) → Memᴰ p c → Reached p) → T (is_next c q) → Reached q
  next-reachable [] q h t = absurd t
  next-reachable (p ∷ c) q h t =
      ⊎_elim here (next-reachable c q (λ x m. h x (Memᴰ.tail m))) (or-out (any_below events (is_next_by p q)) (is_next c q) t)
    where
      here : T (any_below events (is_next_by p q)) → Reached q
      here u =
          let (e, l, x) = any_out events (is_next_by p q) u in
          let (f, y) = and-out (follows left p.place q.place) _ x in
          let (g, z) = and-out (leaf_holds left q.place e) _ y in
          subst (λ s. Reached (pair q.place s)) (sym (eqb→eq q.set (step right p.set e).set z))
          (onward e q.place (h p (Memᴰ.head refl)) l f g)

  next-in : (c : Certificate) (p : Pair) (e q : ℕ) → Memᴰ p c → e < events → T (follows left p.place q) → T (leaf_holds left q e)
      → T (is_next c (pair q (step right p.set e).set))
  next-in [] p e q m l f g = absurd (Memᴰ.not-nil m)
  next-in (x ∷ c) p e q m l f g =
      ⊎_elim
      (λ i. or_left (any_below events (is_next_by x y)) (is_next c y)
      (any-in events (is_next_by x y) e l
      (subst (λ (z : Pair). T (is_next_by z y e)) i
      (and_in (follows left p.place q) _ f (and_in (leaf_holds left q e) _ g (eqb_refl (step right p.set e).set))))))
      (λ k. or_right (any_below events (is_next_by x y)) (is_next c y) (next-in c p e q k l f g))
      (Memᴰ.cases_cons m)
    where
      y : Pair
      y = pair q (step right p.set e).set

  -- Growing a list of pairs -----------------------------------------------------------------------------------------------

  -- the start, and then the pairs c
  abbrev from_start : Certificate → Certificate
  from_start c = pair 0 1 ∷ c

  abbrev AllReachable : Certificate → Type 0
  AllReachable c = (p : Pair) → Memᴰ p c → Reached p

  -- c is grown: each of the allowed pairs that comes next after a listed one is listed
  record Closure (allowed : List Pair) (c : Certificate) : Type 0 where
    grown : Certificate
    keeps : (p : Pair) → Memᴰ p c → Memᴰ p grown
    reachable : AllReachable (from_start grown)
    closed : (q : Pair) → Memᴰ q allowed → T (is_next (from_start grown) q) → Memᴰ q (from_start grown)

  module _ (u : Pair) (allowed : List Pair) (again : (c : Certificate) → AllReachable (from_start c) → Closure allowed c) where
    -- one more pair u is allowed: where it comes next, it is listed, and the list is grown again
    allow : (c : Certificate) (g : Closure allowed c) (b : Bool) → is_next (from_start g.grown) u ≡ b → Closure (u ∷ allowed) c
    allow c g false e =
        record {
          grown = g.grown;
          keeps = g.keeps;
          reachable = g.reachable;
          closed = λ q m t.
              ⊎_elim
              (λ i. absurd (subst T e (subst (λ (x : Pair). T (is_next (from_start g.grown) x)) i t)))
              (λ k. g.closed q k t)
              (Memᴰ.cases_cons m);
        }
    allow c g true e =
        record {
          grown = more.grown;
          keeps = λ p m. more.keeps p (Memᴰ.tail (g.keeps p m));
          reachable = more.reachable;
          closed = λ q m t.
              ⊎_elim
              (λ i. Memᴰ.tail (more.keeps q (Memᴰ.head i)))
              (λ k. more.closed q k t)
              (Memᴰ.cases_cons m);
        }
      where
        u-reachable : Reached u
        u-reachable = next-reachable (from_start g.grown) u g.reachable (subst T (sym e) tt)

        with-u : AllReachable (from_start (u ∷ g.grown))
        with-u p m =
            ⊎_elim
            (λ i. g.reachable p (Memᴰ.head i))
            (λ k. ⊎_elim
            (λ i. subst Reached (sym i) u-reachable)
            (λ j. g.reachable p (Memᴰ.tail j))
            (Memᴰ.cases_cons k))
            (Memᴰ.cases_cons m)

        more : Closure allowed (u ∷ g.grown)
        more = again (u ∷ g.grown) with-u

  grow : (allowed : List Pair) (c : Certificate) → AllReachable (from_start c) → Closure allowed c
  grow [] c h = record { grown = c; keeps = λ p m. m; reachable = h; closed = λ q m. absurd (Memᴰ.not-nil m) }
  grow (u ∷ allowed) c h = let g = grow allowed c h in allow u allowed (grow allowed) c g (is_next (from_start g.grown) u) refl

  -- Exact certificates ----------------------------------------------------------------------------------------------------

  -- every pair of a left place and a set of right places
  abbrev every : List Pair
  every = pairs_below (places left) (2 ^ places right)

  all_grown : Closure every []
  all_grown = grow every [] (λ p m. subst Reached (sym (Memᴰ.eq_of_singleton m)) start)

  all_listed : {p : Pair} → Reached p → Memᴰ p (from_start all_grown.grown)
  all_listed start = Memᴰ.head refl
  all_listed (onward {l = l} {s = s} e q r h n t) =
      let p = pair q (step right s e).set in
      let reached = onward e q r h n t in
      all_grown.closed p
      (below-member (places left) (2 ^ places right) p (reach-place events left right reached) (reach-set events left right reached))
      (next-in (from_start all_grown.grown) (pair l s) e q (all_listed r) h n t)

  -- EXACT CERTIFICATES EXIST, of every left and right side
  pub exact-exists : (c : Certificate) × Exact events left right c
  exact-exists =
      let c = from_start all_grown.grown in (
        c,
        record {
          start_first = tt;
          only_reachable = λ i l. all_grown.reachable (pair_of c i) (pair-member c i l);
          all_reachable = λ p r. numbered (all_listed r);
        },
      )
