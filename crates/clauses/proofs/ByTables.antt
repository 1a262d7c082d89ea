-- The clauses as they are tested with the tables of the two sides are document 01's.
use mathlib.Core.Path.{◌≡◌, refl, sym, ap, ap₂, ◌∙◌}
use mathlib.Core.Bool.{Bool, true, false, not, ◌&&◌}
use mathlib.Core.List.{List}
use Prim.Native.Nat.{ℕ, suc, ◌^◌, ◌≤◌, ◌<◌, suc-le-suc}
use native.Mathlib.Nat.{le_of_suc-le-suc}
use native.Mathlib.Omega.{arith}
use lib.ListN.{length, get_or}
use lib.Dec.{T, eqb, ltb, eqb→eq, eqb_refl, ltb→lt, lt→ltb}
use lib.Bits.{bit_and}
use Rattle.bits.specs.Bits.{◌⇒◌, has, any_below, all_below, set_of}
use Rattle.bits.proofs.Tests.{and-out, and_in, if-out, if-in, T-ext, any_out, any-cong, all_in, all-out}
use Rattle.bits.proofs.Sets.{has-lt, set-in}
use Rattle.bits.proofs.Masks.{has-and, bits-ext}
use Rattle.bits.proofs.Bitwise.{lt-has}
use Rattle.condition.specs.Condition.{Condition}
use Rattle.condition.specs.Places.{leaves, places, leaf_holds, follows, ends, step, some_ends}
use Rattle.condition.proofs.Beside.{follows-leaf}
use Rattle.condition.proofs.Steps.{step-mask, ends-mask}
use Rattle.certificate.specs.Certificate.{Certificate, pair_of, Finding, fault, ◌then◌, in_order, unless, only_places, within, listed, clause4_at, pair_finding}
use Rattle.certificate.proofs.Findings.{in_order-cong}
use Rattle.places.specs.Tables.{Tables}
use Rattle.places.specs.declared.Side.{Side}
use Rattle.bits.specs.Rows.{row_has, in_rows}
use Rattle.meets.specs.Meets.{all_hold}
use Rattle.looks.specs.Looks.{certificate_of, serving}
use Rattle.clause4.specs.Clause4.{served_by, clause4_by_tables}
use Rattle.format.specs.Pairs.{pair_is}
use Rattle.format.specs.declared.listing.Pair as format
use Rattle.clauses.specs.declared.Task.{Task}
use Rattle.clauses.specs.Clauses.{PlacesOf, SidesAre, Ready}

and-cong : (a b d : Bool) → (T a → b ≡ d) → (a && b) ≡ (a && d)
and-cong true b d h = h tt
and-cong false b d h = refl

and-absorb : (a b : Bool) → (T a → T b) → (a && b) ≡ a
and-absorb true true h = refl
and-absorb true false h = absurd (h tt)
and-absorb false b h = refl

-- the place is one of n where clause 2 holds
pub inside-place : (place n : ℕ) (b : Bool) → (ltb place n && b) ≡ true → place < n
inside-place place n b e = ltb→lt place n (and-out (ltb place n) b (rw e tt)).0

-- One side ------------------------------------------------------------------------------------------------------------

module _ (r : Condition) (side : Side) (follow sets : List ℕ) (t : Tables r side follow sets) where
  places-are : (n : ℕ) → PlacesOf side.leaves n → n ≡ places r
  unfolding places
  places-are n p = let e = t.leaves_is in let f = t.few in p.places_is (omega arith) ∙ ap (λ (k : ℕ). suc k) e

  place-le : (p : ℕ) → p < places r → p ≤ leaves r
  unfolding places
  place-le p l = le_of_suc-le-suc l

  le-place : (p : ℕ) → p ≤ leaves r → p < places r
  unfolding places
  le-place p l = suc-le-suc l

  leaf-row : (q e : ℕ) → 0 < q → q ≤ leaves r → row_has sets q e ≡ leaf_holds r q e
  unfolding leaf_holds
  leaf-row q e a b = ap (λ (s : ℕ). has s e) (t.sets_is q a b)

-- A set within the stepped set ------------------------------------------------------------------------------------------

module _ (g : Condition) (side : Side) (follow sets : List ℕ) (tg : Tables g side follow sets) (m : ℕ) (m-is : PlacesOf side.leaves m)
    (s onward : ℕ) (onward-is : (q : ℕ) → has onward q ≡ in_rows follow m s q) where
  followed-is : (q : ℕ) → has onward q ≡ any_below (places g) (λ p. has s p && follows g p q)
  followed-is q =
      onward-is q
      ∙ ap (λ (n : ℕ). any_below n (λ p. has s p && row_has follow p q)) (places-are g side follow sets tg m m-is)
      ∙ any-cong (places g) (λ p. has s p && row_has follow p q) (λ p. has s p && follows g p q)
      (λ p l. ap (λ (b : Bool). has s p && b) (tg.follow_is p q (place-le g side follow sets tg p l)))

  onward-leaf : (q : ℕ) → T (has onward q) → (0 < q) × (q ≤ leaves g)
  onward-leaf q h =
      let (p, _, x) = any_out (places g) (λ p. has s p && follows g p q) (rw (followed-is q) at h) in
      follows-leaf g p q (and-out (has s p) (follows g p q) x).1

  module _ (e : ℕ) where
    -- the leaves that hold e
    abbrev holders : ℕ
    holders = set_of (places g) (λ q. leaf_holds g q e)

    holder-is : (q : ℕ) → q ≤ leaves g → has holders q ≡ leaf_holds g q e
    holder-is q l = set-in (places g) (λ q. leaf_holds g q e) q (le-place g side follow sets tg q l)

    stepped-is : (q : ℕ) → has (step g s e).set q ≡ (has onward q && has holders q)
    stepped-is q =
        ap (λ (t : ℕ). has t q) (sym (step-mask g s e onward holders followed-is (λ k _ l. holder-is k l)))
        ∙ has-and onward holders q

    module _ (t : ℕ) where
      abbrev is_within : ℕ → Bool
      is_within k = has t k ⇒ has (step g s e).set k

      abbrev holds : ℕ → Bool
      holds k = has t k ⇒ row_has sets k e

      within_in : T (serving m onward sets t e) → T (within g t (step g s e).set)
      unfolding within only_places
      within_in h =
          let (x, y) = and-out (eqb (bit_and t onward) t) (all_hold m sets t e) h in
          let z : bit_and t onward ≡ t = eqb→eq (bit_and t onward) t x in
          let on : (k : ℕ) → T (has t k) → T (has onward k) =
          λ k w. (and-out (has t k) (has onward k) (rw (← has-and t onward k, z) w)).1 in
          and_in (only_places g t) (all_below (places g) is_within)
          (lt→ltb t (2 ^ places g) (lt-has (places g) t (λ k w. le-place g side follow sets tg k (onward-leaf k (on k w)).1)))
          (all_in (places g) is_within
          (λ k l. if-in (has t k) (has (step g s e).set k)
          (λ w.
          let (a, b) = onward-leaf k (on k w) in
          let v = if-out (has t k) (row_has sets k e) (all-out m holds y k (rw (places-are g side follow sets tg m m-is) l)) w in
          rw (stepped-is k) (and_in (has onward k) (has holders k) (on k w) (rw (holder-is k b, ← leaf-row g side follow sets tg k e a b) v)))))

      within-out : T (within g t (step g s e).set) → T (serving m onward sets t e)
      unfolding within only_places
      within-out h =
          let (x, y) = and-out (only_places g t) (all_below (places g) is_within) h in
          let both : (k : ℕ) → T (has t k) → T (has onward k) × T (has holders k) =
          λ k w.
          let l = has-lt (places g) t k (ltb→lt t (2 ^ places g) x) w in
          and-out (has onward k) (has holders k) (rw (← stepped-is k) (if-out (has t k) (has (step g s e).set k) (all-out (places g) is_within y k l) w)) in
          let z : bit_and t onward ≡ t =
          bits-ext (bit_and t onward) t (λ k. has-and t onward k ∙ and-absorb (has t k) (has onward k) (λ w. (both k w).0)) in
          and_in (eqb (bit_and t onward) t) (all_hold m sets t e) (rw z (eqb_refl t))
          (all_in m holds
          (λ k l. if-in (has t k) (row_has sets k e)
          (λ w. let (a, b) = onward-leaf k (both k w).0 in rw (leaf-row g side follow sets tg k e a b, ← holder-is k b) (both k w).1)))

      serving-is : serving m onward sets t e ≡ within g t (step g s e).set
      serving-is = T-ext (serving m onward sets t e) (within g t (step g s e).set) within_in within-out

    listed-is : (c : Certificate) (l : ℕ) → served_by c m onward sets (length c) l e ≡ listed g c l (step g s e).set
    unfolding listed
    listed-is c l =
        any-cong (length c) _ _
        (λ j _. ap (λ (b : Bool). eqb (pair_of c j).place l && b) (serving-is (pair_of c j).set))

-- Two sides -------------------------------------------------------------------------------------------------------------

module _ (x : Task) (l g : Condition) (ready : Ready x) (sides : SidesAre x l g) (i : ℕ) (p : format.Pair) where
  abbrev c : Certificate
  c = certificate_of x.search

  abbrev lfollow : List ℕ
  lfollow = x.left.now.follow

  abbrev lsets : List ℕ
  lsets = x.left.now.sets

  abbrev rfollow : List ℕ
  rfollow = x.right.now.follow

  abbrev rsets : List ℕ
  rsets = x.search.sets.now

  tl : Tables l x.left_side lfollow lsets
  tl = sides.left_is

  tg : Tables g x.right_side rfollow rsets
  tg = sides.right_is

  abbrev events : ℕ
  events = x.search.scope.events

  left-places : x.search.scope.n ≡ places l
  left-places = places-are l x.left_side lfollow lsets tl x.search.scope.n ready.lefts

  right-places : x.search.scope.m ≡ places g
  right-places = places-are g x.right_side rfollow rsets tg x.search.scope.m ready.rights

  -- the tests of clauses 2 and 3
  abbrev test2 : Bool
  test2 = ltb p.place x.search.scope.n && ltb p.set (2 ^ x.search.scope.m)

  abbrev test3 : Bool
  test3 = has x.left_side.ends p.place ⇒ not (eqb (bit_and p.set x.right_side.ends) 0)

  test2-is : test2 ≡ (ltb p.place (places l) && only_places g p.set)
  unfolding only_places
  test2-is = ap₂ (λ (j k : ℕ). ltb p.place j && ltb p.set (2 ^ k)) left-places right-places

  test3-is : test3 ≡ (ends l p.place ⇒ some_ends g p.set)
  test3-is = ap₂ (λ (a b : Bool). a ⇒ b) (tl.ends_is p.place) (ends-mask g p.set x.right_side.ends tg.ends_is)

  abbrev clause4 : Finding
  clause4 = in_order events (λ e. clause4_at events l g c i (pair_is p) e)

  -- clauses 2 to 4 by their tests, and by what clause 4 finds
  abbrev in_turn : Bool → Bool → Finding → Finding
  in_turn a b v = unless a (fault 2 i 0 0) then unless b (fault 3 i 0 0) then v

  pair-is : (a b : Bool) (v : Finding) → test2 ≡ a → test3 ≡ b → v ≡ clause4 → in_turn a b v ≡ pair_finding events l g c i (pair_is p)
  unfolding pair_finding
  pair-is a b v e f h = rw (← e, ← f, test2-is, test3-is, h)

  -- a fault of clause 2, and of clause 3
  pub at-clause2 : test2 ≡ false → fault 2 i 0 0 ≡ pair_finding events l g c i (pair_is p)
  at-clause2 f = pair-is false test3 clause4 f refl refl

  pub at-clause3 : test2 ≡ true → test3 ≡ false → fault 3 i 0 0 ≡ pair_finding events l g c i (pair_is p)
  at-clause3 t f = pair-is true false clause4 t f refl

  -- clause 4, with the followers of the place and `onward`, those of the set
  module _ (onward : ℕ) (onward-is : (q : ℕ) → has onward q ≡ in_rows rfollow x.search.scope.m p.set q) (t : test2 ≡ true) where
    on-side : p.place ≤ leaves l
    on-side =
        place-le l x.left_side lfollow lsets tl p.place
        (rw left-places at (inside-place p.place x.search.scope.n (ltb p.set (2 ^ x.search.scope.m)) t))

    wanted-is : (e q : ℕ) → (row_has lfollow p.place q && row_has lsets q e) ≡ (follows l p.place q && leaf_holds l q e)
    wanted-is e q =
        ap (λ (b : Bool). b && row_has lsets q e) (tl.follow_is p.place q on-side)
        ∙ and-cong (follows l p.place q) (row_has lsets q e) (leaf_holds l q e)
        (λ f. let (a, b) = follows-leaf l p.place q f in leaf-row l x.left_side lfollow lsets tl q e a b)

    -- clause 4 at the event e, by the tables
    abbrev by_tables : ℕ → Finding
    by_tables e = clause4_by_tables c x.search.scope.n i (get_or lfollow p.place 0) lsets x.search.scope.m onward rsets e

    abbrev test4 : ℕ → ℕ → Bool
    test4 e q = (row_has lfollow p.place q && row_has lsets q e) ⇒ served_by c x.search.scope.m onward rsets (length c) q e

    event-is : (e : ℕ) → by_tables e ≡ clause4_at events l g c i (pair_is p) e
    unfolding clause4_at
    event-is e =
        ap (λ (k : ℕ). in_order k (λ q. unless (test4 e q) (fault 4 i e q))) left-places
        ∙ in_order-cong (places l) _ _
        (λ q _. ap₂ (λ (a b : Bool). unless (a ⇒ b) (fault 4 i e q)) (wanted-is e q)
        (listed-is g x.right_side rfollow rsets tg x.search.scope.m ready.rights p.set onward onward-is e c q))

    pub at-clause4 : test3 ≡ true → in_order events by_tables ≡ pair_finding events l g c i (pair_is p)
    at-clause4 u = pair-is true true (in_order events by_tables) t u (in_order-cong events _ _ (λ e _. event-is e))
