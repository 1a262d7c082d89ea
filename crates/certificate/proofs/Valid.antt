-- A certificate is found without fault exactly where clauses 1 to 4 hold of all its pairs.
use mathlib.Core.Path.{◌≡◌, refl}
use mathlib.Core.Bool.{Bool, ◌&&◌}
use mathlib.Core.Logic.{◌↔◌}
use Prim.Native.Nat.{ℕ, ◌<◌, suc-le-suc}
use lib.Dec.{T, ltb}
use lib.ListN.{length}
use Rattle.bits.specs.Bits.{◌⇒◌}
use Rattle.bits.proofs.Tests.{and-out, and_in, if-out, if-in}
use Rattle.condition.specs.Condition.{Condition}
use Rattle.condition.specs.Places.{places, leaf_holds, follows, ends, step, some_ends}
use Rattle.condition.proofs.Beside.{follows-leaf}
use Rattle.certificate.specs.Certificate.{Pair, Certificate, pair_of, Finding, fine, fault, ◌then◌, in_order, unless, starts_right, only_places, listed, clause4_at, pair_finding, check}
use Rattle.certificate.proofs.Findings.{Fine, fine-is, is-fine, then-out, then-in, unless-out, unless-in, in_order-out, in_order-in}

module _ (events : ℕ) (left right : Condition) (c : Certificate) where
  -- clauses 2 to 4 of one pair
  pub record ValidPair (p : Pair) : Type 0 where
    pub clause2 : T (ltb p.place (places left) && only_places right p.set)
    pub clause3 : T (ends left p.place) → T (some_ends right p.set)
    pub clause4 : (e q : ℕ) → e < events → T (follows left p.place q) → T (leaf_holds left q e) → T (listed right c q (step right p.set e).set)

  pub record Valid : Type 0 where
    pub clause1 : T (starts_right c)
    pub pairs : (i : ℕ) → i < length c → ValidPair (pair_of c i)

  -- the tests of clauses 2 to 4
  abbrev test2 : Pair → Bool
  test2 p = ltb p.place (places left) && only_places right p.set

  abbrev test3 : Pair → Bool
  test3 p = ends left p.place ⇒ some_ends right p.set

  abbrev pub test4 : Pair → ℕ → ℕ → Bool
  test4 p e q = (follows left p.place q && leaf_holds left q e) ⇒ listed right c q (step right p.set e).set

  -- and their findings for pair i
  abbrev finding2 : ℕ → Pair → Finding
  finding2 i p = unless (test2 p) (fault 2 i 0 0)

  abbrev finding3 : ℕ → Pair → Finding
  finding3 i p = unless (test3 p) (fault 3 i 0 0)

  abbrev finding4 : ℕ → Pair → ℕ → Finding
  finding4 i p e = clause4_at events left right c i p e

  pair-out : (i : ℕ) (p : Pair) → Fine (pair_finding events left right c i p) → ValidPair p
  unfolding pair_finding clause4_at places
  pair-out i p h =
      let (a, d) = then-out (finding2 i p then finding3 i p) (in_order events (finding4 i p)) h in
      let (x, y) = then-out (finding2 i p) (finding3 i p) a in
      record {
        clause2 = unless-out (test2 p) _ x;
        clause3 = if-out (ends left p.place) (some_ends right p.set) (unless-out (test3 p) _ y);
        clause4 = λ e q l n t.
            if-out (follows left p.place q && leaf_holds left q e) (listed right c q (step right p.set e).set)
            (unless-out (test4 p e q) _
            (in_order-out (places left) (λ q. unless (test4 p e q) (fault 4 i e q))
            (in_order-out events (finding4 i p) d e l)
            q
            (suc-le-suc (follows-leaf left p.place q n).1)))
            (and_in (follows left p.place q) (leaf_holds left q e) n t);
      }

  pair-in : (i : ℕ) (p : Pair) → ValidPair p → Fine (pair_finding events left right c i p)
  unfolding pair_finding clause4_at
  pair-in i p v =
      then-in (finding2 i p then finding3 i p) (in_order events (finding4 i p))
      (then-in (finding2 i p) (finding3 i p)
      (unless-in (test2 p) (fault 2 i 0 0) v.clause2)
      (unless-in (test3 p) (fault 3 i 0 0) (if-in (ends left p.place) (some_ends right p.set) v.clause3)))
      (in_order-in events (finding4 i p)
      (λ e l. in_order-in (places left) (λ q. unless (test4 p e q) (fault 4 i e q))
      (λ q m. unless-in (test4 p e q) (fault 4 i e q)
      (if-in (follows left p.place q && leaf_holds left q e) (listed right c q (step right p.set e).set)
      (λ h. let (n, t) = and-out (follows left p.place q) (leaf_holds left q e) h in v.clause4 e q l n t)))))

  -- clause 1, and then the pairs in order
  abbrev finding1 : Finding
  finding1 = unless (starts_right c) (fault 1 0 0 0)

  abbrev findings : ℕ → Finding
  findings i = pair_finding events left right c i (pair_of c i)

  check-is : check events left right c ≡ (finding1 then in_order (length c) findings)
  unfolding check
  check-is = refl

  pub valid : (check events left right c ≡ fine) ↔ Valid
  valid = (
    λ h.
        let (x, y) = then-out finding1 (in_order (length c) findings) (rw check-is at (is-fine _ h)) in
        record {
          clause1 = unless-out (starts_right c) _ x;
          pairs = λ i l. pair-out i (pair_of c i) (in_order-out (length c) findings y i l);
        },
    λ v.
        fine-is _
        (rw check-is
        (then-in finding1 (in_order (length c) findings)
        (unless-in (starts_right c) (fault 1 0 0 0) v.clause1)
        (in_order-in (length c) findings (λ i l. pair-in i (pair_of c i) (v.pairs i l))))),
  )
