-- Pairs that a search passes over: they serve no event that is missing.
use mathlib.Core.Path.{◌≡◌, refl, sym, ap, ◌∙◌, subst}
use mathlib.Core.Bool.{Bool, true, false, cond, not, ◌&&◌, and-false}
use mathlib.Core.List.{List}
use Prim.Native.Nat.{ℕ, ◌+◌, ◌%◌, ◌^◌, ◌≤◌, ◌<◌}
use native.Mathlib.Omega.{arith}
use lib.ListN.{length, get_or-eq_default}
use lib.Dec.{T, eqb, ltb, eqb→eq}
use lib.Bits.{bit_and}
use borrow.Author.Count.{below_more}
use borrow.Author.Tests.{ne_eqb, ltb-true, ltb-false}
use Rattle.bits.specs.Bits.{has}
use Rattle.bits.specs.Rows.{row_has}
use Rattle.bits.proofs.Tests.{and-out, and_in, T_true, T_false}
use Rattle.bits.proofs.Sets.{has-none, has-lt}
use Rattle.bits.proofs.Masks.{has-and, nonzero-in}
use Rattle.certificate.specs.Certificate.{Pair, pair, Certificate, pair_of}
use Rattle.meets.specs.Meets.{all_hold}
use Rattle.looks.specs.Looks.{serving, serves, Passed}

module _ {c : Certificate} {m onward : ℕ} {sets rows : List ℕ} where
  -- a pair more
  pub passed-more : {from i : ℕ} {p : Pair} → Passed c m onward sets rows from i → pair_of c i ≡ p
      → ((q e : ℕ) → T (row_has rows q e) → serves m onward sets q e p ≡ false) → Passed c m onward sets rows from (i + 1)
  passed-more {from} {i} {p} g is off = record {
    ahead = let h = g.ahead in omega arith;
    none = λ j q e h k t. below_more (λ j. from ≤ j → serves m onward sets q e (pair_of c j) ≡ false) i
        (λ j k h. g.none j q e h k t)
        (λ _. ap (λ (p : Pair). serves m onward sets q e p) is ∙ off q e t) j k h;
  }

  pub passed_to : {from i to : ℕ} → Passed c m onward sets rows from i → i ≡ to → Passed c m onward sets rows from to
  passed_to {from} g e = subst (λ (k : ℕ). Passed c m onward sets rows from k) e g

-- a set that does not lie within the followers serves nothing
pub off-followers : (place t m onward : ℕ) (sets : List ℕ) → (bit_and t onward ≡ t → ⊥) → (q e : ℕ) → serves m onward sets q e (pair place t) ≡ false
off-followers place t m onward sets h q e =
    ap (λ (b : Bool). eqb place q && (b && all_hold m sets t e)) (ne_eqb (bit_and t onward) t h) ∙ and-false (eqb place q)

-- a row that has an event is one of the table
row_inside : (rows : List ℕ) (q e : ℕ) → T (row_has rows q e) → q < length rows
row_inside rows q e t = go (ltb q (length rows)) refl
  where
    go : (b : Bool) → ltb q (length rows) ≡ b → q < length rows
    go true y = ltb-true q (length rows) y
    go false y =
        absurd (subst T (ap (λ (x : ℕ). has x e) (get_or-eq_default rows 0 (ltb-false q (length rows) y)) ∙ has-none e) t)

-- a row without any of the events
pub shares-none : (row events : ℕ) → row < 2 ^ 64 → not (eqb (bit_and row events) 0) ≡ false → (e : ℕ) → T (has row e) → (e < 64) × (has events e ≡ false)
shares-none row events small none e x = (
  has-lt 64 row e small x,
  T_false (has events e) (λ y. subst T none
      (nonzero-in (bit_and row events) e (subst T (sym (has-and row events e)) (and_in (has row e) (has events e) x y)))),
)

-- a set whose events the row that is looked at has not serves no event of the row of its place
pub off-row : (place t m onward : ℕ) (sets rows : List ℕ) (row events : ℕ) → length rows ≡ 64 → row ≡ cond (eqb (bit_and t onward) t) (place % 64) 0
    → ((e : ℕ) → T (row_has rows row e) → (e < 64) × (has events e ≡ false)) → ((e : ℕ) → e < 64 → has events e ≡ all_hold m sets t e)
    → (q e : ℕ) → T (row_has rows q e) → serves m onward sets q e (pair place t) ≡ false
off-row place t m onward sets rows row events long row_is none is q e x =
    T_false (serves m onward sets q e (pair place t)) (λ s.
    let (a, b) = and-out (eqb place q) (serving m onward sets t e) s in
    let (within, all) = and-out (eqb (bit_and t onward) t) (all_hold m sets t e) b in
    go (eqb→eq place q a) (T_true (eqb (bit_and t onward) t) within) all)
  where
    go : place ≡ q → eqb (bit_and t onward) t ≡ true → T (all_hold m sets t e) → ⊥
    go same within all =
        let l = row_inside rows q e x in
        let r : row ≡ place % 64 = row_is ∙ ap (λ (b : Bool). cond b (place % 64) 0) within in
        let at : row ≡ q = omega arith in
        let (e-lt, off) = none e (subst (λ (k : ℕ). T (row_has rows k e)) (sym at) x) in
        subst T (sym (is e e-lt) ∙ off) all
