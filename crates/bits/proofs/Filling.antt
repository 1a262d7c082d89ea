-- The loops over sets and rows, one turn at a time.
use mathlib.Core.Path.{◌≡◌, refl, sym, ap, ap₂, ◌∙◌, subst}
use mathlib.Core.Bool.{Bool, true, false, cond, not, ◌&&◌, ◌||◌, or-false, and-false, and-true}
use mathlib.Core.Logic.{◌⊎◌, inl, inr}
use mathlib.Core.List.{List}
use Prim.Native.Nat.{ℕ, zero, suc, ◌+◌, ◌*◌, ◌%◌, ◌^◌, ◌≤◌, ◌<◌}
use native.Mathlib.Omega.{arith}
use native.Mathlib.Nat.{one-mul, eq-or-lt_of_le, le_of_suc-le-suc}
use native.Mathlib.Numerals.{add-one}
use lib.ListN.{length, get_or, set, replicate, length-set, length-replicate, get_or-replicate}
use lib.Seq.{get_or-set_same, get_or-set_other}
use lib.Dec.{T, eqb, ltb, ltb→lt}
use lib.Bits.{bit_and, bit_or, or_zero_r}
use lib.Count.{count_trailing_zeros}
use lib.Pow.{shl_exact}
use borrow.Author.Tests.{eqb-true, eqb-false, lt-ltb, eq-eqb, ne_eqb}
use Rattle.bits.specs.Bits.{has}
use Rattle.bits.proofs.Tests.{T_true, and-out, any-cong}
use Rattle.bits.proofs.Sets.{has-none}
use Rattle.bits.proofs.Masks.{has-and, has-or, has-cond, has_one}
use Rattle.std.specs.Prelude.{Some, None}
use Rattle.bits.specs.Rows.{in_rows, TakesLowest, Linked, Holding, Unions}
use Rattle.bits.proofs.Least.{lowest-lt, of-rest, any_none, any-split}

pub one_shifted : (k : ℕ) → k < 64 → 1 * 2 ^ k % 2 ^ 64 ≡ 2 ^ k
one_shifted k h = shl_exact 1 k 64 (omega arith) (omega arith) ∙ one-mul (2 ^ k)

-- the numbers below p + 1: those below p, and p
below_next : {k p : ℕ} → k < p + 1 → (k ≡ p) ⊎ (k < p)
below_next {k} {p} h = eq-or-lt_of_le (le_of_suc-le-suc (rw (add-one p) at h))

or-next : (a b d : Bool) → (a || (b || d)) ≡ ((a || b) || d)
or-next true b d = refl
or-next false b d = refl

-- Linking: the rows, once those of the numbers of the rest are linked, are those of the set x linked -------------------

-- row k of F, with the numbers of `more` where the set x has k
abbrev pub row_linked : ℕ → List ℕ → ℕ → ℕ → ℕ
row_linked more F x k = bit_or (get_or F k 0) (cond (has x k) more 0)

pub record Linking (x more : ℕ) (F₀ F : List ℕ) (rest : ℕ) : Type 0 where
  pub long : length F ≡ 64
  pub whole : (k : ℕ) → row_linked more F rest k ≡ row_linked more F₀ x k

pub linking-none : {x more : ℕ} {F : List ℕ} → length F ≡ 64 → Linking x more F F x
linking-none l = record { long = l; whole = λ k. refl }

module _ {x more : ℕ} {F₀ F : List ℕ} {rest : ℕ} (l : Linking x more F₀ F rest) where
  -- the row of the lowest number of the rest
  pub linking-more : {p rest' : ℕ} → TakesLowest rest (Some p) rest' → Linking x more F₀ (set F p (bit_or (get_or F p 0) more)) rest'
  linking-more {p} {rest'} (small, taken) =
      record { long = length-set F p row ∙ l.long; whole = λ k. at k (eqb k p) refl ∙ l.whole k }
    where
      row : ℕ
      row = bit_or (get_or F p 0) more

      left : (k : ℕ) (b : Bool) → eqb k p ≡ b → has rest' k ≡ (has rest k && not b)
      left k b e = taken.without k ∙ ap (λ (b : Bool). has rest k && not b) e

      at : (k : ℕ) (b : Bool) → eqb k p ≡ b → row_linked more (set F p row) rest' k ≡ row_linked more F rest k
      at k true e =
          let n = l.long in
          rw (eqb-true k p e)
          (ap₂ (λ (x : ℕ) (b : Bool). bit_or x (cond b more 0))
          (get_or-set_same F p row 0 (omega (arith, small, n)))
          (left p true (eq-eqb p p refl) ∙ and-false (has rest p))
          ∙ or_zero_r row
          ∙ sym (ap (λ (b : Bool). bit_or (get_or F p 0) (cond b more 0)) (T_true (has rest p) taken.here)))
      at k false e =
          ap₂ (λ (x : ℕ) (b : Bool). bit_or x (cond b more 0))
          (get_or-set_other F p k row 0 (eqb-false k p e))
          (left k false e ∙ and-true (has rest k))

  pub linking-all : {rest' : ℕ} → TakesLowest rest None rest' → Linked x more F₀ F
  linking-all (z, _) = record {
    linked_rows = l.long;
    linked_is = λ k _.
        sym (ap (λ (b : Bool). bit_or (get_or F k 0) (cond b more 0)) (ap (λ (x : ℕ). has x k) z ∙ has-none k) ∙ or_zero_r (get_or F k 0)) ∙ l.whole k;
  }

-- Gathering: `found` and the rows of the numbers of the rest make the union of the rows of the numbers of the set -------

pub record Gathering (F : List ℕ) (n x found rest : ℕ) : Type 0 where
  pub few : (p : ℕ) → T (has rest p) → p < n
  pub whole : (q : ℕ) → in_rows F n x q ≡ (has found q || in_rows F n rest q)

-- all is left: the numbers of x below n, where m are the numbers below n
pub gathering-none : (F : List ℕ) (n x m : ℕ) → ((k : ℕ) → has m k ≡ ltb k n) → Gathering F n x 0 (bit_and x m)
gathering-none F n x m e =
    record {
      few = λ p t. ltb→lt p n (subst T (e p) (and-out (has x p) (has m p) (subst T (has-and x m p) t)).1);
      whole = λ q.
          sym
          (ap (λ (b : Bool). b || in_rows F n (bit_and x m) q) (has-none q)
          ∙ any-cong n _ _ (λ p l. ap (λ (b : Bool). b && has (get_or F p 0) q) (same p l)));
    }
  where
    same : (p : ℕ) → p < n → has (bit_and x m) p ≡ has x p
    same p l = has-and x m p ∙ ap (λ (b : Bool). has x p && b) (e p ∙ lt-ltb p n l) ∙ and-true (has x p)

module _ {F : List ℕ} {n x found rest : ℕ} (g : Gathering F n x found rest) where
  -- the row of the lowest number of the rest
  pub gathering-more : {p rest' : ℕ} → TakesLowest rest (Some p) rest' → Gathering F n x (bit_or found (get_or F p 0)) rest'
  gathering-more {p} {rest'} (_, taken) =
      let row = get_or F p 0 in
      record {
        few = λ q t. g.few q (of-rest taken q t);
        whole = λ q.
            g.whole q
            ∙ ap (λ (b : Bool). has found q || b) (any-split taken n (λ p. has (get_or F p 0) q) (g.few p taken.here))
            ∙ or-next (has found q) (has row q) (in_rows F n rest' q)
            ∙ sym (ap (λ (b : Bool). b || in_rows F n rest' q) (has-or found row q));
      }

  -- no number is left
  pub gathering-all : {rest' : ℕ} → TakesLowest rest None rest' → (q : ℕ) → has found q ≡ in_rows F n x q
  gathering-all (z, _) q =
      sym
      (g.whole q
      ∙ ap (λ (b : Bool). has found q || b) (any_none n rest (λ p. has (get_or F p 0) q) (λ p _. ap (λ (y : ℕ). has y p) z ∙ has-none p))
      ∙ or-false (has found q))

-- Holders: the rows below q that have the number e -----------------------------------------------------------------------

pub record Holders (S : List ℕ) (n e found q : ℕ) : Type 0 where
  pub low : 1 ≤ q
  pub high : q ≤ n + 1
  pub below : (k : ℕ) → 0 < k → k < q → has found k ≡ has (get_or S k 0) e
  pub above : (k : ℕ) → q ≤ k → has found k ≡ false

pub holders-none : (S : List ℕ) (n e : ℕ) → Holders S n e 0 1
holders-none S n e = record { low = omega arith; high = omega arith; below = λ k h l. absurd (omega arith); above = λ k h. has-none k }

module _ {S : List ℕ} {n e found q : ℕ} (h : Holders S n e found q) where
  pub holders-more : {more : ℕ} → q ≤ n → more ≡ cond (has (get_or S q 0) e) (2 ^ q) 0 → Holders S n e (bit_or found more) (q + 1)
  holders-more {more} l z =
      let g = h.low in
      record {
        low = omega arith;
        high = omega arith;
        below = λ k a b. at k a (below_next b);
        above = λ k a.
            bits k ∙ ap₂ (λ (u v : Bool). u || (held && v)) (h.above k (omega arith)) (ne_eqb k q (λ (y : k ≡ q). omega arith)) ∙ and-false held;
      }
    where
      held : Bool
      held = has (get_or S q 0) e

      bits : (k : ℕ) → has (bit_or found more) k ≡ (has found k || (held && eqb k q))
      bits k =
          has-or found more k
          ∙ ap (λ (v : Bool). has found k || v)
          (ap (λ (v : ℕ). has v k) z ∙ has-cond held (2 ^ q) k ∙ ap (λ (v : Bool). held && v) (has_one q k))

      at : (k : ℕ) → 0 < k → (k ≡ q) ⊎ (k < q) → has (bit_or found more) k ≡ has (get_or S k 0) e
      at k a (inl y) =
          bits k
          ∙ ap₂ (λ (u v : Bool). u || (held && v)) (h.above k (omega arith)) (eq-eqb k q y)
          ∙ and-true held
          ∙ ap (λ (i : ℕ). has (get_or S i 0) e) (sym y)
      at k a (inr y) =
          bits k
          ∙ ap₂ (λ (u v : Bool). u || (held && v)) (h.below k a y) (ne_eqb k q (λ (i : k ≡ q). omega arith))
          ∙ ap (λ (v : Bool). has (get_or S k 0) e || v) (and-false held)
          ∙ or-false _

-- The table of holders, by number ---------------------------------------------------------------------------------------

pub holding-none : (S : List ℕ) (n : ℕ) (H : List ℕ) → length H ≡ 64 → Holding S n 0 H
holding-none S n H h = record { holding_rows = h; holding_is = λ e q l. absurd (omega arith) }

pub holding-more : {S : List ℕ} {n e : ℕ} {H : List ℕ} (x : ℕ) → Holding S n e H → e < 64
    → ((q : ℕ) → 0 < q → q ≤ n → has x q ≡ has (get_or S q 0) e) → Holding S n (e + 1) (set H e x)
holding-more {S} {n} {e} {H} x h l f =
    record {
      holding_rows = length-set H e x ∙ h.holding_rows;
      holding_is = λ i q a b c. at i q b c (below_next a);
    }
  where
    at : (i q : ℕ) → 0 < q → q ≤ n → (i ≡ e) ⊎ (i < e) → has (get_or (set H e x) i 0) q ≡ has (get_or S q 0) i
    at i q b c (inl y) =
        let g = h.holding_rows in
        rw y (ap (λ (v : ℕ). has v q) (get_or-set_same H e x 0 (omega arith)) ∙ f q b c)
    at i q b c (inr y) = ap (λ (v : ℕ). has v q) (get_or-set_other H e i x 0 (λ (z : i ≡ e). omega arith)) ∙ h.holding_is i q y b c

-- The unions that are kept ----------------------------------------------------------------------------------------------

-- no number has no row
none-united : (F : List ℕ) (n q : ℕ) → has 0 q ≡ in_rows F n 0 q
none-united F n q = has-none q ∙ sym (any_none n 0 (λ p. has (get_or F p 0) q) (λ p _. has-none p))

-- a set without a lowest number is empty
pub union-none : (F : List ℕ) (n x : ℕ) → x < 2 ^ 64 → 64 ≤ count_trailing_zeros 64 x → (q : ℕ) → has 0 q ≡ in_rows F n x q
union-none F n zero h l q = none-united F n q
union-none F n (suc x) h l q = let k = lowest-lt (suc x) (λ (e : suc x ≡ 0). omega arith) h in absurd (omega arith)

-- at the start each set is empty
pub unions-none : (F : List ℕ) (n : ℕ) → Unions F n (replicate 64 0) (replicate 64 0)
unions-none F n = record {
  sets_long = length-replicate {A = ℕ} 64 0;
  unions_long = length-replicate {A = ℕ} 64 0;
  united = λ p q l.
      ap (λ (u : ℕ). has u q) (get_or-replicate 64 p 0 0 l) ∙ none-united F n q ∙ ap (λ (x : ℕ). in_rows F n x q) (sym (get_or-replicate 64 p 0 0 l));
}

module _ {F : List ℕ} {n : ℕ} {K U : List ℕ} (k : Unions F n K U) where
  -- the union of a set that is kept
  pub union-kept : (p x : ℕ) → p < 64 → get_or K p 0 ≡ x → (q : ℕ) → has (get_or U p 0) q ≡ in_rows F n x q
  union-kept p x l e q = k.united p q l ∙ ap (λ (y : ℕ). in_rows F n y q) e

  -- the set x is kept with its union u
  pub unions-more : (p x u : ℕ) → p < 64 → ((q : ℕ) → has u q ≡ in_rows F n x q) → Unions F n (set K p x) (set U p u)
  unions-more p x u l f =
      record {
        sets_long = length-set K p x ∙ k.sets_long;
        unions_long = length-set U p u ∙ k.unions_long;
        united = λ i q h. at i q h (eqb i p) refl;
      }
    where
      at : (i q : ℕ) → i < 64 → (b : Bool) → eqb i p ≡ b → has (get_or (set U p u) i 0) q ≡ in_rows F n (get_or (set K p x) i 0) q
      at i q h true e =
          let m = k.sets_long in
          let w = k.unions_long in
          rw (eqb-true i p e)
          (ap (λ (y : ℕ). has y q) (get_or-set_same U p u 0 (omega arith))
          ∙ f q
          ∙ ap (λ (y : ℕ). in_rows F n y q) (sym (get_or-set_same K p x 0 (omega arith))))
      at i q h false e =
          let z = eqb-false i p e in
          ap (λ (y : ℕ). has y q) (get_or-set_other U p i u 0 z)
          ∙ k.united i q h
          ∙ ap (λ (y : ℕ). in_rows F n y q) (sym (get_or-set_other K p i x 0 z))
