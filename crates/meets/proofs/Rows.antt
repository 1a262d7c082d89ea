-- Rows that are written one after the other.
use mathlib.Core.Path.{◌≡◌, refl, sym, ap, ◌∙◌}
use mathlib.Core.Bool.{Bool, true, false, cond}
use mathlib.Core.List.{List}
use Prim.Native.Nat.{ℕ, ◌+◌, ◌≤◌, ◌<◌}
use native.Mathlib.Omega.{arith}
use lib.ListN.{length, set, length-set}
use lib.Seq.{get_or-set_same, get_or-set_other}
use lib.Dec.{eqb}
use borrow.Author.Count.{below_more}
use borrow.Author.Tests.{eq-eqb, ne_eqb, eqb-true, eqb-false}
use Rattle.bits.specs.Bits.{has}
use Rattle.bits.specs.Rows.{row_has}
use Rattle.certificate.specs.Certificate.{Pair, Certificate, pair_of}
use Rattle.meets.specs.Meets.{all_hold, table_rows, Written, PairRows}

-- the row of place p is x, and the others are as they were
pub row-set : (rows : List ℕ) (p x : ℕ) → p < length rows → (q e : ℕ) → row_has (set rows p x) q e ≡ cond (eqb q p) (has x e) (row_has rows q e)
row-set rows p x h q e = go (eqb q p) refl
  where
    go : (b : Bool) → eqb q p ≡ b → row_has (set rows p x) q e ≡ cond b (has x e) (row_has rows q e)
    go true z =
        ap (λ (k : ℕ). row_has (set rows p x) k e) (eqb-true q p z) ∙ ap (λ (v : ℕ). has v e) (get_or-set_same rows p x 0 h)
    go false z = ap (λ (v : ℕ). has v e) (get_or-set_other rows p q x 0 (eqb-false q p z))

module _ {f : ℕ → ℕ → Bool} where
  module _ {count : ℕ} {rows : List ℕ} (w : Written f count rows) where
    -- a row more
    pub written-more : (events : ℕ) → count < table_rows → ((e : ℕ) → e < 64 → has events e ≡ f count e) → Written f (count + 1) (set rows count events)
    written-more events l is =
        record {
          long = length-set rows count events ∙ w.long;
          row = λ i e h k. below_more (λ i. (e : ℕ) → e < 64 → row_has (set rows count events) i e ≡ f i e) count before here i k e;
        }
      where
        is_row : (i e : ℕ) → row_has (set rows count events) i e ≡ cond (eqb i count) (has events e) (row_has rows i e)
        is_row = row-set rows count events (let n = w.long in omega arith)

        before : (i : ℕ) → i < count → (e : ℕ) → e < 64 → row_has (set rows count events) i e ≡ f i e
        before i k e h =
            is_row i e
            ∙ ap (λ (b : Bool). cond b (has events e) (row_has rows i e)) (ne_eqb i count (λ (y : i ≡ count). omega arith))
            ∙ w.row i e (omega arith) k h

        here : (e : ℕ) → e < 64 → row_has (set rows count events) count e ≡ f count e
        here e h =
            is_row count e ∙ ap (λ (b : Bool). cond b (has events e) (row_has rows count e)) (eq-eqb count count refl) ∙ is e h

    -- what comes after the last row has none
    pub written-past : table_rows ≤ count → Written f (count + 1) rows
    written-past l = record { long = w.long; row = λ i e h k. w.row i e h (omega arith) }

-- a row more, of a pair p
pub pair-more : (c : Certificate) (m : ℕ) (sets : List ℕ) {count : ℕ} {rows : List ℕ} → PairRows c m sets count rows → {p : Pair} (events : ℕ)
    → count < table_rows → pair_of c count ≡ p → ((e : ℕ) → e < 64 → has events e ≡ all_hold m sets p.set e)
    → PairRows c m sets (count + 1) (set rows count events)
pair-more c m sets w events l p-is is =
    written-more w events l (λ e h. is e h ∙ ap (λ (x : Pair). all_hold m sets x.set e) (sym p-is))
