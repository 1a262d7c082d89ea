-- The leaves that hold the events of a word, looked for one event after the other or for all events.
use mathlib.Core.Path.{◌≡◌, sym, ap, ◌∙◌}
use mathlib.Core.List.{List}
use Prim.Native.Nat.{ℕ, ◌+◌, ◌≤◌, ◌<◌}
use native.Mathlib.Omega.{arith}
use native.Mathlib.Decide.{dec_lt, ℕ_discrete}
use lib.ListN.{length, get_or, set, length-set}
use lib.Seq.{get_or-set_same, get_or-set_other}
use Rattle.bits.specs.Bits.{has}
use Rattle.bits.specs.Rows.{row_has, Holding}
use Rattle.matching.specs.Holding.{HoldingFirst}

module _ {S : List ℕ} {n : ℕ} {w : List ℕ} where
  pub holding-none : {H : List ℕ} → length H ≡ 64 → HoldingFirst S n w 0 H
  holding-none l = record { rows_long = l; first_is = λ j q k. absurd (omega (arith, k)) }

  -- the leaves that hold the next event are put in its row
  pub holding-more : {H : List ℕ} {i e : ℕ} (x : ℕ) → HoldingFirst S n w i H → e ≡ get_or w i 0 → e < 64
      → ((q : ℕ) → 0 < q → q ≤ n → has x q ≡ row_has S q e) → HoldingFirst S n w (i + 1) (set H e x)
  holding-more {H} {i} {e} x h same small x-is = record {
    rows_long = length-set H e x ∙ h.rows_long;
    first_is = λ j q k a b. go j q k a b (ℕ_discrete (get_or w j 0) e);
  }
    where
      go : (j q : ℕ) → j < i + 1 → 0 < q → q ≤ n → Dec (get_or w j 0 ≡ e) → row_has (set H e x) (get_or w j 0) q ≡ row_has S q (get_or w j 0)
      go j q k a b (yes it) =
          ap (λ (y : ℕ). row_has (set H e x) y q) it
          ∙ ap (λ (y : ℕ). has y q) (get_or-set_same H e x 0 (omega (arith, small, h.rows_long)))
          ∙ x-is q a b
          ∙ ap (λ (y : ℕ). row_has S q y) (sym it)
      go j q k a b (no other) =
          ap (λ (y : ℕ). has y q) (get_or-set_other H e (get_or w j 0) x 0 other) ∙ h.first_is j q (earlier (dec_lt j i)) a b
        where
          earlier : Dec (j < i) → j < i
          earlier (yes l) = l
          earlier (no l) = let z : j ≡ i = omega arith in absurd (other (ap (λ (y : ℕ). get_or w y 0) z ∙ sym same))

  -- the rows of all events below m have those of the word
  pub holding-all : {H : List ℕ} {m : ℕ} → ((i : ℕ) → i < length w → get_or w i 0 < m) → Holding S n m H → HoldingFirst S n w (length w) H
  holding-all below h = record { rows_long = h.holding_rows; first_is = λ j q k. h.holding_is (get_or w j 0) q (below j k) }
