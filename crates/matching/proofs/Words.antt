-- A word stepped by the tables of a side.
use mathlib.Core.Path.{◌≡◌, sym, ap, ◌∙◌, subst}
use mathlib.Core.Bool.{Bool, true, false, cond, not, ◌&&◌}
use mathlib.Core.List.{List}
use Prim.Native.Nat.{ℕ, suc, ◌+◌, ◌≤◌, ◌<◌}
use native.Mathlib.Omega.{arith}
use native.Mathlib.Nat.{le_of_suc-le-suc}
use native.Mathlib.Numerals.{add-one}
use lib.ListN.{length, get_or}
use lib.Seq.{take_all}
use lib.Dec.{eqb}
use borrow.Author.Tests.{ne_eqb}
use lib.Bits.{bit_and}
use Rattle.std.specs.Prelude.{Ok, Err}
use Rattle.bits.specs.Bits.{has, any_below}
use Rattle.bits.specs.Rows.{in_rows}
use Rattle.bits.proofs.Tests.{any-cong}
use Rattle.condition.specs.Condition.{Condition}
use Rattle.condition.specs.Places.{leaves, places, leaf_holds, live, step, step_all, some_ends, accepts, longest}
use Rattle.condition.proofs.Words.{accepts-is}
use Rattle.condition.proofs.Steps.{step-mask, ends-mask}
use Rattle.condition.proofs.Longest.{Along, live-mask, along-more, along-stops, along-ends, wrong-unaccepted}
use Rattle.places.specs.declared.Side.{Side}
use Rattle.places.specs.Tables.{Tables}
use Rattle.matching.specs.Holding.{HoldingFirst}
use Rattle.matching.specs.Matched.{matched}

module _ {r : Condition} {side : Side} {F S H w : List ℕ} (t : Tables r side F S) (h : HoldingFirst S side.leaves w (length w) H) where
  -- the set s stepped by the event at i, from the union u of the rows of its places
  pub stepped : (s u i x : ℕ) → x ≡ get_or w i 0 → i < length w → ((q : ℕ) → has u q ≡ in_rows F (side.leaves + 1) s q)
      → bit_and u (get_or H x 0) ≡ (step r s (get_or w i 0)).set
  unfolding places leaf_holds
  stepped s u i x same l f =
      let n = t.leaves_is in
      let k : side.leaves + 1 ≡ suc (leaves r) = omega arith in
      ap (λ (k : ℕ). bit_and u (get_or H k 0)) same
      ∙ step-mask r s (get_or w i 0) u (get_or H (get_or w i 0) 0)
      (λ q.
      f q
      ∙ ap (λ (x : ℕ). any_below x (λ p. has s p && has (get_or F p 0) q)) k
      ∙ any-cong (suc (leaves r)) _ _ (λ p i. ap (λ (x : Bool). has s p && x) (t.follow_is p q (le_of_suc-le-suc i))))
      (λ q a b. h.first_is i q l a (omega arith) ∙ ap (λ (x : ℕ). has x (get_or w i 0)) (t.sets_is q a b))

-- the answer, by yes or no and the longest beginning
matched-no : (r : Condition) (w : List ℕ) (n : ℕ) → accepts r w ≡ false → longest r w ≡ n → Err n ≡ matched r w
matched-no r w n e f = ap Err (sym f) ∙ sym (ap (λ (b : Bool). cond b (Ok tt) (Err (longest r w))) e)

matched-yes : (r : Condition) (w : List ℕ) → accepts r w ≡ true → Ok tt ≡ matched r w
matched-yes r w e = sym (ap (λ (b : Bool). cond b (Ok tt) (Err (longest r w))) e)

module _ {r : Condition} {w : List ℕ} {i s : ℕ} (a : Along r w i s) where
  -- x is the set stepped by the next event, and y that of the live places
  module _ (l : i < length w) (x y : ℕ) (x-is : x ≡ (step r s (get_or w i 0)).set) (y-is : (p : ℕ) → has y p ≡ live r p) where
    -- no word can be finished
    pub matched-wrong : bit_and x y ≡ 0 → Err i ≡ matched r w
    matched-wrong none =
        let n = along-stops r a l x-is (λ k. rw (← live-mask r x y y-is, none) at k) in
        matched-no r w i (wrong-unaccepted r w (omega arith)) n

    -- some word can
    pub one_along : (bit_and x y ≡ 0 → ⊥) → Along r w (i + 1) x
    one_along some =
        subst (λ (k : ℕ). Along r w k x) (sym (add-one i))
        (along-more r a l x-is (rw (← live-mask r x y y-is, ne_eqb (bit_and x y) 0 some) tt))

  -- behind the last event, some place ends a word, or none
  module _ (l : length w ≤ i) {side : Side} {F S : List ℕ} (t : Tables r side F S) where
    said : not (eqb (bit_and s side.ends) 0) ≡ accepts r w
    said =
        ends-mask r s side.ends t.ends_is
        ∙ ap (λ (x : ℕ). some_ends r x) (a.stepped ∙ ap (λ (x : List ℕ). step_all r 1 x) (take_all i w l))
        ∙ sym (accepts-is r w)

    pub matched-unfinished : bit_and s side.ends ≡ 0 → Err (length w) ≡ matched r w
    matched-unfinished none = matched-no r w (length w) (sym said ∙ ap (λ (x : ℕ). not (eqb x 0)) none) (along-ends r a l)

    pub matched-whole : (bit_and s side.ends ≡ 0 → ⊥) → Ok tt ≡ matched r w
    matched-whole some = matched-yes r w (sym said ∙ ap not (ne_eqb (bit_and s side.ends) 0 some))
