-- The places that hold an event, and the rows of the places that miss one: they become the events that are wanted.
use mathlib.Core.Path.{◌≡◌, refl, sym, ap, ◌∙◌, subst}
use mathlib.Core.Bool.{Bool, true, false, cond, not, ◌&&◌, and-true}
use mathlib.Core.Logic.{⊎_elim}
use mathlib.Core.List.{List}
use Prim.Native.Nat.{ℕ, ◌+◌, ◌^◌, ◌<◌}
use native.Mathlib.Omega.{arith}
use lib.ListN.{length, get_or, set, length-set}
use lib.Seq.{get_or-set_same, get_or-set_other}
use lib.Dec.{T, eqb, ltb, eqb→eq, lt→ltb}
use lib.Bits.{bit_and, bit_or}
use borrow.Author.Count.{below_more}
use borrow.Author.Tests.{eq-eqb, eqb-true, eqb-false}
use Rattle.bits.specs.Bits.{has}
use Rattle.bits.proofs.Tests.{and-out, and_in, or-out, or_left, or_right}
use Rattle.bits.proofs.Sets.{has-none}
use Rattle.bits.proofs.Masks.{has-and, has-or, nonzero-in}
use Rattle.std.specs.Prelude.{Some, None}
use Rattle.bits.specs.Rows.{row_has, TakesLowest}
use Rattle.clause4.specs.Clause4.{Active, Wanted}
use Rattle.looks.proofs.Rows.{chosen-has}

-- The places that hold one of the first events, place after place -------------------------------------------------------

module _ (sets : List ℕ) (events : ℕ) where
  pub active-none : Active sets 0 events 0
  active-none = record { is = λ q t. absurd (rw (has-none q) at t); holds = λ q e l h t. absurd (omega arith) }

  -- place q, which is put in where it holds an event of the mask
  pub active-more : {q found one more : ℕ} (mask : ℕ) → Active sets q events found → ((k : ℕ) → has mask k ≡ ltb k events)
      → one ≡ 2 ^ q → more ≡ cond (not (eqb (bit_and (get_or sets q 0) mask) 0)) one 0 → Active sets (q + 1) events (bit_or found more)
  active-more {q} {found} {one} {more} mask a mask_is one-is more-is =
      record {
        is = λ k t.
            ⊎_elim
            (λ u. let l = a.is k u in omega arith)
            (λ u. let e = eqb→eq k q (and-out some (eqb k q) (subst T (chosen-has some q k one-is more-is) u)).1 in omega arith)
            (or-out (has found k) (has more k) (subst T (has-or found more k) t));
        holds = λ k e l h t. below_more Put q before here k l e h t;
      }
    where
      some : Bool
      some = not (eqb (bit_and (get_or sets q 0) mask) 0)

      Put : ℕ → Type 0
      Put k = (e : ℕ) → e < events → T (row_has sets k e) → T (has (bit_or found more) k)

      before : (k : ℕ) → k < q → Put k
      before k l e h t = subst T (sym (has-or found more k)) (or_left (has found k) (has more k) (a.holds k e l h t))

      here : Put q
      here e h t =
          let held = and_in (row_has sets q e) (has mask e) t (subst T (sym (mask_is e)) (lt→ltb e events h)) in
          let it = nonzero-in (bit_and (get_or sets q 0) mask) e (subst T (sym (has-and (get_or sets q 0) mask e)) held) in
          subst T (sym (has-or found more q))
          (or_right (has found q) (has more q)
          (subst T (sym (chosen-has some q q one-is more-is)) (and_in some (eqb q q) it (rw (eq-eqb q q refl) tt))))

-- The rows, the lowest place first --------------------------------------------------------------------------------------

-- each of the places but those of the rest has its row
pub record Wanting (missers : ℕ) (sets : List ℕ) (mask : ℕ) (rows : List ℕ) (rest : ℕ) : Type 0 where
  pub long : length rows ≡ 64
  pub row : (q : ℕ) → T (has missers q) → has rest q ≡ false → get_or rows q 0 ≡ bit_and (get_or sets q 0) mask

module _ (missers : ℕ) (sets : List ℕ) (mask : ℕ) where
  module _ {rows : List ℕ} {rest : ℕ} (w : Wanting missers sets mask rows rest) where
    pub wanting-all : {rest' : ℕ} → TakesLowest rest None rest' → Wanted missers sets mask rows
    wanting-all (z, _) = record { long = w.long; row = λ q t. w.row q t (ap (λ (x : ℕ). has x q) z ∙ has-none q) }

    -- the lowest place of the rest
    pub wanting-more : {p rest' : ℕ} → TakesLowest rest (Some p) rest' → Wanting missers sets mask (set rows p (bit_and (get_or sets p 0) mask)) rest'
    wanting-more {p} {rest'} (small, taken) =
        record { long = length-set rows p events ∙ w.long; row = λ q t n. by q t (sym (taken.without q) ∙ n) (eqb q p) refl }
      where
        events : ℕ
        events = bit_and (get_or sets p 0) mask

        inside : p < length rows
        inside = omega (arith, w.long, small)

        by : (q : ℕ) → T (has missers q) → (has rest q && not (eqb q p)) ≡ false → (b : Bool) → eqb q p ≡ b
            → get_or (set rows p events) q 0 ≡ bit_and (get_or sets q 0) mask
        by q t n true y =
            let same = eqb-true q p y in
            ap (λ (k : ℕ). get_or (set rows p events) k 0) same
            ∙ get_or-set_same rows p events 0 inside
            ∙ ap (λ (k : ℕ). bit_and (get_or sets k 0) mask) (sym same)
        by q t n false y =
            get_or-set_other rows p q events 0 (eqb-false q p y)
            ∙ w.row q t (sym (and-true (has rest q)) ∙ ap (λ (b : Bool). has rest q && not b) (sym y) ∙ n)
