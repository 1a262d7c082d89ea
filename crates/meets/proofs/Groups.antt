-- The events that each place of a set holds, group after group of six places.
use mathlib.Core.Path.{◌≡◌, sym, ap, ap₂, ◌∙◌, subst}
use mathlib.Core.Bool.{Bool, ◌&&◌}
use mathlib.Core.List.{List}
use Prim.Native.Nat.{ℕ, zero, suc, ◌+◌, ◌*◌, ◌-◌, ◌/◌, ◌%◌, ◌^◌, ◌<◌}
use native.Mathlib.Numerals.{add-one}
use native.Mathlib.Omega.{arith}
use lib.ListN.{get_or}
use lib.Dec.{T, eqb}
use lib.Bits.{bit_and, and_mask, and_high}
use lib.Pow.{shr-shr, shl-shr}
use borrow.Author.Tests.{lt-ltb}
use Rattle.bits.specs.Bits.{◌⇒◌, has, all_below}
use Rattle.bits.specs.Rows.{row_has}
use Rattle.bits.proofs.Tests.{and-out, if-out, if-in, T-ext, all_in, all-out}
use Rattle.bits.proofs.Sets.{has-lt}
use Rattle.bits.proofs.Masks.{has-and}
use Rattle.bits.proofs.Bitwise.{has-below}
use Rattle.meets.specs.Meets.{all_hold, table_rows, group_set, GroupRows}

-- The places of a set that are in one group ------------------------------------------------------------------------------

abbrev pub part : ℕ → ℕ → ℕ
part t g = t / 2 ^ (6 * g) % 64 * 2 ^ (6 * g)

-- they are places of the set
part_of : (t g k : ℕ) → T (has (part t g) k) → T (has t k)
part_of t g k h =
    let mask = 2 ^ (6 + 6 * g) - 2 ^ (6 * g) in
    (and-out (has t k) (has mask k) (subst T (ap (λ (x : ℕ). has x k) (sym (and_high t 6 (6 * g))) ∙ has-and t mask k) h)).0

low_digit : (y b : ℕ) → b < 6 → y % 64 / 2 ^ b % 2 ≡ y / 2 ^ b % 2
low_digit y zero l = omega arith
low_digit y (suc zero) l = omega arith
low_digit y (suc (suc zero)) l = omega arith
low_digit y (suc (suc (suc zero))) l = omega arith
low_digit y (suc (suc (suc (suc zero)))) l = omega arith
low_digit y (suc (suc (suc (suc (suc zero))))) l = omega arith
low_digit y (suc (suc (suc (suc (suc (suc b)))))) l = absurd (omega arith)

-- and all that are in the group
part-has : (t g b : ℕ) → b < 6 → has (part t g) (6 * g + b) ≡ has t (6 * g + b)
unfolding has
part-has t g b l =
    ap (λ (x : ℕ). eqb (x % 2) 1) (sym (shr-shr (part t g) (6 * g) b) ∙ ap (λ (x : ℕ). x / 2 ^ b) (shl-shr (t / 2 ^ (6 * g) % 64) (6 * g)))
    ∙ ap (λ (x : ℕ). eqb x 1) (low_digit (t / 2 ^ (6 * g)) b l)
    ∙ ap (λ (x : ℕ). eqb (x % 2) 1) (shr-shr t (6 * g) b)

part_in : (t k : ℕ) → T (has t k) → T (has (part t (k / 6)) k)
part_in t k h =
    let e : 6 * (k / 6) + k % 6 ≡ k = omega arith in
    let l : k % 6 < 6 = omega arith in
    subst (λ (x : ℕ). T (has (part t (k / 6)) x)) e (subst T (sym (part-has t (k / 6) (k % 6) l)) (subst (λ (x : ℕ). T (has t x)) (sym e) h))

module _ (m : ℕ) (sets : List ℕ) where
  -- each place of a set holds the event where those of each group do
  all-parts : (t e : ℕ) → t < 2 ^ 36 → all_below 6 (λ g. all_hold m sets (part t g) e) ≡ all_hold m sets t e
  all-parts t e s = T-ext (all_below 6 (λ g. all_hold m sets (part t g) e)) (all_hold m sets t e) forth back
    where
      forth : T (all_below 6 (λ g. all_hold m sets (part t g) e)) → T (all_hold m sets t e)
      forth h =
          all_in m (λ k. has t k ⇒ row_has sets k e)
          (λ k l. if-in (has t k) (row_has sets k e)
          (λ w.
          let few = has-lt 36 t k s w in
          if-out (has (part t (k / 6)) k) (row_has sets k e)
          (all-out m (λ j. has (part t (k / 6)) j ⇒ row_has sets j e) (all-out 6 (λ g. all_hold m sets (part t g) e) h (k / 6) (omega arith)) k l)
          (part_in t k w)))

      back : T (all_hold m sets t e) → T (all_below 6 (λ g. all_hold m sets (part t g) e))
      back h =
          all_in 6 (λ g. all_hold m sets (part t g) e)
          (λ g _. all_in m (λ k. has (part t g) k ⇒ row_has sets k e)
          (λ k l. if-in (has (part t g) k) (row_has sets k e)
          (λ w. if-out (has t k) (row_has sets k e) (all-out m (λ k. has t k ⇒ row_has sets k e) h k l) (part_of t g k w))))

  -- Group after group -----------------------------------------------------------------------------------------------------

  module _ (t : ℕ) where
    -- the events are those that the places of the first g groups hold
    pub record Gone (g events : ℕ) : Type 0 where
      pub are : (e : ℕ) → e < 64 → has events e ≡ all_below g (λ g. all_hold m sets (part t g) e)

    pub gone-none : Gone 0 (2 ^ 64 - 1)
    unfolding all_below
    gone-none = record { are = λ e l. has-below 64 e ∙ lt-ltb e 64 l }

    pub gone-more : {g events x : ℕ} {rows : List ℕ} → GroupRows m sets table_rows rows → g < 6 → x ≡ bit_and (t / 2 ^ (6 * g)) 63 → Gone g events
        → Gone (g + 1) (bit_and events (get_or rows (64 * g + x) 0))
    unfolding all_below
    gone-more {g} {events} {x} {rows} r h x-is w =
        record {
          are = λ e l.
              has-and events (get_or rows (64 * g + x) 0) e
              ∙ ap₂ (λ (a b : Bool). a && b) (w.are e l) (row_is e l)
              ∙ ap (λ (n : ℕ). all_below n (λ g. all_hold m sets (part t g) e)) (sym (add-one g));
        }
      where
        low : x ≡ t / 2 ^ (6 * g) % 64
        low = x-is ∙ and_mask (t / 2 ^ (6 * g)) 6

        small : x < 64
        small = omega (arith, low)

        group-is : group_set (64 * g + x) ≡ part t g
        group-is =
            let a : (64 * g + x) % 64 ≡ t / 2 ^ (6 * g) % 64 = omega (arith, low, small) in
            let b : (64 * g + x) / 64 ≡ g = omega (arith, small) in
            ap₂ (λ (y k : ℕ). y * 2 ^ (6 * k)) a b

        row_is : (e : ℕ) → e < 64 → row_has rows (64 * g + x) e ≡ all_hold m sets (part t g) e
        row_is e l =
            let b : 64 * g + x < table_rows = omega (arith, small) in
            r.row (64 * g + x) e b b l ∙ ap (λ (y : ℕ). all_hold m sets y e) group-is

    pub gone-all : {events : ℕ} → Gone 6 events → t < 2 ^ 36 → (e : ℕ) → e < 64 → has events e ≡ all_hold m sets t e
    gone-all w s e l = w.are e l ∙ all-parts t e s
