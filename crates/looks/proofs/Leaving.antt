-- What one pair leaves of the events that are missing.
use mathlib.Core.Path.{◌≡◌, refl, sym, ap, ap₂, ◌∙◌, subst}
use mathlib.Core.Bool.{Bool, true, false, cond, not, ◌&&◌, and-true, and-false, false≢true}
use mathlib.Core.List.{List}
use Prim.Native.Nat.{ℕ, ◌^◌, ◌<◌}
use native.Mathlib.Omega.{arith}
use lib.ListN.{length, set, length-set}
use lib.Dec.{T, eqb, eqb→eq}
use lib.Bits.{bit_and, bit_xor}
use borrow.Author.Tests.{eq-eqb, ne_eqb, eqb-true, eqb-false, not-true}
use Rattle.bits.specs.Bits.{has}
use Rattle.bits.proofs.Tests.{and-out, T_true}
use Rattle.bits.proofs.Sets.{has-lt}
use Rattle.bits.proofs.Masks.{nonzero-in}
use Rattle.bits.proofs.Bitwise.{lt-has, has-without}
use Rattle.certificate.specs.Certificate.{Pair, pair}
use Rattle.bits.specs.Rows.{row_has}
use Rattle.meets.specs.Meets.{all_hold}
use Rattle.looks.specs.Looks.{serving, misses, Left}
use Rattle.bits.proofs.Least.{number_lt}
use Rattle.meets.proofs.Rows.{row-set}
use Rattle.looks.proofs.Rows.{chosen-has}

-- a test whose negation passes fails
pub fails-not : (b : Bool) → T (not b) → b ≡ false
fails-not b h = not-true b (T_true (not b) h)

pub and_both : (a b : Bool) → (a && b) ≡ true → (a ≡ true) × (b ≡ true)
and_both a b e = let (x, y) = and-out a b (rw e tt) in (T_true a x, T_true b y)

-- the place of the pair, whose row becomes l: it is taken out where the row is empty
row_here : (a empty l r s : Bool) → a ≡ true → l ≡ (r && not s) → (T l → empty ≡ false) → ((a && not (empty && true)) && l) ≡ ((a && r) && not s)
row_here true empty true r s x y z = ap (λ (b : Bool). not (b && true) && true) (z tt) ∙ y
row_here true empty false r s x y z = and-false (not (empty && true)) ∙ y
row_here false empty l r s x y z = absurd (false≢true x)

row_other : (a empty r : Bool) → ((a && not (empty && false)) && r) ≡ ((a && r) && true)
row_other a empty r =
    ap (λ (x : Bool). (a && not x) && r) (and-false empty) ∙ ap (λ (x : Bool). x && r) (and-true a) ∙ sym (and-true (a && r))

module _ (m onward : ℕ) (sets : List ℕ) (place t missers : ℕ) (rows : List ℕ) where
  module _ (long : length rows ≡ 64) (small : missers < 2 ^ 64) where
    module _ (left : ℕ) (leaves : (e : ℕ) → has left e ≡ (row_has rows place e && not (serving m onward sets t e))) where
      -- its row is written
      pub left-row : {one gone : ℕ} → has missers place ≡ true → one ≡ 2 ^ place → gone ≡ cond (eqb left 0) one 0
          → Left m onward sets (pair place t) missers rows (bit_xor missers gone) (set rows place left)
      left-row {one} {gone} here one-is gone-is = record {
        rows_long = length-set rows place left ∙ long;
        missers_small = lt-has 64 (bit_xor missers gone) (λ k t. has-lt 64 missers k small (still k t));
        missers_among = still;
        left_is = λ q e.
            ap₂ (λ (x y : Bool). x && y) (missers-are q) (row-set rows place left (let l = number_lt small here in omega arith) q e)
            ∙ by q e (eqb q place) refl;
      }
        where
          bits : (q : ℕ) → has gone q ≡ (eqb left 0 && eqb q place)
          bits q = chosen-has (eqb left 0) place q one-is gone-is

          missers-are : (q : ℕ) → has (bit_xor missers gone) q ≡ (has missers q && not (eqb left 0 && eqb q place))
          missers-are q =
              has-without missers gone q
              (λ h. let (_, y) = and-out (eqb left 0) (eqb q place) (rw (bits q) at h) in
              subst (λ (k : ℕ). T (has missers k)) (sym (eqb→eq q place y)) (rw here tt))
              ∙ ap (λ (x : Bool). has missers q && not x) (bits q)

          still : (q : ℕ) → T (has (bit_xor missers gone) q) → T (has missers q)
          still q t = (and-out (has missers q) (not (eqb left 0 && eqb q place)) (subst T (missers-are q) t)).0

          not-empty : (e : ℕ) → T (has left e) → eqb left 0 ≡ false
          not-empty e h = fails-not (eqb left 0) (nonzero-in left e h)

          by : (q e : ℕ) (b : Bool) → eqb q place ≡ b
              → ((has missers q && not (eqb left 0 && b)) && cond b (has left e) (row_has rows q e))
              ≡ (misses missers rows q e && not (eqb place q && serving m onward sets t e))
          by q e true z =
              let y = eqb-true q place z in
              row_here (has missers q) (eqb left 0) (has left e) (row_has rows q e) (serving m onward sets t e)
              (ap (λ (k : ℕ). has missers k) y ∙ here)
              (leaves e ∙ ap (λ (k : ℕ). row_has rows k e && not (serving m onward sets t e)) (sym y))
              (not-empty e)
              ∙ ap (λ (b : Bool). misses missers rows q e && not (b && serving m onward sets t e)) (sym (eq-eqb place q (sym y)))
          by q e false z =
              row_other (has missers q) (eqb left 0) (row_has rows q e)
              ∙ ap (λ (b : Bool). misses missers rows q e && not (b && serving m onward sets t e))
              (sym (ne_eqb place q (λ (y : place ≡ q). eqb-false q place z (sym y))))

-- what a set within the followers leaves of a row, with the events that each of its places holds: those of a word, and so is what is left
pub leaves-row : {left : ℕ} (t row events m onward : ℕ) (sets : List ℕ) → left < 2 ^ 64 → events < 2 ^ 64
    → ((e : ℕ) → has left e ≡ (has row e && not (has events e))) → ((e : ℕ) → e < 64 → has events e ≡ all_hold m sets t e)
    → eqb (bit_and t onward) t ≡ true → (e : ℕ) → has left e ≡ (has row e && not (serving m onward sets t e))
leaves-row {left} t row events m onward sets s k left_is is within e = left_is e ∙ go (has row e) refl
  where
    low : has row e ≡ true → (b : Bool) → has events e ≡ b → e < 64
    low y true z = number_lt k z
    low y false z = number_lt s (left_is e ∙ ap₂ (λ (a b : Bool). a && not b) y z)

    go : (b : Bool) → has row e ≡ b → (b && not (has events e)) ≡ (b && not (serving m onward sets t e))
    go false y = refl
    go true y =
        ap (λ (b : Bool). not b) (is e (low y (has events e) refl)) ∙ ap (λ (w : Bool). not (w && all_hold m sets t e)) (sym within)

-- the same of an equal pair
pub left-of : {m onward missers missers' : ℕ} {sets rows rows' : List ℕ} {p p' : Pair} → p ≡ p' → Left m onward sets p' missers rows missers' rows'
    → Left m onward sets p missers rows missers' rows'
left-of {m} {onward} {missers} {missers'} {sets} {rows} {rows'} e l = subst (λ (p : Pair). Left m onward sets p missers rows missers' rows') (sym e) l
