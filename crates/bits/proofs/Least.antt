-- The lowest number of a set, as the machine counts to it, the set without it, and tests of the numbers
-- of a set, the lowest first.
use mathlib.Core.Path.{◌≡◌, refl, sym, ap, ap₂, ◌∙◌, subst}
use mathlib.Core.Bool.{Bool, true, false, not, ◌&&◌, ◌||◌, and-true}
use mathlib.Core.Logic.{◌⊎◌, inl, inr, ⊎_elim}
use Prim.Native.Nat.{ℕ, zero, suc, ◌-◌, ◌/◌, ◌%◌, ◌^◌, ◌≤◌, ◌<◌}
use native.Mathlib.Nat.{le_refl, le_of_suc-le-suc, zero-lt-suc, pow-suc}
use native.Mathlib.Omega.{arith}
use lib.Dec.{T, eqb, eqb-suc-zero, eqb-suc-suc}
use lib.Bits.{bit_and, and_step, and_le_r}
use lib.Count.{count_trailing_zeros, trailing_of_zero}
use borrow.Author.Tests.{eqb-true}
use Rattle.bits.specs.Bits.{◌⇒◌, has, any_below, all_below}
use Rattle.std.specs.Prelude.{Some, None}
use Rattle.bits.specs.Rows.{IsLowest, Taken, TakesLowest}
use Rattle.bits.proofs.Tests.{and-out, and_in, or-out, or_left, or_right, if-out, if-in, T_true, T-ext, any_out, any-in, all-out, all_in}
use Rattle.bits.proofs.Sets.{has-suc, has-none, has-lt}
use Rattle.bits.proofs.Masks.{has-low, zero-or-one, has-and}

-- The lowest number of a set ------------------------------------------------------------------------------------------

-- p is the lowest number of x, and `x & (x - 1)` is x without it
abbrev pub Lowest : ℕ → ℕ → Type 0
Lowest x p = Taken x p (bit_and x (x - 1))

low-is : (x d : ℕ) → x % 2 ≡ d → has x 0 ≡ eqb d 1
low-is x d e = has-low x ∙ ap (λ (d : ℕ). eqb d 1) e

and_same : (a : Bool) → (a && a) ≡ (a && true)
and_same true = refl
and_same false = refl

odd-without : (x : ℕ) → x % 2 ≡ 1 → (i : ℕ) → has (bit_and x (x - 1)) i ≡ (has x i && not (eqb i 0))
odd-without x e zero = has-and x (x - 1) 0 ∙ ap (λ (b : Bool). has x 0 && b) (low-is (x - 1) 0 (omega arith))
odd-without x e (suc j) =
    let half : (x - 1) / 2 ≡ x / 2 = omega arith in
    has-and x (x - 1) (suc j)
    ∙ ap (λ (b : Bool). has x (suc j) && b) (has-suc (x - 1) j ∙ ap (λ (y : ℕ). has y j) half ∙ sym (has-suc x j))
    ∙ and_same (has x (suc j))
    ∙ sym (ap (λ (b : Bool). has x (suc j) && not b) (eqb-suc-zero j))

lowest-odd : (x : ℕ) → x % 2 ≡ 1 → Lowest x 0
lowest-odd x e = record { here = subst T (sym (low-is x 1 e)) tt; below = λ i h. absurd (omega arith); without = odd-without x e }

module _ (x p : ℕ) (e : x % 2 ≡ 0) (h : 0 < x) (l : Lowest (x / 2) p) where
  even-below : (i : ℕ) → i < suc p → has x i ≡ false
  even-below zero k = low-is x 0 e
  even-below (suc i) k = has-suc x i ∙ l.below i (le_of_suc-le-suc k)

  even-without : (i : ℕ) → has (bit_and x (x - 1)) i ≡ (has x i && not (eqb i (suc p)))
  even-without zero =
      has-and x (x - 1) 0
      ∙ ap (λ (b : Bool). b && has (x - 1) 0) (low-is x 0 e)
      ∙ sym (ap (λ (b : Bool). b && not (eqb 0 (suc p))) (low-is x 0 e))
  even-without (suc j) =
      let both : bit_and x (x - 1) / 2 ≡ bit_and (x / 2) ((x - 1) / 2) = omega (arith, and_step x (x - 1)) in
      let half : (x - 1) / 2 ≡ x / 2 - 1 = omega arith in
      has-suc (bit_and x (x - 1)) j
      ∙ ap (λ (y : ℕ). has y j) (both ∙ ap (λ (y : ℕ). bit_and (x / 2) y) half)
      ∙ l.without j
      ∙ sym (ap₂ (λ (a b : Bool). a && not b) (has-suc x j) (eqb-suc-suc j p))

  lowest-even : Lowest x (suc p)
  lowest-even = record { here = subst T (sym (has-suc x p)) l.here; below = even-below; without = even-without }

zeros-odd : (k x : ℕ) → x % 2 ≡ 1 → count_trailing_zeros (suc k) x ≡ 0
unfolding count_trailing_zeros
zeros-odd k x e = rw e

zeros-even : (k x : ℕ) → x % 2 ≡ 0 → count_trailing_zeros (suc k) x ≡ suc (count_trailing_zeros k (x / 2))
unfolding count_trailing_zeros
zeros-even k x e = rw e

pub positive : (x : ℕ) → (x ≡ 0 → ⊥) → 0 < x
positive zero h = absurd (h refl)
positive (suc x) h = zero-lt-suc x

pub lowest : (k x : ℕ) → 0 < x → x < 2 ^ k → Lowest x (count_trailing_zeros k x)
lowest zero x h l = absurd (omega arith)
lowest (suc k) x h l = go (lowest k (x / 2)) (zero-or-one (x % 2) (omega arith))
  where
    go : (0 < x / 2 → x / 2 < 2 ^ k → Lowest (x / 2) (count_trailing_zeros k (x / 2))) → (x % 2 ≡ 0) ⊎ (x % 2 ≡ 1) → Lowest x (count_trailing_zeros (suc k) x)
    go more (inl e) =
        subst (λ (p : ℕ). Lowest x p) (sym (zeros-even k x e))
        (lowest-even x (count_trailing_zeros k (x / 2)) e h (more (omega arith) (omega (arith, pow-suc 2 k))))
    go more (inr e) = subst (λ (p : ℕ). Lowest x p) (sym (zeros-odd k x e)) (lowest-odd x e)

pub lowest-lt : (x : ℕ) → (x ≡ 0 → ⊥) → x < 2 ^ 64 → count_trailing_zeros 64 x < 64
lowest-lt x h l = has-lt 64 x (count_trailing_zeros 64 x) l (lowest 64 x (positive x h) l).here

-- a set without its lowest number is a lesser word, so a loop that takes the numbers off ends
pub without-less : (x : ℕ) → (x ≡ 0 → ⊥) → bit_and x (x - 1) < x
without-less x h = omega (arith, positive x h, and_le_r x (x - 1))

pub number_lt : {x k : ℕ} → x < 2 ^ 64 → has x k ≡ true → k < 64
number_lt {x} {k} s e = has-lt 64 x k s (rw e tt)

zeros-below : (x : ℕ) → x < 2 ^ 64 → (k : ℕ) → k < count_trailing_zeros 64 x → has x k ≡ false
zeros-below zero s k l = has-none k
zeros-below (suc x) s k l = (lowest 64 (suc x) (zero-lt-suc x) s).below k l

zeros-here : (x : ℕ) → x < 2 ^ 64 → count_trailing_zeros 64 x < 64 → has x (count_trailing_zeros 64 x) ≡ true
zeros-here zero s l = absurd (omega (arith, l, trailing_of_zero 64))
zeros-here (suc x) s l = T_true (has (suc x) (count_trailing_zeros 64 (suc x))) (lowest 64 (suc x) (zero-lt-suc x) s).here

module _ (x n : ℕ) (s : x < 2 ^ 64) (b : n ≤ 64) where
  pub lowest-bit : count_trailing_zeros 64 x < n → IsLowest n (λ k. has x k) (Some (count_trailing_zeros 64 x))
  lowest-bit l = record { bound = l; before = zeros-below x s; stops = zeros-here x s (omega arith) }

  pub lowest-past : n ≤ count_trailing_zeros 64 x → IsLowest n (λ k. has x k) None
  lowest-past l = λ k h. zeros-below x s k (omega arith)

-- one turn of the walk over the numbers of a set
pub takes-lowest : (x : ℕ) → (x ≡ 0 → ⊥) → x < 2 ^ 64 → TakesLowest x (Some (count_trailing_zeros 64 x)) (bit_and x (x - 1))
takes-lowest x z l = (lowest-lt x z l, lowest 64 x (positive x z) l)

-- Tests of the numbers of a set -----------------------------------------------------------------------------------------

pub any_none : (n x : ℕ) (g : ℕ → Bool) → ((i : ℕ) → i < n → has x i ≡ false) → any_below n (λ i. has x i && g i) ≡ false
unfolding any_below
any_none zero x g h = refl
any_none (suc n) x g h =
    ap₂ (λ (a b : Bool). a || (b && g n)) (any_none n x g (λ i l. h i (omega arith))) (h n (le_refl (suc n)))

pub all_none : (n x : ℕ) (g : ℕ → Bool) → ((i : ℕ) → i < n → has x i ≡ false) → all_below n (λ i. has x i ⇒ g i) ≡ true
unfolding all_below
all_none zero x g h = refl
all_none (suc n) x g h =
    ap₂ (λ (a b : Bool). a && (b ⇒ g n)) (all_none n x g (λ i l. h i (omega arith))) (h n (le_refl (suc n)))

module _ {x p y : ℕ} (l : Taken x p y) where
  -- a number of the set is the lowest, or one of the rest
  in_rest : (i : ℕ) → T (has x i) → (i ≡ p) ⊎ T (has y i)
  in_rest i t = go (eqb i p) refl
    where
      go : (b : Bool) → eqb i p ≡ b → (i ≡ p) ⊎ T (has y i)
      go true e = inl (eqb-true i p e)
      go false e = inr (subst T (sym (l.without i ∙ ap (λ (b : Bool). has x i && not b) e ∙ and-true (has x i))) t)

  pub of-rest : (i : ℕ) → T (has y i) → T (has x i)
  of-rest i t = (and-out (has x i) (not (eqb i p)) (subst T (l.without i) t)).0

  module _ (n : ℕ) (g : ℕ → Bool) (h : p < n) where
    pub any-split : any_below n (λ i. has x i && g i) ≡ (g p || any_below n (λ i. has y i && g i))
    any-split = T-ext (any_below n whole) (g p || any_below n less) forth back
      where
        whole : ℕ → Bool
        whole i = has x i && g i

        less : ℕ → Bool
        less i = has y i && g i

        forth : T (any_below n whole) → T (g p || any_below n less)
        forth t =
            let (i, k, u) = any_out n whole t in
            let (a, b) = and-out (has x i) (g i) u in
            ⊎_elim
            (λ (z : i ≡ p). or_left (g p) (any_below n less) (subst (λ (j : ℕ). T (g j)) z b))
            (λ v. or_right (g p) (any_below n less) (any-in n less i k (and_in (has y i) (g i) v b)))
            (in_rest i a)

        back : T (g p || any_below n less) → T (any_below n whole)
        back t =
            ⊎_elim
            (λ u. any-in n whole p h (and_in (has x p) (g p) l.here u))
            (λ u.
            let (i, k, v) = any_out n less u in
            let (a, b) = and-out (has y i) (g i) v in
            any-in n whole i k (and_in (has x i) (g i) (of-rest i a) b))
            (or-out (g p) (any_below n less) t)

    pub all_split : all_below n (λ i. has x i ⇒ g i) ≡ (g p && all_below n (λ i. has y i ⇒ g i))
    all_split = T-ext (all_below n whole) (g p && all_below n less) forth back
      where
        whole : ℕ → Bool
        whole i = has x i ⇒ g i

        less : ℕ → Bool
        less i = has y i ⇒ g i

        forth : T (all_below n whole) → T (g p && all_below n less)
        forth t =
            and_in (g p) (all_below n less)
            (if-out (has x p) (g p) (all-out n whole t p h) l.here)
            (all_in n less (λ i k. if-in (has y i) (g i) (λ u. if-out (has x i) (g i) (all-out n whole t i k) (of-rest i u))))

        back : T (g p && all_below n less) → T (all_below n whole)
        back t =
            let (a, b) = and-out (g p) (all_below n less) t in
            all_in n whole (λ i k.
            if-in (has x i) (g i) (λ u.
            ⊎_elim
            (λ (z : i ≡ p). subst (λ (j : ℕ). T (g j)) (sym z) a)
            (λ v. if-out (has y i) (g i) (all-out n less b i k) v)
            (in_rest i u)))
