-- The length of each byte of kind: it is the one that the documents list, and what it says of the kind.
use mathlib.Core.Path.{◌≡◌, refl, sym, ap, subst}
use mathlib.Core.Bool.{Bool, true, false, cond, ◌&&◌}
use Prim.Native.Nat.{ℕ, ◌≤◌, ◌<◌}
use native.Mathlib.Omega.{arith}
use lib.Dec.{T, eqb, ltb, leb}
use borrow.Author.Tests.{eqb-true, ltb-true, ltb-false, leb-true, lt-ltb, le-leb}
use Rattle.bits.specs.Bits.{all_below}
use Rattle.bits.proofs.Tests.{T_true, all-out}
use Rattle.sheet.specs.Kind.{body_length}
use Rattle.std.specs.Prelude.{Option, Some, None}
use Rattle.kinds.specs.Kinds.{last_kind, is_known}
use Rattle.kinds.specs.Lengths.{length_of, listed_length}

same : Option ℕ → Option ℕ → Bool
same (Some m) (Some n) = eqb m n
same (Some m) None = false
same None (Some n) = false
same None None = true

same_out : (x y : Option ℕ) → T (same x y) → x ≡ y
unfolding same
same_out (Some m) (Some n) h = ap Some (eqb-true m n (T_true (eqb m n) h))
same_out (Some m) None h = absurd h
same_out None (Some n) h = absurd h
same_out None None h = refl

-- "for each of the 256 kind bytes the decision gives the former length or that there is none": `body_length` gives `length_of`, and this is the listed
-- length of each byte, by one test that is computed over all of them
each-byte : T (all_below 256 (λ k. same (length_of k) (listed_length k)))
unfolding all_below same
each-byte = tt

pub as-listed : (k : ℕ) → k < 256 → length_of k ≡ listed_length k
as-listed k l = same_out (length_of k) (listed_length k) (all-out 256 (λ k. same (length_of k) (listed_length k)) each-byte k l)

-- Known kinds ---------------------------------------------------------------------------------------------------------

pub known_out : (kinds k : ℕ) → is_known kinds k ≡ true → (1 ≤ k) × (k ≤ kinds)
known_out kinds k e = go (ltb 0 k) refl e
  where
    go : (b : Bool) → ltb 0 k ≡ b → (b && leb k kinds) ≡ true → (1 ≤ k) × (k ≤ kinds)
    go true low high = (ltb-true 0 k low, leb-true k kinds high)
    go false low high = absurd (subst T (sym high) tt)

pub known_in : (kinds k : ℕ) → 1 ≤ k → k ≤ kinds → is_known kinds k ≡ true
known_in kinds k low high = simp (lt-ltb 0 k low, le-leb k kinds high)

-- a known kind has a length
pub has-length : (k : ℕ) → 1 ≤ k → k ≤ last_kind → Some (body_length k) ≡ length_of k
has-length k low high = simp (known_in last_kind k low high)

-- .. and what is said of the kind by its length, and by its having none
pub length-out : (k n : ℕ) → length_of k ≡ Some n → (1 ≤ k) × (k ≤ last_kind) × (n ≡ body_length k)
length-out k n e = go (is_known last_kind k) refl e
  where
    go : (b : Bool) → is_known last_kind k ≡ b → cond b (Some (body_length k)) None ≡ Some n → (1 ≤ k) × (k ≤ last_kind) × (n ≡ body_length k)
    go true known e = let (low, high) = known_out last_kind k known in (low, high, cc)
    go false known e = absurd (let z : ◌≡◌ {A = ℕ} 0 1 = cc in omega arith)

pub nothing-out : (k : ℕ) → length_of k ≡ None → k ≤ last_kind → k ≡ 0
nothing-out k e high = go (ltb 0 k) refl
  where
    go : (b : Bool) → ltb 0 k ≡ b → k ≡ 0
    go true low = let z : ◌≡◌ {A = ℕ} 0 1 = cc (has-length k (ltb-true 0 k low) high, e) in absurd (omega arith)
    go false low = omega (arith, ltb-false 0 k low)
