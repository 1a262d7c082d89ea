-- A table with offsets written over it from an index on.
use mathlib.Core.Path.{◌≡◌, refl, ap, ◌∙◌}
use mathlib.Core.List.{List, [], ◌∷◌, ◌++◌}
use Prim.Native.Nat.{ℕ, zero, suc, ◌+◌, ◌≤◌, ◌<◌}
use native.Mathlib.Nat.{not-suc-le-zero, le_of_suc-le-suc}
use native.Mathlib.Omega.{arith}
use lib.ListN.{length, get_or, set}
use Rattle.sections.specs.Sections.{overwritten, overwritten_from}

pub none_written : (n : ℕ) (table : List ℕ) → overwritten_from n [] table ≡ table
none_written zero table = refl
none_written (suc n) [] = refl
none_written (suc n) (x ∷ table) = ap (λ (l : List ℕ). x ∷ l) (none_written n table)

in-front : (os table : List ℕ) (o : ℕ) → set (overwritten os table) (length os) o ≡ overwritten (os ++ (o ∷ [])) table
in-front [] [] o = refl
in-front [] (x ∷ table) o = refl
in-front (p ∷ os) [] o = refl
in-front (p ∷ os) (x ∷ table) o = ap (λ (l : List ℕ). p ∷ l) (in-front os table o)

-- one more offset is stored behind the others
pub stored : (n : ℕ) (os table : List ℕ) (o : ℕ) → set (overwritten_from n os table) (n + length os) o ≡ overwritten_from n (os ++ (o ∷ [])) table
stored zero os table o =
    let e : 0 + length os ≡ length os = omega arith in
    ap (λ (i : ℕ). set (overwritten os table) i o) e ∙ in-front os table o
stored (suc n) os [] o = none-to-set (suc n + length os)
  where
    none-to-set : (i : ℕ) → set [] i o ≡ []
    none-to-set zero = refl
    none-to-set (suc i) = refl
stored (suc n) os (x ∷ table) o =
    let e : suc n + length os ≡ suc (n + length os) = omega arith in
    ap (λ (i : ℕ). set (x ∷ overwritten_from n os table) i o) e ∙ ap (λ (l : List ℕ). x ∷ l) (stored n os table o)

-- a table keeps its length, and, if it has room for the offsets, holds them in its front
pub overwritten-length : (os table : List ℕ) → length (overwritten os table) ≡ length table
overwritten-length [] table = refl
overwritten-length (o ∷ os) [] = refl
overwritten-length (o ∷ os) (x ∷ table) = ap suc (overwritten-length os table)

pub overwritten-holds : (os table : List ℕ) → length os ≤ length table → (i : ℕ) → i < length os → get_or (overwritten os table) i 0 ≡ get_or os i 0
overwritten-holds [] table h i l = absurd (not-suc-le-zero l)
overwritten-holds (o ∷ os) [] h i l = absurd (not-suc-le-zero h)
overwritten-holds (o ∷ os) (x ∷ table) h zero l = refl
overwritten-holds (o ∷ os) (x ∷ table) h (suc i) l = overwritten-holds os table (le_of_suc-le-suc h) i (le_of_suc-le-suc l)
