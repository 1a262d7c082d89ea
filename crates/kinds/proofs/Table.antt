-- The table of kinds, row by row: what the code's tables and tests say of a kind.
use mathlib.Core.Path.{◌≡◌, refl, ap, subst, ◌∙◌}
use mathlib.Core.Bool.{Bool, true, false, ◌||◌}
use mathlib.Core.List.{List, [], ◌∷◌}
use Prim.Native.Nat.{ℕ, suc, ◌≤◌}
use native.Mathlib.Omega.{arith}
use lib.Dec.{T, eqb, lit≤}
use borrow.Author.Tests.{eqb-true, ne_eqb}
use Rattle.sheet.specs.Kind.{conditions, points, methods, certificates, a-set, a-long-set, a-place, Role, symbol, a_pair, counts, edition, Kind, a_kind, kinds, kind_of, section_of, widths, body_length}
use Rattle.sheet.specs.Reading.{in_condition, all_exist}
use Rattle.sheet.proofs.Kind.{◌and◌, Numbered, numbered}
use Rattle.kinds.specs.Kinds.{last_kind, takes_items, primitive_kind, body_kind}

-- P k of the row of each kind k
pub by_rows : (P : ℕ → Kind → Type 0) → Numbered P kinds (a_kind 0 counts []) → (k : ℕ) → P k (kind_of k)
by_rows P rows = numbered P kinds (a_kind 0 counts []) rows

-- Body lengths and sections -------------------------------------------------------------------------------------------

-- the longest body
pub body-le : (k : ℕ) → body_length k ≤ 16
body-le =
    by_rows (λ k x. widths x.fields ≤ 16)
    (lit≤ tt and lit≤ tt and lit≤ tt and lit≤ tt and lit≤ tt and lit≤ tt and lit≤ tt and lit≤ tt
    and lit≤ tt and lit≤ tt and lit≤ tt and lit≤ tt and lit≤ tt and lit≤ tt and lit≤ tt and lit≤ tt and lit≤ tt and lit≤ tt
    and lit≤ tt and lit≤ tt and lit≤ tt and lit≤ tt and lit≤ tt and (λ i. lit≤ tt))

-- there are five sections
pub section-high : (k : ℕ) → section_of k ≤ 5
section-high =
    by_rows (λ k x. x.section ≤ 5)
    (lit≤ tt and lit≤ tt and lit≤ tt and lit≤ tt and lit≤ tt and lit≤ tt and lit≤ tt and lit≤ tt
    and lit≤ tt and lit≤ tt and lit≤ tt and lit≤ tt and lit≤ tt and lit≤ tt and lit≤ tt and lit≤ tt and lit≤ tt and lit≤ tt
    and lit≤ tt and lit≤ tt and lit≤ tt and lit≤ tt and lit≤ tt and (λ i. lit≤ tt))

-- Roles ---------------------------------------------------------------------------------------------------------------

-- of the kinds that stand in no condition the mark of the edition alone is of the section of conditions
pub past-conditions : (k : ℕ) → 1 ≤ k → k ≤ last_kind → in_condition (section_of k) (kind_of k).role ≡ false → (k ≡ 18 → ⊥) → points ≤ section_of k
past-conditions =
    by_rows (λ k x. 1 ≤ k → k ≤ last_kind → in_condition x.section x.role ≡ false → (k ≡ 18 → ⊥) → points ≤ x.section)
    ((λ low. absurd (omega arith)) and inside and inside and inside and inside and inside and inside
    and later and later and later and later and later and later and later and later and later and later and later
    and (λ low high out ne. absurd (ne refl)) and later and later and inside and later
    and (λ i low high. absurd (omega arith)))
  where
    inside : {A B C : Type 0} → A → B → true ≡ false → C
    inside low high out = absurd (subst T out tt)

    later : {n : ℕ} {A B C D : Type 0} → A → B → C → D → 2 ≤ suc (suc n)
    later low high out ne = omega arith

-- no kind but 3, 4 and 5 takes items
pub none-taken : (k : ℕ) → (k ≡ 3 → ⊥) → (k ≡ 4 → ⊥) → (k ≡ 5 → ⊥) → takes_items (kind_of k).role ≡ 0
none-taken =
    by_rows (λ k x. (k ≡ 3 → ⊥) → (k ≡ 4 → ⊥) → (k ≡ 5 → ⊥) → takes_items x.role ≡ 0)
    (same and same and same and (λ a b c. absurd (a refl)) and (λ a b c. absurd (b refl)) and (λ a b c. absurd (c refl))
    and same and same and same and same and same and same and same and same and same and same and same and same and same and same and same
    and same and same and (λ i. same))
  where
    same : {A B C : Type 0} → A → B → C → ◌≡◌ {A = ℕ} 0 0
    same a b c = refl

-- the symbols and the mark of the edition are of section 1, the pairs of section 5
abbrev pub Suits : ℕ → Role → Type 0
Suits section (symbol takes make) = section ≡ conditions
Suits section a_pair = section ≡ certificates
Suits section counts = Unit {0}
Suits section edition = section ≡ conditions

pub suits : (k : ℕ) → Suits (section_of k) (kind_of k).role
suits =
    by_rows (λ k x. Suits x.section x.role)
    (tt and refl and refl and refl and refl and refl and tt and tt and tt and tt and tt and tt and tt and refl and tt
    and tt and tt and tt and refl and tt and tt and refl and tt and (λ i. tt))

-- a primitive is a method
pub primitive-section : (k : ℕ) → primitive_kind k ≡ true → section_of k ≡ methods
primitive-section k e = go (eqb k 8) refl e
  where
    go : (b : Bool) → eqb k 8 ≡ b → (b || eqb k 15) ≡ true → section_of k ≡ methods
    go true is h = ap section_of (eqb-true k 8 is)
    go false is h = ap section_of (eqb-true k 15 h)

-- .. and a kind of another section neither a primitive's nor that of a method with body
neither-method : (m n k : ℕ) → section_of m ≡ methods → section_of n ≡ methods → (section_of k ≡ methods → ⊥) → (eqb k m || eqb k n) ≡ false
neither-method m n k is_m is-n ne = simp (ne_eqb k m (λ (e : k ≡ m). ne (ap section_of e ∙ is_m)), ne_eqb k n (λ (e : k ≡ n). ne (ap section_of e ∙ is-n)))

pub not-primitive : (k : ℕ) → (section_of k ≡ methods → ⊥) → primitive_kind k ≡ false
not-primitive k = neither-method 8 15 k refl refl

pub not_body : (k : ℕ) → (section_of k ≡ methods → ⊥) → body_kind k ≡ false
not_body k = neither-method 9 16 k refl refl

-- Fields --------------------------------------------------------------------------------------------------------------

-- the records of conditions and of certificates name nothing
pub names-nothing : (events : ℕ) (counted : ℕ → ℕ) (k : ℕ) → (2 ≤ section_of k → section_of k ≤ 4 → ⊥) → (vs : List ℕ) → all_exist events counted (kind_of k).fields vs ≡ true
names-nothing events counted =
    by_rows (λ k x. (2 ≤ x.section → x.section ≤ 4 → ⊥) → (vs : List ℕ) → all_exist events counted x.fields vs ≡ true)
    (none and (λ h. a_leaf) and none and none and none and none and none
    and (λ h. named (h (lit≤ tt) (lit≤ tt))) and (λ h. named (h (lit≤ tt) (lit≤ tt))) and (λ h. named (h (lit≤ tt) (lit≤ tt)))
    and (λ h. named (h (lit≤ tt) (lit≤ tt))) and (λ h. named (h (lit≤ tt) (lit≤ tt))) and (λ h. named (h (lit≤ tt) (lit≤ tt)))
    and (λ h. pair-fields) and none
    and (λ h. named (h (lit≤ tt) (lit≤ tt))) and (λ h. named (h (lit≤ tt) (lit≤ tt))) and (λ h. named (h (lit≤ tt) (lit≤ tt))) and none
    and (λ h. named (h (lit≤ tt) (lit≤ tt))) and (λ h. named (h (lit≤ tt) (lit≤ tt)))
    and (λ h. a-long-leaf) and (λ h. named (h (lit≤ tt) (lit≤ tt))) and (λ i. none))
  where
    none : {A : Type 0} → A → (vs : List ℕ) → true ≡ true
    none h vs = refl

    named : {A : Type 0} → ⊥ → A
    named h = absurd h

    a_leaf : (vs : List ℕ) → all_exist events counted (a-set ∷ []) vs ≡ true
    a_leaf [] = refl
    a_leaf (v ∷ vs) = refl

    a-long-leaf : (vs : List ℕ) → all_exist events counted (a-long-set ∷ []) vs ≡ true
    a-long-leaf [] = refl
    a-long-leaf (v ∷ vs) = refl

    pair-fields : (vs : List ℕ) → all_exist events counted (a-place ∷ a-set ∷ []) vs ≡ true
    pair-fields [] = refl
    pair-fields (v ∷ vs) = a_leaf vs
