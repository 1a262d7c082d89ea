-- A cursor goes through the rules of a sheet: from a claim to the next of the same subject, from a subject to the next, to the end.
use mathlib.Core.Path.{◌≡◌, refl, sym, ap, ◌∙◌, subst}
use mathlib.Core.List.{List, [], ◌∷◌, ◌++◌}
use Prim.Native.Nat.{ℕ, zero, suc, ◌+◌, ◌≤◌, ◌<◌}
use native.Mathlib.Numerals.{add-one}
use native.Mathlib.Omega.{arith}
use lib.ListN.{length, drop, drop_of_length-le}
use Rattle.std.specs.Prelude.{Option, Some, None}
use Rattle.sheet.specs.Sheet.{Sheet}
use Rattle.runs.specs.Rules.{Rule}
use Rattle.claims.specs.declared.Claim.{Claim}
use Rattle.index.specs.declared.Counts.{Counts}
use Rattle.rules.specs.declared.cursor.Cursor.{Cursor}
use Rattle.rules.specs.declared.subjects.Subject.{Subject}
use Rattle.claims.specs.Claims.{Says, Asks, NthIs, Kth, rule, none_left}
use Rattle.rules.specs.Subjects.{ListedIs}
use Rattle.rules.specs.Order.{groups, most_rules, together, SheetIn}
use Rattle.rules.specs.Cursor.{LeftAt, GoesOn}
use Rattle.rules.proofs.Groups.{nth-exists, groups-many, group-few, next-together}

abbrev pub cursor_at : ℕ → Option Subject → ℕ → Cursor
cursor_at number subject k = record { number = number; subject = subject; k = k }

-- What is asked ---------------------------------------------------------------------------------------------------------

pub record Claimed (s : List ℕ) (xs : List Rule) (k : ℕ) (claim : Claim) : Type 0 where
  pub rule_k : Rule
  pub says : Says s claim rule_k
  pub is : NthIs xs k rule_k
  pub inside : k < length xs

nth_inside : {A : Type 0} (xs : List A) (k : ℕ) {x : A} {ys : List A} → drop k xs ≡ x ∷ ys → k < length xs
nth_inside [] zero e = let z : ◌≡◌ {A = ℕ} 0 1 = cc in absurd (omega arith)
nth_inside [] (suc k) e = let z : ◌≡◌ {A = ℕ} 0 1 = cc in absurd (omega arith)
nth_inside (y ∷ xs) zero e = omega arith
nth_inside (y ∷ xs) (suc k) e = omega (arith, nth_inside xs k e)

module _ {s : List ℕ} {xs : List Rule} {k : ℕ} {a : Option Claim} where
  pub claimed : {claim : Claim} → Kth s xs k a → a ≡ Some claim → Claimed s xs k claim
  claimed (rule x asks is) e = record { rule_k = x; says = subst (λ (a : Option Claim). Asks s a x) e asks; is = is; inside = nth_inside xs k is }
  claimed (none_left f is) e = let z : ◌≡◌ {A = ℕ} 0 1 = cc in absurd (omega arith)

  pub all-claimed : Kth s xs k a → a ≡ None → drop k xs ≡ []
  all-claimed (rule x asks is) e = absurd (subst (λ (a : Option Claim). Asks s a x) e asks)
  all-claimed (none_left f is) e = is

-- Where the cursor is ---------------------------------------------------------------------------------------------------

module _ {S : Sheet} {s conditions points methods steps : List ℕ} {n : Counts} (x : SheetIn S s conditions points methods steps n) where
  pub few-subjects : n.methods + n.steps ≤ 576
  few-subjects = omega (arith, x.methods_are, x.steps_are, x.indexes.methods_tabled.few, x.indexes.steps_tabled.few)

  pub subjects-many : length (groups S) ≡ suc (n.methods + n.steps)
  subjects-many = groups-many S ∙ omega (arith, x.methods_are, x.steps_are)

  pub a-subject : (k : ℕ) → k ≤ n.methods + n.steps → (xs : List Rule) × NthIs (groups S) k xs
  a-subject k l = nth-exists (groups S) k (omega (arith, subjects-many))

module _ {S : Sheet} {s : List ℕ} where
  -- before the first claim of a subject
  pub before-subject : {number : ℕ} {subject : Option Subject} (own : List Rule) → ListedIs s S subject own → NthIs (groups S) number own
      → (xs : List Rule) → xs ≡ together (drop number (groups S)) → LeftAt s S (cursor_at number subject 0) xs
  before-subject {number} own is nth xs e =
      record { own = own; subject_is = is; own_is = nth; within = omega arith; left_are = e ∙ next-together (groups S) number own nth }

  module _ {cursor : Cursor} {xs : List Rule} (h : LeftAt s S cursor xs) where
    abbrev behind : List Rule
    behind = together (drop (suc cursor.number) (groups S))

    few-own : length h.own ≤ most_rules
    few-own = group-few S cursor.number h.own_is

    pub few-asked : cursor.k ≤ most_rules
    few-asked = omega (arith, h.within, few-own)

    module _ {claim : Claim} (a : Claimed s h.own cursor.k claim) where
      pub one_more : cursor.k < most_rules
      one_more = omega (arith, a.inside, few-own)

      pub goes_on : GoesOn s S xs claim (cursor_at cursor.number cursor.subject (cursor.k + 1))
      goes_on =
          record {
            first = a.rule_k;
            others = drop (cursor.k + 1) h.own ++ behind;
            says = a.says;
            rules_are = h.left_are ∙ ap (λ (ys : List Rule). ys ++ behind) a.is ∙ ap (λ (j : ℕ). a.rule_k ∷ (drop j h.own ++ behind)) (sym (add-one cursor.k));
            others_left =
                record { own = h.own; subject_is = h.subject_is; own_is = h.own_is; within = omega (arith, a.inside); left_are = refl };
          }

    module _ (none : drop cursor.k h.own ≡ []) where
      left_behind : xs ≡ behind
      left_behind = h.left_are ∙ ap (λ (ys : List Rule). ys ++ behind) none

      pub goes_to : {subject' : Option Subject} (own : List Rule) → ListedIs s S subject' own → NthIs (groups S) (cursor.number + 1) own
          → LeftAt s S (cursor_at (cursor.number + 1) subject' 0) xs
      goes_to own is nth =
          before-subject own is nth xs (left_behind ∙ ap (λ (j : ℕ). together (drop j (groups S))) (sym (add-one cursor.number)))

      pub ends : length (groups S) ≤ suc cursor.number → xs ≡ []
      unfolding together
      ends l = left_behind ∙ ap together (drop_of_length-le (groups S) l)
