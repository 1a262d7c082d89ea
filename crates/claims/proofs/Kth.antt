-- Claim number k of a list of rules: where k is known, of a part of the list, by a name of its rule.
use Prim.Native.Nat.{ℕ, suc, ◌+◌, ◌<◌}
use mathlib.Core.Path.{◌≡◌, refl, sym, ap, ap₂, ◌∙◌, subst}
use mathlib.Core.List.{List, ◌∷◌, ◌++◌}
use native.Mathlib.Omega.{arith}
use lib.ListN.{length, take, drop, length-drop, take-append-drop}
use lib.Seq.{drop-append-le, drop-drop}
use Rattle.std.specs.Prelude.{Option}
use Rattle.runs.specs.Rules.{Claim, Rule, ◌of◌says◌}
use Rattle.answers.specs.declared.Rule as answers
use Rattle.answers.specs.Answers.{rule_number, rule_subject}
use Rattle.claims.specs.declared.Claim as claims
use Rattle.claims.specs.Claims.{RuleIs, ◌says◌, Asks, Kth, rule, none_left, NthIs}

module _ {A : Type 0} where
  -- an element of a list that goes on
  pub nth-first : (xs ys : List A) (n : ℕ) (x : A) → n < length xs → NthIs xs n x → NthIs (xs ++ ys) n x
  nth-first xs ys n x l is =
      drop-append-le n xs ys (omega arith) ∙ ap (λ (zs : List A). zs ++ ys) is ∙ ap (λ (zs : List A). x ∷ zs) (sym (drop-append-le (suc n) xs ys (omega arith)))

  -- ys is the list xs from n on
  module _ (xs ys : List A) (n : ℕ) (e : drop n xs ≡ ys) where
    drop-from : (i : ℕ) → drop (n + i) xs ≡ drop i ys
    drop-from i = sym (drop-drop i n xs) ∙ ap (λ (zs : List A). drop i zs) e

    pub nth-from : (i : ℕ) (x : A) → NthIs ys i x → NthIs xs (n + i) x
    nth-from i x is =
        let next : suc (n + i) ≡ n + suc i = omega arith in
        drop-from i ∙ is ∙ ap (λ (zs : List A). x ∷ zs) (sym (ap (λ (k : ℕ). drop k xs) next ∙ drop-from (suc i)))

-- a name by its own number and subject
pub named : {x : answers.Rule} → RuleIs x (rule_number x) (rule_subject x)
named = record { number_is = refl; subject_is = refl }

-- rule n is x, and k is n
pub kth-says : {s : List ℕ} {xs : List Rule} {k n : ℕ} {a : Option claims.Claim} {x : Rule} → k ≡ n → NthIs xs n x → Asks s a x → Kth s xs k a
kth-says {s} {xs} {a = a} known is h = subst (λ (k : ℕ). Kth s xs k a) (sym known) (rule _ h is)

-- .. by the name r, which is that of rule number n about i
pub kth-named : {s : List ℕ} {xs : List Rule} {k j : ℕ} {a : Option claims.Claim} {r : answers.Rule} {n i : ℕ} {c : Claim} → k ≡ j
    → NthIs xs j (n of i says c) → RuleIs r n i → Asks s a (r says c) → Kth s xs k a
kth-named {s} {a = a} {c = c} known is name h =
    kth-says known is (subst (Asks s a) (ap₂ (λ (n i : ℕ). n of i says c) name.number_is name.subject_is) h)

-- claims by what the rules are
pub kth-as : {s : List ℕ} {xs ys : List Rule} {k : ℕ} {a : Option claims.Claim} → xs ≡ ys → Kth s ys k a → Kth s xs k a
kth-as {s} {k = k} {a = a} e h = subst (λ (xs : List Rule). Kth s xs k a) (sym e) h

-- of the first of two lists
kth-first : {s : List ℕ} (xs ys : List Rule) {k : ℕ} {a : Option claims.Claim} → k < length xs → Kth s xs k a → Kth s (xs ++ ys) k a
kth-first xs ys l (rule x h is) = rule x h (nth-first xs ys _ x l is)
kth-first xs ys {k} l (none_left e z) = absurd (omega (arith, length-drop k xs, ap (λ (zs : List Rule). length zs) z))

-- the list xs begins with ys
pub kth-upto : {s : List ℕ} {xs ys : List Rule} {k : ℕ} {a : Option claims.Claim} → take (length ys) xs ≡ ys → k < length ys → Kth s ys k a → Kth s xs k a
kth-upto {xs = xs} {ys} e l h =
    let whole = sym (take-append-drop (length ys) xs) ∙ ap (λ (zs : List Rule). zs ++ drop (length ys) xs) e in
    kth-as whole (kth-first ys (drop (length ys) xs) l h)

-- ys is the list xs from n on
pub kth-from : {s : List ℕ} {xs ys : List Rule} {k j : ℕ} {a : Option claims.Claim} (n : ℕ) → drop n xs ≡ ys → k ≡ n + j → Kth s ys j a → Kth s xs k a
kth-from {xs = xs} {ys} {j = j} n e at (rule x h is) = kth-says at (nth-from xs ys n e j x is) h
kth-from {xs = xs} {ys} {j = j} n e at (none_left f z) = none_left f (ap (λ (k : ℕ). drop k xs) at ∙ drop-from xs ys n e j ∙ z)
