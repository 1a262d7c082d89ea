-- The needs of the rules of all subjects, one subject after the other.
use mathlib.Core.Path.{◌≡◌, refl, sym, ap, ◌∙◌, subst}
use mathlib.Core.Bool.{Bool, true, false, cond}
use mathlib.Core.Option.{none, some}
use mathlib.Core.List.{List, [], ◌∷◌, ◌++◌}
use Prim.Native.Nat.{ℕ, suc, ◌+◌, ◌*◌, ◌≤◌}
use native.Mathlib.Numerals.{add-one}
use native.Mathlib.Omega.{arith}
use lib.ListN.{length, length-append, drop, drop_of_length-le}
use Rattle.sheet.specs.Sheet.{Sheet}
use Rattle.runs.specs.Rules.{Claim, ◌is_in◌, holds_empty, Rule, is_among, method_rules, total}
use Rattle.verdict.specs.Verdict.{needed, certificates_needed}
use Rattle.claims.specs.Claims.{NthIs}
use Rattle.values.specs.declared.Body.{Body}
use Rattle.values.specs.declared.Method.{Method}
use Rattle.values.specs.Values.{body_value, method_value}
use Rattle.method_claims.proofs.FailedExit.{failed_rules}
use Rattle.index.specs.declared.Counts.{Counts}
use Rattle.rules.specs.Order.{groups, most_rules, together, SheetIn}
use Rattle.rules.proofs.Groups.{next-together, rules-few}
use Rattle.rules.proofs.Walking.{few-subjects, subjects-many, a-subject}
use Rattle.needs.specs.declared.Needs.{Needs}
use Rattle.needs.specs.Needs.{Needed}

pub append-needed : (xs ys : List Rule) → certificates_needed (xs ++ ys) ≡ certificates_needed xs + certificates_needed ys
unfolding certificates_needed total
append-needed [] ys = omega arith
append-needed (x ∷ xs) ys = omega (arith, append-needed xs ys)

-- a rule needs at most one
one-needed : (x : Claim) → needed x ≤ 1
one-needed (a is_in b) = omega arith
one-needed (holds_empty a) = omega arith

few-needed : (xs : List Rule) → certificates_needed xs ≤ length xs
unfolding certificates_needed total
few-needed [] = omega arith
few-needed (x ∷ xs) = omega (arith, one-needed x.claim, few-needed xs)

pub needed-as : {xs ys : List Rule} {n : Needs} → xs ≡ ys → Needed ys n → Needed xs n
needed-as {n = n} e h = subst (λ (xs : List Rule). Needed xs n) (sym e) h

-- a method without body has no rules
pub no-body : (S : Sheet) (starts : List ℕ) (m : ℕ) {v w : Method} → v ≡ w → (method_value w).body ≡ none
    → Needed (method_rules S starts m (method_value v).body) (record { rules = 0; certificates = 0 })
unfolding certificates_needed total
no-body S starts m is bare =
    needed-as (ap (λ (v : Method). method_rules S starts m (method_value v).body) is ∙ ap (method_rules S starts m) bare)
    (record { rules_are = refl; certificates_are = refl })

-- the needs of a method with body that has two outcomes: one rule more if runs start at it
module _ (S : Sheet) (starts : List ℕ) (m : ℕ) (b : Body) (p : ℕ) where
  -- 3 to 6, then those of its failed exit
  abbrev with_failed : Bool → List Rule
  with_failed first = method_rules S starts m (some (body_value b none)) ++ failed_rules S first m p

  with-failed : (first : Bool) → Needed (with_failed first) (record { rules = cond first 7 6; certificates = 5 })
  unfolding certificates_needed total
  with-failed true = record { rules_are = refl; certificates_are = refl }
  with-failed false = record { rules_are = refl; certificates_are = refl }

  pub two-outcomes : (first : Bool) → is_among starts m ≡ first
      → Needed (method_rules S starts m (some (body_value b (some p)))) (record { rules = cond first 7 6; certificates = 5 })
  two-outcomes first is = needed-as (ap with_failed is) (with-failed first)

-- the needs of the first n of the lists xss
pub record Summed (xss : List (List Rule)) (n rules certificates : ℕ) : Type 0 where
  pub rules_left : rules + length (together (drop n xss)) ≡ length (together xss)
  pub certificates_left : certificates + certificates_needed (together (drop n xss)) ≡ certificates_needed (together xss)

module _ {xss : List (List Rule)} {n rules certificates : ℕ} (h : Summed xss n rules certificates) where
  pub one-summed : (xs : List Rule) → NthIs xss n xs → {needs : Needs} → Needed xs needs
      → Summed xss (n + 1) (rules + needs.rules) (certificates + needs.certificates)
  one-summed xs is {needs} all =
      let next = next-together xss n xs is in
      let rest : List Rule = together (drop (suc n) xss) in
      subst (λ (n : ℕ). Summed xss n (rules + needs.rules) (certificates + needs.certificates)) (sym (add-one n))
      (record {
        rules_left = omega (arith, h.rules_left, ap (λ (ys : List Rule). length ys) next, length-append xs rest, all.rules_are);
        certificates_left = omega (arith, h.certificates_left, ap certificates_needed next, append-needed xs rest, all.certificates_are);
      })

  -- no more than all lists have rules
  pub few-rules : rules ≤ length (together xss)
  few-rules = omega (arith, h.rules_left)

  pub few-certificates : certificates ≤ length (together xss)
  few-certificates = omega (arith, h.certificates_left, few-needed (together xss))

  pub all-summed : length xss ≤ n → Needed (together xss) (record { rules = rules; certificates = certificates })
  unfolding together certificates_needed total
  all-summed done =
      let none = ap together (drop_of_length-le xss done) in
      record {
        rules_are = omega (arith, h.rules_left, ap (λ (ys : List Rule). length ys) none);
        certificates_are = omega (arith, h.certificates_left, ap certificates_needed none);
      }

module _ {S : Sheet} {s conditions points methods steps : List ℕ} {n : Counts} (x : SheetIn S s conditions points methods steps n) where
  pub few-together : length (together (groups S)) ≤ most_rules * 577
  few-together = omega (arith, rules-few S, subjects-many x, few-subjects x)

  -- the needs of one more subject
  pub next-summed : {k rules certificates : ℕ} → Summed (groups S) k rules certificates → k ≤ n.methods + n.steps
      → {needs : Needs} → ((xs : List Rule) → NthIs (groups S) k xs → Needed xs needs)
      → Summed (groups S) (k + 1) (rules + needs.rules) (certificates + needs.certificates)
  next-summed {k} h l all = let (own, nth) = a-subject x k l in one-summed h own nth (all own nth)
