-- The rules of a sheet, one subject at a time: each subject by its number, how many rules it has at most, and all of them one after the other.
use mathlib.Core.Path.{◌≡◌, refl, sym, ap, ap₂, ◌∙◌, subst}
use mathlib.Core.Bool.{Bool, true, false, ◌||◌}
use mathlib.Core.Option.{Option, none, some}
use mathlib.Core.List.{List, [], ◌∷◌, ◌++◌, append_assoc}
use Prim.Native.Nat.{ℕ, zero, suc, ◌+◌, ◌*◌, ◌≤◌, ◌<◌}
use native.Mathlib.Nat.{not-suc-le-zero, le_of_suc-le-suc}
use native.Mathlib.Omega.{arith}
use lib.Dec.{eqb}
use lib.ListN.{length, length-append, drop, get_elem?}
use lib.Seq.{drop-append_seam}
use Rattle.sheet.specs.Each.{Each, nil, cons}
use Rattle.sheet.specs.Sheet.{failed, Body, Method, Step, event_step, call_step, pass_step, stop_step, Sheet, body_in, body}
use Rattle.sheet.proofs.Each.{each_append}
use Rattle.runs.specs.Rules.{Rule, if_any, is_among, first_rules, failed_exit_rules, method_rules, return_rules, entry_asked, entry_rules, step_rules, firsts_rules, methods_rules, steps_rules, rules_from, rules}
use Rattle.claims.specs.Claims.{NthIs}
use Rattle.claims.proofs.Kth.{nth-first, nth-from}
use Rattle.method_claims.proofs.FailedExit.{failed_rules}
use Rattle.rules.specs.Order.{method_groups, step_groups, groups_from, groups, most_rules, together}

module _ {A : Type 0} where
  pub together-append : (xss yss : List (List A)) → together (xss ++ yss) ≡ together xss ++ together yss
  unfolding together
  together-append [] yss = refl
  together-append (xs ∷ xss) yss = ap (λ (zs : List A). xs ++ zs) (together-append xss yss) ∙ sym (append_assoc xs (together xss) (together yss))

  pub next-together : (xss : List (List A)) (n : ℕ) (xs : List A) → NthIs xss n xs → together (drop n xss) ≡ xs ++ together (drop (suc n) xss)
  unfolding together
  next-together xss n xs is = ap together is

  -- element n is there, and it is the only one
  pub nth-exists : (xs : List A) (n : ℕ) → n < length xs → (x : A) × NthIs xs n x
  nth-exists [] n l = absurd (not-suc-le-zero l)
  nth-exists (x ∷ xs) zero l = (x, refl)
  nth-exists (x ∷ xs) (suc n) l = nth-exists xs n (le_of_suc-le-suc l)

  pub nth-same : (xs : List A) (n : ℕ) {x y : A} → NthIs xs n x → NthIs xs n y → x ≡ y
  nth-same xs n e f = cc

  -- of elements that have a property each
  nth-each : (P : A → Type 0) {xs : List A} → Each P xs → (n : ℕ) {x : A} → NthIs xs n x → P x
  nth-each P nil zero is = let z : ◌≡◌ {A = ℕ} 0 1 = cc in absurd (omega arith)
  nth-each P nil (suc n) is = let z : ◌≡◌ {A = ℕ} 0 1 = cc in absurd (omega arith)
  nth-each P (cons {x = y} h t) zero {x} is = let same : y ≡ x = cc in subst P same h
  nth-each P (cons h t) (suc n) is = nth-each P t n is

or_nothing : (b : Bool) → b ≡ (b || false)
or_nothing true = refl
or_nothing false = refl

-- where runs start at method 0, method k is a start exactly if k is 0
pub starts_first : (k : ℕ) → eqb k 0 ≡ is_among (0 ∷ []) k
starts_first k = or_nothing (eqb k 0)

-- The methods, where runs start at those of a list
module _ (S : Sheet) (starts : List ℕ) where
  -- the numbers go from k on, and j is that of element i
  method-nth : (ms : List Method) (k i j : ℕ) → j ≡ k + i → (m : Method) → get_elem? ms i ≡ some m
      → NthIs (method_groups S starts k ms) i (method_rules S starts j m.body)
  unfolding method_groups
  method-nth [] k i j n m e = let z : ◌≡◌ {A = ℕ} 0 1 = cc in absurd (omega arith)
  method-nth (x ∷ ms) k zero j n m e =
      let same : x ≡ m = cc in
      let here : k ≡ j = omega arith in
      ap₂ (λ (j : ℕ) (y : Method). method_rules S starts j y.body ∷ method_groups S starts (suc k) ms) here same
  method-nth (x ∷ ms) k (suc i) j n m e = method-nth ms (suc k) i j (omega arith) m e

  methods-many : (k : ℕ) (ms : List Method) → length (method_groups S starts k ms) ≡ length ms
  unfolding method_groups
  methods-many k [] = refl
  methods-many k (m ∷ ms) = ap suc (methods-many (suc k) ms)

  methods-together : (k : ℕ) (ms : List Method) → together (method_groups S starts k ms) ≡ methods_rules S starts k ms
  unfolding together method_groups methods_rules
  methods-together k [] = refl
  methods-together k (m ∷ ms) = ap (λ (xs : List Rule). method_rules S starts k m.body ++ xs) (methods-together (suc k) ms)

module _ (S : Sheet) where
  -- The subject of a number ---------------------------------------------------------------------------------------------

  step-nth : (ts : List Step) (k i j : ℕ) → j ≡ k + i → (t : Step) → get_elem? ts i ≡ some t → NthIs (step_groups S k ts) i (step_rules S j t)
  unfolding step_groups
  step-nth [] k i j n t e = let z : ◌≡◌ {A = ℕ} 0 1 = cc in absurd (omega arith)
  step-nth (x ∷ ts) k zero j n t e =
      let same : x ≡ t = cc in
      let here : k ≡ j = omega arith in
      ap₂ (λ (j : ℕ) (y : Step). step_rules S j y ∷ step_groups S (suc k) ts) here same
  step-nth (x ∷ ts) k (suc i) j n t e = step-nth ts (suc k) i j (omega arith) t e

  steps-many : (k : ℕ) (ts : List Step) → length (step_groups S k ts) ≡ length ts
  unfolding step_groups
  steps-many k [] = refl
  steps-many k (t ∷ ts) = ap suc (steps-many (suc k) ts)

  -- runs start at method 0
  abbrev of_methods : List (List Rule)
  of_methods = method_groups S (0 ∷ []) 0 S.methods

  abbrev behind_first : List (List Rule)
  behind_first = of_methods ++ step_groups S 0 S.steps

  groups-are : groups S ≡ first_rules S 0 ∷ behind_first
  unfolding groups groups_from
  groups-are = refl

  -- the subject behind the first with the number k is the one with the number k + 1
  next-nth : (k : ℕ) (xs : List Rule) → NthIs behind_first k xs → NthIs (groups S) (suc k) xs
  next-nth k xs is = subst (λ (gs : List (List Rule)). NthIs gs (suc k) xs) (sym groups-are) is

  pub groups-many : length (groups S) ≡ suc (length S.methods + length S.steps)
  groups-many =
      ap (λ (gs : List (List Rule)). length gs) groups-are
      ∙ ap suc (length-append of_methods (step_groups S 0 S.steps) ∙ ap₂ ◌+◌ (methods-many S (0 ∷ []) 0 S.methods) (steps-many 0 S.steps))

  module _ {xs : List Rule} (n : ℕ) (is : NthIs (groups S) n xs) where
    same : (j : ℕ) (ys : List Rule) → NthIs (groups S) j ys → n ≡ j → xs ≡ ys
    same j ys here e = nth-same (groups S) j (subst (λ (n : ℕ). NthIs (groups S) n xs) e is) here

    pub first_group : n ≡ 0 → xs ≡ first_rules S 0
    first_group = same 0 (first_rules S 0) (subst (λ (gs : List (List Rule)). NthIs gs 0 (first_rules S 0)) (sym groups-are) refl)

    pub method-group : (k : ℕ) → n ≡ suc k → (m : Method) → get_elem? S.methods k ≡ some m → k < length S.methods
        → xs ≡ method_rules S (0 ∷ []) k (body S k)
    method-group k e m there l =
        let nth = method-nth S (0 ∷ []) S.methods 0 k k (omega arith) m there in
        same (suc k) (method_rules S (0 ∷ []) k m.body)
        (next-nth k _ (nth-first of_methods (step_groups S 0 S.steps) k _ (omega (arith, methods-many S (0 ∷ []) 0 S.methods)) nth))
        e
        ∙ ap (λ (y : Option Method). method_rules S (0 ∷ []) k (body_in y)) (sym there)

    pub step-group : (k : ℕ) → n ≡ suc (length S.methods + k) → (t : Step) → get_elem? S.steps k ≡ some t → xs ≡ step_rules S k t
    step-group k e t there =
        let before : ℕ = length of_methods in
        let nth = step-nth S.steps 0 k k (omega arith) t there in
        same (suc (before + k)) (step_rules S k t)
        (next-nth (before + k) _ (nth-from behind_first (step_groups S 0 S.steps) before (drop-append_seam of_methods (step_groups S 0 S.steps)) k _ nth))
        (omega (arith, methods-many S (0 ∷ []) 0 S.methods))

  -- No subject has more than most_rules -------------------------------------------------------------------------------

  abbrev Few : List Rule → Type 0
  Few xs = length xs ≤ most_rules

  -- of rules about what need not be there
  few-if-any : (most : ℕ) (f : ℕ → List Rule) → ((p : ℕ) → length (f p) ≤ most) → (e : Option ℕ) → length (if_any e f) ≤ most
  few-if-any most f h none = omega arith
  few-if-any most f h (some p) = h p

  failed-few : (m : ℕ) (first : Bool) (p : ℕ) → length (failed_rules S first m p) ≤ 3
  failed-few m true p = omega arith
  failed-few m false p = omega arith

  method-few : (starts : List ℕ) (m : ℕ) (b : Option Body) → Few (method_rules S starts m b)
  method-few starts m none = omega arith
  method-few starts m (some b) = omega (arith, few-if-any 3 (failed_exit_rules S starts m) (failed-few m (is_among starts m)) b.failed_exit)

  step-few : (i : ℕ) (t : Step) → Few (step_rules S i t)
  step-few i (event_step p q a) = omega arith
  step-few i (call_step t) =
      omega (
        arith,
        few-if-any 4 (return_rules S 18 i t failed) (λ p. omega arith) t.failed_to,
        few-if-any 1 (entry_rules S i t) (λ e. omega arith) (entry_asked S t.method),
        length-append (if_any t.failed_to (return_rules S 18 i t failed)) (if_any (entry_asked S t.method) (entry_rules S i t)),
      )
  step-few i (pass_step p q) = omega arith
  step-few i (stop_step p) = omega arith

  methods-few : (starts : List ℕ) (k : ℕ) (ms : List Method) → Each Few (method_groups S starts k ms)
  unfolding method_groups
  methods-few starts k [] = nil
  methods-few starts k (m ∷ ms) = cons (method-few starts k m.body) (methods-few starts (suc k) ms)

  steps-few : (k : ℕ) (ts : List Step) → Each Few (step_groups S k ts)
  unfolding step_groups
  steps-few k [] = nil
  steps-few k (t ∷ ts) = cons (step-few k t) (steps-few (suc k) ts)

  groups-few : Each Few (groups S)
  groups-few = subst (Each Few) (sym groups-are) (cons (omega arith) (each_append (methods-few (0 ∷ []) 0 S.methods) (steps-few 0 S.steps)))

  pub group-few : (n : ℕ) {xs : List Rule} → NthIs (groups S) n xs → length xs ≤ most_rules
  group-few = nth-each Few groups-few

  together-few : {xss : List (List Rule)} → Each Few xss → length (together xss) ≤ most_rules * length xss
  unfolding together
  together-few nil = omega arith
  together-few (cons {x = xs} {xs = xss} h t) = omega (arith, h, length-append xs (together xss), together-few t)

  pub rules-few : length (together (groups S)) ≤ most_rules * length (groups S)
  rules-few = together-few groups-few

  -- All rules -----------------------------------------------------------------------------------------------------------

  steps-together : (k : ℕ) (ts : List Step) → together (step_groups S k ts) ≡ steps_rules S k ts
  unfolding together step_groups steps_rules
  steps-together k [] = refl
  steps-together k (t ∷ ts) = ap (λ (xs : List Rule). step_rules S k t ++ xs) (steps-together (suc k) ts)

  pub rules-together : together (groups S) ≡ rules S
  unfolding together groups groups_from rules rules_from firsts_rules
  rules-together =
      ap (λ (xs : List Rule). first_rules S 0 ++ xs)
      (together-append of_methods (step_groups S 0 S.steps)
      ∙ ap₂ (λ (xs ys : List Rule). xs ++ ys) (methods-together S (0 ∷ []) 0 S.methods) (steps-together 0 S.steps))
