-- Refusal 24 by the tests of the code: what is joined by each kind, and which of the owners are compared.
use mathlib.Core.Path.{◌≡◌, refl, sym, ap, ap₂, subst, ◌∙◌}
use mathlib.Core.Bool.{Bool, true, false, not, ◌&&◌, ◌||◌}
use mathlib.Core.Option.{Option, none, some}
use mathlib.Core.List.{List, [], ◌∷◌}
use Prim.Native.Nat.{ℕ, ◌+◌, ◌≤◌}
use native.Mathlib.Omega.{arith}
use lib.ListN.{length}
use lib.Dec.{T, eqb}
use borrow.Author.Tests.{eqb-true, eqb-false, eq-eqb}
use Rattle.sheet.specs.Kind.{steps, an-event, a-channel, Kind, kind_of, section_of}
use Rattle.sheet.specs.Record.{values_at, record_at}
use Rattle.sheet.specs.Reading.{agree, agrees_with, all_agree, owners_joined}
use Rattle.sheet.proofs.Kind.{◌and◌}
use Rattle.sheet_laws.specs.AtOffset.{short_at}
use Rattle.sheet_laws.proofs.Fields.{event-value, channel-value, names-then, names-alone}
use Rattle.kinds.specs.Kinds.{body_kind}
use Rattle.kinds.proofs.Table.{by_rows}
use Rattle.format.specs.Named.{Named}
use Rattle.format.proofs.Named.{kind-inside, two-inside}
use Rattle.owners.specs.Owners.{owner_listed, owners_fit}

no : {A : Type 0} → true ≡ false → A
no e = absurd (subst T e tt)

and_last : (a b : Bool) → (a && (b && true)) ≡ (a && b)
and_last true true = refl
and_last true false = refl
and_last false b = refl

ands : (a b c : Bool) → (a && (b && (c && true))) ≡ ((a && b) && c)
ands true b c = and_last b c
ands false b c = refl

-- Lists of owners -----------------------------------------------------------------------------------------------------

-- each two of two, and of three
two-agree : (a b : Option ℕ) → all_agree (a ∷ b ∷ []) ≡ agree a b
two-agree a b = go (agree a b)
  where
    go : (x : Bool) → ((x && true) && true) ≡ x
    go true = refl
    go false = refl

three-agree : (a b c : Option ℕ) → all_agree (a ∷ b ∷ c ∷ []) ≡ ((agree a b && agree a c) && agree b c)
three-agree a b c = go (agree a b) (agree a c) (agree b c)
  where
    go : (x y z : Bool) → ((x && (y && true)) && ((z && true) && true)) ≡ ((x && y) && z)
    go false y z = refl
    go true false z = refl
    go true true false = refl
    go true true true = refl

-- those that agree with a number agree with each other
with-nobody : (os : List (Option ℕ)) → agrees_with none os ≡ true
with-nobody [] = refl
with-nobody (o ∷ os) = with-nobody os

like-the-number : (m : ℕ) (o : Option ℕ) → agree (some m) o ≡ true → (os : List (Option ℕ)) → agrees_with (some m) os ≡ true → agrees_with o os ≡ true
like-the-number m none e os h = with-nobody os
like-the-number m (some n) e os h = subst (λ (n : ℕ). agrees_with (some n) os ≡ true) (eqb-true m n e) h

all-like-the-number : (m : ℕ) (os : List (Option ℕ)) → agrees_with (some m) os ≡ true → all_agree os ≡ true
all-like-the-number m [] h = refl
all-like-the-number m (o ∷ os) h = go (agree (some m) o) refl h (all-like-the-number m os)
  where
    go : (b : Bool) → agree (some m) o ≡ b → (b && agrees_with (some m) os) ≡ true → (agrees_with (some m) os ≡ true → all_agree os ≡ true)
        → (agrees_with o os && all_agree os) ≡ true
    go true e h rest = simp (like-the-number m o e os h, rest h)
    go false e h rest = no (sym h)

-- so a number in front is compared with each of the others, and these need not be with one another
number-agrees : (m : ℕ) (os : List (Option ℕ)) → all_agree (some m ∷ os) ≡ agrees_with (some m) os
number-agrees m os = go (agrees_with (some m) os) refl
  where
    go : (b : Bool) → agrees_with (some m) os ≡ b → (b && all_agree os) ≡ b
    go true e = all-like-the-number m os e
    go false e = refl

-- Methods with body and steps -----------------------------------------------------------------------------------------

body-9 : (kind : ℕ) → body_kind kind ≡ true → (kind ≡ 16 → ⊥) → kind ≡ 9
body-9 kind has_body one = go (eqb kind 9) refl has_body
  where
    go : (b : Bool) → eqb kind 9 ≡ b → (b || eqb kind 16) ≡ true → kind ≡ 9
    go true is h = eqb-true kind 9 is
    go false is h = absurd (one (eqb-true kind 16 h))

-- the entry and the exit of a method stand inside the sheet
pub body_inside : {s : List ℕ} {at kind : ℕ} → Named s at kind → body_kind kind ≡ true → at + 11 ≤ length s
body_inside {s} {at} {kind} w has_body = go (eqb kind 16) refl
  where
    go : (b : Bool) → eqb kind 16 ≡ b → at + 11 ≤ length s
    go true is = omega (arith, kind-inside w 16 (eqb-true kind 16 is))
    go false is = omega (arith, kind-inside w 9 (body-9 kind has_body (eqb-false kind 16 is)))

-- .. and the failed exit, too
pub failed_exit_inside : {s : List ℕ} {at kind : ℕ} → Named s at kind → kind ≡ 16 → at + 17 ≤ length s
failed_exit_inside w e = omega (arith, kind-inside w 16 e)

-- two points of a step that is no stop, and the third one of a call with a failed target
pub targets_inside : {s : List ℕ} {at kind : ℕ} → Named s at kind → section_of kind ≡ steps → (kind ≡ 19 → ⊥) → at + 5 ≤ length s
targets_inside {kind = kind} w late no_stop = let h : steps ≤ section_of kind = omega arith in two-inside w h no_stop

pub failed_target_inside : {s : List ℕ} {at kind : ℕ} → Named s at kind → kind ≡ 17 → at + 7 ≤ length s
failed_target_inside w e = omega (arith, kind-inside w 17 e)

-- The owners that a record joins --------------------------------------------------------------------------------------

-- a record that is neither a method's with body nor a step's that goes on joins no two points
pub none-joined : (s : List ℕ) (i number : ℕ) (owner : ℕ → Option ℕ) (k : ℕ) → body_kind k ≡ false → (eqb (section_of k) steps && not (eqb k 19)) ≡ false
    → all_agree (owners_joined number owner (kind_of k) (values_at s i (kind_of k).fields)) ≡ true
unfolding values_at
none-joined s i number owner =
    by_rows
    (λ k x. body_kind k ≡ false → (eqb x.section steps && not (eqb k 19)) ≡ false
    → all_agree (owners_joined number owner x (values_at s i x.fields)) ≡ true)
    (fit and fit and fit and fit and fit and fit and fit and fit and fit and (λ h g. no h) and (λ h g. no g) and (λ h g. no g) and (λ h g. no g)
    and fit and fit and fit and (λ h g. no h) and (λ h g. no g) and fit and fit and fit and fit and (λ h g. no g) and (λ i. fit))
  where
    fit : {A B : Type 0} → A → B → true ≡ true
    fit h g = refl

module _ {s : List ℕ} {at kind : ℕ} (w : Named s at kind) (number : ℕ) (points : List ℕ) where
  -- the owner of the point that is named so many bytes behind the offset
  abbrev pub named_owner : ℕ → Option ℕ
  named_owner i = owner_listed s points (short_at s (at + i))

  -- not 24, of a record of this kind and these values
  abbrev Fit : Kind → List ℕ → Bool
  Fit k vs = all_agree (owners_joined number (owner_listed s points) k vs)

  of_row : owners_fit s at kind number points ≡ Fit (kind_of kind) (values_at s (at + 1) (kind_of kind).fields)
  unfolding record_at
  of_row = ap (λ (k : ℕ). Fit (kind_of kind) (values_at s (at + 1) (kind_of k).fields)) w.is

  of-kind : (k : ℕ) → kind ≡ k → owners_fit s at kind number points ≡ Fit (kind_of k) (values_at s (at + 1) (kind_of k).fields)
  of-kind k e = of_row ∙ ap (λ (k : ℕ). Fit (kind_of k) (values_at s (at + 1) (kind_of k).fields)) e

  -- Methods with body -------------------------------------------------------------------------------------------------

  module _ (has_body : body_kind kind ≡ true) where
    -- the number is compared with the owners of the entry and of the exit, and with that of the failed exit
    module _ {o p : Option ℕ} (entry_is : o ≡ named_owner 7) (exit_is : p ≡ named_owner 9) {a b : Bool}
        (entry : a ≡ agree (some number) o) (exit : b ≡ agree (some number) p) where
      entry-and-exit : (a && b) ≡ (agree (some number) (named_owner 7) && agree (some number) (named_owner 9))
      entry-and-exit = ap₂ ◌&&◌ (entry ∙ ap (agree (some number)) entry_is) (exit ∙ ap (agree (some number)) exit_is)

      pub owned : (kind ≡ 16 → ⊥) → (a && b) ≡ owners_fit s at kind number points
      owned one =
          entry-and-exit
          ∙ sym
          (of-kind 9 (body-9 kind has_body one) ∙ ap (Fit (kind_of 9)) (names-alone s at (1 ∷ 1 ∷ 1 ∷ 2 ∷ 2 ∷ []))
          ∙ number-agrees number (named_owner 7 ∷ named_owner 9 ∷ [])
          ∙ and_last (agree (some number) (named_owner 7)) (agree (some number) (named_owner 9)))

      pub owned-16 : kind ≡ 16 → {q : Option ℕ} → q ≡ named_owner 15 → {c : Bool} → c ≡ agree (some number) q → ((a && b) && c) ≡ owners_fit s at kind number points
      owned-16 two failed-is failed =
          ap₂ ◌&&◌ entry-and-exit (failed ∙ ap (agree (some number)) failed-is)
          ∙ sym
          (of-kind 16 two ∙ ap (Fit (kind_of 16)) (names-alone s at (1 ∷ 1 ∷ 1 ∷ 2 ∷ 2 ∷ 1 ∷ 1 ∷ 2 ∷ []))
          ∙ number-agrees number (named_owner 7 ∷ named_owner 9 ∷ named_owner 15 ∷ [])
          ∙ ands (agree (some number) (named_owner 7)) (agree (some number) (named_owner 9)) (agree (some number) (named_owner 15)))

  -- Steps -------------------------------------------------------------------------------------------------------------

  -- another step than a call with a failed target and a stop
  two-joined : (k : ℕ) → eqb (section_of k) steps ≡ true → (k ≡ 17 → ⊥) → (k ≡ 19 → ⊥)
      → Fit (kind_of k) (values_at s (at + 1) (kind_of k).fields) ≡ agree (named_owner 1) (named_owner 3)
  two-joined =
      by_rows
      (λ k x. eqb x.section steps ≡ true → (k ≡ 17 → ⊥) → (k ≡ 19 → ⊥) → Fit x (values_at s (at + 1) x.fields) ≡ agree (named_owner 1) (named_owner 3))
      (out and out and out and out and out and out and out and out and out and out
      and (λ h a b. joins (kind_of 10) (names-then s at 1 (2 ∷ 2 ∷ []) (an-event ∷ []) (event-value s (at + 5))) refl)
      and (λ h a b. joins (kind_of 11) (names-alone s at (2 ∷ 2 ∷ 3 ∷ [])) refl)
      and (λ h a b. joins (kind_of 12) (names-alone s at (2 ∷ 2 ∷ [])) refl)
      and out and out and out and out and (λ h a b. absurd (a refl)) and out and (λ h a b. absurd (b refl)) and out and out
      and (λ h a b. joins (kind_of 22) (names-then s at 1 (2 ∷ 2 ∷ 3 ∷ []) (a-channel ∷ []) (channel-value s (at + 7))) refl)
      and (λ i. out))
    where
      out : {A B C : Type 0} → false ≡ true → A → B → C
      out e a b = no (sym e)

      joins : (x : Kind) {vs : List ℕ} → values_at s (at + 1) x.fields ≡ vs → Fit x vs ≡ all_agree (named_owner 1 ∷ named_owner 3 ∷ [])
          → Fit x (values_at s (at + 1) x.fields) ≡ agree (named_owner 1) (named_owner 3)
      joins x e h = ap (Fit x) e ∙ h ∙ two-agree (named_owner 1) (named_owner 3)

  -- the owners of the two points are compared, and those of the three points of a call with a failed target
  module _ {o p : Option ℕ} (from_is : o ≡ named_owner 1) (to_is : p ≡ named_owner 3) {a : Bool} (joined : a ≡ agree o p) where
    from-and-to : a ≡ agree (named_owner 1) (named_owner 3)
    from-and-to = joined ∙ ap₂ agree from_is to_is

    pub joins-two : section_of kind ≡ steps → (kind ≡ 17 → ⊥) → (kind ≡ 19 → ⊥) → a ≡ owners_fit s at kind number points
    joins-two late no_call no_stop = from-and-to ∙ sym (of_row ∙ two-joined kind (eq-eqb (section_of kind) steps late) no_call no_stop)

    pub joins-17 : kind ≡ 17 → {q : Option ℕ} → q ≡ named_owner 5 → {b c : Bool} → b ≡ agree o q → c ≡ agree p q → ((a && b) && c) ≡ owners_fit s at kind number points
    joins-17 e failed-is from-failed to-failed =
        ap₂ ◌&&◌ (ap₂ ◌&&◌ from-and-to (from-failed ∙ ap₂ agree from_is failed-is)) (to-failed ∙ ap₂ agree to_is failed-is)
        ∙ sym
        (of-kind 17 e ∙ ap (Fit (kind_of 17)) (names-alone s at (2 ∷ 2 ∷ 2 ∷ 3 ∷ []))
        ∙ three-agree (named_owner 1) (named_owner 3) (named_owner 5))

  -- Other records -----------------------------------------------------------------------------------------------------

  pub none_fit : body_kind kind ≡ false → (eqb (section_of kind) steps && not (eqb kind 19)) ≡ false → owners_fit s at kind number points ≡ true
  none_fit a e = of_row ∙ none-joined s (at + 1) number (owner_listed s points) kind a e
