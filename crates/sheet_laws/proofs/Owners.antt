-- Owners fit in a sheet that is read whole: a method's entry, exit and failed exit belong to it, and the points that a step joins to one method, where
-- they have owners, which is what 24 leaves. On an instrument that takes no kind above 19 no point has an owner, and no sheet is refused for one.
use mathlib.Core.Path.{◌≡◌, refl, sym, ap₂, ◌∙◌, subst}
use mathlib.Core.Bool.{Bool, true, false, not}
use mathlib.Core.Option.{Option, none, some}
use mathlib.Core.List.{List, [], ◌∷◌, ◌++◌, map, append_assoc}
use Prim.Native.Nat.{ℕ, zero, suc, ◌+◌, ◌<◌}
use native.Mathlib.Nat.{le_of_suc-le-suc, not-suc-le-zero}
use native.Mathlib.Omega.{arith}
use lib.ListN.{get_or, get_elem?}
use lib.Dec.{T, eqb, eqb→eq, ltb, ltb→lt}
use borrow.Author.Tests.{ltb-false, eqb-true, ne_eqb, not-false}
use Rattle.bits.proofs.Tests.{and-out}
use Rattle.sheet.specs.Model.{Model}
use Rattle.sheet.specs.Each.{Each, nil, cons}
use Rattle.sheet.specs.Sheet.{Point, Sheet, body_in}
use Rattle.sheet.specs.Sheet as sheet
use Rattle.sheet.specs.Kind.{points, methods, Field, a-set, a-long-set, an-event, a-place, an-owner, a-channel, a_name, Kind, a_kind, counts, kinds, kind_of, section_of}
use Rattle.sheet.specs.Record.{Record, byte_at, values_at, record_at, next_at}
use Rattle.sheet.specs.Reading.{Counted, Reading, tally, is_new, is_owned, exists, all_exist, owner_of, owner_in, point_owner, agree, agrees_with, all_agree, names_point, points_named, owners_joined, wrong_owner, ◌when◌else◌, refusal_of, past_at, ReadResult, whole, refusal, owners_from, read_sheet}
use Rattle.sheet.specs.Decode.{point_of, method_of, step_of, sheet_read, sheet_of}
use Rattle.sheet_laws.specs.Names.{SameIfAny, BodyOwned, StepOwned, OwnersFit}
use Rattle.sheet.proofs.Each.{each_append, each_right, each-mapped, each-listed}
use Rattle.sheet.proofs.Kind.{◌and◌, numbered}
use Rattle.sheet_laws.proofs.Take.{or-false, Took}
use Rattle.sheet_laws.proofs.Order.{test-holds}
use Rattle.sheet_laws.proofs.ReadOn.{Ends, too_long, at_record, at_the_end, read-ends, number_of, end-number, read_keeps}
use Rattle.sheet_laws.proofs.Own.{counted, own-cases}
use Rattle.sheet_laws.proofs.States.{Later, each-numbered, named-then}
use Rattle.sheet_laws.proofs.SheetOf.{sheet-is}

-- Owners that agree -------------------------------------------------------------------------------------------------------

-- two owners, where there are two, are the same
same-if-any : (a b : Option ℕ) → T (agree a b) → SameIfAny a b
same-if-any none b h = tt
same-if-any (some m) none h = tt
same-if-any (some m) (some n) h = eqb→eq m n h

-- with one that is not there
with_none : (a : Option ℕ) → SameIfAny a none
with_none none = tt
with_none (some m) = tt

-- each two of a list; past its end there is none
abbrev AllSame : List (Option ℕ) → Type 0
AllSame os = (i j : ℕ) → i < j → SameIfAny (get_or os i none) (get_or os j none)

same-with : (o : Option ℕ) (os : List (Option ℕ)) → T (agrees_with o os) → (j : ℕ) → SameIfAny o (get_or os j none)
same-with o [] h j = with_none o
same-with o (x ∷ os) h zero = same-if-any o x (and-out (agree o x) (agrees_with o os) h).0
same-with o (x ∷ os) h (suc j) = same-with o os (and-out (agree o x) (agrees_with o os) h).1 j

all_same : (os : List (Option ℕ)) → T (all_agree os) → AllSame os
all_same [] h i j less = tt
all_same (o ∷ os) h zero zero less = absurd (not-suc-le-zero less)
all_same (o ∷ os) h zero (suc j) less = same-with o os (and-out (agrees_with o os) (all_agree os) h).0 j
all_same (o ∷ os) h (suc i) zero less = absurd (not-suc-le-zero less)
all_same (o ∷ os) h (suc i) (suc j) less = all_same os (and-out (agrees_with o os) (all_agree os) h).1 i j (le_of_suc-le-suc less)

-- Row by row ----------------------------------------------------------------------------------------------------------------

module _ (S : Sheet) (s : List ℕ) where
  -- what 24 leaves of a record of a section, which as a method has the number
  abbrev Owned : (section number : ℕ) → Record → Type 0
  Owned zero number x = Unit {0}
  Owned (suc zero) number x = Unit {0}
  Owned (suc (suc zero)) number x = Unit {0}
  Owned (suc (suc (suc zero))) number x = BodyOwned S number (method_of x).body
  Owned (suc (suc (suc (suc zero)))) number x = StepOwned S (step_of x)
  Owned (suc (suc (suc (suc (suc k))))) number x = Unit {0}

  module _ (number : ℕ → ℕ) (at : ℕ) where
    abbrev Row : ℕ → Kind → Type 0
    Row k row = AllSame (owners_joined (number methods) (sheet.owner S) row (values_at s (at + 1) row.fields))
        → Owned row.section (number row.section) (record { at = at; kind = k; values = values_at s (at + 1) row.fields })

    -- methods with body, and the steps that join points; of the other rows it says nothing
    method-row : Row 9 (kind_of 9)
    unfolding values_at
    method-row same = (same 0 1 (omega arith), same 0 2 (omega arith), same 0 3 (omega arith))

    event-row : Row 10 (kind_of 10)
    unfolding values_at
    event-row same = same 0 1 (omega arith)

    call-row : Row 11 (kind_of 11)
    unfolding values_at
    call-row same = (same 0 1 (omega arith), same 0 2 (omega arith), same 1 2 (omega arith))

    pass-row : Row 12 (kind_of 12)
    unfolding values_at
    pass-row same = same 0 1 (omega arith)

    failing-method-row : Row 16 (kind_of 16)
    unfolding values_at
    failing-method-row same = (same 0 1 (omega arith), same 0 2 (omega arith), same 0 3 (omega arith))

    failing-call-row : Row 17 (kind_of 17)
    unfolding values_at
    failing-call-row same = (same 0 1 (omega arith), same 0 2 (omega arith), same 1 2 (omega arith))

    channel-call-row : Row 22 (kind_of 22)
    unfolding values_at
    channel-call-row same = (same 0 1 (omega arith), same 0 2 (omega arith), same 1 2 (omega arith))

    owned-row : (k : ℕ) → Row k (kind_of k)
    owned-row =
        numbered Row kinds (a_kind 0 counts [])
        ((λ h. tt)
        and (λ h. tt)
        and (λ h. tt)
        and (λ h. tt)
        and (λ h. tt)
        and (λ h. tt)
        and (λ h. tt)
        and (λ h. tt)
        and (λ h. tt)
        and method-row
        and event-row
        and call-row
        and pass-row
        and (λ h. tt)
        and (λ h. tt)
        and (λ h. tt)
        and failing-method-row
        and failing-call-row
        and (λ h. tt)
        and (λ h. tt)
        and (λ h. tt)
        and (λ h. tt)
        and channel-call-row
        and (λ i h. tt))

-- Of the points that a record names -----------------------------------------------------------------------------------------

-- where the points of a state have these owners, so have those that a record names, if 7 does not apply
module _ (events : ℕ) (u : Reading) (owner : ℕ → Option ℕ) (are : (p : ℕ) → p < tally u points → point_owner u p ≡ owner p) where
  pub named-owners : (fs : List Field) (vs : List ℕ) → T (all_exist events (tally u) fs vs)
      → map (point_owner u) (points_named fs vs) ≡ map owner (points_named fs vs)
  named-owners [] vs e = refl
  named-owners (f ∷ fs) [] e = refl
  named-owners (f ∷ fs) (v ∷ vs) e =
      let (first, others) = and-out (exists events (tally u) f v) (all_exist events (tally u) fs vs) e in
      by_field f first (named-owners fs vs others)
    where
      Same : List ℕ → Type 0
      Same ps = map (point_owner u) ps ≡ map owner ps

      by_name : (of : ℕ) (b : Bool) → eqb of points ≡ b → T (ltb v (tally u of)) → Same (points_named fs vs)
          → Same ((v ∷ points_named fs vs) when b else points_named fs vs)
      by_name of true e l same =
          ap₂ (λ (o : Option ℕ) (os : List (Option ℕ)). o ∷ os)
          (are v (ltb→lt v (tally u points) (subst (λ (k : ℕ). T (ltb v (tally u k))) (eqb-true of points e) l))) same
      by_name of false e l same = same

      by_field : (f : Field) → T (exists events (tally u) f v) → Same (points_named fs vs)
          → Same ((v ∷ points_named fs vs) when names_point f else points_named fs vs)
      by_field a-set l same = same
      by_field a-long-set l same = same
      by_field an-event l same = same
      by_field a-place l same = same
      by_field an-owner l same = same
      by_field a-channel l same = same
      by_field (a_name of) l same = by_name of (eqb of points) refl l same

-- Of the sheet --------------------------------------------------------------------------------------------------------------

module _ (M : Model) (s : List ℕ) (r : Reading) (h : read_sheet M s ≡ whole r) where
  abbrev S : Sheet
  S = sheet_read (is_new s) r.own

  -- the owner of a point that was counted before is its owner in the sheet
  owner-then : {u : Reading} → Later u r → (p : ℕ) → p < tally u points → point_owner u p ≡ sheet.owner S p
  owner-then later p l = named-then M s r h owner_in sheet.owner_in point_of refl (λ x. refl) later points p l

  -- not 24, and not 7
  owned-here : (at : ℕ) (u : Reading) → Took M s at u → Later u r → Owned S s (section_of (byte_at s at)) (tally u (section_of (byte_at s at))) (record_at s at)
  unfolding record_at
  owned-here at u w later =
      let k = kind_of (byte_at s at) in
      let joined : List (Option ℕ) → List (Option ℕ) = λ owners. (some (tally u methods) ∷ owners) when eqb k.section methods else owners in
      let then = owners_joined (tally u methods) (point_owner u) k (record_at s at).values in
      owned-row S s (tally u) at (byte_at s at)
      (subst (λ (owners : List (Option ℕ)). AllSame (joined owners))
      (named-owners M.events u (sheet.owner S) (owner-then later) k.fields (record_at s at).values w.names)
      (all_same then (subst T (sym (not-false (all_agree then) w.owners)) tt)))

  -- of what has the number i in the section k
  owned : (k i : ℕ) (c : Counted) → get_elem? (r.own k) i ≡ some c → Owned S s k i c.last
  owned = each-numbered M s r h (Owned S s) owned-here

  -- of the body of the method with a number, if it has one
  bodies : (m i : ℕ) (cs : List Counted) → ((c : Counted) → get_elem? cs i ≡ some c → BodyOwned S m (method_of c.last).body)
      → BodyOwned S m (body_in (get_elem? (map (λ (c : Counted). method_of c.last) cs) i))
  bodies m i [] all = tt
  bodies m zero (c ∷ cs) all = all c refl
  bodies m (suc i) (c ∷ cs) all = bodies m i cs all

  -- what 24 leaves
  pub owners_fit : OwnersFit (sheet_of M s)
  owners_fit =
      subst OwnersFit (sym (sheet-is M s r h))
      (record {
        bodies_owned = λ m. bodies m m (r.own 3) (owned 3 m);
        steps_owned =
            each-mapped (StepOwned S) (λ (c : Counted). step_of c.last) (each-listed (λ (c : Counted). StepOwned S (step_of c.last)) (r.own 4) (owned 4));
      })

-- Without kind 20 -----------------------------------------------------------------------------------------------------------

-- not the number of a refusal for an owner
abbrev NotForOwner : ℕ → Type 0
NotForOwner n = (n ≡ 24 → ⊥) × (n ≡ 25 → ⊥)

-- no point has an owner
abbrev NoOwner : Counted → Type 0
NoOwner c = owner_of c.last ≡ none

not-owned : (x : Record) → is_owned x ≡ false → owner_of x ≡ none
not-owned x e = simp e

-- so none that a number names has one
nobody-in : {cs : List Counted} → Each NoOwner cs → (p : ℕ) → owner_in (get_elem? (map (λ (c : Counted). c.last) cs) p) ≡ none
nobody-in nil p = refl
nobody-in (cons e all) zero = e
nobody-in (cons e all) (suc p) = nobody-in all p

-- nobody agrees with any
nobody-with : (o : Option ℕ) (ps : List ℕ) → agrees_with o (map (λ p. none) ps) ≡ true
nobody-with none [] = refl
nobody-with none (p ∷ ps) = nobody-with none ps
nobody-with (some m) [] = refl
nobody-with (some m) (p ∷ ps) = nobody-with (some m) ps

nobody-agrees : (ps : List ℕ) → all_agree (map (λ p. none) ps) ≡ true
nobody-agrees [] = refl
nobody-agrees (p ∷ ps) = simp (nobody-with none ps, nobody-agrees ps)

-- 24 does not apply, and 25 does not
none-wrong : (r : Reading) (k : Kind) (x : Record) → ((p : ℕ) → point_owner r p ≡ none) → wrong_owner r k x ≡ false
none-wrong r k x nobody =
    subst (λ (owner : ℕ → Option ℕ). not (all_agree (owners_joined (tally r methods) owner k x.values)) ≡ false) (λ i p. sym (nobody p) i)
    (go (points_named k.fields x.values) (eqb k.section methods))
  where
    go : (ps : List ℕ) (method : Bool) → not (all_agree ((some (tally r methods) ∷ map (λ p. none) ps) when method else map (λ p. none) ps)) ≡ false
    go ps true = simp (nobody-with (some (tally r methods)) ps, nobody-agrees ps)
    go ps false = simp (nobody-agrees ps)

none_stray : (r : Reading) {ps : List Counted} → Each NoOwner ps → owners_from r ps ≡ whole r
none_stray r nil = refl
none_stray r (cons e all) = rw e (none_stray r all)

module _ (M : Model) (s : List ℕ) (before-20 : M.kinds < 20) where
  -- the points so far
  abbrev NoneOwned : ℕ → Reading → Type 0
  NoneOwned at r = Each NoOwner (r.before points ++ r.own points)

  -- a record that is taken is not of kind 20: what 2 leaves
  none_here : (at : ℕ) (r : Reading) → Took M s at r → owner_of (record_at s at) ≡ none
  unfolding record_at
  none_here at r w =
      let (not0, within) = or-false (eqb (byte_at s at) 0) (ltb M.kinds (byte_at s at)) w.known in
      not-owned (record_at s at) (ne_eqb (byte_at s at) 20 (λ e. omega (arith, e, ltb-false M.kinds (byte_at s at) within)))

  still-none : (at : ℕ) (r : Reading) → Took M s at r → NoneOwned at r → NoneOwned (next_at s at) (past_at s at r)
  still-none at r w all =
      own-cases (λ own. Each NoOwner (r.before 2 ++ own)) s at r 2 all
      (λ e same. subst (Each NoOwner) (append_assoc (r.before 2) (r.own 2) (counted s at r ∷ [])) (each_append all (cons (none_here at r w) nil)))

  -- no point of a sheet that is read whole has an owner
  pub no_owners : (r : Reading) → read_sheet M s ≡ whole r → Each (λ (x : Point). x.owner ≡ none) (sheet_of M s).points
  no_owners r h =
      subst (λ (S : Sheet). Each (λ (x : Point). x.owner ≡ none) S.points) (sym (sheet-is M s r h))
      (each-mapped (λ (x : Point). x.owner ≡ none) (λ (c : Counted). point_of c.last)
      (each_right (r.before 2) (read_keeps M s NoneOwned still-none r h nil).holds))

  -- the refusal of a record is neither 24 nor 25
  record-other : (at : ℕ) (r : Reading) → NoneOwned at r → NotForOwner (refusal_of M s at r)
  record-other at r all = (
    λ e. subst T (sym (test-holds M s at r 23 e) ∙ none-wrong r (kind_of (byte_at s at)) (record_at s at) (nobody-in all)) tt,
    λ e. subst T (sym (test-holds M s at r 24 e)) tt,
  )

  -- no sheet is refused for an owner
  pub no_owner_refused : (n at : ℕ) (r : Reading) → read_sheet M s ≡ refusal n at r → (n ≡ 24 → ⊥) × (n ≡ 25 → ⊥)
  no_owner_refused n at r h = subst (λ (o : ReadResult). NotForOwner (number_of o)) h (go (read-ends M s NoneOwned still-none nil))
    where
      go : {o : ReadResult} → Ends M s NoneOwned o → NotForOwner (number_of o)
      go too_long = (λ e. omega (arith, e), λ e. omega (arith, e))
      go (at_record {at} {r} all) = record-other at r all
      go (at_the_end {at} {r} all) =
          end-number s r NotForOwner (λ e. omega (arith, e), λ e. omega (arith, e)) (λ e. omega (arith, e), λ e. omega (arith, e))
          (subst (λ (o : ReadResult). NotForOwner (number_of o)) (sym (none_stray r (each_right (r.before points) all))) (λ e. omega (arith, e), λ e. omega (arith, e)))
