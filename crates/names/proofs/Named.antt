-- The fields of a record that are names, one after the other: that all exist is what the code tests of two and of three names.
use mathlib.Core.Path.{◌≡◌, refl, sym, ap, ◌∙◌}
use mathlib.Core.Bool.{Bool, true, false, cond, ◌&&◌}
use mathlib.Core.List.{List, [], ◌∷◌}
use Prim.Native.Nat.{ℕ, ◌+◌, ◌≤◌, ◌<◌}
use native.Mathlib.Omega.{arith}
use lib.ListN.{get_or}
use lib.Dec.{ltb, eqb}
use borrow.Author.Tests.{ne_eqb}
use Rattle.sheet.specs.Kind.{conditions, points, methods, steps, Field, a_name, an-event, an-owner, a-channel, kind_of, section_of}
use Rattle.sheet.specs.Record.{byte_at, number_at, values_at, record_at}
use Rattle.sheet_laws.specs.AtOffset.{short_at}
use Rattle.sheet.specs.Reading.{all_exist}
use Rattle.tally.specs.declared.Tally.{Tally}
use Rattle.tally.specs.Tally.{count_of}
use Rattle.format.specs.Named.{Named}
use Rattle.format.proofs.Named.{two, three, declared_behind, declares, step_behind, stop-fields, goes}
use Rattle.names.specs.Names.{two_below, three_below}

and-true : (a : Bool) → (a && true) ≡ a
and-true true = refl
and-true false = refl

and_assoc : (a b c : Bool) → (a && (b && c)) ≡ ((a && b) && c)
and_assoc true b c = refl
and_assoc false b c = refl

-- two tests together, each replaced by what it is
pub both-are : {r a b x y z : Bool} → r ≡ (a && b) → a ≡ x → b ≡ y → z ≡ (x && y) → r ≡ z
both-are {a = a} {y = y} r a-is b-is z-is = r ∙ ap (λ (b : Bool). a && b) b-is ∙ ap (λ (a : Bool). a && y) a-is ∙ sym z-is

abbrev owner_if : Bool → List Field
owner_if b = cond b (an-owner ∷ []) []

module _ (s : List ℕ) (events : ℕ) (counted : ℕ → ℕ) where
  -- all names exist in a body, or a part of one, that starts at an offset
  abbrev All : List Field → ℕ → Bool
  All fs i = all_exist events counted fs (values_at s i fs)

  short-is : (i : ℕ) → number_at s 2 i ≡ short_at s i
  unfolding number_at short_at
  short-is i = omega arith

  byte-is : (i : ℕ) → number_at s 1 i ≡ byte_at s i
  unfolding number_at
  byte-is i = omega arith

  name-then : (k : ℕ) (fs : List Field) (i : ℕ) → All (a_name k ∷ fs) i ≡ (ltb (short_at s i) (counted k) && All fs (i + 2))
  unfolding values_at
  name-then k fs i = ap (λ (v : ℕ). ltb v (counted k) && All fs (i + 2)) (short-is i)

  -- one name, two names and an event at the end of a body
  name-last : (k i : ℕ) → All (a_name k ∷ []) i ≡ ltb (short_at s i) (counted k)
  name-last k i = name-then k [] i ∙ and-true (ltb (short_at s i) (counted k))

  -- .. and one name in front of a channel, which is not judged
  name-then-channel : (k i : ℕ) → All (a_name k ∷ a-channel ∷ []) i ≡ ltb (short_at s i) (counted k)
  unfolding values_at
  name-then-channel k i = name-then k (a-channel ∷ []) i ∙ and-true (ltb (short_at s i) (counted k))

  event-last : (i : ℕ) → All (an-event ∷ []) i ≡ ltb (byte_at s i) events
  unfolding values_at
  event-last i = ap (λ (v : ℕ). ltb v events && true) (byte-is i) ∙ and-true (ltb (byte_at s i) events)

  -- an owner at the end of a body is not judged
  owner-last : (b : Bool) (i : ℕ) → All (owner_if b) i ≡ true
  unfolding values_at
  owner-last true i = refl
  owner-last false i = refl

  two_then : (k : ℕ) (fs : List Field) (i j : ℕ) → i + 4 ≡ j → All (a_name k ∷ a_name k ∷ fs) i ≡ (two_below s i (counted k) && All fs j)
  two_then k fs i j e =
      let four : i + 2 + 2 ≡ j = omega arith in
      name-then k (a_name k ∷ fs) i
      ∙ ap (λ (b : Bool). ltb (short_at s i) (counted k) && b) (name-then k fs (i + 2) ∙ ap (λ (j : ℕ). ltb (short_at s (i + 2)) (counted k) && All fs j) four)
      ∙ and_assoc (ltb (short_at s i) (counted k)) (ltb (short_at s (i + 2)) (counted k)) (All fs j)

  three-then : (k : ℕ) (fs : List Field) (i j : ℕ) → i + 6 ≡ j → All (a_name k ∷ a_name k ∷ a_name k ∷ fs) i ≡ (three_below s i (counted k) && All fs j)
  three-then k fs i j e =
      name-then k (a_name k ∷ a_name k ∷ fs) i
      ∙ ap (λ (b : Bool). ltb (short_at s i) (counted k) && b) (two_then k fs (i + 2) j (omega arith))
      ∙ and_assoc (ltb (short_at s i) (counted k)) (two_below s (i + 2) (counted k)) (All fs j)

  two-last : (k i : ℕ) → All (a_name k ∷ a_name k ∷ []) i ≡ two_below s i (counted k)
  two-last k i = two_then k [] i (i + 4) refl ∙ and-true (two_below s i (counted k))

-- The fields of points, methods and steps, by the tests of the code ---------------------------------------------------

module _ {s : List ℕ} {at kind : ℕ} (w : Named s at kind) where
  module _ (events : ℕ) (t : Tally) where
    abbrev Exist : Bool
    Exist = all_exist events (count_of t) (kind_of kind).fields (record_at s at).values

    of_fields : (fs : List Field) → (kind_of kind).fields ≡ fs → Exist ≡ All s events (count_of t) fs (at + 1)
    unfolding record_at
    of_fields fs e =
        ap (λ (k : ℕ). all_exist events (count_of t) (kind_of kind).fields (values_at s (at + 1) (kind_of k).fields)) w.is
        ∙ ap (λ (fs : List Field). All s events (count_of t) fs (at + 1)) e

    -- by the first names, and the rest
    of-conditions : (fs : List Field) → (kind_of kind).fields ≡ three fs → Exist ≡ (three_below s (at + 1) t.conditions && All s events (count_of t) fs (at + 7))
    of-conditions fs e = of_fields (three fs) e ∙ three-then s events (count_of t) 1 fs (at + 1) (at + 7) (omega arith)

    of-points : (fs : List Field) → (kind_of kind).fields ≡ two fs → Exist ≡ (two_below s (at + 1) t.points && All s events (count_of t) fs (at + 5))
    of-points fs e = of_fields (two fs) e ∙ two_then s events (count_of t) 2 fs (at + 1) (at + 5) (omega arith)

  -- Points and methods ------------------------------------------------------------------------------------------------

  module _ (early : section_of kind < steps) where
    module _ (t : Tally) {a : Bool} (first : a ≡ three_below s (at + 1) t.conditions) (events : ℕ) where
      declared-exist : (k : ℕ) → kind ≡ k → {b r : Bool} → b ≡ All s events (count_of t) (declared_behind k) (at + 7) → r ≡ (a && b) → r ≡ Exist events t
      declared-exist k e second both =
          both-are both first second (of-conditions events t (declared_behind k) (declares w early (declared_behind k) (ap declared_behind e)))

      pub exist-9 : kind ≡ 9 → {b : Bool} → b ≡ two_below s (at + 7) t.points → (a && b) ≡ Exist events t
      exist-9 e second = declared-exist 9 e (second ∙ sym (two-last s events (count_of t) 2 (at + 7))) refl

      pub exist-15 : kind ≡ 15 → {b : Bool} → b ≡ two_below s (at + 7) t.conditions → (a && b) ≡ Exist events t
      exist-15 e second = declared-exist 15 e (second ∙ sym (two-last s events (count_of t) 1 (at + 7))) refl

      pub exist-16 : kind ≡ 16 → {b c d : Bool} → b ≡ two_below s (at + 7) t.points
          → c ≡ two_below s (at + 11) t.conditions → d ≡ ltb (short_at s (at + 15)) t.points → (((a && b) && c) && d) ≡ Exist events t
      exist-16 e {b} {c} {d} body failed exit =
          let rest = two_then s events (count_of t) 1 (a_name points ∷ []) (at + 11) (at + 15) (omega arith) in
          let failing = both-are {r = c && d} refl failed (exit ∙ sym (name-last s events (count_of t) 2 (at + 15))) rest in
          let behind = two_then s events (count_of t) 2 (a_name conditions ∷ a_name conditions ∷ a_name points ∷ []) (at + 7) (at + 11) (omega arith) in
          declared-exist 16 e (both-are {r = b && (c && d)} refl body failing behind) (sym (and_assoc (a && b) c d) ∙ sym (and_assoc a b (c && d)))

      pub exist-three : (kind ≡ 9 → ⊥) → (kind ≡ 15 → ⊥) → (kind ≡ 16 → ⊥) → a ≡ Exist events t
      exist-three a9 a15 a16 =
          let behind : declared_behind kind ≡ owner_if (eqb kind 20) = simp (ne_eqb kind 9 a9, ne_eqb kind 15 a15, ne_eqb kind 16 a16) in
          first
          ∙ sym
          (of-conditions events t (owner_if (eqb kind 20)) (declares w early (owner_if (eqb kind 20)) behind)
          ∙ ap (λ (b : Bool). three_below s (at + 1) t.conditions && b) (owner-last s events (count_of t) (eqb kind 20) (at + 7))
          ∙ and-true (three_below s (at + 1) t.conditions))

  -- Steps -------------------------------------------------------------------------------------------------------------

  module _ (late : steps ≤ section_of kind) where
    -- a stop
    pub exist-19 : kind ≡ 19 → (events : ℕ) (t : Tally) {r : Bool} → r ≡ ltb (short_at s (at + 1)) t.points → r ≡ Exist events t
    exist-19 stops events t first = first ∙ sym (of_fields events t (a_name points ∷ []) (stop-fields w late stops) ∙ name-last s events (count_of t) 2 (at + 1))

    -- another step
    module _ (goes_on : kind ≡ 19 → ⊥) where
      module _ (events : ℕ) (t : Tally) {a : Bool} (first : a ≡ two_below s (at + 1) t.points) where
        step-exist : (k : ℕ) → kind ≡ k → {b r : Bool} → b ≡ All s events (count_of t) (step_behind k) (at + 5) → r ≡ (a && b) → r ≡ Exist events t
        step-exist k e second both = both-are both first second (of-points events t (step_behind k) (goes w late goes_on (step_behind k) (ap step_behind e)))

        pub exist-10 : kind ≡ 10 → {k : ℕ} → k ≡ get_or s (at + 5) 0 → (a && ltb k events) ≡ Exist events t
        unfolding byte_at
        exist-10 e second = step-exist 10 e (ap (λ (k : ℕ). ltb k events) second ∙ sym (event-last s events (count_of t) (at + 5))) refl

        pub exist-11 : kind ≡ 11 → {b : Bool} → b ≡ ltb (short_at s (at + 5)) t.methods → (a && b) ≡ Exist events t
        exist-11 e second = step-exist 11 e (second ∙ sym (name-last s events (count_of t) 3 (at + 5))) refl

        pub exist-22 : kind ≡ 22 → {b : Bool} → b ≡ ltb (short_at s (at + 5)) t.methods → (a && b) ≡ Exist events t
        exist-22 e second = step-exist 22 e (second ∙ sym (name-then-channel s events (count_of t) 3 (at + 5))) refl

        pub exist-17 : kind ≡ 17 → {b c : Bool} → b ≡ ltb (short_at s (at + 5)) t.points → c ≡ ltb (short_at s (at + 7)) t.methods → ((a && b) && c) ≡ Exist events t
        exist-17 e {b} {c} target method =
            let seven : at + 5 + 2 ≡ at + 7 = omega arith in
            let last = name-last s events (count_of t) 3 (at + 7) in
            let behind = name-then s events (count_of t) 2 (a_name methods ∷ []) (at + 5)
            ∙ ap (λ (i : ℕ). ltb (short_at s (at + 5)) t.points && All s events (count_of t) (a_name methods ∷ []) i) seven in
            step-exist 17 e (both-are {r = b && c} refl target (method ∙ sym last) behind) (sym (and_assoc a b c))

        pub exist-two : (kind ≡ 10 → ⊥) → (kind ≡ 11 → ⊥) → (kind ≡ 22 → ⊥) → (kind ≡ 17 → ⊥) → a ≡ Exist events t
        exist-two a10 a11 a22 a17 =
            let none : step_behind kind ≡ [] = simp (ne_eqb kind 10 a10, ne_eqb kind 11 a11, ne_eqb kind 17 a17, ne_eqb kind 22 a22) in
            first ∙ sym (of-points events t [] (goes w late goes_on [] none) ∙ and-true (two_below s (at + 1) t.points))
