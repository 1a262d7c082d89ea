-- The fields of a record that names others, by its kind, and that they stand inside the sheet.
use mathlib.Core.Path.{◌≡◌, refl, ap, ◌∙◌}
use mathlib.Core.Bool.{Bool, cond}
use mathlib.Core.List.{List, [], ◌∷◌}
use Prim.Native.Nat.{ℕ, ◌+◌, ◌≤◌, ◌<◌}
use native.Mathlib.Omega.{arith}
use lib.ListN.{length}
use lib.Dec.{ltb, eqb, lit≤}
use borrow.Author.Tests.{lt-ltb, le-ltb, ne_eqb}
use Rattle.sheet.specs.Kind.{conditions, points, methods, steps, Field, a_name, an-event, an-owner, a-channel, kind_of, section_of, widths, body_length}
use Rattle.sheet.proofs.Kind.{◌and◌}
use Rattle.sheet_laws.proofs.Take.{next_is}
use Rattle.kinds.specs.Kinds.{last_kind}
use Rattle.kinds.proofs.Table.{by_rows}
use Rattle.format.specs.Named.{Named}

-- two points, and three conditions, in front of other fields
abbrev pub two : List Field → List Field
two fs = a_name points ∷ a_name points ∷ fs

abbrev pub three : List Field → List Field
three fs = a_name conditions ∷ a_name conditions ∷ a_name conditions ∷ fs

-- what stands behind the three conditions of a point or a method, and behind the two points of a step that is no stop
abbrev pub declared_behind : ℕ → List Field
declared_behind k =
    cond (eqb k 9) (two [])
    (cond (eqb k 15) (a_name conditions ∷ a_name conditions ∷ [])
    (cond (eqb k 16) (two (a_name conditions ∷ a_name conditions ∷ a_name points ∷ [])) (cond (eqb k 20) (an-owner ∷ []) [])))

abbrev pub step_behind : ℕ → List Field
step_behind k =
    cond (eqb k 10) (an-event ∷ []) (cond (eqb k 11) (a_name methods ∷ []) (cond (eqb k 17) (a_name points ∷ a_name methods ∷ []) (cond (eqb k 22) (a_name methods ∷ a-channel ∷ []) [])))

abbrev step_fields : ℕ → List Field
step_fields k = cond (eqb k 19) (a_name points ∷ []) (two (step_behind k))

-- the fields of a point, a method or a step, whose kind is one of the table
fields-are : (k : ℕ) → points ≤ section_of k → section_of k ≤ steps
    → (1 ≤ k) × (k ≤ last_kind) × ((kind_of k).fields ≡ cond (ltb (section_of k) steps) (three (declared_behind k)) (step_fields k))
fields-are =
    by_rows (λ k x. points ≤ x.section → x.section ≤ steps
    → (1 ≤ k) × (k ≤ last_kind) × (x.fields ≡ cond (ltb x.section steps) (three (declared_behind k)) (step_fields k)))
    (none and low and low and low and low and low and low
    and (λ g h. (lit≤ tt, lit≤ tt, refl)) and (λ g h. (lit≤ tt, lit≤ tt, refl)) and (λ g h. (lit≤ tt, lit≤ tt, refl))
    and (λ g h. (lit≤ tt, lit≤ tt, refl)) and (λ g h. (lit≤ tt, lit≤ tt, refl)) and (λ g h. (lit≤ tt, lit≤ tt, refl)) and high and high
    and (λ g h. (lit≤ tt, lit≤ tt, refl)) and (λ g h. (lit≤ tt, lit≤ tt, refl)) and (λ g h. (lit≤ tt, lit≤ tt, refl)) and low
    and (λ g h. (lit≤ tt, lit≤ tt, refl)) and (λ g h. (lit≤ tt, lit≤ tt, refl)) and low and (λ g h. (lit≤ tt, lit≤ tt, refl)) and (λ i. none))
  where
    none : {A : Type 0} → 2 ≤ 0 → A
    none g = absurd (omega arith)

    low : {A : Type 0} → 2 ≤ 1 → A
    low g = absurd (omega arith)

    high : {A B : Type 0} → A → 5 ≤ 4 → B
    high g h = absurd (omega arith)

module _ {s : List ℕ} {at kind : ℕ} (w : Named s at kind) where
  pub is-kind : (1 ≤ kind) × (kind ≤ last_kind)
  is-kind = let (low, high, fields) = fields-are kind w.low w.high in (low, high)

  -- the record stands inside the sheet: its body, of the kind k, its start, and its body of these fields
  pub kind-inside : (k : ℕ) → kind ≡ k → at + 1 + body_length k ≤ length s
  kind-inside k e = omega (arith, next_is s at, ap body_length (w.is ∙ e), w.inside)

  pub starts-inside : at < length s
  starts-inside = omega (arith, kind-inside kind refl)

  inside : (fs : List Field) → (kind_of kind).fields ≡ fs → at + 1 + widths fs ≤ length s
  inside fs e = omega (arith, kind-inside kind refl, ap widths e)

  -- Points and methods ------------------------------------------------------------------------------------------------

  module _ (early : section_of kind < steps) where
    pub declares : (fs : List Field) → declared_behind kind ≡ fs → (kind_of kind).fields ≡ three fs
    declares fs e =
        (fields-are kind w.low w.high).2
        ∙ ap (λ (b : Bool). cond b (three (declared_behind kind)) (step_fields kind)) (lt-ltb (section_of kind) steps early) ∙ ap three e

    pub three-inside : at + 7 ≤ length s
    three-inside = omega (arith, inside (three (declared_behind kind)) (declares (declared_behind kind) refl))

  -- Steps -------------------------------------------------------------------------------------------------------------

  module _ (late : steps ≤ section_of kind) where
    step-fields : (kind_of kind).fields ≡ step_fields kind
    step-fields =
        (fields-are kind w.low w.high).2
        ∙ ap (λ (b : Bool). cond b (three (declared_behind kind)) (step_fields kind)) (le-ltb (section_of kind) steps late)

    -- a stop
    pub stop-fields : kind ≡ 19 → (kind_of kind).fields ≡ a_name points ∷ []
    stop-fields stops = step-fields ∙ ap step_fields stops

    -- another step
    module _ (goes_on : kind ≡ 19 → ⊥) where
      pub goes : (fs : List Field) → step_behind kind ≡ fs → (kind_of kind).fields ≡ two fs
      goes fs e = step-fields ∙ ap (λ (b : Bool). cond b (a_name points ∷ []) (two (step_behind kind))) (ne_eqb kind 19 goes_on) ∙ ap two e

      pub two-inside : at + 5 ≤ length s
      two-inside = omega (arith, inside (two (step_behind kind)) (goes (step_behind kind) refl))
