-- The tests of a record that stands where reading has come to: what each refusal asks, in the code's terms.
use mathlib.Core.Path.{◌≡◌, refl, sym, ap, ◌∙◌, subst}
use mathlib.Core.Bool.{Bool, true, false, not, cond, ◌&&◌, ◌||◌}
use mathlib.Core.List.{List}
use Prim.Native.Nat.{ℕ, ◌+◌, ◌≤◌, ◌<◌}
use native.Mathlib.Omega.{arith, by_contra}
use lib.ListN.{length}
use lib.Dec.{T, eqb, ltb}
use borrow.Author.Tests.{lt-ltb, le-ltb, ne_eqb}
use Rattle.sheet.specs.Model.{Model}
use Rattle.sheet.specs.Kind.{kind_of, section_of}
use Rattle.sheet.specs.Record.{byte_at, record_at, next_at}
use Rattle.sheet.specs.Reading.{Reading, tally, in_condition, is_new, all_exist, is_primitive, point_owner}
use Rattle.sheet_laws.proofs.Order.{is_3, is_4, is_19, is_20, all_named, is_9, is_18, is_24, is_26, four}
use Rattle.sheet_laws.proofs.Outcomes.{never-wrong}
use Rattle.format.specs.declared.Refusal.TheVariants.{WrongSection}
use Rattle.kinds.specs.Kinds.{primitive_kind}
use Rattle.kinds.proofs.Table.{not-primitive, not_body}
use Rattle.format.proofs.Laws.{kind-there, Stood, Refuses}
use Rattle.tally.specs.declared.Tally.{Tally}
use Rattle.tally.specs.Tally.{count_of}
use Rattle.refusals.specs.Editions.{stop_fits}
use Rattle.sections.specs.Sections.{Counts}
use Rattle.sections.proofs.Called.{never-stray}
use Rattle.owners.proofs.Joined.{none-joined}

pub or_left : (a b : Bool) → a ≡ true → (a || b) ≡ true
or_left true b e = refl
or_left false b e = absurd (subst T (sym e) tt)

pub or_right : (a b : Bool) → b ≡ true → (a || b) ≡ true
or_right true b e = refl
or_right false b e = e

pub or-both : (a b : Bool) → a ≡ false → b ≡ false → (a || b) ≡ false
or-both true b e f = e
or-both false b e f = f

pub and_left : (a b : Bool) → a ≡ false → (a && b) ≡ false
and_left true b e = absurd (subst T e tt)
and_left false b e = refl

pub and_right : (a b : Bool) → b ≡ false → (a && b) ≡ false
and_right true b e = e
and_right false b e = refl

module _ {M : Model} {s : List ℕ} {at kind q : ℕ} (w : Stood M s at kind q) where
  pub section-is : section_of (byte_at s at) ≡ section_of kind
  section-is = ap section_of w.kind

  module _ (u : Reading) where
    pub not-3 : is_3 M s at u ≡ false
    not-3 = le-ltb (length s) (next_at s at) w.inside

    -- 4: an earlier section, if one of section k has come before
    pub early : {k : ℕ} → (u.section < k → k ≤ section_of (byte_at s at)) → section_of kind < k → Refuses M s at u (WrongSection at)
    early {k} begun low =
        let not-below : k ≤ u.section = by_contra k u.section (λ g. omega (arith, begun g, section-is)) in
        let less : section_of (byte_at s at) < u.section = omega (arith, section-is) in
        (four M s at u w.not_2 not-3 (or_left (ltb (section_of (byte_at s at)) u.section) _ (lt-ltb (section_of (byte_at s at)) u.section less)), refl)

    -- not 4
    pub in_order : u.section ≤ section_of kind → (eqb u.opened.section 1 && not (in_condition (section_of (byte_at s at)) (kind_of (byte_at s at)).role)) ≡ false → is_4 M s at u ≡ false
    in_order low free =
        let le : u.section ≤ section_of (byte_at s at) = omega (arith, section-is) in
        or-both (ltb (section_of (byte_at s at)) u.section) _ (le-ltb (section_of (byte_at s at)) u.section le) free

    -- not 19: no mark of the edition
    pub no-mark : (kind ≡ 18 → ⊥) → is_19 M s at u ≡ false
    no-mark ne = and_left (eqb (byte_at s at) 18) (ltb 0 at) (ne_eqb (byte_at s at) 18 (λ (e : byte_at s at ≡ 18). ne (sym w.kind ∙ e)))

    -- 20 is the code's test, turned round; not 20: no stop
    pub stop_is : is_20 M s at u ≡ not (stop_fits s kind)
    stop_is = ap (λ (k : ℕ). eqb k 19 && not (is_new s)) w.kind ∙ go (eqb kind 19)
      where
        go : (b : Bool) → (b && not (is_new s)) ≡ not (cond b (is_new s) true)
        go true = refl
        go false = refl

    pub no_stop : (kind ≡ 19 → ⊥) → is_20 M s at u ≡ false
    no_stop ne = and_left (eqb (byte_at s at) 19) (not (is_new s)) (ne_eqb (byte_at s at) 19 (λ (e : byte_at s at ≡ 19). ne (sym w.kind ∙ e)))

    -- 7 asks whether the names exist by the code's tally
    pub names-are : {t : Tally} → Counts u t → all_named M s at u ≡ all_exist M.events (count_of t) (kind_of kind).fields (record_at s at).values
    names-are {t} h =
        let same : tally u ≡ count_of t = λ i k. h k i in
        ap (λ (counted : ℕ → ℕ). all_exist M.events counted (kind_of (byte_at s at)).fields (record_at s at).values) same
        ∙ ap (λ (k : ℕ). all_exist M.events (count_of t) (kind_of k).fields (record_at s at).values) w.kind

    pub primitive-is : is_primitive (record_at s at) ≡ primitive_kind kind
    primitive-is = ap primitive_kind (kind-there s at ∙ w.kind)

    -- not 9: no method
    pub no-method : (section_of kind ≡ 3 → ⊥) → is_9 M s at u ≡ false
    no-method ne =
        and_left (is_primitive (record_at s at)) (eqb (length (u.own 3)) 0) (primitive-is ∙ not-primitive kind ne)

    -- of a kind of steps, if it is no step
    no_step : (section_of kind ≡ 4 → ⊥) → (k : ℕ) → section_of k ≡ 4 → eqb (byte_at s at) k ≡ false
    no_step ne k step = ne_eqb (byte_at s at) k (λ (e : byte_at s at ≡ k). ne (sym section-is ∙ ap section_of e ∙ step))

    -- not 18: no step
    pub no_call : (section_of kind ≡ 4 → ⊥) → is_18 M s at u ≡ false
    no_call ne = never-wrong s at u (no_step ne 11 refl) (no_step ne 17 refl)

    -- not 24: no method and no step
    pub no_join : (section_of kind ≡ 3 → ⊥) → (section_of kind ≡ 4 → ⊥) → is_24 M s at u ≡ false
    unfolding record_at
    no_join no-method no_step =
        ap not
        (none-joined s (at + 1) (tally u 3) (point_owner u) (byte_at s at) (not_body (byte_at s at) (λ e. no-method (sym section-is ∙ e)))
        (and_left (eqb (section_of (byte_at s at)) 4) _ (ne_eqb (section_of (byte_at s at)) 4 (λ (e : section_of (byte_at s at) ≡ 4). no_step (sym section-is ∙ e)))))

    -- not 26: no step
    pub no_channel : (section_of kind ≡ 4 → ⊥) → is_26 M s at u ≡ false
    no_channel ne = never-stray s at u (no_step ne 22 refl)
