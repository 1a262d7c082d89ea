-- The state past a record that is taken, by its role: what counts, counts in its section, and its start is stored behind the others.
use mathlib.Core.Path.{◌≡◌, refl, sym, ap, ◌∙◌, subst}
use mathlib.Core.Bool.{Bool, true, false, cond}
use mathlib.Core.List.{List, [], ◌∷◌, ◌++◌}
use Prim.Native.Nat.{ℕ, suc, ◌+◌, ◌≤◌}
use native.Mathlib.Omega.{arith}
use lib.ListN.{length, length-append, set}
use lib.Dec.{T, eqb}
use borrow.Author.Tests.{eq-eqb, ne_eqb, eqb-true, eqb-false}
use Rattle.sheet.specs.Kind.{Role, symbol, a_pair, counts, edition, kind_of, section_of}
use Rattle.sheet.specs.Record.{byte_at, record_at}
use Rattle.sheet.specs.Reading.{nothing, Counted, Reading, tally, start_of, starts_of, opened_past, own_past, past_at}
use Rattle.sheet_laws.proofs.Certified.{starts_more}
use Rattle.kinds.specs.Kinds.{counts_one}
use Rattle.tally.specs.declared.Tally.{Tally}
use Rattle.tally.specs.Tally.{count_of, plus_if, tally_after}
use Rattle.tally.proofs.Laws.{count_past}
use Rattle.sections.specs.Sections.{Counts, overwritten_from, Extended}
use Rattle.sections.proofs.Overwritten.{stored}

pub at-is : (s : List ℕ) (at : ℕ) → (record_at s at).at ≡ at
unfolding record_at
at-is s at = refl

starts-length : (xs : List Counted) → length (starts_of xs) ≡ length xs
starts-length [] = refl
starts-length (x ∷ xs) = ap suc (starts-length xs)

module _ (s : List ℕ) (at : ℕ) (u : Reading) where
  abbrev past_it : Reading
  past_it = past_at s at u

  abbrev it : Counted
  it = record { last = record_at s at; opened = u.opened }

  -- What does not count -----------------------------------------------------------------------------------------------

  module _ (role : counts_one (kind_of (byte_at s at)).role ≡ false) where
    pub own_same : past_it.own ≡ u.own
    own_same = go (kind_of (byte_at s at)).role role
      where
        go : (y : Role) → counts_one y ≡ false → own_past u.own it (section_of (byte_at s at)) y ≡ u.own
        go (symbol takes make) e = refl
        go a_pair e = refl
        go counts e = absurd (subst T e tt)
        go edition e = refl

    pub counts_same : {t : Tally} → Counts u t → Counts past_it t
    counts_same h j = ap (λ (own : ℕ → List Counted). length (u.before j ++ own j)) own_same ∙ h j

    pub grown-same : {k : ℕ} {r : Reading} {before after : List ℕ} → Extended k r u before after → Extended k r past_it before after
    grown-same {k} {r} {before} g =
        record {
          same = g.same;
          others = λ j ne. ap (λ (own : ℕ → List Counted). own j) own_same ∙ g.others j ne;
          table =
              g.table ∙ ap (λ (own : ℕ → List Counted). overwritten_from (length (u.before k)) (starts_of (own k)) before) (sym own_same);
        }

  -- What counts -------------------------------------------------------------------------------------------------------

  module _ (role : (kind_of (byte_at s at)).role ≡ counts) (k : ℕ) (same : section_of (byte_at s at) ≡ k) where
    pub closed : past_it.opened ≡ nothing
    closed = ap (λ (y : Role). opened_past u.opened (record_at s at) (section_of (byte_at s at)) y) role

    own_is : past_it.own ≡ own_past u.own it k counts
    own_is = ap (λ (y : Role). own_past u.own it (section_of (byte_at s at)) y) role ∙ ap (λ (j : ℕ). own_past u.own it j counts) same

    pub one_more : past_it.own k ≡ u.own k ++ (it ∷ [])
    one_more = ap (λ (own : ℕ → List Counted). own k) own_is ∙ ap (λ (b : Bool). cond b (u.own k ++ (it ∷ [])) (u.own k)) (eq-eqb k k refl)

    pub others : (j : ℕ) → (j ≡ k → ⊥) → past_it.own j ≡ u.own j
    others j ne = ap (λ (own : ℕ → List Counted). own j) own_is ∙ ap (λ (b : Bool). cond b (u.own j ++ (it ∷ [])) (u.own j)) (ne_eqb j k ne)

    -- its start is the last of its section
    pub starts : starts_of (past_it.own k) ≡ starts_of (u.own k) ++ (start_of u.opened at ∷ [])
    starts =
        ap starts_of one_more ∙ starts_more (u.own k) it
        ∙ ap (λ (i : ℕ). starts_of (u.own k) ++ (start_of u.opened i ∷ [])) (at-is s at)

    tally-is : (j : ℕ) → tally past_it j ≡ plus_if (eqb k j) (tally u j)
    tally-is j = go (eqb k j) refl
      where
        go : (b : Bool) → eqb k j ≡ b → tally past_it j ≡ plus_if b (tally u j)
        go true e =
            let it-is : j ≡ k = sym (eqb-true k j e) in
            subst (λ (j : ℕ). tally past_it j ≡ tally u j + 1) (sym it-is)
            (ap (λ (xs : List Counted). length (u.before k ++ xs)) one_more
            ∙ omega (arith, length-append (u.before k) (u.own k ++ (it ∷ [])), length-append (u.own k) (it ∷ []), length-append (u.before k) (u.own k)))
        go false e =
            ap (λ (xs : List Counted). length (u.before j ++ xs)) (others j (λ (is : j ≡ k). eqb-false k j e (sym is)))

    pub counts-more : {t : Tally} → 1 ≤ k → k ≤ 5 → Counts u t → Counts past_it (tally_after t k)
    counts-more {t} low high h j = tally-is j ∙ ap (plus_if (eqb k j)) (h j) ∙ sym (count_past t k low high j)

    pub grown-more : {r : Reading} {before after : List ℕ} {t : Tally} {n : ℕ} → Counts u t → n ≡ count_of t k → Extended k r u before after
        → Extended k r past_it before (set after n (start_of u.opened at))
    grown-more {r} {before} {after} {t} {n} h n-is g =
        let start = start_of u.opened at in
        let behind : n ≡ length (u.before k) + length (starts_of (u.own k)) =
        omega (arith, h k, length-append (u.before k) (u.own k), starts-length (u.own k)) in
        record {
          same = g.same;
          others = λ j ne. others j ne ∙ g.others j ne;
          table =
              ap (λ (l : List ℕ). set l n start) g.table
              ∙ ap (λ (i : ℕ). set (overwritten_from (length (u.before k)) (starts_of (u.own k)) before) i start) behind
              ∙ stored (length (u.before k)) (starts_of (u.own k)) before start
              ∙ ap (λ (os : List ℕ). overwritten_from (length (u.before k)) os before) (sym starts);
        }
