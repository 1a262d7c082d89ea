-- The section of certificates, and the end of the sheet.
use mathlib.Core.Path.{◌≡◌, refl, sym, ap, ap₂, ◌∙◌, subst}
use mathlib.Core.Bool.{Bool, true, false, cond}
use mathlib.Core.Option.{Option, some}
use mathlib.Core.Option as option
use mathlib.Core.List.{List, [], ◌∷◌, ◌++◌}
use Prim.Native.Nat.{ℕ, ◌≤◌, ◌<◌}
use native.Mathlib.Omega.{arith}
use lib.ListN.{length, get_or, take}
use lib.Dec.{T, eqb, ltb}
use borrow.Author.Tests.{ne_eqb, eq-eqb, ltb-false}
use Rattle.sheet.specs.Model.{Model}
use Rattle.sheet.specs.Kind.{Role, symbol, a_pair, counts, edition, kind_of, section_of}
use Rattle.sheet.specs.Record.{byte_at, record_at}
use Rattle.sheet.specs.Reading.{Opened, Counted, Reading, tally, start_of, starts_of, wrong_items, full, over_limit, refusal_of, opened_past, past_at, ReadResult, refusal, owners_from, at_end}
use Rattle.sheet_laws.proofs.Order.{is_4, is_5, is_6, takes}
use Rattle.format.specs.declared.Refusal.{Refusal}
use Rattle.format.specs.declared.Refusal.TheVariants.{WrongSection, Unfinished, NoFirstBody}
use Rattle.kinds.specs.Kinds.{counts_one}
use Rattle.kinds.proofs.Table.{section-high, Suits, suits, names-nothing}
use Rattle.format.proofs.Laws.{Stood, Refuses}
use Rattle.tally.specs.declared.Tally.{Tally}
use Rattle.tally.specs.Tally.{count_of, tally_after}
use Rattle.owners.specs.Owners.{stray_in}
use Rattle.sections.specs.declared.Contents.{Contents}
use Rattle.std.specs.Prelude.{Result, Err}
use Rattle.sections.specs.Sections.{Counts, Comes, Told, done, Answers, whole_unless, end_of, Concluded, FirstSheet}
use Rattle.sections.proofs.Comes.{ended, refuses, taken-on}
use Rattle.sections.proofs.Counted.{at-is, own_same, counts_same, closed, others, starts, counts-more}
use Rattle.sections.proofs.Tests.{and_left, section-is, not-3, early, in_order, no-mark, no_stop, no-method, no_call, no_join, no_channel}
use Rattle.sections.proofs.Listed.{Leads}
use Rattle.sections.proofs.Owners.{owners_told, strays-are}

-- what the loop keeps: whether a certificate is open, and that the first one starts where the section does
pub record Ending (M : Model) (s : List ℕ) (o : ReadResult) (r : Reading) (from at : ℕ) (t : Tally) (inside : Bool) : Type 0 where
  pub state : Reading
  pub comes : Comes M s o at state
  pub section : state.section ≤ 5
  pub begun : at < length s → state.section < 5 → 5 ≤ section_of (byte_at s at)
  pub counts : Counts state t
  pub others : (j : ℕ) → (j ≡ 5 → ⊥) → state.own j ≡ r.own j
  pub same : state.before ≡ r.before
  pub no_condition : eqb state.opened.section 1 ≡ false
  pub is_inside : ltb 0 state.opened.section ≡ inside
  pub first : get_or (starts_of (state.own 5)) 0 (start_of state.opened at) ≡ from

pub begin : {M : Model} {s : List ℕ} {o : ReadResult} {r : Reading} {from : ℕ} {t : Tally} → Told M s o 5 (done from t) r → r.own 5 ≡ []
    → Ending M s o r from from t false
begin {r = r} {from} (b, counted) none =
    record {
      state = r;
      comes = b.comes;
      section = b.section;
      begun = b.begun;
      counts = counted;
      others = λ j ne. refl;
      same = refl;
      no_condition = ap (λ (o : Opened). eqb o.section 1) b.closed;
      is_inside = ap (λ (o : Opened). ltb 0 o.section) b.closed;
      first =
          ap (λ (xs : List Counted). get_or (starts_of xs) 0 (start_of r.opened from)) none
          ∙ ap (λ (o : Opened). start_of o from) b.closed;
    }

first_of : (os : List ℕ) (o d : ℕ) → get_or (os ++ (o ∷ [])) 0 d ≡ get_or os 0 o
first_of [] o d = refl
first_of (p ∷ os) o d = refl

module _ {M : Model} {s : List ℕ} {o : ReadResult} {r : Reading} {from at : ℕ} {t : Tally} {inside : Bool} (h : Ending M s o r from at t inside) where
  abbrev u : Reading
  u = h.state

  module _ (before : at < length s) where
    -- a record that is refused
    pub ends : (x : Refusal) → Refuses M s at u x → Concluded s o r (Err x)
    ends x e = record { state = u; answers = refuses h.comes before e; others = h.others }

    module _ {kind q : ℕ} (w : Stood M s at kind q) where
      -- 4
      pub too-early : section_of kind < 5 → Concluded s o r (Err (WrongSection at))
      too-early low = ends (WrongSection at) (early w u (h.begun before) low)

      -- Past a record -----------------------------------------------------------------------------------------------

      module _ (high : 5 ≤ section_of kind) where
        same : section_of kind ≡ 5
        same = omega (arith, section-high kind)

        here : section_of (byte_at s at) ≡ 5
        here = section-is w ∙ same

        not-4 : is_4 M s at u ≡ false
        not-4 = in_order w u (omega (arith, h.section, same)) (and_left (eqb u.opened.section 1) _ h.no_condition)

        -- not 5 and not 6
        no-limit : (is_5 M s at u ≡ false) × (is_6 M s at u ≡ false)
        no-limit = go (kind_of (byte_at s at)).role (suits (byte_at s at))
          where
            go : (y : Role) → Suits (section_of (byte_at s at)) y
                → (wrong_items (section_of (byte_at s at)) y (length u.opened.items) ≡ false) × (over_limit M u (record_at s at) (section_of (byte_at s at)) y ≡ false)
            go (symbol takes make) suit = absurd (omega (arith, here))
            go a_pair suit = (refl, refl)
            go counts suit = (
              and_left (eqb (section_of (byte_at s at)) 1) _ (ne_eqb _ 1 (λ (e : section_of (byte_at s at) ≡ 1). omega (arith, here))),
              ap (λ (k : ℕ). full M k (tally u k)) here,
            )
            go edition suit = absurd (omega (arith, here))

        taken : refusal_of M s at u ≡ 0
        taken =
            takes M s at u w.not_2 (not-3 w u) not-4 (no-mark w u (λ e. omega (arith, ap section_of e, same))) (no_stop w u (λ e. omega (arith, ap section_of e, same)))
            no-limit.0 no-limit.1
            (names-nothing M.events (tally u) (byte_at s at) (λ low high. omega (arith, here)) (record_at s at).values) (no-method w u (λ e. omega (arith, same)))
            (no_call w u (λ e. omega (arith, same))) (no_join w u (λ e. omega (arith, same)) (λ e. omega (arith, same))) (no_channel w u (λ e. omega (arith, same)))

        beyond : Comes M s o q (past_at s at u)
        beyond = taken-on h.comes before w taken

        counts-is : counts_one (kind_of (byte_at s at)).role ≡ counts_one (kind_of kind).role
        counts-is = ap (λ (k : ℕ). counts_one (kind_of k).role) w.kind

        pub past-pair : counts_one (kind_of kind).role ≡ false → Ending M s o r from q t true
        past-pair no_end =
            let goes_on = counts-is ∙ no_end in
            let same-own = own_same s at u goes_on in
            let opened-is : (past_at s at u).opened ≡ opened_past u.opened (record_at s at) 5 a_pair = opened-past goes_on in
            record {
              state = past_at s at u;
              comes = beyond;
              section = omega (arith, here);
              begun = λ before low. absurd (omega (arith, here));
              counts = counts_same s at u goes_on h.counts;
              others = λ j ne. ap (λ (own : ℕ → List Counted). own j) same-own ∙ h.others j ne;
              same = h.same;
              no_condition = ap (λ (o : Opened). eqb o.section 1) opened-is;
              is_inside = ap (λ (o : Opened). ltb 0 o.section) opened-is;
              first =
                  ap (λ (own : ℕ → List Counted). get_or (starts_of (own 5)) 0 (start_of (past_at s at u).opened q)) same-own
                  ∙ ap (λ (o : Opened). get_or (starts_of (u.own 5)) 0 (start_of o q)) opened-is
                  ∙ ap (λ (i : ℕ). get_or (starts_of (u.own 5)) 0 (start_of u.opened i)) (at-is s at) ∙ h.first;
            }
          where
            by-role : (y : Role) → Suits (section_of (byte_at s at)) y → counts_one y ≡ false
                → opened_past u.opened (record_at s at) (section_of (byte_at s at)) y ≡ opened_past u.opened (record_at s at) 5 a_pair
            by-role (symbol takes make) suit e = absurd (omega (arith, here))
            by-role a_pair suit e = ap (λ (k : ℕ). opened_past u.opened (record_at s at) k a_pair) here
            by-role counts suit e = absurd (subst T e tt)
            by-role edition suit e = absurd (omega (arith, here))

            opened-past : counts_one (kind_of (byte_at s at)).role ≡ false → (past_at s at u).opened ≡ opened_past u.opened (record_at s at) 5 a_pair
            opened-past e = by-role (kind_of (byte_at s at)).role (suits (byte_at s at)) e

        pub past_end : {t' : Tally} → counts_one (kind_of kind).role ≡ true → t' ≡ tally_after t 5 → Ending M s o r from q t' false
        past_end {t'} ends-here after =
            let role = by-role (kind_of (byte_at s at)).role (counts-is ∙ ends-here) in
            let closed_is = closed s at u role 5 here in
            record {
              state = past_at s at u;
              comes = beyond;
              section = omega (arith, here);
              begun = λ before low. absurd (omega (arith, here));
              counts = subst (Counts (past_at s at u)) (sym after) (counts-more s at u role 5 here (omega arith) (omega arith) h.counts);
              others = λ j ne. others s at u role 5 here j ne ∙ h.others j ne;
              same = h.same;
              no_condition = ap (λ (o : Opened). eqb o.section 1) closed_is;
              is_inside = ap (λ (o : Opened). ltb 0 o.section) closed_is;
              first =
                  ap (λ (os : List ℕ). get_or os 0 (start_of (past_at s at u).opened q)) (starts s at u role 5 here)
                  ∙ first_of (starts_of (u.own 5)) (start_of u.opened at) (start_of (past_at s at u).opened q) ∙ h.first;
            }
          where
            by-role : (y : Role) → counts_one y ≡ true → y ≡ counts
            by-role (symbol takes make) e = absurd (subst T (sym e) tt)
            by-role a_pair e = absurd (subst T (sym e) tt)
            by-role counts e = refl
            by-role edition e = absurd (subst T (sym e) tt)

  -- The end of the sheet ----------------------------------------------------------------------------------------------

  module _ (over : length s ≤ at) {table : List ℕ} (sheet : FirstSheet s table r) where
    none_before : u.before ≡ (λ k. [])
    none_before = h.same ∙ sheet.none_before

    counted : (k : ℕ) → count_of t k ≡ length (u.own k)
    counted k = sym (h.counts k) ∙ ap (λ (before : ℕ → List Counted). length (before k ++ u.own k)) none_before

    -- 25 by the table
    owners-told : owners_from u (u.own 2) ≡ owners_told u (stray_in s t.methods (take t.points table))
    owners-told =
        let before = ap (λ (before : ℕ → List Counted). before 2 ++ r.own 2) sheet.none_before in
        strays-are s u (u.own 2) table (subst (Leads s table) (before ∙ sym (h.others 2 (λ e. omega arith))) sheet.points_listed)
        ∙ ap₂ (λ (m n : ℕ). owners_told u (stray_in s m (take n table))) (h.counts 3) (sym (counted 2))

    abbrev c : Contents
    c = record { tally = t; certificates = from }

    -- 8, 9 and 25, or all is read
    answered : (b d : Bool) (stray : Option ℕ) → ltb 0 u.opened.section ≡ b → eqb (length (u.own 3)) 0 ≡ d → owners_from u (u.own 2) ≡ owners_told u stray
        → Answers s o (cond b (Err (Unfinished (length s))) (cond d (Err (NoFirstBody (length s))) (whole_unless c stray))) u
    answered b d stray e f g = go b d stray e (ended h.comes over ∙ at-end)
      where
        at-end : at_end s u ≡ cond b (refusal 8 (length s) u) (cond d (refusal 9 (length s) u) (owners_told u stray))
        at-end =
            ap₂ (λ (b d : Bool). cond b (refusal 8 (length s) u) (cond d (refusal 9 (length s) u) (owners_from u (u.own 2)))) e f
            ∙ ap (λ (x : ReadResult). cond b (refusal 8 (length s) u) (cond d (refusal 9 (length s) u) x)) g

        at_length : at ≡ length s
        at_length = omega (arith, h.comes.inside)

        start-here : ltb 0 u.opened.section ≡ false → start_of u.opened at ≡ at
        start-here out = ap (λ (b : Bool). cond b at u.opened.start) (eq-eqb u.opened.section 0 (omega (arith, ltb-false 0 u.opened.section out)))

        go : (b d : Bool) (stray : Option ℕ) → ltb 0 u.opened.section ≡ b
            → o ≡ cond b (refusal 8 (length s) u) (cond d (refusal 9 (length s) u) (owners_told u stray))
            → Answers s o (cond b (Err (Unfinished (length s))) (cond d (Err (NoFirstBody (length s))) (whole_unless c stray))) u
        go true d stray out is = record { place = length s; placed = refl; result = is }
        go false true stray out is = record { place = length s; placed = refl; result = is }
        go false false (some p) out is = record { place = p; placed = refl; result = is }
        go false false option.none out is = (is, h.counts, sym h.first ∙ ap (get_or (starts_of (u.own 5)) 0) (start-here out ∙ at_length))

    pub concluded : {a : Result Contents Refusal} → a ≡ end_of s inside c table → Concluded s o r a
    concluded {a} is =
        record { state = u; answers = subst (λ (a : Result Contents Refusal). Answers s o a u) (sym is) answers; others = h.others }
      where
        answers : Answers s o (end_of s inside c table) u
        answers =
            answered inside (eqb t.methods 0) (stray_in s t.methods (take t.points table)) h.is_inside (ap (λ (n : ℕ). eqb n 0) (sym (counted 3)))
            owners-told
