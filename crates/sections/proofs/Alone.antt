-- Points, methods and steps: records that stand alone, each counted and its offset stored. One law for the three sections.
use mathlib.Core.Path.{◌≡◌, refl, sym, ap, ap₂, ◌∙◌, subst}
use mathlib.Core.Bool.{Bool, true, false, not, ◌&&◌}
use mathlib.Core.List.{List, [], ◌++◌}
use Prim.Native.Nat.{ℕ, zero, suc, ◌+◌, ◌≤◌, ◌<◌}
use native.Mathlib.Omega.{arith, by_contra}
use lib.ListN.{length, length-append, set}
use lib.Dec.{T, eqb, eqb-suc-zero, leb}
use borrow.Author.Tests.{ne_eqb, eq-eqb, not-true, not-false}
use Rattle.sheet.specs.Model.{Model}
use Rattle.sheet.specs.Kind.{Role, symbol, a_pair, counts, edition, kind_of, section_of}
use Rattle.sheet.specs.Record.{byte_at, record_at}
use Rattle.sheet.specs.Reading.{Opened, Counted, Reading, tally, start_of, starts_of, wrong_items, full, over_limit, in_condition, all_exist, refusal_of, past_at, ReadResult}
use Rattle.sheet_laws.proofs.Order.{is_4, is_19, is_20, is_5, is_6, all_named, is_9, is_18, is_24, is_26, twenty, six, seven, nine, eighteen, twenty_four, twenty-six, takes}
use Rattle.format.specs.declared.Refusal.{Refusal}
use Rattle.format.specs.declared.Refusal.TheVariants.{WrongSection, StopInOldSheet, OverLimit}
use Rattle.kinds.specs.Kinds.{primitive_kind}
use Rattle.kinds.proofs.Table.{Suits, suits, primitive-section}
use Rattle.format.proofs.Laws.{cond-by, Stood, Refuses}
use Rattle.instrument.specs.declared.Limits.{Limits}
use Rattle.instrument.specs.Model.{model_with}
use Rattle.tally.specs.declared.Tally.{Tally}
use Rattle.tally.specs.Tally.{count_of, tally_after}
use Rattle.refusals.specs.Editions.{stop_fits}
use Rattle.owners.specs.Owners.{owners_fit}
use Rattle.names.specs.Outcomes.{wrong_outcomes_at}
use Rattle.names.specs.Channels.{wrong_channel_at}
use Rattle.names.specs.Judge.{judged_at}
use Rattle.std.specs.Prelude.{Result, Ok, Err}
use Rattle.sections.specs.declared.Reached.{Reached}
use Rattle.sections.specs.Sections.{Counts, Between, Told, done, overwritten_from, Extended, Listed, Filled, NamedListed, Alone}
use Rattle.sections.proofs.Comes.{refuses, taken-on}
use Rattle.sections.proofs.Overwritten.{none_written}
use Rattle.sections.proofs.Counted.{closed, counts-more, grown-more}
use Rattle.sections.proofs.Listed.{listed_more, still-listed}
use Rattle.sections.proofs.Called.{outcomes-are, channels-are}
use Rattle.sections.proofs.Owners.{owners-are}
use Rattle.sections.proofs.Tests.{and_left, and_right, section-is, not-3, early, in_order, no-mark, stop_is, names-are, primitive-is}

and-true : (b : Bool) → b ≡ (b && true)
and-true true = refl
and-true false = refl

-- the kinds of these sections count, each by itself
stands-alone : (k : ℕ) → 2 ≤ section_of k → section_of k ≤ 4 → (kind_of k).role ≡ counts
stands-alone k low high = go (kind_of k).role (suits k)
  where
    go : (y : Role) → Suits (section_of k) y → y ≡ counts
    go (symbol takes make) e = absurd (omega arith)
    go a_pair e = absurd (omega arith)
    go counts e = refl
    go edition e = absurd (omega arith)

-- a section that begins has no offsets yet
pub begin : {k : ℕ} {r : Reading} (table : List ℕ) → r.own k ≡ [] → Extended k r r table table
begin {k} {r} table e =
    record {
      same = refl;
      others = λ j ne. refl;
      table =
          sym (none_written (length (r.before k)) table)
          ∙ ap (λ (xs : List Counted). overwritten_from (length (r.before k)) (starts_of xs) table) (sym e);
    }

-- reading has ended before the section
pub passes : {M : Model} {s : List ℕ} {o : ReadResult} {k next : ℕ} {a : Result Reached Refusal} {x : Refusal} {r : Reading} {table : List ℕ} → a ≡ Err x → Told M s o k a r → r.own k ≡ []
    → Filled M s o next a k r table table
passes {M} {s} {o} {k} {next} {r = r} {table} is told none =
    record {
      state = r;
      told = subst (λ (a : Result Reached Refusal). Told M s o next a r) (sym is) (subst (λ (a : Result Reached Refusal). Told M s o k a r) is told);
      grown = begin table none;
      listed = λ low h. h;
    }

-- none of this sheet's was counted, if the count is the one at the beginning
none_yet : (k : ℕ) (r u : Reading) (t₀ t : Tally) → u.before ≡ r.before → r.own k ≡ [] → Counts r t₀ → Counts u t
    → eqb (length (u.own k)) 0 ≡ eqb (count_of t k) (count_of t₀ k)
none_yet k r u t₀ t same none h₀ h = go (length (u.own k)) counted
  where
    at_first : count_of t₀ k ≡ length (r.before k)
    at_first = sym (h₀ k) ∙ ap (λ (xs : List Counted). length (r.before k ++ xs)) none ∙ omega (arith, length-append (r.before k) [])

    counted : count_of t k ≡ length (r.before k) + length (u.own k)
    counted = sym (h k) ∙ ap (λ (before : ℕ → List Counted). length (before k ++ u.own k)) same ∙ length-append (r.before k) (u.own k)

    go : (n : ℕ) → count_of t k ≡ length (r.before k) + n → eqb n 0 ≡ eqb (count_of t k) (count_of t₀ k)
    go zero e = sym (eq-eqb (count_of t k) (count_of t₀ k) (omega (arith, at_first)))
    go (suc n) e = eqb-suc-zero n ∙ sym (ne_eqb (count_of t k) (count_of t₀ k) (λ (same : count_of t k ≡ count_of t₀ k). omega (arith, at_first)))

module _ {l : Limits} {s : List ℕ} {o : ReadResult} {k at limit : ℕ} {t : Tally} {r : Reading} {table₀ table room : List ℕ} (a : Alone l k limit room)
    (h : Filled (model_with l) s o k (done at t) k r table₀ table) where
  abbrev M : Model
  M = model_with l

  abbrev u : Reading
  u = h.state

  b : Between M s o k at u
  b = h.told.0

  -- the end of the sheet ends the section
  pub no_more : length s ≤ at → Filled M s o (suc k) (done at t) k r table₀ table
  no_more over =
      record {
        state = u;
        told = (record { comes = b.comes; section = omega (arith, b.section); closed = b.closed; begun = λ inside low. absurd (omega arith) }, h.told.1);
        grown = h.grown;
        listed = h.listed;
      }

  module _ (before : at < length s) where
    ends : (x : Refusal) → Refuses M s at u x → Filled M s o (suc k) (Err x) k r table₀ table
    ends x e = record { state = u; told = refuses b.comes before e; grown = h.grown; listed = h.listed }

    -- 2 and 3
    pub no_record : (x : Refusal) → Refuses M s at u x → Filled M s o (suc k) (Err x) k r table₀ table
    no_record = ends

    module _ {kind q : ℕ} (w : Stood M s at kind q) where
      -- 4
      pub too-early : section_of kind < k → Filled M s o (suc k) (Err (WrongSection at)) k r table₀ table
      too-early low = ends (WrongSection at) (early w u (b.begun before) low)

      pub later-section : k < section_of kind → Filled M s o (suc k) (done at t) k r table₀ table
      later-section g =
          record {
            state = u;
            told = (
              record { comes = b.comes; section = omega (arith, b.section); closed = b.closed; begun = λ inside low. omega (arith, section-is w) },
              h.told.1,
            );
            grown = h.grown;
            listed = h.listed;
          }

      -- a record of section k
      module _ (same : section_of kind ≡ k) where
        here : section_of (byte_at s at) ≡ k
        here = section-is w ∙ same

        role : (kind_of (byte_at s at)).role ≡ counts
        role = stands-alone (byte_at s at) (omega (arith, here, a.low)) (omega (arith, here, a.high))

        not-4 : is_4 M s at u ≡ false
        not-4 =
            in_order w u (omega (arith, b.section))
            (ap (λ (o : Opened). eqb o.section 1 && not (in_condition (section_of (byte_at s at)) (kind_of (byte_at s at)).role)) b.closed)

        not-19 : is_19 M s at u ≡ false
        not-19 = no-mark w u (λ e. omega (arith, ap section_of e, a.low))

        -- 20
        pub old-stop : stop_fits s kind ≡ false → Filled M s o (suc k) (Err (StopInOldSheet at)) k r table₀ table
        old-stop e = ends (StopInOldSheet at) (twenty M s at u w.not_2 (not-3 w u) not-4 not-19 (stop_is w u ∙ ap not e), refl)

        not-5 : is_5 M s at u ≡ false
        not-5 =
            ap (λ (y : Role). wrong_items (section_of (byte_at s at)) y (length u.opened.items)) role
            ∙ and_left (eqb (section_of (byte_at s at)) 1) _ (ne_eqb _ 1 (λ (e : section_of (byte_at s at) ≡ 1). omega (arith, here, a.low)))

        limit_is : is_6 M s at u ≡ leb limit (count_of t k)
        limit_is =
            ap (λ (y : Role). over_limit M u (record_at s at) (section_of (byte_at s at)) y) role
            ∙ ap (λ (j : ℕ). full M j (tally u j)) here ∙ ap (full M k) (h.told.1 k) ∙ a.limited (count_of t k)

        module _ (fits : stop_fits s kind ≡ true) where
          not-20 : is_20 M s at u ≡ false
          not-20 = stop_is w u ∙ ap not fits

          -- 6
          pub over-limit : leb limit (count_of t k) ≡ true → Filled M s o (suc k) (Err (OverLimit at)) k r table₀ table
          over-limit e = ends (OverLimit at) (six M s at u w.not_2 (not-3 w u) not-4 not-19 not-20 not-5 (limit_is ∙ e), refl)

          -- there is room; nothing of the section was counted in this sheet where it began, and what its records name is listed
          module _ (within : leb limit (count_of t k) ≡ false) {t₀ : Tally} (counts₀ : Counts r t₀) (none : r.own k ≡ []) (ps ms : List ℕ)
              (named : NamedListed s ps ms k r) where
            under : is_6 M s at u ≡ false
            under = limit_is ∙ within

            first_is : is_9 M s at u ≡ (eqb (count_of t k) (count_of t₀ k) && primitive_kind kind)
            first_is =
                ap (λ (b : Bool). b && eqb (length (u.own 3)) 0) (primitive-is w u) ∙ go (primitive_kind kind) refl
              where
                go : (b : Bool) → primitive_kind kind ≡ b → (b && eqb (length (u.own 3)) 0) ≡ (eqb (count_of t k) (count_of t₀ k) && b)
                go true e =
                    let three : k ≡ 3 = sym same ∙ primitive-section kind e in
                    ap (λ (j : ℕ). eqb (length (u.own j)) 0) (sym three) ∙ none_yet k r u t₀ t h.grown.same none counts₀ h.told.1
                    ∙ and-true (eqb (count_of t k) (count_of t₀ k))
                go false e = sym (and_right (eqb (count_of t k) (count_of t₀ k)) false refl)

            module _ (names : all_named M s at u ≡ true) where
              methods_listed : section_of (byte_at s at) ≡ 4 → Listed s ms 3 u
              methods_listed e = still-listed s ms 3 h.grown (λ f. omega (arith, here)) (named.methods_listed (sym here ∙ e))

              outcomes-is : is_18 M s at u ≡ wrong_outcomes_at s at kind ms
              outcomes-is = outcomes-are l.events s at u (subst T (sym names) tt) ms methods_listed w.kind

              channels-is : is_26 M s at u ≡ wrong_channel_at s at kind ms
              channels-is = channels-are l.events s at u (subst T (sym names) tt) ms methods_listed w.kind

              owners-is : is_24 M s at u ≡ not (owners_fit s at kind t.methods ps)
              owners-is =
                  owners-are l.events s ps u at w.kind (h.told.1 3) (subst T (sym names) tt)
                  (λ ne. still-listed s ps 2 h.grown (λ e. ne (here ∙ sym e)) (named.points_listed (above (λ e. ne (here ∙ e)))))
                where
                  above : (k ≡ 2 → ⊥) → 2 < k
                  above ne = by_contra 3 k (λ g. ne (omega (arith, a.low)))

            -- what the code's judgement says of the record
            abbrev Judges : Result (Unit {0}) Refusal → Type 0
            Judges (Ok y) = refusal_of M s at u ≡ 0
            Judges (Err x) = Refuses M s at u x

            -- 7, 9, 18, 24 and 26
            judges : Judges (judged_at l.events s at kind (eqb (count_of t k) (count_of t₀ k)) t ps ms)
            judges =
                let exist = all_exist l.events (count_of t) (kind_of kind).fields (record_at s at).values in
                cond-by Judges (not exist)
                (λ e. (seven M s at u w.not_2 (not-3 w u) not-4 not-19 not-20 not-5 under (names-are w u h.told.1 ∙ not-true exist e), refl))
                (λ e. let names : all_named M s at u ≡ true = names-are w u h.told.1 ∙ not-false exist e in
                cond-by Judges (eqb (count_of t k) (count_of t₀ k) && primitive_kind kind)
                (λ f. (nine M s at u w.not_2 (not-3 w u) not-4 not-19 not-20 not-5 under names (first_is ∙ f), refl))
                (λ f. cond-by Judges (wrong_outcomes_at s at kind ms)
                (λ g. (eighteen M s at u w.not_2 (not-3 w u) not-4 not-19 not-20 not-5 under names (first_is ∙ f) (outcomes-is names ∙ g), refl))
                (λ g. cond-by Judges (not (owners_fit s at kind t.methods ps))
                (λ i. (
                  twenty_four M s at u w.not_2 (not-3 w u) not-4 not-19 not-20 not-5 under names (first_is ∙ f) (outcomes-is names ∙ g)
                      (owners-is names ∙ i),
                  refl,
                ))
                (λ i. cond-by Judges (wrong_channel_at s at kind ms)
                (λ j. (
                  twenty-six M s at u w.not_2 (not-3 w u) not-4 not-19 not-20 not-5 under names (first_is ∙ f) (outcomes-is names ∙ g)
                      (owners-is names ∙ i) (channels-is names ∙ j),
                  refl,
                ))
                (λ j. takes M s at u w.not_2 (not-3 w u) not-4 not-19 not-20 not-5 under names (first_is ∙ f) (outcomes-is names ∙ g)
                (owners-is names ∙ i) (channels-is names ∙ j))))))

            module _ {n n₀ : ℕ} {j : Result (Unit {0}) Refusal} (n-is : n ≡ count_of t k) (n₀-is : n₀ ≡ count_of t₀ k)
                (is : j ≡ judged_at l.events s at kind (eqb n n₀) t ps ms) where
              by_code : Judges j
              by_code = subst Judges (sym (is ∙ ap₂ (λ (n n₀ : ℕ). judged_at l.events s at kind (eqb n n₀) t ps ms) n-is n₀-is)) judges

              pub misnamed : {a : Result Reached Refusal} {x : Refusal} → a ≡ Err x → j ≡ Err x → Filled M s o (suc k) a k r table₀ table
              misnamed {x = x} told e =
                  subst (λ (a : Result Reached Refusal). Filled M s o (suc k) a k r table₀ table) (sym told) (ends x (subst Judges e by_code))

              -- the record is taken
              pub again : {t' : Tally} → j ≡ Ok tt → n < length table → t' ≡ tally_after t k → Filled M s o k (done q t') k r table₀ (set table n at)
              again {t'} e free after =
                  let t-is : Counts (past_at s at u) t' = subst (Counts (past_at s at u)) (sym after)
                  (counts-more s at u role k here (omega (arith, a.low)) (omega (arith, a.high)) h.told.1) in
                  let here-starts : start_of u.opened at ≡ at = ap (λ (o : Opened). start_of o at) b.closed in
                  record {
                    state = past_at s at u;
                    told = (
                      record {
                        comes = taken-on b.comes before w (subst Judges e by_code);
                        section = omega (arith, here);
                        closed = closed s at u role k here;
                        begun = λ inside low. absurd (omega (arith, here));
                      },
                      t-is,
                    );
                    grown =
                        subst (λ (i : ℕ). Extended k r (past_at s at u) table₀ (set table n i)) here-starts
                        (grown-more s at u role k here h.told.1 n-is h.grown);
                    listed = λ low first. listed_more s at u role k here table (n-is ∙ sym (h.told.1 k)) free (h.listed low first);
                  }
