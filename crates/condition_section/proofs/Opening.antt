-- The section of conditions: what is open in the state is what the code has begun.
use mathlib.Core.Path.{◌≡◌, refl, sym, ap, ◌∙◌, subst}
use mathlib.Core.Bool.{Bool, true, false, not, cond, ◌&&◌, ◌||◌}
use mathlib.Core.List.{List}
use Prim.Native.Nat.{ℕ, zero, suc, ◌+◌, ◌-◌, ◌≤◌, ◌<◌}
use native.Mathlib.Omega.{arith}
use lib.ListN.{length, length-drop, set}
use lib.Dec.{T, eqb, ltb, leb}
use borrow.Author.Tests.{ltb-false, le-leb, eq-eqb, eqb-true}
use Rattle.condition.specs.Condition.{Condition}
use Rattle.sheet.specs.Model.{Model, condition_limit, symbol_limit, leaf_limit}
use Rattle.sheet.specs.Kind.{Role, symbol, a_pair, counts, edition, kind_of, section_of}
use Rattle.sheet.specs.Record.{byte_at, record_at}
use Rattle.sheet.specs.Reading.{Opened, nothing, Reading, tally, start_of, in_condition, wrong_items, is_leaf, full, over_limit, refusal_of, opened_past, past_at, ReadResult, refusal, owners_from}
use Rattle.sheet_laws.proofs.Take.{next-lt}
use Rattle.sheet_laws.proofs.Order.{is_4, is_19, is_20, is_5, is_6, all_named, is_9, is_18, is_24, is_26, four, five, six, takes}
use Rattle.sheet_laws.proofs.Editions.{mark-late}
use Rattle.format.specs.declared.Refusal.{Refusal}
use Rattle.format.specs.declared.Refusal.TheVariants.{WrongSection, Unfinished, EditionNotFirst}
use Rattle.kinds.specs.Kinds.{last_kind, counts_one, takes_items, leaf_kind}
use Rattle.kinds.proofs.Table.{past-conditions, Suits, suits, names-nothing}
use Rattle.format.proofs.Laws.{cond-by, kind-there, Stood, Refuses}
use Rattle.refusals.specs.declared.Begun.{Begun}
use Rattle.refusals.specs.Step.{nothing_begun, items_of_kind, leaves_of_kind, symbol_step, end_step, ends_one, condition_step}
use Rattle.refusals.specs.Editions.{past_mark}
use Rattle.tally.specs.declared.Tally.{Tally}
use Rattle.tally.specs.Tally.{count_of, tally_after}
use Rattle.std.specs.Prelude.{Result, Ok, Err}
use Rattle.sections.specs.declared.Reached.{Reached}
use Rattle.sections.specs.Sections.{Counts, Comes, done, Extended, Filled}
use Rattle.sections.proofs.Comes.{ended, refuses, taken-on}
use Rattle.sections.proofs.Counted.{at-is, counts_same, grown-same, closed, counts-more, grown-more}
use Rattle.sections.proofs.Tests.{or_right, and_right, section-is, not-3, in_order, no-mark, no_stop, no-method, no_call, no_join, no_channel}

-- what is open is what the code has begun, from the offset `start` on; if nothing is, the next condition would start here
pub record Matches (o : Opened) (at start : ℕ) (b : Begun) : Type 0 where
  pub items : length o.items ≡ b.items
  pub symbols : o.symbols ≡ b.symbols
  pub leaves : o.leaves ≡ b.leaves
  pub starts : start_of o at ≡ start
  pub closed : b.symbols ≤ 0 → o ≡ nothing
  pub opened : 0 < b.symbols → o.section ≡ 1

pub nothing-matches : (at : ℕ) → Matches nothing at at nothing_begun
nothing-matches at =
    record { items = refl; symbols = refl; leaves = refl; starts = refl; closed = λ e. refl; opened = λ e. absurd (omega arith) }

-- what the loop keeps
pub record Opening (M : Model) (s : List ℕ) (o : ReadResult) (r : Reading) (at start : ℕ) (b : Begun) (t : Tally) (table₀ table : List ℕ) : Type 0 where
  pub state : Reading
  pub comes : Comes M s o at state
  pub section : state.section ≤ 1
  pub counts : Counts state t
  pub grown : Extended 1 r state table₀ table
  pub matches : Matches state.opened at start b
  pub marked : past_mark M.kinds s ≤ at

module _ {M : Model} {s : List ℕ} {o : ReadResult} {r : Reading} {at start : ℕ} {b : Begun} {t : Tally} {table₀ table : List ℕ}
    (h : Opening M s o r at start b t table₀ table) where
  abbrev u : Reading
  u = h.state

  -- nothing is begun, and no record of the section is left
  complete : b.symbols ≤ 0 → (at < length s → 2 ≤ section_of (byte_at s at)) → Filled M s o 2 (done at t) 1 r table₀ table
  complete none above =
      record {
        state = u;
        told = (
          record { comes = h.comes; section = omega (arith, h.section); closed = h.matches.closed none; begun = λ before low. above before },
          h.counts,
        );
        grown = h.grown;
        listed = λ low. absurd (omega arith);
      }

  pub all_read : b.symbols ≤ 0 → length s ≤ at → Filled M s o 2 (done at t) 1 r table₀ table
  all_read none over = complete none (λ before. absurd (omega arith))

  -- 8
  pub unfinished : 0 < b.symbols → length s ≤ at → Filled M s o 2 (Err (Unfinished (length s))) 1 r table₀ table
  unfinished some over =
      record {
        state = u;
        told = record {
          place = length s;
          placed = refl;
          result =
              ended h.comes over
              ∙ ap (λ (b : Bool). cond b (refusal 8 (length s) u) (cond (eqb (length (u.own 3)) 0) (refusal 9 (length s) u) (owners_from u (u.own 2))))
              (ap (ltb 0) (h.matches.opened some));
        };
        grown = h.grown;
        listed = λ low. absurd (omega arith);
      }

  module _ (before : at < length s) where
    -- a record that is refused
    pub ends : (x : Refusal) → Refuses M s at u x → Filled M s o 2 (Err x) 1 r table₀ table
    ends x e = record { state = u; told = refuses h.comes before e; grown = h.grown; listed = λ low. absurd (omega arith) }

    module _ {kind q : ℕ} (w : Stood M s at kind q) where
      module _ (outside : in_condition (section_of kind) (kind_of kind).role ≡ false) where
        -- 4
        pub still_open : 0 < b.symbols → Filled M s o 2 (Err (WrongSection at)) 1 r table₀ table
        still_open some =
            let cannot-stand = ap (λ (k : ℕ). not (in_condition (section_of k) (kind_of k).role)) w.kind ∙ ap not outside in
            let is_open : (eqb u.opened.section 1 && not (in_condition (section_of (byte_at s at)) (kind_of (byte_at s at)).role)) ≡ true =
            ap (λ (k : ℕ). eqb k 1 && not (in_condition (section_of (byte_at s at)) (kind_of (byte_at s at)).role)) (h.matches.opened some) ∙ cannot-stand in
            ends (WrongSection at) (four M s at u w.not_2 (not-3 w u) (or_right (ltb (section_of (byte_at s at)) u.section) _ is_open), refl)

        module _ (none : b.symbols ≤ 0) where
          -- 19
          pub second-mark : kind ≡ 18 → Filled M s o 2 (Err (EditionNotFirst at)) 1 r table₀ table
          second-mark is =
              let here : byte_at s at ≡ 18 = w.kind ∙ is in
              let order = in_order w u (omega (arith, h.section, ap section_of is))
              (ap (λ (o : Opened). eqb o.section 1 && not (in_condition (section_of (byte_at s at)) (kind_of (byte_at s at)).role)) (h.matches.closed none)) in
              ends (EditionNotFirst at) (mark-late s at here (behind at here h.marked) M u w.not_2 (not-3 w u) order, refl)
            where
              behind : (at : ℕ) → byte_at s at ≡ 18 → past_mark M.kinds s ≤ at → 0 < at
              behind zero here marked =
                  let one : past_mark M.kinds s ≡ 1 = simp (eq-eqb (byte_at s 0) 18 here, le-leb 18 M.kinds (omega (arith, w.high))) in
                  absurd (omega arith)
              behind (suc i) here marked = omega arith

          pub later-section : M.kinds ≤ last_kind → (kind ≡ 18 → ⊥) → Filled M s o 2 (done at t) 1 r table₀ table
          later-section highest ne =
              complete none (λ before. omega (arith, section-is w, past-conditions kind w.low (omega (arith, w.high)) outside ne))

      -- a record of a condition
      module _ (stands : in_condition (section_of kind) (kind_of kind).role ≡ true) where
        one : section_of kind ≡ 1
        one = go (kind_of kind).role (suits kind) stands
          where
            go : (y : Role) → Suits (section_of kind) y → in_condition (section_of kind) y ≡ true → section_of kind ≡ 1
            go (symbol takes-n make) suit e = suit
            go a_pair suit e = absurd (subst T (sym e) tt)
            go counts suit e = eqb-true (section_of kind) 1 e
            go edition suit e = suit

        here : section_of (byte_at s at) ≡ 1
        here = section-is w ∙ one

        stands_here : in_condition (section_of (byte_at s at)) (kind_of (byte_at s at)).role ≡ true
        stands_here = ap (λ (k : ℕ). in_condition (section_of k) (kind_of k).role) w.kind ∙ stands

        -- a kind that stands in no condition
        other : (k : ℕ) → in_condition (section_of k) (kind_of k).role ≡ false → kind ≡ k → ⊥
        other k out is = subst T (sym stands ∙ ap (λ (k : ℕ). in_condition (section_of k) (kind_of k).role) is ∙ out) tt

        not-19 : is_19 M s at u ≡ false
        not-19 = no-mark w u (other 18 refl)

        not-20 : is_20 M s at u ≡ false
        not-20 = no_stop w u (other 19 refl)

        not-4 : is_4 M s at u ≡ false
        not-4 =
            in_order w u (omega (arith, one, h.section))
            (and_right (eqb u.opened.section 1) _ (ap not stands_here))

        names : all_named M s at u ≡ true
        names = names-nothing M.events _ (byte_at s at) (λ low high. omega (arith, here)) (record_at s at).values

        no-first : is_9 M s at u ≡ false
        no-first = no-method w u (λ e. omega (arith, one))

        not-wrong : is_18 M s at u ≡ false
        not-wrong = no_call w u (λ e. omega (arith, one))

        not-owned : is_24 M s at u ≡ false
        not-owned = no_join w u (λ e. omega (arith, one)) (λ e. omega (arith, one))

        not-stray : is_26 M s at u ≡ false
        not-stray = no_channel w u (λ e. omega (arith, one))

        -- what the step tells: the record's refusal, or what is open past the record
        abbrev Goes : Begun → Type 0
        Goes b' = (refusal_of M s at u ≡ 0)
            × (ends_one (byte_at s at) ≡ true → ((kind_of (byte_at s at)).role ≡ counts) × (b' ≡ nothing_begun))
            × (ends_one (byte_at s at) ≡ false → Matches (past_at s at u).opened q start b')

        abbrev Tells : Result Begun Refusal → Type 0
        Tells (Ok b') = Goes b'
        Tells (Err x) = Refuses M s at u x

        module _ (takes-n : ℕ) (make : ℕ → Condition → Condition → Condition) (role : (kind_of (byte_at s at)).role ≡ symbol takes-n make) where
          taken_is : takes_items (kind_of (byte_at s at)).role ≡ takes-n
          taken_is = ap takes_items role

          items-is : is_5 M s at u ≡ ltb b.items (items_of_kind (byte_at s at))
          items-is =
              ap (λ (y : Role). wrong_items (section_of (byte_at s at)) y (length u.opened.items)) role
              ∙ ap (λ (n : ℕ). ltb n takes-n) h.matches.items ∙ ap (λ (n : ℕ). ltb b.items n) (sym taken_is)

          limit_is : is_6 M s at u ≡ (leb symbol_limit b.symbols || (leaf_kind (byte_at s at) && leb leaf_limit b.leaves))
          limit_is =
              ap (λ (y : Role). over_limit M u (record_at s at) (section_of (byte_at s at)) y) role
              ∙ ap (λ (n : ℕ). leb symbol_limit n || (is_leaf (record_at s at) && leb leaf_limit u.opened.leaves)) h.matches.symbols
              ∙ ap (λ (n : ℕ). leb symbol_limit b.symbols || (is_leaf (record_at s at) && leb leaf_limit n)) h.matches.leaves
              ∙ ap (λ (k : ℕ). leb symbol_limit b.symbols || (leaf_kind k && leb leaf_limit b.leaves)) (kind-there s at)

          opened-is : (past_at s at u).opened ≡ opened_past u.opened (record_at s at) 1 (symbol takes-n make)
          opened-is =
              ap (λ (y : Role). opened_past u.opened (record_at s at) (section_of (byte_at s at)) y) role
              ∙ ap (λ (k : ℕ). opened_past u.opened (record_at s at) k (symbol takes-n make)) here

          abbrev next_begun : Begun
          next_begun = record { items = b.items - items_of_kind (byte_at s at) + 1; symbols = b.symbols + 1; leaves = b.leaves + leaves_of_kind (byte_at s at) }

          more : takes-n ≤ b.items → Matches (opened_past u.opened (record_at s at) 1 (symbol takes-n make)) q start next_begun
          more enough =
              let m = h.matches in
              record {
                items = omega (arith, m.items, taken_is, length-drop takes-n u.opened.items);
                symbols = omega (arith, m.symbols);
                leaves = ap (λ (n : ℕ). n + cond (is_leaf (record_at s at)) 1 0) m.leaves ∙ ap (λ (k : ℕ). b.leaves + cond (leaf_kind k) 1 0) (kind-there s at);
                starts = ap (start_of u.opened) (at-is s at) ∙ m.starts;
                closed = λ e. absurd (omega arith);
                opened = λ e. refl;
              }

          symbol-tells : Tells (symbol_step b (byte_at s at) at)
          symbol-tells =
              cond-by Tells (ltb b.items (items_of_kind (byte_at s at)))
              (λ e. (five M s at u w.not_2 (not-3 w u) not-4 not-19 not-20 (items-is ∙ e), refl))
              (λ e. cond-by Tells (leb symbol_limit b.symbols)
              (λ f. (six M s at u w.not_2 (not-3 w u) not-4 not-19 not-20 (items-is ∙ e) (limit_is ∙ simp f), refl))
              (λ f. cond-by Tells (leaf_kind (byte_at s at) && leb leaf_limit b.leaves)
              (λ g. (six M s at u w.not_2 (not-3 w u) not-4 not-19 not-20 (items-is ∙ e) (limit_is ∙ simp (f, g)), refl))
              (λ g. (
                takes M s at u w.not_2 (not-3 w u) not-4 not-19 not-20 (items-is ∙ e) (limit_is ∙ simp (f, g)) names no-first not-wrong not-owned not-stray,
                λ true-is. absurd (subst T (sym true-is ∙ ap counts_one role) tt),
                λ false-is. subst (λ (x : Opened). Matches x q start next_begun) (sym opened-is) (more (omega (arith, ltb-false b.items (items_of_kind (byte_at s at)) e, taken_is))),
              ))))

        module _ (role : (kind_of (byte_at s at)).role ≡ counts) where
          one-item-is : is_5 M s at u ≡ not (eqb b.items 1)
          one-item-is =
              ap (λ (y : Role). wrong_items (section_of (byte_at s at)) y (length u.opened.items)) role
              ∙ ap (λ (k : ℕ). eqb k 1 && not (eqb (length u.opened.items) 1)) here ∙ ap (λ (n : ℕ). not (eqb n 1)) h.matches.items

          full_is : is_6 M s at u ≡ leb condition_limit (count_of t 1)
          full_is =
              ap (λ (y : Role). over_limit M u (record_at s at) (section_of (byte_at s at)) y) role
              ∙ ap (λ (k : ℕ). full M k (tally u k)) here ∙ ap (leb condition_limit) (h.counts 1)

          end-tells : Tells (end_step b (count_of t 1) at)
          end-tells =
              cond-by Tells (eqb b.items 1)
              (λ e. cond-by Tells (leb condition_limit (count_of t 1))
              (λ f. (six M s at u w.not_2 (not-3 w u) not-4 not-19 not-20 (one-item-is ∙ ap not e) (full_is ∙ f), refl))
              (λ f. (
                takes M s at u w.not_2 (not-3 w u) not-4 not-19 not-20 (one-item-is ∙ ap not e) (full_is ∙ f) names no-first not-wrong not-owned not-stray,
                λ true-is. (role, refl),
                λ false-is. absurd (subst T (sym (ap counts_one role) ∙ false-is) tt),
              )))
              (λ e. (five M s at u w.not_2 (not-3 w u) not-4 not-19 not-20 (one-item-is ∙ ap not e), refl))

        abbrev step : Bool → Result Begun Refusal
        step ends = cond ends (end_step b (count_of t 1) at) (symbol_step b (byte_at s at) at)

        tells : Tells (condition_step b (byte_at s at) (count_of t 1) at)
        tells = go (kind_of (byte_at s at)).role refl (suits (byte_at s at))
          where
            go : (y : Role) → (kind_of (byte_at s at)).role ≡ y → Suits (section_of (byte_at s at)) y → Tells (condition_step b (byte_at s at) (count_of t 1) at)
            go (symbol takes-n make) e suit = subst Tells (sym (ap step (ap counts_one e))) (symbol-tells takes-n make e)
            go a_pair e suit = absurd (omega (arith, here))
            go counts e suit = subst Tells (sym (ap step (ap counts_one e))) (end-tells e)
            go edition e suit = absurd (subst T (sym stands_here ∙ ap (in_condition (section_of (byte_at s at))) e) tt)

        module _ {g : Result Begun Refusal} (is : g ≡ condition_step b kind (count_of t 1) at) where
          by_code : Tells g
          by_code = subst Tells (sym (is ∙ ap (λ (k : ℕ). condition_step b k (count_of t 1) at) (sym w.kind))) tells

          -- 5 and 6
          pub no_step : {a : Result Reached Refusal} {x : Refusal} → a ≡ Err x → g ≡ Err x → Filled M s o 2 a 1 r table₀ table
          no_step {x = x} told e = subst (λ (a : Result Reached Refusal). Filled M s o 2 a 1 r table₀ table) (sym told) (ends x (subst Tells e by_code))

          module _ {b' : Begun} (e : g ≡ Ok b') where
            goes : Goes b'
            goes = subst Tells e by_code

            beyond : Comes M s o q (past_at s at u)
            beyond = taken-on h.comes before w goes.0

            beyond-mark : past_mark M.kinds s ≤ q
            beyond-mark = omega (arith, h.marked, w.next, next-lt s at)

            ends_is : ends_one kind ≡ ends_one (byte_at s at)
            ends_is = ap ends_one (sym w.kind)

            pub past-symbol : ends_one kind ≡ false → Opening M s o r q start b' t table₀ table
            past-symbol goes_on =
                let open-still = sym ends_is ∙ goes_on in
                record {
                  state = past_at s at u;
                  comes = beyond;
                  section = omega (arith, here);
                  counts = counts_same s at u open-still h.counts;
                  grown = grown-same s at u open-still h.grown;
                  matches = goes.2 open-still;
                  marked = beyond-mark;
                }

            pub past_end : {t' : Tally} → ends_one kind ≡ true → t' ≡ tally_after t 1 → Opening M s o r q q b' t' table₀ (set table (count_of t 1) start)
            past_end {t'} ends-here after =
                let (role, none) = goes.1 (sym ends_is ∙ ends-here) in
                record {
                  state = past_at s at u;
                  comes = beyond;
                  section = omega (arith, here);
                  counts = subst (Counts (past_at s at u)) (sym after) (counts-more s at u role 1 here (omega arith) (omega arith) h.counts);
                  grown =
                      subst (λ (i : ℕ). Extended 1 r (past_at s at u) table₀ (set table (count_of t 1) i)) h.matches.starts
                      (grown-more s at u role 1 here h.counts refl h.grown);
                  matches =
                      subst (λ (b : Begun). Matches (past_at s at u).opened q q b) (sym none)
                      (subst (λ (o : Opened). Matches o q q nothing_begun) (sym (closed s at u role 1 here)) (nothing-matches q));
                  marked = beyond-mark;
                }
