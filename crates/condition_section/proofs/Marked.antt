-- The start of the section of conditions: behind the mark of the edition, if there is one.
use mathlib.Core.Path.{◌≡◌, refl, sym, ap, ◌∙◌, subst}
use mathlib.Core.Bool.{Bool, true, false, cond, ◌&&◌, ◌||◌}
use mathlib.Core.List.{List, []}
use Prim.Native.Nat.{ℕ, ◌≤◌}
use native.Mathlib.Omega.{arith}
use lib.Dec.{eqb, ltb, leb}
use borrow.Author.Tests.{le-ltb, leb-true, eqb-true}
use Rattle.sheet.specs.Model.{Model}
use Rattle.sheet.specs.Kind.{edition, kind_of, section_of}
use Rattle.sheet.specs.Record.{byte_at}
use Rattle.sheet.specs.Reading.{Opened, nothing, Reading, is_new, refusal_of, past_at, ReadResult}
use Rattle.sheet_laws.proofs.Editions.{mark-taken, mark-next, mark-past}
use Rattle.kinds.specs.Kinds.{counts_one}
use Rattle.format.proofs.Laws.{inside, Stood}
use Rattle.refusals.specs.declared.Begun.{Begun}
use Rattle.refusals.specs.Step.{nothing_begun}
use Rattle.refusals.specs.Editions.{past_mark}
use Rattle.tally.specs.declared.Tally.{Tally}
use Rattle.sections.specs.Sections.{Told, done}
use Rattle.sections.proofs.Comes.{taken-on}
use Rattle.sections.proofs.Counted.{counts_same, grown-same}
use Rattle.sections.proofs.Alone as alone
use Rattle.condition_section.proofs.Opening.{Matches, nothing-matches, Opening}

module _ {M : Model} {s : List ℕ} {o : ReadResult} {r : Reading} {t : Tally} (table : List ℕ) (told : Told M s o 0 (done 0 t) r) (none : r.own 1 ≡ []) where
  abbrev Starts : ℕ → Type 0
  Starts at = Opening M s o r at at nothing_begun t table table

  -- without a mark reading has come to the first record
  unmarked : past_mark M.kinds s ≤ 0 → Starts 0
  unmarked no-mark =
      record {
        state = r;
        comes = told.0.comes;
        section = omega (arith, told.0.section);
        counts = told.1;
        grown = alone.begin table none;
        matches = subst (λ (o : Opened). Matches o 0 0 nothing_begun) (sym told.0.closed) (nothing-matches 0);
        marked = no-mark;
      }

  -- the mark is taken: past it the state is one record on, in section 1, with nothing open and nothing counted
  module _ (new : is_new s ≡ true) (known : leb 18 M.kinds ≡ true) where
    here : byte_at s 0 ≡ 18
    here = eqb-true (byte_at s 0) 18 new

    mark : Stood M s 0 18 1
    mark =
        let high = leb-true 18 M.kinds known in
        record {
          kind = here;
          next = mark-next s 0 here;
          low = omega arith;
          high = high;
          inside = omega (arith, mark-next s 0 here, inside s 0 (omega (arith, here)));
          not_2 = ap (λ (k : ℕ). eqb k 0 || ltb M.kinds k) here ∙ le-ltb M.kinds 18 high;
        }

    role : (kind_of (byte_at s 0)).role ≡ edition
    role = ap (λ (k : ℕ). (kind_of k).role) here

    taken : refusal_of M s 0 r ≡ 0
    taken = mark-taken M s r here (leb-true 18 M.kinds known) (omega (arith, told.0.section)) told.0.closed

    past-mark : past_mark M.kinds s ≤ 1 → Starts 1
    past-mark one =
        let no-count = ap counts_one role in
        let nothing-open : (past_at s 0 r).opened ≡ nothing = ap (λ (u : Reading). u.opened) (mark-past s 0 here r) in
        record {
          state = past_at s 0 r;
          comes = taken-on told.0.comes (inside s 0 (omega (arith, here))) mark taken;
          section = omega (arith, ap section_of here);
          counts = counts_same s 0 r no-count told.1;
          grown = grown-same s 0 r no-count (alone.begin table none);
          matches = subst (λ (o : Opened). Matches o 1 1 nothing_begun) (sym nothing-open) (nothing-matches 1);
          marked = one;
        }

  mark-is : {new known : Bool} → is_new s ≡ new → leb 18 M.kinds ≡ known → past_mark M.kinds s ≡ cond (new && known) 1 0
  mark-is e f = simp (e, f)

  starts : (new known : Bool) → is_new s ≡ new → leb 18 M.kinds ≡ known → Starts (cond (new && known) 1 0)
  starts true true e f = past-mark e f (omega (arith, mark-is e f))
  starts true false e f = unmarked (omega (arith, mark-is e f))
  starts false known e f = unmarked (omega (arith, mark-is e f))

  pub begin : {b : Begun} {at : ℕ} → b ≡ nothing_begun → at ≡ past_mark M.kinds s → Opening M s o r at at b t table table
  begin {at = at} nothing-begun is =
      subst (λ (b : Begun). Opening M s o r at at b t table table) (sym nothing-begun) (subst Starts (sym is) (starts (is_new s) (leb 18 M.kinds) refl refl))
