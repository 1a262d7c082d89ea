-- Editions: document 02, Ask 4. The mark, which is the record of kind 18, is taken where it is first and refused elsewhere; a sheet that is read whole is
-- of the new edition exactly if its first byte is 18, and else has no stop.
use mathlib.Core.Path.{◌≡◌, sym, ap, ◌∙◌, subst}
use mathlib.Core.Bool.{true, false, not}
use mathlib.Core.Logic.{◌↔◌}
use mathlib.Core.List.{List, [], ◌∷◌}
use Prim.Native.Nat.{ℕ, suc, ◌≤◌, ◌<◌}
use native.Mathlib.Omega.{arith}
use lib.ListN.{length}
use lib.Dec.{T, eqb, ltb}
use borrow.Author.Tests.{eqb-true, eq-eqb, ne_eqb, lt-ltb, le-ltb, ltb-false, not-false}
use Rattle.sheet.specs.Model.{Model}
use Rattle.sheet.specs.Each.{Each}
use Rattle.sheet.specs.Sheet.{Step, event_step, call_step, pass_step, stop_step, Sheet}
use Rattle.sheet.specs.Kind.{conditions, body_length, kind_of}
use Rattle.sheet.specs.Record.{byte_at, record_at, next_at}
use Rattle.sheet.specs.Reading.{Opened, nothing, Counted, Reading, is_new, opened_past, own_past, refusal_of, past_at, whole, read_sheet}
use Rattle.sheet.specs.Decode.{step_of, sheet_of}
use Rattle.sheet_laws.specs.Names.{StopFits}
use Rattle.sheet.proofs.Each.{each_map, each-mapped}
use Rattle.sheet_laws.proofs.Take.{or-false, and-false, next_is, Took}
use Rattle.sheet_laws.proofs.Order.{is_2, is_3, is_4, nineteen}
use Rattle.sheet_laws.proofs.ReadOn.{first_taken}
use Rattle.sheet_laws.proofs.Own.{counted, each-own}
use Rattle.sheet_laws.proofs.Kind.{step-cases}
use Rattle.sheet_laws.proofs.SheetOf.{sheet-is}

-- The mark ----------------------------------------------------------------------------------------------------------------

-- a byte that is not 0 is inside the sheet
byte_inside : (s : List ℕ) → 0 < byte_at s 0 → 0 < length s
unfolding byte_at
byte_inside [] h = h
byte_inside (b ∷ s) h = omega arith

module _ (s : List ℕ) (at : ℕ) (mark : byte_at s at ≡ 18) where
  -- it has no body
  pub mark-next : next_at s at ≡ suc at
  mark-next = let none : body_length (byte_at s at) ≡ 0 = ap body_length mark in omega (arith, next_is s at)

  -- past it nothing is open, and what was counted is the same
  pub mark-past : (r : Reading) → past_at s at r ≡ record { section = conditions; opened = nothing; before = r.before; own = r.own }
  mark-past r = ap past mark
    where
      past : ℕ → Reading
      past k =
          record {
            section = (kind_of k).section;
            opened = opened_past r.opened (record_at s at) (kind_of k).section (kind_of k).role;
            before = r.before;
            own = own_past r.own (counted s at r) (kind_of k).section (kind_of k).role;
          }

  -- 19, behind the first record
  pub mark-late : 0 < at → (M : Model) (r : Reading) → is_2 M s at r ≡ false → is_3 M s at r ≡ false → is_4 M s at r ≡ false → refusal_of M s at r ≡ 19
  mark-late late M r e2 e3 e4 = nineteen M s at r e2 e3 e4 (simp (mark, lt-ltb 0 at late))

-- it is taken as the first record, on an instrument that takes its kind
pub mark-taken : (M : Model) (s : List ℕ) (r : Reading) → byte_at s 0 ≡ 18 → 18 ≤ M.kinds → r.section ≤ conditions → r.opened ≡ nothing
    → refusal_of M s 0 r ≡ 0
unfolding record_at
mark-taken M s r mark known first closed =
    let inside : next_at s 0 ≤ length s = omega (arith, mark-next s 0 mark, byte_inside s (omega (arith, mark))) in
    let none_open : eqb r.opened.section 1 ≡ false = ap (λ (o : Opened). eqb o.section 1) closed in
    rw (mark, le-ltb M.kinds 18 known, le-ltb (length s) (next_at s 0) inside, le-ltb 1 r.section first, none_open)

-- The edition of a sheet --------------------------------------------------------------------------------------------------

-- no stop
abbrev pub NoStop : Step → Type 0
NoStop (event_step p q a) = Unit {0}
NoStop (call_step c) = Unit {0}
NoStop (pass_step p q) = Unit {0}
NoStop (stop_step p) = ⊥

-- not 20
fits-now : (M : Model) (s : List ℕ) (at : ℕ) (r : Reading) → Took M s at r → StopFits (is_new s) (step_of (record_at s at))
unfolding record_at
fits-now M s at r w =
    step-cases (StopFits (is_new s)) (record_at s at) tt (λ e. tt) (λ e. tt) (λ e. tt)
    (λ e. not-false (is_new s) (and-false (eqb (byte_at s at) 19) (not (is_new s)) w.stops_new e)) tt

module _ (M : Model) (s : List ℕ) (r : Reading) (h : read_sheet M s ≡ whole r) where
  pub new_is : (sheet_of M s).new ≡ is_new s
  new_is = ap (λ (S : Sheet). S.new) (sheet-is M s r h)

  pub edition : ((sheet_of M s).new ≡ true) ↔ (byte_at s 0 ≡ 18)
  edition = (λ e. eqb-true (byte_at s 0) 18 (sym new_is ∙ e), λ e. new_is ∙ eq-eqb (byte_at s 0) 18 e)

  -- what 20 leaves
  pub stops_fit : Each (StopFits (sheet_of M s).new) (sheet_of M s).steps
  stops_fit =
      subst (λ (S : Sheet). Each (StopFits S.new) S.steps) (sym (sheet-is M s r h))
      (each-mapped (StopFits (is_new s)) (λ (c : Counted). step_of c.last)
      (each-own M s (λ at r. Unit {0}) (λ k c. StopFits (is_new s) (step_of c.last)) (λ at r w q. tt) (λ at r w q e. fits-now M s at r w) r h tt 4))

  pub no_stops : (sheet_of M s).new ≡ false → Each NoStop (sheet_of M s).steps
  no_stops old = each_map none stops_fit
    where
      none : (t : Step) → StopFits (sheet_of M s).new t → NoStop t
      none (event_step p q a) f = tt
      none (call_step c) f = tt
      none (pass_step p q) f = tt
      none (stop_step p) f = subst T (sym f ∙ old) tt

  -- an instrument that takes no kind above 17 takes no sheet of the new edition
  pub old_edition : M.kinds < 18 → (sheet_of M s).new ≡ false
  old_edition former =
      let (not0, within) = or-false (eqb (byte_at s 0) 0) (ltb M.kinds (byte_at s 0)) (first_taken M s r h).known in
      new_is ∙ ne_eqb (byte_at s 0) 18 (λ (e : byte_at s 0 ≡ 18). omega (arith, e, former, ltb-false M.kinds (byte_at s 0) within))
