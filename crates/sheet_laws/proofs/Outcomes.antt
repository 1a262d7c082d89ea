-- Outcomes fit in a sheet that is read whole: a method with body has a failed exit exactly if it has two outcomes, and a call has a failed target exactly
-- if the method that it names has two outcomes, which is what 18 leaves.
use mathlib.Core.Path.{◌≡◌, refl, sym, ap, ◌∙◌, subst}
use mathlib.Core.Bool.{Bool, true, false, cond, ◌&&◌}
use mathlib.Core.Option.{Option, none, some}
use mathlib.Core.List.{List}
use Prim.Native.Nat.{ℕ, ◌<◌}
use native.Mathlib.Omega.{arith}
use lib.ListN.{get_elem?}
use lib.Dec.{eqb, ltb→lt}
use borrow.Author.Tests.{not-false}
use Rattle.sheet.specs.Model.{Model}
use Rattle.sheet.specs.Sheet.{failed, Declared, Body, Method, Sheet, is_some, declared_in}
use Rattle.sheet.specs.Kind.{methods}
use Rattle.sheet.specs.Record.{Record, byte_at, record_at, value}
use Rattle.sheet.specs.Reading.{Counted, Reading, tally, is_new, is_primitive, has_two_outcomes, record_named, two_outcomes_in, wrong_outcomes, whole, read_sheet}
use Rattle.sheet.specs.Decode.{method_of, step_of, sheet_read, sheet_of}
use Rattle.sheet_laws.specs.Names.{ExitsFit, TargetsFit, OutcomesFit}
use Rattle.sheet.proofs.Each.{each_all, each-mapped}
use Rattle.sheet_laws.proofs.Take.{or-false, and-false, Took}
use Rattle.sheet_laws.proofs.States.{Later, each-later, named-then}
use Rattle.sheet_laws.proofs.Kind.{step-cases}
use Rattle.sheet_laws.proofs.SheetOf.{sheet-is}
use Rattle.sheet_laws.proofs.Named.{taken-exists}
use Rattle.sheet_laws.proofs.Channels.{named-plain}

-- The method that a call names --------------------------------------------------------------------------------------------

module _ (M : Model) (s : List ℕ) (r : Reading) (h : read_sheet M s ≡ whole r) where
  abbrev S : Sheet
  S = sheet_read (is_new s) r.own

  -- a method that was counted before has two outcomes exactly if it has them in the sheet
  fails-as : {u : Reading} → Later u r → (m : ℕ) → m < tally u methods
      → two_outcomes_in (record_named u methods m) ≡ is_some (declared_in failed (get_elem? S.methods m))
  fails-as later =
      named-then M s r h two_outcomes_in (λ (x : Option Method). is_some (declared_in failed x)) method_of refl (λ x. failing (has_two_outcomes x) _) later methods
    where
      failing : (b : Bool) (d : Declared) → b ≡ is_some (cond b (some d) none)
      failing true d = refl
      failing false d = refl

  -- a call of kinds 11 and 22 names a method with one outcome, one of kind 17 a method with two: not 18, not 26, and not 7
  target_fits : (at : ℕ) (u : Reading) → Took M s at u → Later u r → TargetsFit S (step_of (record_at s at))
  unfolding record_at
  target_fits at u w later =
      let (no-11, no-17) = or-false (eqb (byte_at s at) 11 && two_outcomes_in (record_named u methods (value (record_at s at) 2))) _ w.outcomes in
      step-cases (TargetsFit S) (record_at s at) tt
      (λ e. sym (and-false (eqb (byte_at s at) 11) _ no-11 e) ∙ fails-as later _ (ltb→lt _ _ (taken-exists M s at u w 11 e 2 (omega arith))))
      (λ e. sym (not-false _ (and-false (eqb (byte_at s at) 17) _ no-17 e)) ∙ fails-as later _ (ltb→lt _ _ (taken-exists M s at u w 17 e 3 (omega arith))))
      (λ e. ap is_some (sym (named-plain M s r h at u w later e).1))
      (λ e. tt) tt

exit-fits : (x : Record) → ExitsFit (method_of x).failing (method_of x).body
exit-fits x = go (is_primitive x) (has_two_outcomes x) _
  where
    with-exit : Bool → Body
    with-exit two = record { entry = value x 3; exit = value x 4; failed_exit = cond two (some (value x 7)) none }

    go : (primitive two : Bool) (d : Declared) → ExitsFit (cond two (some d) none) (cond primitive none (some (with-exit two)))
    go true two d = tt
    go false true d = refl
    go false false d = refl

pub outcomes_fit : (M : Model) (s : List ℕ) (r : Reading) → read_sheet M s ≡ whole r → OutcomesFit (sheet_of M s)
outcomes_fit M s r h =
    subst OutcomesFit (sym (sheet-is M s r h))
    (record {
      exits_fit =
          each-mapped (λ (x : Method). ExitsFit x.failing x.body) (λ (c : Counted). method_of c.last)
          (each_all (λ (c : Counted). exit-fits c.last) {xs = r.own 3});
      targets_fit =
          each-mapped (TargetsFit (sheet_read (is_new s) r.own)) (λ (c : Counted). step_of c.last)
          (each-later M s r h (λ x. TargetsFit (sheet_read (is_new s) r.own) (step_of x)) (target_fits M s r h) 4);
    })

-- 18 applies to no record but a call
pub never-wrong : (s : List ℕ) (at : ℕ) (r : Reading) → eqb (byte_at s at) 11 ≡ false → eqb (byte_at s at) 17 ≡ false → wrong_outcomes r (record_at s at) ≡ false
unfolding record_at
never-wrong s at r e f = rw (e, f)
