-- What an instrument that takes fewer kinds judges by. Without the kinds 18 and 19 the sheets that it reads are of the old edition, so none of their rules is
-- 25 or 26. With document 01's kinds alone they have no second outcome either, so their rules are that document's seventeen, and the count is its formula.
use mathlib.Core.Path.{◌≡◌, refl, sym, ap, ◌∙◌, subst}
use mathlib.Core.Bool.{Bool, true, false, cond}
use mathlib.Core.Logic.{◌⊎◌, inl, inr}
use mathlib.Core.Option.{Option, none, some}
use mathlib.Core.List.{List, [], ◌∷◌}
use Prim.Native.Nat.{ℕ, ◌<◌}
use native.Mathlib.Omega.{arith}
use lib.ListN.{get_elem?}
use lib.Dec.{T, eqb, ltb}
use borrow.Author.Tests.{eqb-true, ltb-false, ne_eqb}
use Rattle.condition.specs.Condition.{Word}
use Rattle.sheet.specs.Model.{Model}
use Rattle.sheet.specs.Each.{Each}
use Rattle.sheet.specs.Sheet.{Outcome, normal, failed, Body, Method, CallStep, Step, event_step, call_step, pass_step, stop_step, Sheet, body_in, body, exit_in, target_for}
use Rattle.sheet.specs.Record.{Record, byte_at, record_at, value}
use Rattle.sheet.specs.Reading.{Counted, Reading, is_primitive, has_two_outcomes, whole, read_sheet}
use Rattle.sheet.specs.Decode.{method_of, step_of, sheet_of}
use Rattle.sheet.proofs.Each.{each_map, each-mapped, each-get}
use Rattle.sheet_laws.proofs.Take.{or-false}
use Rattle.sheet_laws.proofs.Own.{each-own}
use Rattle.sheet_laws.proofs.Kind.{step-cases}
use Rattle.sheet_laws.proofs.SheetOf.{sheet-is}
use Rattle.sheet_laws.proofs.Editions.{NoStop, no_stops, old_edition as unmarked}
use Rattle.verdict.specs.Facts.{OldEdition, OneOutcome}
use Rattle.runs.specs.Runs.{Call, State, return, by_step, new_call, open_call, make_call, try_step, try_return, move}
use Rattle.runs.specs.Rules.{how_many, failed_exits, failed_exit_count, failed_call_count, stop_count}
use Rattle.runs.proofs.Moves.{step-without-target, return-without-exit}
use Rattle.runs.proofs.Earlier.{twenty_four, seventeen, formula}

-- no method has a failed exit, and no call a failed target
pub record NoFailing (S : Sheet) : Type 0 where
  pub exits : Each (λ (x : Method). failed_exit_count x ≡ 0) S.methods
  pub targets : Each (λ (t : Step). failed_call_count t ≡ 0) S.steps

-- Of what is read ---------------------------------------------------------------------------------------------------------------

-- kinds below 15
module _ (x : Record) (former : x.kind < 15) where
  not-two : has_two_outcomes x ≡ false
  not-two = simp (ne_eqb x.kind 15 (λ e. omega (arith, e, former)), ne_eqb x.kind 16 (λ e. omega (arith, e, former)))

  no-failed-exit : failed_exit_count (method_of x) ≡ 0
  no-failed-exit = go (is_primitive x) (has_two_outcomes x) not-two
    where
      go : (primitive two : Bool) → two ≡ false
          → failed_exits (cond primitive none (some (record { entry = value x 3; exit = value x 4; failed_exit = cond two (some (value x 7)) none }))) ≡ 0
      go true two e = refl
      go false true e = absurd (subst T e tt)
      go false false e = refl

  no-failed-target : failed_call_count (step_of x) ≡ 0
  no-failed-target =
      step-cases (λ (t : Step). failed_call_count t ≡ 0) x refl (λ e. refl) (λ e. absurd (omega (arith, former, eqb-true x.kind 17 e))) (λ e. refl) (λ e. refl) refl

module _ (M : Model) (s : List ℕ) (r : Reading) (read : read_sheet M s ≡ whole r) (former : M.kinds < 15) where
  known : (k : ℕ) → Each (λ (c : Counted). c.last.kind < 15) (r.own k)
  unfolding record_at
  known =
      each-own M s (λ at r. Unit {0}) (λ k c. c.last.kind < 15) (λ at r w q. tt)
      (λ at r w q e.
      let (not0, within) = or-false (eqb (byte_at s at) 0) (ltb M.kinds (byte_at s at)) w.known in
      omega (arith, former, ltb-false M.kinds (byte_at s at) within))
      r read tt

  pub no-failing : NoFailing (sheet_of M s)
  no-failing =
      subst NoFailing (sym (sheet-is M s r read))
      (record {
        exits = each-mapped (λ (x : Method). failed_exit_count x ≡ 0) (λ (c : Counted). method_of c.last) (each_map (λ (c : Counted). no-failed-exit c.last) (known 3));
        targets = each-mapped (λ (t : Step). failed_call_count t ≡ 0) (λ (c : Counted). step_of c.last) (each_map (λ (c : Counted). no-failed-target c.last) (known 4));
      })

-- The old edition ---------------------------------------------------------------------------------------------------------------

-- a sheet that is not marked as new has no stop
not-stopping : (t : Step) → NoStop t → stop_count t ≡ 0
not-stopping (event_step p q a) h = refl
not-stopping (call_step t) h = refl
not-stopping (pass_step p q) h = refl
not-stopping (stop_step p) h = absurd h

module _ (M : Model) (s : List ℕ) (r : Reading) (read : read_sheet M s ≡ whole r) where
  pub old_edition : M.kinds < 18 → OldEdition (sheet_of M s)
  old_edition former =
      let old = unmarked M s r read former in
      let none = each_map not-stopping (no_stops M s r read old) in
      record { unmarked = old; no_stops = none; twenty_four = twenty_four (sheet_of M s) old none }

  -- and with one outcome it is a sheet of document 01
  pub one_outcome : M.kinds < 15 → OneOutcome (sheet_of M s)
  one_outcome former =
      let old = old_edition (omega (arith, former)) in
      let one = no-failing M s r read former in
      record {
        exits = one.exits;
        targets = one.targets;
        seventeen = seventeen (sheet_of M s) old.unmarked old.no_stops one.exits one.targets;
        formula = formula (sheet_of M s) old.unmarked old.no_stops one.exits one.targets;
      }

-- Runs without a second outcome: a failing move changes nothing, or its outcome is not read ------------------------------------------

-- what is not there
nothing : {A : Type 0} (x : Option A) → how_many x ≡ 0 → x ≡ none
nothing none e = refl
nothing (some a) e = absurd (omega (arith, e))

no-exit : (b : Option Body) → failed_exits b ≡ 0 → exit_in failed b ≡ none
no-exit none e = refl
no-exit (some b) e = nothing b.failed_exit e

-- of the step with a number, if there is one
abbrev NoTarget : Option Step → Type 0
NoTarget none = Unit {0}
NoTarget (some t) = failed_call_count t ≡ 0

module _ (S : Sheet) (one : NoFailing S) (s : State) where
  either_way : (b : Bool) → cond b s s ≡ s
  either_way true = refl
  either_way false = refl

  no-exit-of : (m : ℕ) → exit_in failed (body S m) ≡ none
  no-exit-of = each-get (λ (x : Option Method). exit_in failed (body_in x) ≡ none) refl (each_map (λ (x : Method). no-exit x.body) one.exits)

  pub failing-return : move S s (return failed) ≡ s
  unfolding move
  failing-return = go s.open_calls refl
    where
      go : (cs : List Call) → s.open_calls ≡ cs → move S s (return failed) ≡ s
      go [] e = ap (λ (cs : List Call). cond s.ended s (try_return S s failed cs)) e ∙ either_way s.ended
      go (c ∷ cs) e = return-without-exit S s failed c cs e (no-exit-of c.method)

  module _ (i : ℕ) (w : Word) where
    abbrev AsNormal : Type 0
    AsNormal = (move S s (by_step i failed w) ≡ s) ⊎ (move S s (by_step i failed w) ≡ move S s (by_step i normal w))

    -- the move with an outcome, by the step that it names
    abbrev tried : Outcome → Option Step → State
    tried o x = cond s.ended s (try_step S s i o w x)

    -- that by a call's step, where control is at its from before the end
    abbrev from_there : CallStep → State → State
    from_there t x = cond s.ended s (cond (eqb s.point t.from) x s)

    as-found : (o : Outcome) (x : Option Step) → get_elem? S.steps i ≡ x → move S s (by_step i o w) ≡ tried o x
    unfolding move
    as-found o x found = ap (tried o) found

    alike : (x : Option Step) → get_elem? S.steps i ≡ x → tried failed x ≡ tried normal x → AsNormal
    alike x found e = inr (as-found failed x found ∙ (e ∙ sym (as-found normal x found)))

    pub failing-step : AsNormal
    failing-step = go (get_elem? S.steps i) refl
      where
        call : (t : CallStep) → get_elem? S.steps i ≡ some (call_step t) → (b : Option Body) → body S t.method ≡ b → AsNormal
        call t found none is =
            let nowhere = nothing t.failed_to (subst NoTarget found (each-get NoTarget tt one.targets i)) in
            inl (step-without-target S s failed i w found is nowhere)
        call t found (some b) is =
            let opens : (o : Outcome) → tried o (some (call_step t)) ≡ from_there t (open_call (new_call s i t) b.entry s)
            = λ o. ap (λ (x : Option Body). from_there t (make_call S s (new_call s i t) o w (target_for o t) x)) is in
            alike (some (call_step t)) found (opens failed ∙ sym (opens normal))

        go : (x : Option Step) → get_elem? S.steps i ≡ x → AsNormal
        go none found = alike none found refl
        go (some (event_step p q a)) found = alike (some (event_step p q a)) found refl
        go (some (call_step t)) found = call t found (body S t.method) refl
        go (some (pass_step p q)) found = alike (some (pass_step p q)) found refl
        go (some (stop_step p)) found = alike (some (stop_step p)) found refl
