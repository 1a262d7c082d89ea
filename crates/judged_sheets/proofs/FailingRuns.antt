-- Document 02, Ask 2, "A gate that could not be opened need not be closed": such a sheet from its bytes, its runs and what the promise says of them; sheets
-- with failing calls that meet the premises of the second half of demand 3; and sheets whose runs forbid to accept them without 22 or without 24.
use mathlib.Core.Path.{◌≡◌, refl, ap, ◌∙◌}
use mathlib.Core.Bool.{true}
use mathlib.Core.List.{List, [], ◌∷◌, ◌++◌, map}
use Prim.Native.Nat.{ℕ}
use native.Mathlib.Omega.{arith}
use Rattle.condition.specs.Condition.{Word, leaf, empty, join, Holds, ◌⊆◌}
use Rattle.condition.specs.Places.{leaves, accepts}
use Rattle.condition.proofs.Words.{words}
use Rattle.certificate.specs.Certificate.{pair, Exact}
use Rattle.sheet.specs.Model.{large}
use Rattle.sheet.specs.Each.{nil, cons}
use Rattle.sheet.specs.Sheet.{Outcome, normal, failed}
use Rattle.sheet.specs.Decode.{sheet_of}
use Rattle.sheet.proofs.Each.{each-head, each_tail}
use Rattle.runs.specs.Rules.{rules, count}
use Rattle.runs.specs.Runs.{Move, return, by_step, run, Safe}
use Rattle.verdict.specs.Verdict.{Report, accepted, certificates_needed, verdict_of}
use Rattle.verdict.specs.Promise.{done, bare, certified, Loads}
use Rattle.verdict.proofs.Parts.{record_of, one, two, three, ones, all_empty, with_primitive, method16}
use Rattle.verdict.proofs.Bytes.{small, are-bytes}
use Rattle.verdict.proofs.Loads.{loads}
use Rattle.verdict.proofs.Witnesses.{Premises, in_itself, start-is-exact, empty-is-exact}
use Rattle.judged_sheets.proofs.Failing.{wrong_trace, wrong_future}

-- The gate ------------------------------------------------------------------------------------------------------------------

-- EMPTY, 0 (open), 1 (close), and nothing or both
abbrev conditions : List ℕ
conditions =
    0x02 ∷ 0x06
    ∷ 0x01 ∷ 0x01 ∷ 0 ∷ 0 ∷ 0 ∷ 0x06
    ∷ 0x01 ∷ 0x02 ∷ 0 ∷ 0 ∷ 0 ∷ 0x06
    ∷ 0x02 ∷ 0x01 ∷ 0x01 ∷ 0 ∷ 0 ∷ 0 ∷ 0x01 ∷ 0x02 ∷ 0 ∷ 0 ∷ 0 ∷ 0x03 ∷ 0x04 ∷ 0x06
    ∷ []

-- before; open, where closing is due; at the end
abbrev points : List ℕ
points = record_of 7 (0 ∷ 0 ∷ 3 ∷ []) ++ (record_of 7 (1 ∷ 1 ∷ 2 ∷ []) ++ record_of 7 (3 ∷ 3 ∷ 0 ∷ []))

-- method 0 goes from point 0 to 2; the primitive 1 raises 0 and asks for 1, or fails, raises nothing and asks for nothing
abbrev methods : List ℕ
methods = record_of 9 (0 ∷ 3 ∷ 0 ∷ 0 ∷ 2 ∷ []) ++ record_of 15 (0 ∷ 1 ∷ 2 ∷ 0 ∷ 0 ∷ [])

-- the call from 0 to 1, which fails to 2, and the event 1 from 1 to 2
abbrev steps : List ℕ
steps = record_of 17 (0 ∷ 1 ∷ 2 ∷ 1 ∷ []) ++ (0x0A ∷ 1 ∷ 0 ∷ 2 ∷ 0 ∷ 1 ∷ [])

-- of method 0, of the call's rules 10 to 14 and 18 to 21, and of the event
abbrev certificates : List ℕ
certificates =
    one ++ three ++ one
    ++ one ++ two ++ two ++ two ++ three
    ++ ones 4
    ++ three ++ three ++ two

unfoldable gate : List ℕ
gate = conditions ++ points ++ methods ++ steps ++ certificates

-- 2 + 4 + 3 + 5, and 4
is-accepted : verdict_of large gate ≡ accepted 18
unfolding gate verdict_of
is-accepted = refl

-- a run that opens and closes, and one that fails to open
abbrev opens : List Move
opens = by_step 0 normal (0 ∷ []) ∷ by_step 1 normal [] ∷ return normal ∷ []

abbrev fails : List Move
fails = by_step 0 failed [] ∷ return normal ∷ []

-- both end; what each call returned with, the last first
record Ends (ms : List Move) (raised : Word) (outcomes : List Outcome) : Type 0 where
  ends : (run (sheet_of large gate) 0 ms).ended ≡ true
  history : (run (sheet_of large gate) 0 ms).history ≡ raised
  returned : map (λ r. r.outcome) (run (sheet_of large gate) 0 ms).returned_calls ≡ outcomes

both_end : Ends opens (0 ∷ 1 ∷ []) (normal ∷ normal ∷ []) × Ends fails [] (normal ∷ failed ∷ [])
unfolding gate sheet_of run
both_end = (record { ends = refl; history = refl; returned = refl }, record { ends = refl; history = refl; returned = refl })

-- after every list of moves, by the promise
is-safe : (ms : List Move) → Safe (sheet_of large gate) (run (sheet_of large gate) 0 ms)
unfolding gate small
is-safe = (loads large gate (omega arith) (are-bytes gate tt)).sound 18 is-accepted

-- what followed the primitive is what its outcome asks: 1 where it opened, nothing where it failed
closed_after : Holds (leaf 2) (1 ∷ [])
unfolding gate sheet_of run
closed_after = each-head (each_tail ((is-safe opens).ended_well refl))

nothing-after : Holds empty []
unfolding gate sheet_of run
nothing-after = each-head (each_tail ((is-safe fails).ended_well refl))

-- The second half of demand 3 --------------------------------------------------------------------------------------------------

pub joined_in : join empty empty ⊆ empty
joined_in w (u, v, e, h, k) = e ∙ (ap (λ (x : Word). x ++ v) h ∙ k)

pub joined-is-exact : {n : ℕ} → Exact n (join empty empty) empty (pair 0 1 ∷ [])
unfolding leaves
joined-is-exact = start-is-exact (join empty empty) empty refl

-- a sheet with a failing call
pub call-premises : Premises large (all_empty with_primitive (ones 12))
unfolding sheet_of rules certificates_needed
call-premises =
    record {
      well_formed = record { reading = _; read = refl; enough = refl };
      true_rules =
          cons refl (cons refl (cons in_itself (cons refl (cons in_itself (cons in_itself
          (cons in_itself (cons joined_in (cons joined_in (cons in_itself (cons joined_in
          (cons joined_in (cons joined_in (cons in_itself (cons joined_in nil))))))))))))));
      exact =
          bare tt (bare tt (certified empty-is-exact (bare tt (certified empty-is-exact (certified empty-is-exact
          (certified empty-is-exact (certified joined-is-exact (certified joined-is-exact (certified empty-is-exact (certified joined-is-exact
          (certified joined-is-exact (certified joined-is-exact (certified empty-is-exact (certified joined-is-exact done))))))))))))));
    }

-- and one whose first method may fail
pub method-premises : Premises large (all_empty method16 (ones 5))
unfolding sheet_of rules certificates_needed
method-premises =
    record {
      well_formed = record { reading = _; read = refl; enough = refl };
      true_rules = cons refl (cons refl (cons in_itself (cons refl (cons in_itself (cons in_itself (cons in_itself (cons in_itself (cons refl nil))))))));
      exact =
          bare tt (bare tt (certified empty-is-exact (bare tt (certified empty-is-exact (certified empty-is-exact
          (certified empty-is-exact (certified empty-is-exact (bare tt done))))))));
    }

-- so whatever keeps the promise accepts them, with the count
promised-call : {answer : Report} → Loads large (all_empty with_primitive (ones 12)) answer → answer ≡ accepted 15
unfolding sheet_of count
promised-call l = l.complete call-premises.well_formed call-premises.true_rules call-premises.exact

promised-method : {answer : Report} → Loads large (all_empty method16 (ones 5)) answer → answer ≡ accepted 9
unfolding sheet_of count
promised-method l = l.complete method-premises.well_formed method-premises.true_rules method-premises.exact

-- Loaders that do not test 22 or 24 ----------------------------------------------------------------------------------------------

-- method 0 fails at once, and its failed trace lacks the empty word
without-22 : (n : ℕ) → Loads large wrong_trace (accepted n) → ⊥
unfolding sheet_of run accepts
without-22 n l = (words (leaf 1) []).1 (each-head (l.sound n refl (return failed ∷ [])).raised_well)

-- method 0 fails at once, which "ends the run", and its failed future lacks the empty word
without-24 : (n : ℕ) → Loads large wrong_future (accepted n) → ⊥
unfolding sheet_of run accepts
without-24 n l = (words (leaf 1) []).1 (each-head ((l.sound n refl (return failed ∷ [])).ended_well refl))
