-- Document 02, Ask 4, of bytes and the verdict, by evaluation: counts and certificates of sheets of the new edition, beside those of the old one; the rules 25
-- and 26, each false alone; the refusals 19 and 20; and what an instrument answers that takes the kinds up to 17.
use mathlib.Core.Path.{◌≡◌, refl}
use mathlib.Core.Option.{some}
use mathlib.Core.List.{List, [], ◌∷◌, ◌++◌}
use Prim.Native.Nat.{ℕ}
use lib.ListN.{take}
use Rattle.sheet.specs.Model.{large, entry, with_kinds}
use Rattle.verdict.specs.Verdict.{verdict_of}
use Rattle.verdict.specs.WordTest.{held, not_held, untested, word_test}
use Rattle.verdict.specs.Line.{line}
use Rattle.verdict.specs.Cases.{point0, method0, M, W}
use Rattle.verdict.proofs.Parts.{Printed, printed, AsPrinted, record_of, ones, all_empty, with_primitive}
use Rattle.judged_sheets.proofs.Failing.{with_methods, lacking, failing, rules_of, with_point, may_fail}

-- a sheet of the new edition, from one of the old
abbrev pub new : List ℕ → List ℕ
new s = 0x12 ∷ s

-- a stop
abbrev pub stop_at : ℕ → List ℕ
stop_at p = record_of 19 (p ∷ [])

-- a call of the method m, with body or not, from point 0 to itself
abbrev pub call : ℕ → List ℕ
call m = record_of 11 (0 ∷ 0 ∷ m ∷ [])

-- Sheets whose one condition is EMPTY -------------------------------------------------------------------------------------

-- a primitive behind the first method, and a call of it
abbrev primitive : List ℕ
primitive = method0 0 ++ (record_of 8 (0 ∷ 0 ∷ 0 ∷ []) ++ call 1)

counts : List Printed
counts =
    -- the edition alone adds nothing
    printed (new M) "accepted 6"
    -- 1 for 25, which "has no certificate"
    ∷ printed (new (all_empty (method0 0 ++ stop_at 0) (ones 3))) "accepted 7"
    ∷ printed (new (all_empty (method0 0 ++ stop_at 0) (ones 2))) "refused 10 at 38"
    ∷ printed (new (all_empty (method0 0 ++ stop_at 0) (ones 4))) "refused 10 at 52"
    -- a call of a method with body: 2 + 4 + 5, and in the new edition 1 for 26, which has a certificate
    ∷ printed (all_empty (method0 0 ++ call 0) (ones 8)) "accepted 11"
    ∷ printed (all_empty (method0 0 ++ call 0) (ones 9)) "refused 10 at 90"
    ∷ printed (new (all_empty (method0 0 ++ call 0) (ones 9))) "accepted 12"
    ∷ printed (new (all_empty (method0 0 ++ call 0) (ones 8))) "refused 10 at 84"
    ∷ printed (new (all_empty (method0 0 ++ call 0) (ones 10))) "refused 10 at 98"
    -- of one with two outcomes: 24, and 1
    ∷ printed (new (all_empty with_methods (ones 20))) "accepted 25"
    ∷ printed (new (all_empty with_methods (ones 19))) "refused 10 at 186"
    -- of a primitive, with one outcome and with two: no 26
    ∷ printed (new (all_empty primitive (ones 8))) "accepted 11"
    ∷ printed (new (all_empty primitive (ones 9))) "refused 10 at 98"
    ∷ printed (new (all_empty with_primitive (ones 12))) "accepted 15"
    ∷ []

counts-print : AsPrinted large counts
unfolding counts verdict_of line
counts-print = refl

-- Whose certificate is which ----------------------------------------------------------------------------------------------

-- "after a call's other rules", and before those of the next step: of two calls
of_calls : failing large (new (all_empty (method0 0 ++ (call 0 ++ call 0)) [])) 15 3 7 ≡ rules_of 0 (10 ∷ 11 ∷ 12 ∷ 13 ∷ 14 ∷ 26 ∷ []) ++ rules_of 1 (10 ∷ [])
unfolding verdict_of
of_calls = refl

-- and of a call that may fail
of-failing-call : failing large (new (all_empty with_methods [])) 20 14 6 ≡ rules_of 0 (14 ∷ 18 ∷ 19 ∷ 20 ∷ 21 ∷ 26 ∷ [])
unfolding verdict_of
of-failing-call = refl

-- One rule is false -------------------------------------------------------------------------------------------------------

-- a method that point 1 is the entry of, and a call of it from point 0
abbrev entering : List ℕ
entering = method0 0 ++ (record_of 9 (0 ∷ 0 ∷ 0 ∷ 1 ∷ 0 ∷ []) ++ call 1)

-- the same with two outcomes
abbrev entering_failing : List ℕ
entering_failing = method0 0 ++ (may_fail 1 0 0 0 ++ record_of 17 (0 ∷ 0 ∷ 0 ∷ 1 ∷ []))

rules : List Printed
rules =
    -- due of the point where it stops, not past or own, lacks the empty word
    printed (new (with_point (0 ∷ 0 ∷ 1 ∷ []) (method0 0 ++ stop_at 1) (ones 3))) "unproved rule 25 step 0 clause 5 pair 0 event 0 place 0"
    ∷ printed (new (with_point (1 ∷ 1 ∷ 0 ∷ []) (method0 0 ++ stop_at 1) (ones 3))) "accepted 7"
    -- before the rules of the step behind it, and after those of the step before it: rule 10 of the call has no pair
    ∷ printed (new (with_point (0 ∷ 0 ∷ 1 ∷ []) (method0 0 ++ (stop_at 1 ++ call 0)) (ones 3 ++ lacking 6 0)))
    "unproved rule 25 step 0 clause 5 pair 0 event 0 place 0"
    ∷ printed (new (with_point (0 ∷ 0 ∷ 1 ∷ []) (method0 0 ++ (call 0 ++ stop_at 1)) (ones 3 ++ lacking 6 0)))
    "unproved rule 10 step 0 clause 1 pair 0 event 0 place 0"
    ∷ printed (new (with_point (0 ∷ 0 ∷ 1 ∷ []) (method0 0 ++ (call 0 ++ stop_at 1)) (ones 9)))
    "unproved rule 25 step 1 clause 5 pair 0 event 0 place 0"
    -- due of the entry is not in due of the calling point; in the old edition it need not be
    ∷ printed (new (with_point (0 ∷ 0 ∷ 1 ∷ []) entering (ones 12))) "unproved rule 26 step 0 clause 4 pair 0 event 0 place 1"
    ∷ printed (with_point (0 ∷ 0 ∷ 1 ∷ []) entering (ones 11)) "accepted 15"
    ∷ printed (new (with_point (0 ∷ 0 ∷ 0 ∷ []) entering (ones 12))) "accepted 16"
    ∷ printed (new (with_point (0 ∷ 0 ∷ 1 ∷ []) entering_failing (ones 18))) "unproved rule 26 step 0 clause 4 pair 0 event 0 place 1"
    ∷ printed (with_point (0 ∷ 0 ∷ 1 ∷ []) entering_failing (ones 17)) "accepted 21"
    ∷ []

rules-print : AsPrinted large rules
unfolding rules verdict_of line
rules-print = refl

-- Refusals ----------------------------------------------------------------------------------------------------------------

-- a stop in an old sheet
abbrev old_stop : List ℕ
old_stop = all_empty (method0 0 ++ stop_at 0) (ones 3)

refusals : List Printed
refusals =
    -- "19 when kind 18 is not first": twice, and behind a condition, in the new edition and in the old
    printed (new (new M)) "refused 19 at 1"
    ∷ printed (new (0x02 ∷ 0x06 ∷ 0x12 ∷ [])) "refused 19 at 3"
    ∷ printed (0x02 ∷ 0x06 ∷ 0x12 ∷ []) "refused 19 at 2"
    -- "after 4": in an open condition, and behind a point
    ∷ printed (0x02 ∷ 0x12 ∷ []) "refused 4 at 1"
    ∷ printed ((0x02 ∷ 0x06 ∷ []) ++ (point0 ++ (0x12 ∷ []))) "refused 4 at 9"
    -- the mark alone, and before an open condition
    ∷ printed (new []) "refused 9 at 1"
    ∷ printed (new (0x02 ∷ [])) "refused 8 at 2"
    -- "20 when kind 19 stands in an old sheet", after 3 and before 7
    ∷ printed old_stop "refused 20 at 20"
    ∷ printed (take 22 old_stop) "refused 3 at 20"
    ∷ printed (all_empty (method0 0 ++ stop_at 1) (ones 3)) "refused 20 at 20"
    ∷ printed (new (all_empty (method0 0 ++ stop_at 1) (ones 3))) "refused 7 at 21"
    ∷ []

refusals-print : AsPrinted large refusals
unfolding refusals verdict_of line
refusals-print = refl

refusals-on-entry : AsPrinted entry refusals
unfolding refusals verdict_of line
refusals-on-entry = refl

-- the word test gives them before 14, and tests the words of a new sheet
words-tested : (word_test large (new (new W)) 5 [] ≡ untested 19 (some 1))
    × (word_test large old_stop 5 [] ≡ untested 20 (some 20))
    × (word_test large (new W) 0 (2 ∷ []) ≡ held)
    × (word_test large (new W) 0 (0 ∷ 2 ∷ []) ≡ not_held 0)
unfolding word_test
words-tested = (refl, refl, refl, refl)

-- before Ask 4: 2 at a record of kind 18 or 19, and the same answer to a sheet without them
before : List Printed
before =
    printed (new M) "refused 2 at 0"
    ∷ printed (0x02 ∷ 0x06 ∷ 0x12 ∷ []) "refused 2 at 2"
    ∷ printed old_stop "refused 2 at 20"
    ∷ printed (all_empty (method0 0 ++ call 0) (ones 8)) "accepted 11"
    ∷ []

before-print : AsPrinted (with_kinds 17 large) before
unfolding before verdict_of line
before-print = refl
