-- Document 02, Ask 2, of bytes and the verdict, by evaluation: counts and certificates of sheets in which calls and methods have two outcomes, the rules 18
-- to 24, each false alone, and the refusal 18.
use mathlib.Core.Path.{◌≡◌, refl}
use mathlib.Core.Option.{some}
use mathlib.Core.List.{List, [], ◌∷◌, ◌++◌, map}
use Prim.Native.Nat.{ℕ, zero, suc}
use lib.ListN.{take}
use Rattle.sheet.specs.Model.{Model, large, entry}
use Rattle.verdict.specs.Verdict.{verdict_of}
use Rattle.verdict.specs.WordTest.{untested, word_test}
use Rattle.verdict.specs.Reply.{reply_of}
use Rattle.verdict.specs.Line.{line}
use Rattle.verdict.specs.Cases.{point0, method0}
use Rattle.verdict.proofs.Parts.{Printed, printed, AsPrinted, record_of, one, two, ones, all_empty, with_primitive, method16}

-- Sheets whose one condition is EMPTY -------------------------------------------------------------------------------------

-- two methods with body and two outcomes, and a call of the first
abbrev pub with_methods : List ℕ
with_methods = method16 ++ (method16 ++ record_of 17 (0 ∷ 0 ∷ 0 ∷ 0 ∷ []))

counts : List Printed
counts =
    -- 2 + 4 + 5, and 4 for 18 to 21
    printed (all_empty with_primitive (ones 12)) "accepted 15"
    ∷ printed (all_empty with_primitive (ones 11)) "refused 10 at 117"
    ∷ printed (all_empty with_primitive (ones 13)) "refused 10 at 131"
    -- 2 + 4, and 3 for 22 to 24; "24 has no certificate"
    ∷ printed (all_empty method16 (ones 5)) "accepted 9"
    ∷ printed (all_empty method16 (ones 4)) "refused 10 at 54"
    ∷ printed (all_empty method16 (ones 6)) "refused 10 at 68"
    -- 2 + 8 + 5, 4 for 22 and 23, 1 for 24 and 4 for 18 to 21
    ∷ printed (all_empty with_methods (ones 19)) "accepted 24"
    ∷ printed (all_empty with_methods (ones 18)) "refused 10 at 178"
    ∷ []

counts-print : AsPrinted large counts
unfolding counts verdict_of line
counts-print = refl

-- Whose certificate is which ------------------------------------------------------------------------------------------------

-- of n certificates, all but number i have a pair
abbrev pub lacking : ℕ → ℕ → List ℕ
lacking zero i = []
lacking (suc n) zero = 0x0E ∷ ones n
lacking (suc n) (suc i) = one ++ lacking n i

-- the rule and the subject that then fail on an instrument, in a sheet up to its certificates, for so many i from k on
abbrev pub failing : Model → List ℕ → ℕ → ℕ → ℕ → List (List ℕ)
failing I sheet n k zero = []
failing I sheet n k (suc m) = take 2 (reply_of (verdict_of I (sheet ++ lacking n k))).values ∷ failing I sheet n (suc k) m

-- rules of one subject
abbrev pub rules_of : ℕ → List ℕ → List (List ℕ)
rules_of subject ns = map (λ (n : ℕ). n ∷ subject ∷ []) ns

-- "They and their certificates follow the ordinary ones of their subject in order of number"
of-primitive : failing large (all_empty with_primitive []) 12 0 12 ≡ rules_of 0 (3 ∷ 5 ∷ 6 ∷ []) ++ rules_of 0 (10 ∷ 11 ∷ 12 ∷ 13 ∷ 14 ∷ 18 ∷ 19 ∷ 20 ∷ 21 ∷ [])
unfolding verdict_of
of-primitive = refl

of-methods : failing large (all_empty with_methods []) 19 0 19
    ≡ rules_of 0 (3 ∷ 5 ∷ 6 ∷ 22 ∷ 23 ∷ []) ++ (rules_of 1 (3 ∷ 5 ∷ 6 ∷ 22 ∷ 23 ∷ []) ++ rules_of 0 (10 ∷ 11 ∷ 12 ∷ 13 ∷ 14 ∷ 18 ∷ 19 ∷ 20 ∷ 21 ∷ []))
unfolding verdict_of
of-methods = refl

-- One rule is false -----------------------------------------------------------------------------------------------------------

-- conditions EMPTY and the event 0; point 0 names EMPTY alone, point 1 what is given; methods and steps, and certificates
abbrev pub with_point : List ℕ → List ℕ → List ℕ → List ℕ
with_point names records certificates = (0x02 ∷ 0x06 ∷ 0x01 ∷ 0x01 ∷ 0 ∷ 0 ∷ 0 ∷ 0x06 ∷ []) ++ (point0 ++ (record_of 7 names ++ (records ++ certificates)))

-- a primitive with a failed trace and a failed future, and a call of it from point 0 to itself, which fails to point 1
abbrev calling : ℕ → ℕ → List ℕ
calling trace future = method0 0 ++ (record_of 15 (0 ∷ 0 ∷ 0 ∷ trace ∷ future ∷ []) ++ record_of 17 (0 ∷ 0 ∷ 1 ∷ 1 ∷ []))

-- a method with body that exits at point 0, with an entry, a failed trace, a failed future and a failed exit
abbrev pub may_fail : ℕ → ℕ → ℕ → ℕ → List ℕ
may_fail entry trace future exit = record_of 16 (0 ∷ 0 ∷ 0 ∷ entry ∷ 0 ∷ trace ∷ future ∷ exit ∷ [])

-- 22 and 24 false
abbrev pub wrong_trace : List ℕ
wrong_trace = with_point (0 ∷ 0 ∷ 0 ∷ []) (may_fail 0 1 0 0) (ones 5)

abbrev pub wrong_future : List ℕ
wrong_future = with_point (0 ∷ 0 ∷ 1 ∷ []) (may_fail 1 0 1 1) (ones 4 ++ two)

rules : List Printed
rules =
    printed (with_point (0 ∷ 0 ∷ 0 ∷ []) (calling 0 0) (ones 12)) "accepted 15"
    -- past, own and due of the failed target
    ∷ printed (with_point (1 ∷ 0 ∷ 0 ∷ []) (calling 0 0) (ones 12)) "unproved rule 18 step 0 clause 3 pair 0 event 0 place 0"
    ∷ printed (with_point (0 ∷ 1 ∷ 0 ∷ []) (calling 0 0) (ones 12)) "unproved rule 19 step 0 clause 3 pair 0 event 0 place 0"
    ∷ printed (with_point (0 ∷ 0 ∷ 0 ∷ []) (calling 0 1) (ones 12)) "unproved rule 20 step 0 clause 3 pair 0 event 0 place 0"
    ∷ printed (with_point (0 ∷ 0 ∷ 1 ∷ []) (calling 0 1) (ones 10 ++ (two ++ one))) "unproved rule 21 step 0 clause 4 pair 0 event 0 place 1"
    -- the failed trace
    ∷ printed (with_point (0 ∷ 0 ∷ 0 ∷ []) (calling 1 0) (ones 12)) "unproved rule 18 step 0 clause 4 pair 0 event 0 place 1"
    -- own and due of the failed exit, and the failed future of method 0
    ∷ printed (with_point (0 ∷ 0 ∷ 0 ∷ []) (may_fail 1 0 0 1) (ones 5)) "accepted 9"
    ∷ printed wrong_trace "unproved rule 22 method 0 clause 3 pair 0 event 0 place 0"
    ∷ printed (with_point (0 ∷ 0 ∷ 1 ∷ []) (may_fail 0 0 0 1) (ones 5)) "unproved rule 23 method 0 clause 3 pair 0 event 0 place 0"
    ∷ printed wrong_future "unproved rule 24 method 0 clause 5 pair 0 event 0 place 0"
    -- which is not asked of method 1
    ∷ printed (with_point (0 ∷ 0 ∷ 1 ∷ []) (method0 0 ++ may_fail 1 0 1 1) (ones 7 ++ two)) "accepted 12"
    -- and comes before the rules of method 1: its rule 3 has no pair
    ∷ printed (with_point (0 ∷ 0 ∷ 1 ∷ []) (may_fail 1 0 1 1 ++ method0 0) (ones 4 ++ (two ++ lacking 3 0)))
    "unproved rule 24 method 0 clause 5 pair 0 event 0 place 0"
    ∷ printed (with_point (0 ∷ 0 ∷ 0 ∷ []) (may_fail 1 0 0 1 ++ method0 0) (ones 5 ++ lacking 3 0))
    "unproved rule 3 method 1 clause 1 pair 0 event 0 place 0"
    ∷ []

rules-print : AsPrinted large rules
unfolding rules verdict_of line
rules-print = refl

-- Refusals ----------------------------------------------------------------------------------------------------------------------

refusals : List Printed
refusals =
    -- kind 11 names a method of kind 15, and of kind 16
    printed (all_empty (method0 0 ++ (record_of 15 (0 ∷ 0 ∷ 0 ∷ 0 ∷ 0 ∷ []) ++ record_of 11 (0 ∷ 0 ∷ 1 ∷ []))) []) "refused 18 at 31"
    ∷ printed (all_empty (method16 ++ record_of 11 (0 ∷ 0 ∷ 0 ∷ [])) []) "refused 18 at 26"
    -- kind 17 names a method of kind 8, and of kind 9
    ∷ printed (all_empty (method0 0 ++ (record_of 8 (0 ∷ 0 ∷ 0 ∷ []) ++ record_of 17 (0 ∷ 0 ∷ 0 ∷ 1 ∷ []))) []) "refused 18 at 27"
    ∷ printed (all_empty (method0 0 ++ record_of 17 (0 ∷ 0 ∷ 0 ∷ 0 ∷ [])) []) "refused 18 at 20"
    -- "after 7": a method that is not there
    ∷ printed (all_empty (method0 0 ++ record_of 17 (0 ∷ 0 ∷ 0 ∷ 1 ∷ [])) []) "refused 7 at 20"
    -- a primitive first
    ∷ printed (all_empty (record_of 15 (0 ∷ 0 ∷ 0 ∷ 0 ∷ 0 ∷ [])) []) "refused 9 at 9"
    ∷ []

refusals-print : AsPrinted large refusals
unfolding refusals verdict_of line
refusals-print = refl

refusals-on-entry : AsPrinted entry refusals
unfolding refusals verdict_of line
refusals-on-entry = refl

-- "Later refusals met while reading count wherever 1 to 9 are applied": the word test gives 18 before 14
tested-in-refused : word_test large (all_empty (method0 0 ++ record_of 17 (0 ∷ 0 ∷ 0 ∷ 0 ∷ [])) []) 5 [] ≡ untested 18 (some 20)
unfolding word_test
tested-in-refused = refl
