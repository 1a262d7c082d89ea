-- More sheets and words by evaluation: refusal 10, owners, rules of steps and of the empty word, the word test's own refusals and their order; the lines,
-- numbers and values of answers of each kind; and the lines of words that go wrong.
use mathlib.Core.Path.{◌≡◌, refl}
use mathlib.Core.Option.{none, some}
use mathlib.Core.List.{List, [], ◌∷◌, ◌++◌, map}
use Prim.Native.Nat.{ℕ}
use Prim.Native.String.{String}
use lib.ListN.{take, replicate}
use Rattle.condition.specs.Condition.{Word}
use Rattle.sheet.specs.Model.{large}
use Rattle.verdict.specs.Verdict.{refused, unproved, verdict_of}
use Rattle.verdict.specs.WordTest.{Answer, held, not_held, untested, word_test}
use Rattle.verdict.specs.Reply.{Reply, ◌giving◌, reply_of, answer_reply}
use Rattle.verdict.specs.Line.{ascii, line, answer_line}
use Rattle.verdict.specs.Cases.{point0, method0, start_only, three_starts, M, W}
use Rattle.verdict.proofs.Parts.{Printed, printed, AsPrinted, owned}

-- Sheets ----------------------------------------------------------------------------------------------------------------

-- a pass from point 0 to itself
abbrev pass0 : List ℕ
pass0 = 0x0C ∷ 0 ∷ 0 ∷ 0 ∷ 0 ∷ []

-- M with that step, and further certificates
abbrev passing : List ℕ → List ℕ
passing certificates = (0x02 ∷ 0x06 ∷ []) ++ (point0 ++ (method0 0 ++ (pass0 ++ (three_starts ++ certificates))))

-- an event step from point 0 to itself
abbrev event0 : List ℕ
event0 = 0x0A ∷ 0 ∷ 0 ∷ 0 ∷ 0 ∷ 0 ∷ []

-- One condition, 3 and then 5 any number of times, at one point, with two passes there. A certificate lists the three reachable pairs; that of rule 16
-- of step 1, the last but one, lacks the last of them.
abbrev three_and_five : List ℕ
three_and_five = 0x01 ∷ 0x08 ∷ 0 ∷ 0 ∷ 0 ∷ 0x01 ∷ 0x20 ∷ 0 ∷ 0 ∷ 0 ∷ 0x03 ∷ 0x05 ∷ 0x06 ∷ []

abbrev two_pairs : List ℕ
two_pairs = 0x0D ∷ 0x00 ∷ 0x01 ∷ 0 ∷ 0 ∷ 0 ∷ 0x0D ∷ 0x01 ∷ 0x02 ∷ 0 ∷ 0 ∷ 0 ∷ []

abbrev all_pairs : List ℕ
all_pairs = two_pairs ++ (0x0D ∷ 0x02 ∷ 0x04 ∷ 0 ∷ 0 ∷ 0 ∷ 0x0E ∷ [])

abbrev lacking : List ℕ
lacking =
    three_and_five ++ point0 ++ method0 0 ++ pass0 ++ pass0 ++ all_pairs ++ all_pairs ++ all_pairs ++ all_pairs ++ all_pairs ++ all_pairs ++ all_pairs
    ++ two_pairs ++ (0x0E ∷ all_pairs)

-- M with other points and certificates
abbrev with_points : List ℕ → List ℕ → List ℕ
with_points points certificates = (0x02 ∷ 0x06 ∷ []) ++ (points ++ (method0 0 ++ certificates))

sheets : List Printed
sheets =
    printed (take 20 M) "refused 10 at 20"
    ∷ printed (M ++ (0x0E ∷ [])) "refused 10 at 42"
    ∷ printed (passing three_starts) "accepted 9"
    ∷ printed (passing (start_only ++ (0x0E ∷ start_only))) "unproved rule 16 step 0 clause 1 pair 0 event 0 place 0"
    ∷ printed ((0x01 ∷ 0x01 ∷ 0 ∷ 0 ∷ 0 ∷ 0x06 ∷ []) ++ (point0 ++ (method0 0 ++ three_starts))) "unproved rule 1 method 0 clause 5 pair 0 event 0 place 0"
    -- the last rule of a method: its future, 0 any number of times, is not in the due of its exit, which is EMPTY
    ∷ printed
    ((0x02 ∷ 0x06 ∷ 0x01 ∷ 0x01 ∷ 0 ∷ 0 ∷ 0 ∷ 0x05 ∷ 0x06 ∷ []) ++ (point0 ++ ((0x09 ∷ 0 ∷ 0 ∷ 0 ∷ 0 ∷ 1 ∷ 0 ∷ 0 ∷ 0 ∷ 0 ∷ 0 ∷ []) ++ three_starts)))
    "unproved rule 6 method 0 clause 4 pair 0 event 0 place 1"
    -- the first rule of a step
    ∷ printed ((0x02 ∷ 0x06 ∷ []) ++ (point0 ++ (method0 0 ++ (event0 ++ (three_starts ++ three_starts)))))
    "unproved rule 7 step 0 clause 4 pair 0 event 0 place 1"
    ∷ printed lacking "unproved rule 16 step 1 clause 4 pair 1 event 5 place 2"
    -- points with an owner: of method 0, of no method and of another method than that whose entry it is; 25 comes before 10, and after 8
    ∷ printed (with_points (owned 0) three_starts) "accepted 6"
    ∷ printed (with_points (owned 1) three_starts) "refused 24 at 11"
    ∷ printed (with_points (point0 ++ owned 1) three_starts) "refused 25 at 9"
    ∷ printed (with_points (point0 ++ owned 1) []) "refused 25 at 9"
    ∷ printed (with_points (point0 ++ owned 1) (three_starts ++ start_only)) "refused 25 at 9"
    ∷ printed (with_points (point0 ++ owned 1) (take 6 start_only)) "refused 8 at 35"
    ∷ []

sheets-print : AsPrinted large sheets
unfolding sheets verdict_of line
sheets-print = refl

-- the subject of a rule, at each change from methods to steps and back
nouns : List String
nouns =
    "unproved rule 6 method 3 clause 1 pair 0 event 0 place 0"
    ∷ "unproved rule 7 step 3 clause 1 pair 0 event 0 place 0"
    ∷ "unproved rule 21 step 3 clause 1 pair 0 event 0 place 0"
    ∷ "unproved rule 22 method 3 clause 1 pair 0 event 0 place 0"
    ∷ "unproved rule 24 method 3 clause 1 pair 0 event 0 place 0"
    ∷ "unproved rule 25 step 3 clause 1 pair 0 event 0 place 0"
    ∷ "unproved rule 26 step 3 clause 1 pair 0 event 0 place 0"
    ∷ []

nouns-print : map (λ (rule : ℕ). line (unproved rule 3 (record { clause = 1; pair = 0; event = 0; place = 0 }))) (6 ∷ 7 ∷ 21 ∷ 22 ∷ 24 ∷ 25 ∷ 26 ∷ []) ≡ map ascii nouns
unfolding nouns line
nouns-print = refl

-- the same as number and values, of an answer of each kind
abbrev none_giving : List ℕ → Reply
none_giving values = record { number = none; values = values }

replies : map (λ (s : List ℕ). reply_of (verdict_of large s)) ([] ∷ take 40 M ∷ take 20 M ∷ M ∷ lacking ∷ [])
    ≡ (9 giving (0 ∷ []))
    ∷ (8 giving (40 ∷ []))
    ∷ (10 giving (20 ∷ []))
    ∷ none_giving (6 ∷ [])
    ∷ (11 giving (16 ∷ 1 ∷ 4 ∷ 1 ∷ 5 ∷ 2 ∷ []))
    ∷ []
unfolding verdict_of
replies = refl

-- a number of several digits
long-number : line (refused 1 (some 65536)) ≡ ascii "refused 1 at 65536"
unfolding line
long-number = refl

-- Words -----------------------------------------------------------------------------------------------------------------

record Asked : Type 0 where
  number : ℕ
  word : Word
  answer : Answer

abbrev asked : ℕ → Word → Answer → Asked
asked c w a = record { number = c; word = w; answer = a }

words-asked : List Asked
words-asked =
    asked 1 [] (untested 14 none)
    ∷ asked 0 (replicate 4097 0) (untested 12 none)
    ∷ asked 1 (replicate 4097 32) (untested 14 none)
    ∷ asked 0 (replicate 4097 32) (untested 12 none)
    -- as long as a word may be
    ∷ asked 0 (replicate 4096 32) (untested 13 (some 0))
    ∷ asked 0 (0 ∷ 32 ∷ 33 ∷ []) (untested 13 (some 1))
    ∷ asked 0 (2 ∷ 31 ∷ []) held
    ∷ asked 0 (31 ∷ []) (not_held 0)
    ∷ []

words-answered : map (λ x. word_test large W x.number x.word) words-asked ≡ map (λ x. x.answer) words-asked
unfolding words-asked word_test
words-answered = refl

-- what the word test's program prints, and the numbers and values
answers : List Answer
answers =
    held ∷ not_held 0 ∷ not_held 104 ∷ not_held 4096 ∷ untested 14 none ∷ untested 12 none ∷ untested 13 (some 104) ∷ untested 9 (some 0) ∷ []

answers-print : map answer_line answers
    ≡ map ascii ("yes" ∷ "no 0" ∷ "no 104" ∷ "no 4096" ∷ "refused 14" ∷ "refused 12" ∷ "refused 13 at 104" ∷ "refused 9 at 0" ∷ [])
unfolding answers answer_line
answers-print = refl

answers-reply : map answer_reply answers
    ≡ none_giving []
    ∷ none_giving (0 ∷ [])
    ∷ none_giving (104 ∷ [])
    ∷ none_giving (4096 ∷ [])
    ∷ (14 giving [])
    ∷ (12 giving [])
    ∷ (13 giving (104 ∷ []))
    ∷ (9 giving (0 ∷ []))
    ∷ []
unfolding answers
answers-reply = refl

-- More words --------------------------------------------------------------------------------------------------------------

-- a sheet with two conditions, event 0 and event 1, a point and a method
abbrev two : List ℕ
two = (0x01 ∷ 0x01 ∷ 0 ∷ 0 ∷ 0 ∷ 0x06 ∷ 0x01 ∷ 0x02 ∷ 0 ∷ 0 ∷ 0 ∷ 0x06 ∷ []) ++ (point0 ++ method0 0)

by_number : map (λ (c : ℕ). word_test large two c (1 ∷ [])) (0 ∷ 1 ∷ 2 ∷ []) ≡ not_held 0 ∷ held ∷ untested 14 none ∷ []
unfolding word_test
by_number = refl

-- a refused sheet, whatever the condition's number and the word
refused-sheet : word_test large (take 10 two) 5 (replicate 4097 32) ≡ untested 3 (some 6)
unfolding word_test
refused-sheet = refl

-- also for an owner, before 14, 12 and 13
refused-owners : map (λ (points : List ℕ). word_test large (with_points points []) 5 (replicate 4097 32)) (owned 1 ∷ (point0 ++ owned 1) ∷ [])
    ≡ untested 24 (some 11) ∷ untested 25 (some 9) ∷ []
unfolding word_test
refused-owners = refl

-- on an instrument with two events, 2 is none
on-two-events : word_test (record { bytes = 65536; points = 512; events = 2; kinds = 14 }) two 1 (1 ∷ 2 ∷ []) ≡ untested 13 (some 1)
unfolding word_test
on-two-events = refl

-- Where a word went wrong: document 02, Ask 3 --------------------------------------------------------------------------

-- A sheet with four conditions, a point and a method. 0: event 0, or event 1 and then a leaf that holds nothing, and then event 2; 1: event 0, and then event
-- 2, or event 1 and then such a leaf; 2: event 0 and then such a leaf, which holds no word; 3: the latter any number of times, which holds the empty word.
abbrev pub with_set0 : List ℕ
with_set0 =
    (0x01 ∷ 0x01 ∷ 0 ∷ 0 ∷ 0 ∷ 0x01 ∷ 0x02 ∷ 0 ∷ 0 ∷ 0 ∷ 0x01 ∷ 0 ∷ 0 ∷ 0 ∷ 0 ∷ 0x03 ∷ 0x04 ∷ 0x01 ∷ 0x04 ∷ 0 ∷ 0 ∷ 0 ∷ 0x03 ∷ 0x06 ∷ [])
    ++ (0x01 ∷ 0x01 ∷ 0 ∷ 0 ∷ 0 ∷ 0x01 ∷ 0x04 ∷ 0 ∷ 0 ∷ 0 ∷ 0x01 ∷ 0x02 ∷ 0 ∷ 0 ∷ 0 ∷ 0x01 ∷ 0 ∷ 0 ∷ 0 ∷ 0 ∷ 0x03 ∷ 0x04 ∷ 0x03 ∷ 0x06 ∷ [])
    ++ (0x01 ∷ 0x01 ∷ 0 ∷ 0 ∷ 0 ∷ 0x01 ∷ 0 ∷ 0 ∷ 0 ∷ 0 ∷ 0x03 ∷ 0x06 ∷ [])
    ++ (0x01 ∷ 0x01 ∷ 0 ∷ 0 ∷ 0 ∷ 0x01 ∷ 0 ∷ 0 ∷ 0 ∷ 0 ∷ 0x03 ∷ 0x05 ∷ 0x06 ∷ [])
    ++ (point0 ++ method0 0)

-- a condition's number, a word and the line that the word test's program prints
record Line : Type 0 where
  number : ℕ
  word : Word
  prints : String

abbrev gives : ℕ → Word → String → Line
gives c w t = record { number = c; word = w; prints = t }

lines : List Line
lines =
    -- a word that begins one of the condition gives its own length, the empty word 0
    gives 0 [] "no 0"
    ∷ gives 0 (0 ∷ []) "no 1"
    ∷ gives 0 (0 ∷ 2 ∷ []) "yes"
    ∷ gives 0 (0 ∷ 2 ∷ 2 ∷ []) "no 2"
    -- after event 1 a place is left, and no word can be finished; so, too, after events 0 and 1 in condition 1
    ∷ gives 0 (1 ∷ []) "no 0"
    ∷ gives 0 (1 ∷ 2 ∷ []) "no 0"
    ∷ gives 1 (0 ∷ 1 ∷ 2 ∷ []) "no 1"
    ∷ gives 1 (0 ∷ 2 ∷ []) "yes"
    ∷ gives 1 (0 ∷ 2 ∷ 1 ∷ []) "no 2"
    -- "A condition with no words gives 0."
    ∷ gives 2 [] "no 0"
    ∷ gives 2 (0 ∷ []) "no 0"
    ∷ gives 2 (1 ∷ 0 ∷ []) "no 0"
    -- its star holds the empty word alone
    ∷ gives 3 [] "yes"
    ∷ gives 3 (0 ∷ []) "no 0"
    -- refusals come first
    ∷ gives 4 [] "refused 14"
    ∷ gives 2 (0 ∷ 32 ∷ []) "refused 13 at 1"
    ∷ []

lines-print : map (λ x. answer_line (word_test large with_set0 x.number x.word)) lines ≡ map (λ x. ascii x.prints) lines
unfolding lines word_test answer_line
lines-print = refl
