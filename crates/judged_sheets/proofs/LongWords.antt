-- Document 02, Ask 3, of words of 4,096 events, which is as long as a word may be, by evaluation: wrong at the first event and at the last one, a word after
-- whose last event a place is left from which no word can be finished, and a word that begins one of the condition.
use mathlib.Core.Path.{◌≡◌, refl}
use mathlib.Core.List.{List, [], ◌∷◌, ◌++◌, map}
use Prim.Native.Nat.{ℕ}
use lib.ListN.{replicate}
use Rattle.condition.specs.Condition.{Word}
use Rattle.sheet.specs.Model.{large}
use Rattle.verdict.specs.WordTest.{word_test}
use Rattle.verdict.specs.Line.{ascii, answer_line}
use Rattle.verdict.specs.Cases.{point0, method0}

-- a sheet with one condition: event 0 any number of times, and then event 1, or event 2 and then a leaf with the set 0
abbrev waiting : List ℕ
waiting =
    (0x01 ∷ 0x01 ∷ 0 ∷ 0 ∷ 0 ∷ 0x05 ∷ [])
    ++ (0x01 ∷ 0x02 ∷ 0 ∷ 0 ∷ 0 ∷ 0x01 ∷ 0x04 ∷ 0 ∷ 0 ∷ 0 ∷ 0x01 ∷ 0 ∷ 0 ∷ 0 ∷ 0 ∷ 0x03 ∷ 0x04 ∷ 0x03 ∷ 0x06 ∷ [])
    ++ (point0 ++ method0 0)

-- event 0 n times, and then a word
abbrev after : ℕ → Word → Word
after n w = replicate n 0 ++ w

long-words : map (λ (w : Word). answer_line (word_test large waiting 0 w))
    ((3 ∷ after 4095 []) ∷ after 4095 (3 ∷ []) ∷ after 4095 (2 ∷ []) ∷ after 4096 [] ∷ after 4096 (1 ∷ []) ∷ [])
    ≡ map ascii ("no 0" ∷ "no 4095" ∷ "no 4095" ∷ "no 4096" ∷ "refused 12" ∷ [])
unfolding word_test answer_line
long-words = refl
