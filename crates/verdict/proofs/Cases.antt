-- The starred cases of document 01 are as stated: one list, one fact.
use mathlib.Core.Path.{◌≡◌, refl}
use mathlib.Core.List.{[], ◌∷◌}
use Prim.Native.String.{String}
use Rattle.condition.specs.Condition.{Word}
use Rattle.sheet.specs.Model.{large}
use Rattle.sheet.specs.Each.{Each, nil, cons}
use Rattle.sheet.specs.Sheet.{condition}
use Rattle.sheet.specs.Decode.{sheet_of}
use Rattle.verdict.specs.Verdict.{verdict_of}
use Rattle.verdict.specs.WordTest.{Answer, held, not_held, untested, word_test}
use Rattle.verdict.specs.Line.{ascii, line, answer_line}
use Rattle.verdict.specs.Cases.{word, Says, AsStated, W, cases}
use Rattle.verdict.proofs.Reply.{IsTested}
use Rattle.verdict.proofs.WordTest.{tests-word}

-- what the word test says of a word is so in the language
language : (w : Word) (a : Answer) → IsTested a → word_test large W 0 w ≡ a → Says a (condition (sheet_of large W) 0) w
language w held t e = ((tests-word large W 0 w).yes_iff.0 e).1
language w (not_held n) t e = let (taken, lacks, most) = ((tests-word large W 0 w).no_iff n).0 e in (lacks, most)
language w (untested n at) t e = absurd t

word-stated : (w : Word) (a : Answer) (prints : String) → IsTested a → word_test large W 0 w ≡ a → answer_line a ≡ ascii prints
    → AsStated (word W 0 w a prints)
word-stated w a prints t e p = (e, p, language w a t e)

pub as-stated : Each AsStated cases
unfolding cases verdict_of line word_test answer_line
as-stated =
    cons refl (cons refl (cons refl (cons refl (cons refl (cons refl (cons refl (cons refl
    (cons (word-stated [] held "yes" tt refl refl)
    (cons (word-stated (2 ∷ []) held "yes" tt refl refl)
    (cons (word-stated (2 ∷ 0 ∷ []) held "yes" tt refl refl)
    (cons (word-stated (0 ∷ []) (not_held 0) "no 0" tt refl refl)
    (cons (word-stated (0 ∷ 2 ∷ []) (not_held 0) "no 0" tt refl refl) nil))))))))))))
