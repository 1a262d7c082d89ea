-- The starred cases of document 01, "Sheets to try": one list, and what is shown of each (proofs/Cases). Document 02 changes three lines: by Ask 2, "The
-- sheet 0F now gives `refused 3 at 0`", and by Ask 3 the two words that are not held give `no 0`, where document 01's word test gives a bare no.
use Rattle.std.specs.Prelude.{ℕ, ◌≡◌, List, [], ◌∷◌, ◌++◌, take}
use Prim.Native.String.{String}
use Rattle.condition.specs.Condition.{Condition, Word, Holds, Longest}
use Rattle.sheet.specs.Model.{large}
use Rattle.sheet.specs.Sheet.{condition}
use Rattle.sheet.specs.Decode.{sheet_of}
use Rattle.verdict.specs.Verdict.{verdict_of}
use Rattle.verdict.specs.WordTest.{Answer, held, not_held, untested, word_test}
use Rattle.verdict.specs.Line.{ascii, line, answer_line}

-- a sheet's bytes and the line that the loading program prints; or a sheet's bytes, the number of a condition of it, a word, the word test's answer and
-- the line that its program prints
pub data Case : Type 0 where
  sheet : (bytes : List ℕ) (prints : String) → Case
  word : (bytes : List ℕ) (number : ℕ) (events : Word) (answer : Answer) (prints : String) → Case

-- what an answer says of a word in the language of a condition
abbrev pub Says : Answer → Condition → Word → Type 0
Says held r w = Holds r w
Says (not_held n) r w = (Holds r w → ⊥) × Longest r w n
Says (untested n at) r w = ⊥

-- the definitions answer as the document says; of a word, the word test gives the answer, its line is printed, and what it says is so in the language
abbrev pub AsStated : Case → Type 0
AsStated (sheet s prints) = line (verdict_of large s) ≡ ascii prints
AsStated (word s c w a prints) = (word_test large s c w ≡ a) × (answer_line a ≡ ascii prints) × Says a (condition (sheet_of large s) c) w

-- "07 and six 00"
abbrev pub point0 : List ℕ
point0 = 0x07 ∷ 0 ∷ 0 ∷ 0 ∷ 0 ∷ 0 ∷ 0 ∷ []

-- "09 and ten 00", with a trace condition
abbrev pub method0 : ℕ → List ℕ
method0 trace = 0x09 ∷ 0 ∷ 0 ∷ trace ∷ 0 ∷ 0 ∷ 0 ∷ 0 ∷ 0 ∷ 0 ∷ 0 ∷ []

-- "three times 0D 00 01 00 00 00 0E"
abbrev pub start_only : List ℕ
start_only = 0x0D ∷ 0x00 ∷ 0x01 ∷ 0x00 ∷ 0x00 ∷ 0x00 ∷ 0x0E ∷ []

abbrev pub three_starts : List ℕ
three_starts = start_only ++ (start_only ++ start_only)

-- "M = 02 06, then 07 and six 00, then 09 and ten 00, then three times 0D 00 01 00 00 00 0E (41 bytes)"
abbrev pub M : List ℕ
M = (0x02 ∷ 0x06 ∷ []) ++ (point0 ++ (method0 0 ++ three_starts))

-- "M with the condition 01 01 00 00 00 06 put after its second byte, and trace 1"
abbrev pub M' : List ℕ
M' = (0x02 ∷ 0x06 ∷ 0x01 ∷ 0x01 ∷ 0x00 ∷ 0x00 ∷ 0x00 ∷ 0x06 ∷ []) ++ (point0 ++ (method0 1 ++ three_starts))

-- "With 0 open, 1 close, 2 advance, the condition 02, 01 04 00 00 00, 01 FF FF FF FF, 05, 03, 04, 06", in a sheet with a point and a method
abbrev pub advance : List ℕ
advance = 0x02 ∷ 0x01 ∷ 0x04 ∷ 0x00 ∷ 0x00 ∷ 0x00 ∷ 0x01 ∷ 0xFF ∷ 0xFF ∷ 0xFF ∷ 0xFF ∷ 0x05 ∷ 0x03 ∷ 0x04 ∷ 0x06 ∷ []

abbrev pub W : List ℕ
W = advance ++ (point0 ++ method0 0)

unfoldable pub cases : List Case
cases =
    sheet [] "refused 9 at 0"
    ∷ sheet (0x0F ∷ []) "refused 3 at 0"
    ∷ sheet (0x01 ∷ []) "refused 3 at 0"
    ∷ sheet (0x03 ∷ []) "refused 5 at 0"
    ∷ sheet (0x02 ∷ 0x06 ∷ 0x07 ∷ 0x01 ∷ 0x00 ∷ 0x00 ∷ 0x00 ∷ 0x00 ∷ 0x00 ∷ []) "refused 7 at 2"
    ∷ sheet M "accepted 6"
    ∷ sheet (take 40 M) "refused 8 at 40"
    ∷ sheet M' "unproved rule 5 method 0 clause 3 pair 0 event 0 place 0"
    ∷ word W 0 [] held "yes"
    ∷ word W 0 (2 ∷ []) held "yes"
    ∷ word W 0 (2 ∷ 0 ∷ []) held "yes"
    ∷ word W 0 (0 ∷ []) (not_held 0) "no 0"
    ∷ word W 0 (0 ∷ 2 ∷ []) (not_held 0) "no 0"
    ∷ []
