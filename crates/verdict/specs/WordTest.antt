-- The word test: document 01, "What the loader returns". "The word test is given a sheet, a condition's number and a word, one byte an event".
use Rattle.std.specs.Prelude.{ℕ, suc, cond, List, [], ◌∷◌, length, ltb, leb}
use Rattle.std.proofs.Math.Option.{Option, none, some}
use Rattle.condition.specs.Condition.{Condition, Word}
use Rattle.condition.specs.Places.{accepts, longest}
use Rattle.sheet.specs.Model.{Model, word_limit}
use Rattle.sheet.specs.Sheet.{condition}
use Rattle.sheet.specs.Reading.{is_new, ReadResult, whole, refusal, read_sheet}
use Rattle.sheet.specs.Decode.{sheet_read}

-- what the word test returns
pub data Answer : Type 0 where
  -- yes
  held : Answer
  -- no. Document 02, Ask 3: "The word test's no now carries the length of the longest beginning of the word that begins some word of the condition."
  not_held : (longest : ℕ) → Answer
  -- a refusal's number, and its place where it has one
  untested : (number : ℕ) (at : Option ℕ) → Answer

-- what it says of a word that it takes
abbrev pub tested : Condition → Word → Answer
tested r w =
    let n = longest r w in
    cond (accepts r w) held (not_held n)

-- 13, "index": "an event above 31, first such index", from the index i on; without one, the answer `otherwise`
unfoldable pub unless_stray : ℕ → ℕ → Word → Answer → Answer
unless_stray events i [] otherwise = otherwise
unless_stray events i (e ∷ w) otherwise =
    let after = unless_stray events (suc i) w otherwise in
    cond (ltb e events) after (untested 13 (some i))

-- "it first applies 1 to 9, then 14, 12, 13": 14 "no such condition", 12 "word longer than 4,096". "Later refusals met while reading count wherever 1 to 9
-- are applied."
unfoldable pub tested_after : Model → List ℕ → ℕ → Word → ReadResult → Answer
unfolding unless_stray accepts longest
tested_after M s c w (refusal n at r) = untested n (some at)
tested_after M s c w (whole r) =
    let S = sheet_read (is_new s) r.own in
    let answer = unless_stray M.events 0 w (tested (condition S c) w) in
    cond (leb (length S.conditions) c) (untested 14 none) (cond (ltb word_limit (length w)) (untested 12 none) answer)

-- what the word test returns for the bytes s, the condition c and the word w
unfoldable pub word_test : Model → List ℕ → ℕ → Word → Answer
unfolding read_sheet tested_after
word_test M s c w = tested_after M s c w (read_sheet M s)
