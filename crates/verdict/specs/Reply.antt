-- Document 01's number and values of each answer: the rows of the table "What the loader returns". The promises and the doors take them from here,
-- and the printed lines their values.
use Rattle.std.specs.Prelude.{ℕ, List, [], ◌∷◌}
use Rattle.std.proofs.Math.Option.{Option, none, some}
use Rattle.certificate.specs.Certificate.{Fault}
use Rattle.verdict.specs.Verdict.{Report, accepted, refused, unproved}
use Rattle.verdict.specs.WordTest.{Answer, held, not_held, untested}

-- the number in the table's first column, none where the sheet is accepted or the word tested, and the values behind it
pub record Reply : Type 0 where
  pub number : Option ℕ
  pub values : List ℕ

-- a row with a number: "2, record's offset"
infix 20 ◌giving◌
abbrev pub ◌giving◌ : ℕ → List ℕ → Reply
n giving values = record { number = some n; values = values }

-- a refusal's place, where it has one
abbrev pub place_value : Option ℕ → List ℕ
place_value none = []
place_value (some at) = at ∷ []

-- "clause, pair, event, place"
abbrev pub fault_values : Fault → List ℕ
fault_values f = f.clause ∷ f.pair ∷ f.event ∷ f.place ∷ []

-- "accepted, count"; "1, place 65,536" and so on; "11, rule, subject, clause, pair, event, place"
abbrev pub reply_of : Report → Reply
reply_of (accepted n) = record { number = none; values = n ∷ [] }
reply_of (refused n at) = n giving place_value at
reply_of (unproved r k f) = 11 giving (r ∷ k ∷ fault_values f)

-- of the word test, yes has neither, and no has no number but the length of the longest beginning; "12", "13, index", "14", and those of reading
abbrev pub answer_reply : Answer → Reply
answer_reply held = record { number = none; values = [] }
answer_reply (not_held n) = record { number = none; values = n ∷ [] }
answer_reply (untested n at) = n giving place_value at
