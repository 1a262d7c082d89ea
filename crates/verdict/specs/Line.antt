-- The lines that the loading program and the word test's program print, as bytes without the newline: document 01, "Sheets to try".
use Rattle.std.specs.Prelude.{ℕ, zero, suc, ◌+◌, ◌/◌, ◌%◌, cond, List, [], ◌∷◌, ◌++◌, ltb}
use Prim.Native.String.{String, [] as no_chars, ◌∷◌ as ◌and_then◌}
use Prim.Native.Char.{code}
use Rattle.std.proofs.Math.Option.{Option}
use Rattle.runs.specs.Rules.{of_method}
use Rattle.verdict.specs.Verdict.{Report, accepted, refused, unproved}
use Rattle.verdict.specs.WordTest.{Answer, held, not_held, untested}
use Rattle.verdict.specs.Reply.{reply_of, answer_reply}

-- the bytes of a text in ASCII
unfoldable pub ascii : String → List ℕ
ascii no_chars = []
ascii (c and_then t) = code c ∷ ascii t

-- a number in decimal: its last digit comes behind the digits of its tenth. 48 is the digit 0.
unfoldable pub digits_on : ℕ → ℕ → List ℕ → List ℕ
digits_on zero n after = after
digits_on (suc fuel) n after =
    let more = digits_on fuel (n / 10) ((48 + n % 10) ∷ after) in
    cond (ltb n 10) ((48 + n) ∷ after) more

-- each step makes the number smaller, so n + 1 steps are enough
unfoldable pub decimal : ℕ → List ℕ
unfolding digits_on
decimal n = digits_on (suc n) n []

-- texts, and behind each of them a number, as far as there are numbers
abbrev pub labelled : List (List ℕ) → List ℕ → List ℕ
labelled [] values = []
labelled (text ∷ texts) [] = []
labelled (text ∷ texts) (n ∷ values) = text ++ (decimal n ++ labelled texts values)

-- "refused 9 at 0", and where a refusal has no place its number alone
abbrev pub refused_line : ℕ → Option ℕ → List ℕ
refused_line n at = ascii "refused " ++ (decimal n ++ labelled (ascii " at " ∷ []) (reply_of (refused n at)).values)

-- of a rule's subject: "from rule 7 on, `step` stands for `method`"; "22 to 24 have a method as subject"
abbrev pub subject_name : ℕ → List ℕ
subject_name rule = cond (of_method rule) (ascii " method ") (ascii " step ")

-- the texts of "unproved rule 5 method 0 clause 3 pair 0 event 0 place 0"
abbrev pub unproved_texts : ℕ → List (List ℕ)
unproved_texts rule =
    ascii "unproved rule " ∷ subject_name rule ∷ ascii " clause " ∷ ascii " pair " ∷ ascii " event " ∷ ascii " place " ∷ []

-- the line of a report
unfoldable pub line : Report → List ℕ
unfolding ascii decimal
line (accepted n) = labelled (ascii "accepted " ∷ []) (reply_of (accepted n)).values
line (refused n at) = refused_line n at
line (unproved r k f) = labelled (unproved_texts r) (reply_of (unproved r k f)).values

-- what the word test's program prints
unfoldable pub answer_line : Answer → List ℕ
unfolding ascii decimal
answer_line held = ascii "yes"
answer_line (not_held n) = labelled (ascii "no " ∷ []) (answer_reply (not_held n)).values
answer_line (untested n at) = refused_line n at
