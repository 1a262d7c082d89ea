-- Answers as numbers, for callers in C and Rust: what the doors return and what they write into a lent slice.
use Rattle.std.specs.Prelude.{ℕ, zero, suc, ◌-◌, ◌^◌, cond, List, [], ◌∷◌, ◌++◌, length, drop, leb}
use Rattle.std.proofs.Math.Option.{Option, none, some}
use Rattle.sheet.specs.Kind.{conditions, points, methods, steps, certificates}
use Rattle.sheet.specs.Reading.{tally, ReadResult, whole, refusal}
use Rattle.verdict.specs.Verdict.{Report, accepted, refused, unproved}
use Rattle.verdict.specs.WordTest.{Answer, held, not_held, untested}
use Rattle.verdict.specs.Reply.{Reply, reply_of, answer_reply}

-- Status ----------------------------------------------------------------------------------------------------------------

-- how many numbers a door writes
abbrev pub room : ℕ
room = 8

-- the status of a door that wrote nothing, since the slice has less room
abbrev pub unwritten : ℕ
unwritten = 0

-- 1 accepted, 2 refused, 3 unproved
abbrev pub report_status : Report → ℕ
report_status (accepted n) = 1
report_status (refused n at) = 2
report_status (unproved r k f) = 3

-- 1 yes, 2 refused, 3 no
abbrev pub answer_status : Answer → ℕ
answer_status held = 1
answer_status (not_held n) = 3
answer_status (untested n at) = 2

-- 1 read whole, 2 refused
abbrev pub read_status : ReadResult → ℕ
read_status (whole r) = 1
read_status (refusal n at r) = 2

-- 4: the number that was given for the instrument is none's
abbrev pub unknown_status : ℕ
unknown_status = 4

-- Numbers ---------------------------------------------------------------------------------------------------------------

-- the reply of reading alone: the five counts of a sheet that is read whole, or a refusal's number and place
abbrev pub tally_reply : (ℕ → ℕ) → Reply
tally_reply count = record { number = none; values = count conditions ∷ count points ∷ count methods ∷ count steps ∷ count certificates ∷ [] }

abbrev pub read_reply : ReadResult → Reply
read_reply (whole r) = tally_reply (tally r)
read_reply (refusal n at r) = reply_of (refused n (some at))

-- document 01's number of an answer; 0 where it has none
abbrev pub number_or_zero : Option ℕ → ℕ
number_or_zero none = 0
number_or_zero (some n) = n

-- the values; a refusal without a place has the largest number for it
abbrev pub values_in : Option ℕ → List ℕ → List ℕ
values_in none values = values
values_in (some n) [] = (2 ^ 64 - 1) ∷ []
values_in (some n) (value ∷ values) = value ∷ values

-- the first n numbers, with zeros where there are fewer
abbrev pub filled : ℕ → List ℕ → List ℕ
filled zero xs = []
filled (suc n) [] = 0 ∷ filled n []
filled (suc n) (x ∷ xs) = x ∷ filled n xs

-- the status, the number and the values of an answer
abbrev pub numbers_of : ℕ → Reply → List ℕ
numbers_of status r = filled room (status ∷ number_or_zero r.number ∷ values_in r.number r.values)

abbrev pub report_numbers : Report → List ℕ
report_numbers r = numbers_of (report_status r) (reply_of r)

abbrev pub answer_numbers : Answer → List ℕ
answer_numbers a = numbers_of (answer_status a) (answer_reply a)

abbrev pub read_numbers : ReadResult → List ℕ
read_numbers o = numbers_of (read_status o) (read_reply o)

-- an unknown instrument has the status alone, whatever the sheet
abbrev pub unknown_numbers : List ℕ
unknown_numbers = filled room (unknown_status ∷ [])

-- Storing -----------------------------------------------------------------------------------------------------

-- the numbers stand at the front of a slice with room for them; a shorter slice stays as it is
abbrev pub stored : List ℕ → List ℕ → List ℕ
stored numbers before = cond (leb room (length before)) (numbers ++ drop room before) before

-- the status that is returned
abbrev pub returned : ℕ → List ℕ → ℕ
returned status before = cond (leb room (length before)) status unwritten
