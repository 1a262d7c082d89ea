-- The length of a body by its kind, or that there is none: document 02, Ask 7.
use Rattle.std.specs.Prelude.{ℕ, zero, suc, cond, Option, Some, None, List, [], ◌∷◌, length, get_or, ltb}
use Rattle.sheet.specs.Kind.{body_length}
use Rattle.kinds.specs.Kinds.{last_kind, is_known}

-- what the code's decision gives: the length by the table of kinds, or that there is none
abbrev pub length_of : ℕ → Option ℕ
length_of kind = cond (is_known last_kind kind) (Some (body_length kind)) None

-- the lengths as the documents have them: document 01, "Body lengths by kind, 1 to 14"; of 15 to 22 by their fields in document 02, Asks 2, 4, 9 and
-- 11
abbrev pub lengths : List ℕ
lengths = 4 ∷ 0 ∷ 0 ∷ 0 ∷ 0 ∷ 0 ∷ 6 ∷ 6 ∷ 10 ∷ 5 ∷ 6 ∷ 4 ∷ 5 ∷ 0 ∷ 10 ∷ 16 ∷ 8 ∷ 0 ∷ 2 ∷ 8 ∷ 8 ∷ 7 ∷ []

-- .. of any byte: 0 and those past the list have none
abbrev pub listed_length : ℕ → Option ℕ
listed_length zero = None
listed_length (suc i) = cond (ltb i (length lengths)) (Some (get_or lengths i 0)) None
