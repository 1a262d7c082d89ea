-- The mark of the new edition, and refusal 20, as the code tests them.
use Rattle.std.specs.Prelude.{ℕ, Bool, true, cond, ◌&&◌, List, eqb, leb}
use Rattle.sheet.specs.Reading.{is_new}

-- where the record behind the mark stands, which has no body, on an instrument that takes kinds up to `kinds`; 0 without a mark
abbrev pub past_mark : ℕ → List ℕ → ℕ
past_mark kinds s = cond (is_new s && leb 18 kinds) 1 0

-- a record of a kind is no stop, or stands in a sheet of the new edition
abbrev pub stop_fits : List ℕ → ℕ → Bool
stop_fits s kind = cond (eqb kind 19) (is_new s) true
