-- Refusal 18 as the code tests it, where the methods stand at the offsets of a table.
use Rattle.std.specs.Prelude.{Bool, not, cond, ◌&&◌, ◌||◌, List, ℕ, ◌+◌, length, get_or, ltb}
use Rattle.sheet.specs.Record.{byte_at}
use Rattle.sheet_laws.specs.AtOffset.{short_at}
use Rattle.kinds.specs.Kinds.{two_outcome_kind, call_kind, two_outcome_call_kind}

-- the kind of the method m of a table, 0 past its end
abbrev pub kind_listed : List ℕ → List ℕ → ℕ → ℕ
kind_listed s methods m = cond (ltb m (length methods)) (byte_at s (get_or methods m 0)) 0

-- a call without a failed target, whose record stands at the offset, names a method of two outcomes, or one with a failed target a method of one
abbrev pub wrong_outcomes_at : List ℕ → ℕ → ℕ → List ℕ → Bool
wrong_outcomes_at s at kind methods =
    (call_kind kind && two_outcome_kind (kind_listed s methods (short_at s (at + 5))))
    || (two_outcome_call_kind kind && not (two_outcome_kind (kind_listed s methods (short_at s (at + 7)))))
