-- The code's tally: what was counted in each section, and the tally with one more in a section.
use Rattle.std.specs.Prelude.{ℕ, ◌+◌, ◌^◌, ◌<◌, Bool, cond, [], ◌∷◌, get_or, eqb}
use Rattle.tally.specs.declared.Tally.{Tally}

abbrev pub count_of : Tally → ℕ → ℕ
count_of t k = get_or (0 ∷ t.conditions ∷ t.points ∷ t.methods ∷ t.steps ∷ t.certificates ∷ []) k 0

-- one more of a section fits a machine number
abbrev pub Room : Tally → ℕ → Type 0
Room t k = count_of t k + 1 < 2 ^ 64

-- one more where the test passes
abbrev pub plus_if : Bool → ℕ → ℕ
plus_if b n = cond b (n + 1) n

abbrev pub tally_after : Tally → ℕ → Tally
tally_after t k =
    record {
      conditions = plus_if (eqb k 1) t.conditions;
      points = plus_if (eqb k 2) t.points;
      methods = plus_if (eqb k 3) t.methods;
      steps = plus_if (eqb k 4) t.steps;
      certificates = plus_if (eqb k 5) t.certificates;
    }

abbrev pub nothing_counted : Tally
nothing_counted = record { conditions = 0; points = 0; methods = 0; steps = 0; certificates = 0 }
