-- Refusals 24 and 25 as the code tests them, where the points stand at the offsets of a table.
use Rattle.std.specs.Prelude.{Bool, cond, List, [], ◌∷◌, ℕ, length, get_or, ltb}
use Rattle.std.proofs.Math.Option.{Option, none, some}
use Rattle.sheet.specs.Kind.{kind_of}
use Rattle.sheet.specs.Record.{record_at}
use Rattle.sheet.specs.Reading.{all_agree, owners_joined, no_method}
use Rattle.sheet_laws.specs.AtOffset.{owner_at}

-- the owner of the point p of a table, if it has one; nobody past its end
abbrev pub owner_listed : List ℕ → List ℕ → ℕ → Option ℕ
owner_listed s points p = cond (ltb p (length points)) (owner_at s (get_or points p 0)) none

-- not 24, of a record of a kind at the offset, which as a method gets the number
abbrev pub owners_fit : List ℕ → (at kind number : ℕ) → List ℕ → Bool
owners_fit s at kind number points = all_agree (owners_joined number (owner_listed s points) (kind_of kind) (record_at s at).values)

-- the first of these offsets whose point has an owner that is none of so many methods
abbrev pub stray_in : List ℕ → (methods : ℕ) → List ℕ → Option ℕ
stray_in s methods [] = none
stray_in s methods (at ∷ ats) = let rest = stray_in s methods ats in cond (no_method methods (owner_at s at)) (some at) rest
