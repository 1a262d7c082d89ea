-- Points with an owner: document 02, Ask 9.
use Rattle.std.specs.Prelude.{◌≡◌, ℕ, true, List, [], ◌∷◌}
use Rattle.std.proofs.Math.Option.{Option, some}
use Rattle.sheet.specs.Each.{Each}
use Rattle.sheet.specs.Sheet.{Point, Sheet, is_some, owner}
use Rattle.runs.specs.Runs.{Call, State}

-- "If all points have owners"
abbrev pub AllOwned : Sheet → Type 0
AllOwned S = Each (λ (x : Point). is_some x.owner ≡ true) S.points

-- "the point of a run belongs to the active method as long as a call is open": its owner is the method of the innermost open call
abbrev pub OfActive : Option ℕ → List Call → Type 0
OfActive owner [] = Unit {0}
OfActive owner (c ∷ callers) = owner ≡ some c.method

abbrev pub Belongs : Sheet → State → Type 0
Belongs S s = OfActive (owner S s.point) s.open_calls
