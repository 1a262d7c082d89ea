-- The ways of returning and what a call enters, as the code has them.
use Rattle.std.proofs.Math.Option as math
use Rattle.std.specs.Prelude.{List, ℕ, Option, Some, None}
use Rattle.sheet.specs.Sheet.{Outcome, failed, Sheet, due}
use Rattle.postfix.specs.Parts.{StandsAt}
use Rattle.index.specs.Indexed.{PointIs, OutcomeIs}
use Rattle.index.specs.declared.ways.Way.{Way}

-- the way by which the method m returns with the outcome o, at or to the point p
pub record WayIs (s : List ℕ) (S : Sheet) (m : ℕ) (o : Outcome) (p : ℕ) (x : Way) : Type 0 where
  pub point_is : PointIs s S p x.point
  pub declared_is : OutcomeIs s S m o x.declared

-- the failed way of the method m, at or to a point, if there is one
abbrev pub FailingIs : List ℕ → Sheet → ℕ → math.Option ℕ → Option Way → Type 0
FailingIs s S m math.none None = Unit {0}
FailingIs s S m math.none (Some x) = ⊥
FailingIs s S m (math.some p) None = ⊥
FailingIs s S m (math.some p) (Some x) = WayIs s S m failed p x

-- the due of the entry that rule 26 asks about, if it asks about one
abbrev pub EnteredIs : List ℕ → Sheet → math.Option ℕ → Option ℕ → Type 0
EnteredIs s S math.none None = Unit {0}
EnteredIs s S math.none (Some d) = ⊥
EnteredIs s S (math.some e) None = ⊥
EnteredIs s S (math.some e) (Some d) = StandsAt s d (due S e)
