use Rattle.sheet_laws.specs.AtOffset.{declared_at}
use Rattle.values.proofs.declared_at.Goals as goal

pub returns : goal.returns
unfolding declared_at
returns c = simp (c.short_at.ensures, c.short_at-2.ensures)
