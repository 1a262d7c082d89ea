use Rattle.sheet_laws.specs.AtOffset.{point_at}
use Rattle.values.proofs.point_at.Goals as goal

pub returns : goal.returns
unfolding point_at
returns c = record { past_is = c.short_at.ensures; own_is = c.short_at-2.ensures; due_is = c.short_at-3.ensures }
