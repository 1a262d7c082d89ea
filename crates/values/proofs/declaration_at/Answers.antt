use Rattle.sheet_laws.specs.AtOffset.{method_at}
use Rattle.values.proofs.declaration_at.Goals as goal

pub returns : goal.returns
unfolding method_at
returns c = record { pre_is = c.short_at.ensures; normal_is = c.declared_at-normal.ensures }
