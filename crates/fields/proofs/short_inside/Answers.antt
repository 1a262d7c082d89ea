use Rattle.sheet.specs.Record.{byte_at}
use Rattle.sheet_laws.specs.AtOffset.{short_at}
use Rattle.fields.proofs.short_inside.Goals as goal

pub returns : goal.returns
unfolding short_at byte_at
returns c = c.short_of.ensures
