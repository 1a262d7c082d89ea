use mathlib.Core.Path.{sym, ◌∙◌}
use Rattle.sheet.specs.Record.{byte_at}
use Rattle.fields.proofs.Laws.{set_is}
use Rattle.fields.proofs.set_inside.Goals as goal

pub returns : goal.returns
unfolding byte_at
returns c = c.set_of.ensures ∙ sym (set_is _ _)
