use Rattle.sheet.specs.Record.{byte_at}
use borrow.Author.Rules.{rules}
use Rattle.fields.proofs.byte_at.Goals as goal

pub returns : goal.returns
unfolding byte_at
returns c = search rules
