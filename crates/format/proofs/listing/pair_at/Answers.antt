-- `pair_at` meets its contract, field by field.
use Rattle.sheet.specs.Record.{byte_at}
use Rattle.format.proofs.Pairs.{fields-are}
use Rattle.format.proofs.listing.pair_at.Goals as goal

pub returns : goal.returns
unfolding byte_at
returns c = fields-are _ _ c.from.ensures c.set_inside.ensures
