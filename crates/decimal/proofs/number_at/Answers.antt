use Rattle.std.proofs.Common.{take}
use Rattle.decimal.proofs.Decimal.{number-bounded}
use Rattle.decimal.proofs.number_at.Goals as goal

pub returns : goal.returns
returns g c = rw c.number_in.ensures (number-bounded (take c.argument-n.result c.argument-n.new.room))
