-- `bit` meets its contract: the shift loses nothing below 64.
use Rattle.bits.proofs.Filling.{one_shifted}
use Rattle.bits.proofs.bit.Goals as goal

pub returns : goal.returns
returns c = one_shifted c.args.k c.requires
