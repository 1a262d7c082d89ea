-- `exchanged` meets its contract: the machine's exchange is the exchange.
use native.Mathlib.Omega.{arith}
use Rattle.condition.proofs.Swap.{exchange-word}
use Rattle.items.proofs.exchanged.Goals as goal

pub returns : goal.returns
returns c = let few = c.requires in exchange-word 64 c.args.channel c.args.set (omega arith)
