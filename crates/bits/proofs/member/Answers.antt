-- `member` meets its contract.
use Rattle.bits.proofs.Masks.{has-test}
use Rattle.bits.proofs.member.Goals as goal

pub returns : goal.returns
returns c = has-test c.args.set c.args.k
