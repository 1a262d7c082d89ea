use native.Mathlib.Omega.{arith}
use Rattle.claims.proofs.Says.{read_plain}
use Rattle.claims.proofs.forms.on_channel.Goals as goal

pub returns-then-channel-eq0 : goal.returns-then-channel-eq0
returns-then-channel-eq0 c = λ s r o p is. read_plain s _ r o is (omega (arith, c.if-channel-eq0.true)) p
