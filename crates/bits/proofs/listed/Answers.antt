-- `listed` meets its contract: a word has no number from 64 on.
use mathlib.Core.Path.{◌∙◌}
use mathlib.Core.Bool.{false}
use native.Mathlib.Omega.{arith}
use borrow.Author.Tests.{le-ltb}
use borrow.Author.Rules.{rules}
use Rattle.bits.specs.Bits.{has}
use Rattle.bits.proofs.Tests.{T-ext}
use Rattle.bits.proofs.Sets.{has-lt}
use Rattle.bits.proofs.listed.Goals as goal

pub returns-else-k-lt64 : goal.returns-else-k-lt64
returns-else-k-lt64 c =
    let a = c.args in
    le-ltb a.k 64 (search rules) ∙ T-ext false (has a.set a.k) (λ h. absurd h) (λ h. absurd (omega (arith, has-lt 64 a.set a.k (search rules) h)))
