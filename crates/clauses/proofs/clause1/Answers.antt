-- `clause1` meets its contract: by what stands first in the certificate.
use mathlib.Core.Path.{sym, ap, ◌∙◌}
use mathlib.Core.Bool.{Bool, ◌&&◌}
use lib.Dec.{eqb}
use borrow.Author.Tests.{eq-eqb, ne_eqb}
use Rattle.clauses.proofs.AllPairs.{no_pair, first-pair}
use Rattle.clauses.proofs.clause1.Goals as goal

pub returns-in_default : goal.returns-in_default
returns-in_default c = no_pair _ (sym c.pair_in.ensures ∙ c.in_default.is)

pub returns-then-pair-eq0 : goal.returns-then-pair-eq0
returns-then-pair-eq0 c =
    ap (λ (b : Bool). b && eqb c.in-Some.pair.set 1) (sym (eq-eqb _ _ c.if-pair-eq0.true)) ∙ first-pair _ (sym c.pair_in.ensures ∙ c.in-Some.is)

pub returns-else-pair-eq0 : goal.returns-else-pair-eq0
returns-else-pair-eq0 c =
    let off = ne_eqb c.in-Some.pair.place 0 c.if-pair-eq0.false in
    off ∙ ap (λ (b : Bool). b && eqb c.in-Some.pair.set 1) (sym off) ∙ first-pair _ (sym c.pair_in.ensures ∙ c.in-Some.is)
