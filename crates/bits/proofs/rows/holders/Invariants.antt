-- `rows::holders` meets its contract. The invariant, `Holders`: `found` has the holders below q, and nothing from q on.
use Rattle.bits.proofs.Filling.{Holders}
use Rattle.bits.proofs.rows.holders.Given as goal

abbrev pub invariant-loop-q : goal.invariant-loop-q
invariant-loop-q l = Holders l.rows l.n l.k l.found l.q
