-- `rows::fill_holding` meets its contract. The invariant: the rows below k are filled.
use Rattle.bits.specs.Rows.{Holding}
use Rattle.bits.proofs.rows.fill_holding.Given as goal

abbrev pub invariant-loop-k : goal.invariant-loop-k
invariant-loop-k l = Holding l.rows l.n l.k l.holding
