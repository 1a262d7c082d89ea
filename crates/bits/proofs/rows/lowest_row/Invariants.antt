-- `rows::lowest_row` meets its contract. The loop's invariant: no number of the set below q has a row with the number.
use Rattle.std.proofs.Common.{◌≡◌, ℕ, ◌<◌, false, ◌&&◌}
use Rattle.bits.specs.Bits.{has}
use Rattle.bits.specs.Rows.{row_has}
use Rattle.bits.proofs.rows.lowest_row.Given as goal

abbrev pub invariant-loop-q : goal.invariant-loop-q
invariant-loop-q l = (j : ℕ) → j < l.q → (has l.set j && row_has l.rows j l.k) ≡ false
