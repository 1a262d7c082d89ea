-- The number so far, with the digits that follow, gives the whole.
use Rattle.std.proofs.Common.{◌≡◌, ◌≤◌, drop}
use Rattle.decimal.specs.Decimal.{number_from, number_in}
use Rattle.decimal.proofs.number_in.Given as goal

abbrev pub invariant-loop-b : goal.invariant-loop-b
invariant-loop-b l = record {
  limited : l.n ≤ 65535;
  whole : number_from l.n (drop l.b-index l.text) ≡ number_in l.text;
}
