-- `in_turn` meets its contract. The loop's invariant: the first i pairs have no fault, and `missing` keeps its rows.
use mathlib.Core.Path.{◌≡◌}
use lib.ListN.{length}
use Rattle.condition.specs.Condition.{Condition}
use Rattle.certificate.specs.Certificate.{in_order, fine}
use Rattle.looks.specs.Looks.{certificate_of}
use Rattle.known.specs.Known.{Next}
use Rattle.clauses.specs.Clauses.{each_pair, SidesAre}
use Rattle.clauses.proofs.in_turn.Given as goal

abbrev pub invariant-loop-i : goal.invariant-loop-i
invariant-loop-i l =
    ((r g : Condition) → SidesAre l.task r g → in_order l.i (each_pair l.task.search.scope.events r g (certificate_of l.task.search)) ≡ fine)
    × Next l.task.search l.task.left.now.sets l.begin
    × (length l.missing ≡ 64)
