-- What is read so far is stored in front; where there is nothing to read, the loop stays where it begins.
use Rattle.std.proofs.Common.{◌≡◌, ◌-◌, ◌≤◌}
use Rattle.decimal.proofs.Storing.{Stored}
use Rattle.decimal.proofs.read_events.Given as goal

abbrev pub invariant-loop-i : goal.invariant-loop-i
invariant-loop-i g l = record { none : l.count ≤ l.from → l.i ≡ l.from; stored : Stored l.initial.word l.word (l.i - l.from) }
