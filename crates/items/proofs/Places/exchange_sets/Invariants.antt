-- `exchange_sets` meets its contract. The invariant, `Exchanging`: the sets up to leaf q are exchanged, and those behind it are not.
use Rattle.std.proofs.Common.{◌≡◌}
use Rattle.items.specs.Stack.{Rows}
use Rattle.items.proofs.Channels.{Exchanging}
use Rattle.items.proofs.Places.exchange_sets.Given as goal

abbrev pub invariant-loop-q : goal.invariant-loop-q
invariant-loop-q l = Exchanging l.from l.q l.channel l.initial.self.sets l.self.sets × (l.self.follow ≡ l.initial.self.follow) × Rows l.self
