-- `next_within` meets its contract. The loop's invariant: the pairs from `from` on, below i, are passed over.
use mathlib.Core.List.{List}
use Prim.Native.Nat.{ℕ}
use Rattle.sheet_laws.specs.AtOffset.{certificate_at}
use Rattle.looks.specs.Looks.{Passed}
use Rattle.looks.proofs.next_within.Given as goal

abbrev pub invariant-loop-i : goal.invariant-loop-i
invariant-loop-i l = (m : ℕ) (sets rows : List ℕ) → Passed (certificate_at l.pairs 0) m l.onward sets rows l.from l.i
