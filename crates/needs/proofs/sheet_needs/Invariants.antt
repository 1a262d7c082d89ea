use Rattle.sheet.specs.Sheet.{Sheet}
use Rattle.rules.specs.Order.{groups}
use Rattle.needs.specs.Needs.{SubjectsOf}
use Rattle.needs.proofs.Summed.{Summed}
use Rattle.needs.proofs.sheet_needs.Given as goal

abbrev pub invariant-loop-number : goal.invariant-loop-number
invariant-loop-number l = (S : Sheet) → SubjectsOf S l.x → Summed (groups S) l.number l.all.rules l.all.certificates
