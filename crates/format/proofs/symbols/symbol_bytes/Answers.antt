-- `symbols::symbol_bytes` meets its contract: a leaf and a long leaf have a body, and the other symbols none.
use mathlib.Core.Path.{refl}
use native.Mathlib.Omega.{arith}
use Rattle.std.proofs.Common.{rules}
use Rattle.format.proofs.SymbolKinds.{behind-kind, behind-other}
use Rattle.format.proofs.symbols.symbol_bytes.Goals as goal

pub returns-in-1 : goal.returns-in-1
returns-in-1 c = behind-kind _ _ 1 c.in-1.is c.byte_at.ensures refl (omega arith)

pub returns-in-21 : goal.returns-in-21
returns-in-21 c = behind-kind _ _ 21 c.in-21.is c.byte_at.ensures refl (omega arith)

pub returns-in_default : goal.returns-in_default
returns-in_default c = search (rules, behind-other)
