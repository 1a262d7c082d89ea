-- `long_set_at` meets its contract: two sets of four bytes, which do not meet, since each byte is below 256.
use mathlib.Core.Path.{sym}
use Prim.Native.Nat.{◌+◌}
use native.Mathlib.Omega.{arith}
use borrow.Author.Rules.{rules}
use Rattle.sheet_laws.proofs.Fields.{long-set-is, set-lt}
use Rattle.fields.proofs.Laws.{long-set-past}
use Rattle.fields.proofs.long_set_at.Goals as goal

pub overflow_mul-result : goal.overflow_mul-result
overflow_mul-result c =
    let a = c.args in
    omega (arith, c.set_at-then-i-s.ensures, set-lt a.s.now (search rules) (a.i + 4))

pub overflow_add-result : goal.overflow_add-result
overflow_add-result c =
    let a = c.args in
    omega (arith, c.set_at.ensures, c.set_at-then-i-s.ensures, set-lt a.s.now (search rules) a.i, set-lt a.s.now (search rules) (a.i + 4))

pub returns-then-i-s : goal.returns-then-i-s
returns-then-i-s c =
    let a = c.args in
    omega (arith, c.set_at.ensures, c.set_at-then-i-s.ensures, long-set-is a.s.now a.i)

pub returns : goal.returns
returns c = sym (long-set-past c.args.s.now _ c.if-i-s.false)
