-- `short_at` meets its contract: the second byte is 0 where the first is the last of the sheet.
use mathlib.Core.Path.{sym, ◌∙◌}
use native.Mathlib.Omega.{arith}
use Rattle.std.proofs.lemmas.List.{get_or_past}
use Rattle.sheet.specs.Record.{byte_at}
use Rattle.fields.proofs.Laws.{short-past, short-of-rest}
use Rattle.fields.proofs.short_at.Goals as goal

pub returns-in_default : goal.returns-in_default
returns-in_default c = sym (short-past c.args.s.now _ (omega (arith, c.in_default.ensures.lookup)))

pub returns-in_default-rest : goal.returns-in_default-rest
unfolding byte_at
returns-in_default-rest c =
    let a = c.args in
    let r = c.in-Some.rest.now in
    let h = get_or_past r 1 0 (omega (arith, c.in_default-rest.len_below)) in
    omega (arith, h, c.byte_at.ensures, short-of-rest a.s.now r a.i c.in-Some.ensures.lookup.0.2)

pub returns-in-len2-up : goal.returns-in-len2-up
returns-in-len2-up c = c.short_of.ensures ∙ short-of-rest _ _ _ c.in-Some.ensures.lookup.0.2
