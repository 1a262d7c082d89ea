-- `set_at` meets its contract: the four bytes are read at once where they are there, each by itself near the end.
use mathlib.Core.Path.{sym, ◌∙◌}
use native.Mathlib.Omega.{arith}
use Rattle.std.proofs.lemmas.List.{get_or_past}
use Rattle.sheet.specs.Record.{byte_at}
use Rattle.fields.proofs.Laws.{set_past, set-of-rest}
use Rattle.fields.proofs.set_at.Goals as goal

pub returns-in_default : goal.returns-in_default
returns-in_default c = sym (set_past c.args.s.now _ (omega (arith, c.in_default.ensures.lookup)))

pub returns-in_default-rest : goal.returns-in_default-rest
unfolding byte_at
returns-in_default-rest c =
    let a = c.args in
    let r = c.in-Some.rest.now in
    let h = get_or_past r 3 0 (omega (arith, c.in_default-rest.len_below)) in
    let w = set-of-rest a.s.now r a.i c.in-Some.ensures.lookup.0.2 in
    omega (arith, h, w, c.set_of.ensures, c.byte_at.ensures, c.byte_at-in_default-rest.ensures, c.byte_at-in_default-rest-2.ensures)

pub returns-in-len4-up : goal.returns-in-len4-up
returns-in-len4-up c = c.set_of-in-len4-up.ensures ∙ set-of-rest _ _ _ c.in-Some.ensures.lookup.0.2
