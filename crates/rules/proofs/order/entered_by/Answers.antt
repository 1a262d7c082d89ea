use mathlib.Core.Path.{◌≡◌, sym, ap, ◌∙◌, subst}
use mathlib.Core.Option.{Option, some}
use Prim.Native.Nat.{ℕ}
use Rattle.std.specs.Prelude.{Some}
use Rattle.runs.specs.Rules.{entry_asked}
use Rattle.format.specs.Options.{option_of}
use Rattle.index.specs.Ways.{EnteredIs}
use Rattle.index.proofs.Indexed.{point-in, called-in, entry_named}
use Rattle.rules.proofs.order.entered_by.Goals as goal

pub point-entry-requires : goal.point-entry-requires
point-entry-requires c =
    let (S, x, l) = c.requires in
    let asked : entry_asked S c.args.m ≡ some c.in_ok-e.e = sym (c.entry_asked.ensures S (called-in x _ l)) ∙ ap option_of c.in_ok-e.was in
    (S, point-in x _ (entry_named x _ l _ asked))

pub returns : goal.returns
returns c =
    λ S x l.
    let asked : entry_asked S c.args.m ≡ some c.in_ok-e.e = sym (c.entry_asked.ensures S (called-in x _ l)) ∙ ap option_of c.in_ok-e.was in
    subst (λ (e : Option ℕ). EnteredIs c.args.x.sheet.now S e (Some c.point-entry.result.due)) (sym asked)
    (c.point-entry.ensures S (point-in x _ (entry_named x _ l _ asked))).due_stands
