use mathlib.Core.Path.{sym}
use Rattle.kinds.specs.declared.Kind.TheVariants.{Join, Either, Star}
use Rattle.kinds.proofs.Table.{none-taken}
use Rattle.kinds.proofs.bytes.items_taken.Goals as goal

pub returns-in_default : goal.returns-in_default
returns-in_default c =
    let none = c.in_default.ensures.1 in
    sym (none-taken c.args.byte (λ e. none Join (sym e)) (λ e. none Either (sym e)) (λ e. none Star (sym e)))
