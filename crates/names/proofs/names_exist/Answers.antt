-- By the section of the kind.
use mathlib.Core.Path.{ap}
use native.Mathlib.Omega.{arith}
use Rattle.kinds.specs.declared.Section.TheVariants.{Steps}
use Rattle.kinds.specs.Numbers.{section_number}
use Rattle.kinds.proofs.Numbers.{other-section}
use Rattle.names.proofs.names_exist.Goals as goal

pub step_names_exist-requires : goal.step_names_exist-requires
step_names_exist-requires c = (c.requires, omega (arith, c.section.ensures, ap section_number c.in-Steps.is))

pub declared_names_exist-requires : goal.declared_names_exist-requires
declared_names_exist-requires c =
    let other = other-section Steps c.in_default.not-Steps in
    (c.requires, omega (arith, c.section.ensures, c.requires.high, other))

pub returns-in_default : goal.returns-in_default
returns-in_default c = c.declared_names_exist.ensures c.args.events
