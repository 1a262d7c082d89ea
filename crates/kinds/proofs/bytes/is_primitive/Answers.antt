use mathlib.Core.Path.{sym}
use Rattle.kinds.specs.declared.Kind.TheVariants.{Primitive, TwoOutcomePrimitive}
use Rattle.kinds.proofs.Numbers.{no_kind}
use Rattle.kinds.proofs.bytes.is_primitive.Goals as goal

pub returns-in_default : goal.returns-in_default
returns-in_default c = sym (no_kind c.in_default.ensures.1 Primitive TwoOutcomePrimitive)
