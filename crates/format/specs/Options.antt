-- The option of the definitions that an Option of the code stands for.
use Rattle.std.specs.Prelude.{Option, None, Some}
use Rattle.std.proofs.Math.Option as math

abbrev pub option_of : {A : Type 0} → Option A → math.Option A
option_of None = math.none
option_of (Some x) = math.some x
