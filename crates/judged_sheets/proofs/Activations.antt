-- The sheet of examples/activations, from its bytes: it is accepted, so what its runs owe is promised.
use mathlib.Core.Path.{◌≡◌, refl}
use mathlib.Core.List.Memᴰ
use mathlib.Core.List.{List, [], ◌∷◌, ◌++◌}
use Prim.Native.Nat.{ℕ}
use native.Mathlib.Omega.{arith}
use Rattle.condition.specs.Condition.{Word, Holds}
use Rattle.sheet.specs.Model.{large}
use Rattle.sheet.proofs.Each.{each-head, each_tail}
use Rattle.sheet.specs.Sheet.{normal, condition}
use Rattle.sheet.specs.Decode.{sheet_of}
use Rattle.runs.specs.Runs.{return, by_step, run, Safe}
use Rattle.runs.proofs.Alike.{visits, to_first}
use Rattle.verdict.specs.Verdict.{accepted, verdict_of}
use Rattle.verdict.specs.Cases.{start_only}
use Rattle.verdict.proofs.Bytes.{small, are-bytes}
use Rattle.verdict.proofs.Loads.{loads}

-- The bytes -------------------------------------------------------------------------------------------------------------

-- empty, any*, {2}*, (not 0)*
abbrev conditions : List ℕ
conditions =
    0x02 ∷ 0x06
    ∷ 0x01 ∷ 0xFF ∷ 0xFF ∷ 0xFF ∷ 0xFF ∷ 0x05 ∷ 0x06
    ∷ 0x01 ∷ 0x04 ∷ 0x00 ∷ 0x00 ∷ 0x00 ∷ 0x05 ∷ 0x06
    ∷ 0x01 ∷ 0xFE ∷ 0xFF ∷ 0xFF ∷ 0xFF ∷ 0x05 ∷ 0x06
    ∷ []

abbrev points : List ℕ
points =
    0x07 ∷ 0x02 ∷ 0x00 ∷ 0x00 ∷ 0x00 ∷ 0x01 ∷ 0x00
    ∷ 0x07 ∷ 0x02 ∷ 0x00 ∷ 0x02 ∷ 0x00 ∷ 0x02 ∷ 0x00
    ∷ 0x07 ∷ 0x02 ∷ 0x00 ∷ 0x02 ∷ 0x00 ∷ 0x02 ∷ 0x00
    ∷ []

-- method 0 goes from point 0 to 2; the primitive 1 raises nothing and asks that 0 does not come
abbrev methods : List ℕ
methods =
    0x09 ∷ 0x02 ∷ 0x00 ∷ 0x02 ∷ 0x00 ∷ 0x02 ∷ 0x00 ∷ 0x00 ∷ 0x00 ∷ 0x02 ∷ 0x00
    ∷ 0x08 ∷ 0x01 ∷ 0x00 ∷ 0x00 ∷ 0x00 ∷ 0x03 ∷ 0x00
    ∷ []

-- from 0 to 1 by the primitive, from 1 to 1 by method 0, from 1 to 2 by nothing or by event 2
abbrev steps : List ℕ
steps =
    0x0B ∷ 0x00 ∷ 0x00 ∷ 0x01 ∷ 0x00 ∷ 0x01 ∷ 0x00
    ∷ 0x0B ∷ 0x01 ∷ 0x00 ∷ 0x01 ∷ 0x00 ∷ 0x00 ∷ 0x00
    ∷ 0x0C ∷ 0x01 ∷ 0x00 ∷ 0x02 ∷ 0x00
    ∷ 0x0A ∷ 0x01 ∷ 0x00 ∷ 0x02 ∷ 0x00 ∷ 0x02
    ∷ []

-- certificates of two and of three pairs
abbrev two : List ℕ
two = 0x0D ∷ 0x00 ∷ 0x01 ∷ 0x00 ∷ 0x00 ∷ 0x00 ∷ 0x0D ∷ 0x01 ∷ 0x02 ∷ 0x00 ∷ 0x00 ∷ 0x00 ∷ 0x0E ∷ []

abbrev three : List ℕ
three =
    0x0D ∷ 0x00 ∷ 0x01 ∷ 0x00 ∷ 0x00 ∷ 0x00 ∷ 0x0D ∷ 0x01 ∷ 0x02 ∷ 0x00 ∷ 0x00 ∷ 0x00 ∷ 0x0D ∷ 0x02 ∷ 0x02 ∷ 0x00 ∷ 0x00 ∷ 0x00 ∷ 0x0E ∷ []

abbrev certificates : List ℕ
certificates =
    two ++ two ++ two
    ++ two ++ two ++ start_only ++ two ++ two
    ++ two ++ three ++ three ++ two ++ three
    ++ two ++ two ++ two
    ++ three ++ three ++ three

unfoldable sheet : List ℕ
sheet = conditions ++ points ++ methods ++ steps ++ certificates

is-accepted : verdict_of large sheet ≡ accepted 22
unfolding sheet verdict_of
is-accepted = refl

-- What it owes ----------------------------------------------------------------------------------------------------------

-- the sheet that the bytes stand for, whose runs are looked at in runs/proofs/Alike
stands-for : ((sheet_of large sheet).conditions ≡ visits.conditions)
    × ((sheet_of large sheet).points ≡ visits.points)
    × ((sheet_of large sheet).methods ≡ visits.methods)
    × ((sheet_of large sheet).steps ≡ visits.steps)
unfolding sheet sheet_of
stands-for = (refl, refl, refl, refl)

-- The promise, where the first activation returns after event 2 and control is in the outermost: 2 and any word of the due there lie in what the
-- primitive asked.
met-in-outermost : (v : Word) → Holds (condition visits 2) v → Holds (condition visits 3) (2 ∷ v)
unfolding sheet sheet_of run small
met-in-outermost v h =
    let ms = to_first ++ (by_step 3 normal [] ∷ return normal ∷ []) in
    each-head (each_tail ((loads large sheet (omega arith) (are-bytes sheet tt)).owing 22 is-accepted ms)) (Memᴰ.tail (Memᴰ.head refl)) v h

-- And that run, with a step of each kind in the sheet, is safe by the promise.
safe-in-outermost : Safe (sheet_of large sheet) (run (sheet_of large sheet) 0 (to_first ++ (by_step 3 normal [] ∷ return normal ∷ [])))
unfolding sheet small
safe-in-outermost = (loads large sheet (omega arith) (are-bytes sheet tt)).sound 22 is-accepted (to_first ++ (by_step 3 normal [] ∷ return normal ∷ []))
