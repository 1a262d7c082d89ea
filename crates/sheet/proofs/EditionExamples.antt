-- Sheets of the new edition, by evaluation: a sheet with a stop, where the mark may stand, stops in new and in old sheets, refusals 19 and 20 in their
-- order, and an instrument that takes neither kind.
use mathlib.Core.Path.{◌≡◌, refl}
use mathlib.Core.Bool.{true, false}
use mathlib.Core.Option.{none}
use mathlib.Core.List.{List, [], ◌∷◌, ◌++◌, map}
use Prim.Native.Nat.{ℕ}
use lib.ListN.{replicate}
use Rattle.condition.specs.Condition.{empty}
use Rattle.sheet.specs.Model.{large, with_kinds}
use Rattle.sheet.specs.Sheet.{point_from, pass_step, stop_step}
use Rattle.sheet.specs.Reading.{starting_from, read_from, read_sheet}
use Rattle.sheet.specs.Decode.{sheet_of}
use Rattle.sheet.proofs.Examples.{pair_bytes, declared, one_outcome, body, starts, Row, number_and_place, after, times, point0, method0, pass0, naming, failing_call, failing_method0}

-- A sheet ---------------------------------------------------------------------------------------------------------------

abbrev stop : ℕ → List ℕ
stop p = naming 0x13 (p ∷ [])

-- "A sheet of the new edition begins with a record of kind 18": two conditions, two points, a method, a stop between two passes
abbrev new_sheet : List ℕ
new_sheet = 0x12 ∷ (times 2 (0x02 ∷ 0x06 ∷ []) ++ (times 2 point0 ++ (method0 ++ (pass0 ++ (stop 1 ++ pass0)))))

new-sheet-is-so : sheet_of large new_sheet
    ≡ record {
      conditions = replicate 2 empty;
      points = replicate 2 (point_from 0 0 0);
      methods = one_outcome 0 (declared 0 0) (body 0 0 none) ∷ [];
      steps = pass_step 0 0 ∷ stop_step 1 ∷ pass_step 0 0 ∷ [];
      certificates = [];
      new = true;
    }
unfolding sheet_of
new-sheet-is-so = refl

-- its first condition starts behind the mark
new-sheet-starts : starts (read_sheet large new_sheet) ≡ (1 ∷ 3 ∷ []) ∷ (5 ∷ 12 ∷ []) ∷ (19 ∷ []) ∷ (30 ∷ 35 ∷ 38 ∷ []) ∷ [] ∷ []
unfolding starts read_sheet
new-sheet-starts = refl

-- bytes that are refused stand for an old sheet, also where they begin with the mark
refused-is-old : (sheet_of large (0x12 ∷ [])).new ≡ false
unfolding sheet_of
refused-is-old = refl

-- The mark --------------------------------------------------------------------------------------------------------------

abbrev mark_rows : List Row
mark_rows =
    -- alone, before a condition that is open at the end, and before a sheet
    after 0 0 0 0 (0x12 ∷ []) (9 ∷ 1 ∷ [])
    ∷ after 0 0 0 0 (0x12 ∷ 0x02 ∷ []) (8 ∷ 2 ∷ [])
    ∷ after 1 1 0 0 (0x12 ∷ method0) []
    -- "19 when kind 18 is not first": twice, between two conditions and behind the last one, also in an old sheet
    ∷ after 0 0 0 0 (0x12 ∷ 0x12 ∷ []) (19 ∷ 1 ∷ [])
    ∷ after 0 0 0 0 (0x12 ∷ 0x02 ∷ 0x06 ∷ 0x12 ∷ 0x02 ∷ 0x06 ∷ []) (19 ∷ 3 ∷ [])
    ∷ after 0 0 0 0 (0x02 ∷ 0x06 ∷ 0x12 ∷ 0x02 ∷ 0x06 ∷ []) (19 ∷ 2 ∷ [])
    ∷ after 1 0 0 0 (0x02 ∷ 0x06 ∷ 0x12 ∷ point0) (19 ∷ 2 ∷ [])
    -- "after 4": inside a condition, and behind a point, a method, a step, a pair and a certificate
    ∷ after 0 0 0 0 (0x12 ∷ 0x02 ∷ 0x12 ∷ []) (4 ∷ 2 ∷ [])
    ∷ after 0 0 0 0 (0x02 ∷ 0x12 ∷ []) (4 ∷ 1 ∷ [])
    ∷ after 1 0 0 0 (point0 ++ (0x12 ∷ [])) (4 ∷ 7 ∷ [])
    ∷ after 1 1 0 0 (0x12 ∷ (method0 ++ (0x12 ∷ []))) (4 ∷ 12 ∷ [])
    ∷ after 1 1 0 0 (pass0 ++ (0x12 ∷ [])) (4 ∷ 5 ∷ [])
    ∷ after 0 0 0 0 (pair_bytes ++ (0x12 ∷ [])) (4 ∷ 6 ∷ [])
    ∷ after 0 0 0 0 (0x0E ∷ 0x12 ∷ []) (4 ∷ 1 ∷ [])
    -- it is no item of a condition
    ∷ after 0 0 0 0 (0x12 ∷ 0x06 ∷ []) (5 ∷ 1 ∷ [])
    ∷ []

mark-rows-are-so : map (λ x. number_and_place (read_from large (starting_from x.before) x.bytes)) mark_rows ≡ map (λ x. x.refused) mark_rows
unfolding read_from
mark-rows-are-so = refl

-- Stops -----------------------------------------------------------------------------------------------------------------

-- a sheet of the new edition with a method, before what is given
abbrev newly : List ℕ → List ℕ
newly s = 0x12 ∷ (method0 ++ s)

abbrev stop_rows : List Row
stop_rows =
    -- "20 when kind 19 stands in an old sheet, at its record"
    after 1 1 0 0 (method0 ++ stop 0) (20 ∷ 11 ∷ [])
    ∷ after 1 1 0 0 (newly (stop 0)) []
    -- "a sheet of the new edition begins with a record of kind 18": a byte 18 elsewhere makes none
    ∷ after 1 1 0 0 (0x01 ∷ 0x12 ∷ 0 ∷ 0 ∷ 0 ∷ 0x06 ∷ (method0 ++ stop 0)) (20 ∷ 17 ∷ [])
    ∷ after 1 19 1 0 (stop 18) (20 ∷ 0 ∷ [])
    -- 3 before 4 and 20, 4 before 20; 19, 5, 9 and 18 apply to no stop
    ∷ after 1 1 1 0 (0x13 ∷ 0 ∷ []) (3 ∷ 0 ∷ [])
    ∷ after 1 1 1 0 (0x0E ∷ 0x13 ∷ 0 ∷ []) (3 ∷ 1 ∷ [])
    ∷ after 1 1 1 0 (0x02 ∷ stop 0) (4 ∷ 1 ∷ [])
    ∷ after 1 1 1 0 (0x0E ∷ stop 0) (4 ∷ 1 ∷ [])
    -- 20 before 7, and in a new sheet 7; a stop at the last point
    ∷ after 1 1 1 0 (stop 1) (20 ∷ 0 ∷ [])
    ∷ after 1 1 0 0 (newly (stop 1)) (7 ∷ 12 ∷ [])
    ∷ after 1 2 0 0 (newly (stop 1)) []
    -- "among the steps", in a new sheet too
    ∷ after 1 1 0 0 (newly (stop 0 ++ method0)) (4 ∷ 15 ∷ [])
    ∷ after 1 1 0 0 (newly (stop 0 ++ (0x0E ∷ stop 0))) (4 ∷ 16 ∷ [])
    ∷ after 1 1 0 0 (newly (0x13 ∷ 0 ∷ [])) (3 ∷ 12 ∷ [])
    ∷ []

stop-rows-are-so : map (λ x. number_and_place (read_from large (starting_from x.before) x.bytes)) stop_rows ≡ map (λ x. x.refused) stop_rows
unfolding read_from
stop-rows-are-so = refl

-- Limits ----------------------------------------------------------------------------------------------------------------

abbrev limit_rows : List Row
limit_rows =
    -- "256 conditions": the mark is none of them
    after 256 0 0 0 (0x12 ∷ []) (9 ∷ 1 ∷ [])
    ∷ after 255 0 0 0 (0x12 ∷ 0x02 ∷ 0x06 ∷ []) (9 ∷ 3 ∷ [])
    -- "512 steps": a stop is one of them
    ∷ after 1 1 0 511 (newly (stop 0)) []
    ∷ after 1 1 0 511 (newly (stop 0 ++ pass0)) (6 ∷ 15 ∷ [])
    -- 20 before 6, and before 6 and 7; in a new sheet 6
    ∷ after 1 1 1 512 (stop 0) (20 ∷ 0 ∷ [])
    ∷ after 1 1 1 512 (stop 1) (20 ∷ 0 ∷ [])
    ∷ after 1 1 0 512 (newly (stop 0)) (6 ∷ 12 ∷ [])
    ∷ after 1 1 0 512 (newly (stop 1)) (6 ∷ 12 ∷ [])
    ∷ []

limit-rows-are-so : map (λ x. number_and_place (read_from large (starting_from x.before) x.bytes)) limit_rows ≡ map (λ x. x.refused) limit_rows
unfolding read_from
limit-rows-are-so = refl

-- "96 records of kinds 1-5": nor is it one of these
symbols-behind-mark : number_and_place (read_sheet large (0x12 ∷ replicate 96 0x02)) ≡ 8 ∷ 97 ∷ []
unfolding read_sheet
symbols-behind-mark = refl

-- Neither ---------------------------------------------------------------------------------------------------------------

-- an instrument that takes no kind above 17: 2 at each record of kind 18 or 19, before 3, 4, 19 and 20
abbrev former_rows : List Row
former_rows =
    after 1 1 0 0 (newly (stop 0)) (2 ∷ 0 ∷ [])
    ∷ after 0 0 0 0 (0x02 ∷ 0x06 ∷ 0x12 ∷ []) (2 ∷ 2 ∷ [])
    ∷ after 0 0 0 0 (0x02 ∷ 0x12 ∷ []) (2 ∷ 1 ∷ [])
    ∷ after 1 1 0 0 (method0 ++ stop 0) (2 ∷ 11 ∷ [])
    ∷ after 1 1 1 0 (0x13 ∷ []) (2 ∷ 0 ∷ [])
    ∷ after 1 1 0 0 (failing_method0 ++ failing_call 0) []
    ∷ []

former-rows-are-so : map (λ x. number_and_place (read_from (with_kinds 17 large) (starting_from x.before) x.bytes)) former_rows ≡ map (λ x. x.refused) former_rows
unfolding read_from
former-rows-are-so = refl
