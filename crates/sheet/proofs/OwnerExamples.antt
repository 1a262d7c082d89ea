-- Points with an owner, by evaluation: what kind 20 stands for, a sheet, refusals 24 and 25 and their places in the order of refusals, and an instrument
-- that does not take the kind.
use mathlib.Core.Path.{◌≡◌, refl}
use mathlib.Core.Bool.{true}
use mathlib.Core.Option.{none, some}
use mathlib.Core.List.{List, [], ◌∷◌, ◌++◌, map}
use Prim.Native.Nat.{ℕ}
use lib.ListN.{get_or, replicate}
use Rattle.condition.specs.Condition.{empty}
use Rattle.sheet.specs.Model.{large, entry, with_kinds}
use Rattle.sheet.specs.Sheet.{point_from, owned_point_from, event_step, call_from, failing_call_from, pass_step, stop_step}
use Rattle.sheet.specs.Record.{record_at}
use Rattle.sheet.specs.Reading.{nothing, Counted, starting_from, read_from, read_sheet}
use Rattle.sheet.specs.Decode.{point_of, sheet_of}
use Rattle.sheet.proofs.Examples.{pair_bytes, with, declared, one_outcome, two_outcomes, body, starts, Row, number_and_place, after, times, point0, primitive0, naming}

-- Records ---------------------------------------------------------------------------------------------------------------

-- "a point with past, own, due and an owner, .. two bytes each"
owned-point-is-so : point_of (record_at (0x14 ∷ 0x01 ∷ 0x11 ∷ 0x02 ∷ 0x12 ∷ 0x03 ∷ 0x13 ∷ 0x04 ∷ 0x14 ∷ []) 0) ≡ owned_point_from 0x1101 0x1202 0x1303 0x1404
unfolding record_at
owned-point-is-so = refl

-- a point of a method, which has 9 bytes
abbrev owned : ℕ → List ℕ
owned m = naming 0x14 (0 ∷ 0 ∷ 0 ∷ m ∷ [])

-- a method from an entry to an exit, with 11 bytes, and one with a failed exit, with 17
abbrev method : ℕ → ℕ → List ℕ
method entry exit = naming 0x09 (0 ∷ 0 ∷ 0 ∷ entry ∷ exit ∷ [])

abbrev failing_method : ℕ → ℕ → ℕ → List ℕ
failing_method entry exit failed_exit = naming 0x10 (0 ∷ 0 ∷ 0 ∷ entry ∷ exit ∷ 0 ∷ 0 ∷ failed_exit ∷ [])

abbrev event : ℕ → ℕ → List ℕ
event from to = naming 0x0A (from ∷ to ∷ []) ++ (31 ∷ [])

abbrev call : ℕ → ℕ → ℕ → List ℕ
call from to m = naming 0x0B (from ∷ to ∷ m ∷ [])

abbrev pass : ℕ → ℕ → List ℕ
pass from to = naming 0x0C (from ∷ to ∷ [])

abbrev failing_call : ℕ → ℕ → ℕ → ℕ → List ℕ
failing_call from to failed_to m = naming 0x11 (from ∷ to ∷ failed_to ∷ m ∷ [])

abbrev stop : ℕ → List ℕ
stop from = naming 0x13 (from ∷ [])

-- A sheet ---------------------------------------------------------------------------------------------------------------

-- of the new edition: four points, of which the first two belong to methods that come later, the third to a primitive and the fourth to none
abbrev owned_sheet : List ℕ
owned_sheet =
    0x12
    ∷ (times 2 (0x02 ∷ 0x06 ∷ [])
    ++ (naming 0x14 (0 ∷ 1 ∷ 0 ∷ 0 ∷ [])
    ++ (naming 0x14 (1 ∷ 0 ∷ 1 ∷ 2 ∷ [])
    ++ (owned 1
    ++ (point0
    ++ (method 0 0
    ++ (primitive0
    ++ (failing_method 1 3 1
    ++ (event 0 3
    ++ (call 2 2 0
    ++ (pass 3 1
    ++ (failing_call 0 3 0 2
    ++ stop 1))))))))))))

owned-sheet-is-so : sheet_of large owned_sheet
    ≡ record {
      conditions = replicate 2 empty;
      points = owned_point_from 0 1 0 0 ∷ owned_point_from 1 0 1 2 ∷ owned_point_from 0 0 0 1 ∷ point_from 0 0 0 ∷ [];
      methods =
          one_outcome 0 (declared 0 0) (body 0 0 none)
          ∷ one_outcome 0 (declared 0 0) none
          ∷ two_outcomes 0 (declared 0 0) (declared 0 0) (body 1 3 (some 1))
          ∷ [];
      steps = event_step 0 3 31 ∷ call_from 2 2 0 ∷ pass_step 3 1 ∷ failing_call_from 0 3 0 2 ∷ stop_step 1 ∷ [];
      certificates = [];
      new = true;
    }
unfolding sheet_of
owned-sheet-is-so = refl

owned-sheet-starts : starts (read_sheet large owned_sheet)
    ≡ (1 ∷ 3 ∷ []) ∷ (5 ∷ 14 ∷ 23 ∷ 32 ∷ []) ∷ (39 ∷ 50 ∷ 57 ∷ []) ∷ (74 ∷ 80 ∷ 87 ∷ 92 ∷ 101 ∷ []) ∷ [] ∷ []
unfolding starts read_sheet
owned-sheet-starts = refl

-- Points of a method ----------------------------------------------------------------------------------------------------

-- the point 0 belongs to the method 0, the point 1 to the method 1 and the point 2 to none; what follows stands at 25
abbrev points_then : List ℕ → List ℕ
points_then s = owned 0 ++ (owned 1 ++ (point0 ++ s))

abbrev method_rows : List Row
method_rows =
    -- "24 when .. a method's entry or exit (failed exit too) has another owner, at that record"
    after 1 0 0 0 (points_then (method 0 0 ++ primitive0)) []
    ∷ after 1 0 0 0 (points_then (method 1 0 ++ primitive0)) (24 ∷ 25 ∷ [])
    ∷ after 1 0 0 0 (points_then (method 0 1 ++ primitive0)) (24 ∷ 25 ∷ [])
    ∷ after 1 0 0 0 (points_then (failing_method 0 0 0 ++ primitive0)) []
    ∷ after 1 0 0 0 (points_then (failing_method 1 0 0 ++ primitive0)) (24 ∷ 25 ∷ [])
    ∷ after 1 0 0 0 (points_then (failing_method 0 1 0 ++ primitive0)) (24 ∷ 25 ∷ [])
    ∷ after 1 0 0 0 (points_then (failing_method 0 0 1 ++ primitive0)) (24 ∷ 25 ∷ [])
    -- "Owners are compared only where there are any": a point without owner is the entry or the exit of any method
    ∷ after 1 0 0 0 (points_then (method 2 0 ++ method 1 2)) []
    ∷ after 1 0 0 0 (points_then (failing_method 2 2 2 ++ failing_method 2 2 1)) []
    ∷ after 1 0 0 0 (points_then (method 2 1 ++ primitive0)) (24 ∷ 25 ∷ [])
    -- a method's number is how many stand before it, primitives and a library's too
    ∷ after 1 0 0 0 (points_then (method 0 0 ++ method 1 1)) []
    ∷ after 1 0 0 0 (points_then (method 0 0 ++ method 0 0)) (24 ∷ 36 ∷ [])
    ∷ after 1 0 0 0 (points_then (method 0 0 ++ (primitive0 ++ method 1 1))) (24 ∷ 43 ∷ [])
    ∷ after 1 0 1 0 (points_then (method 1 1)) []
    ∷ after 1 0 1 0 (points_then (method 0 0)) (24 ∷ 25 ∷ [])
    ∷ []

method-rows-are-so : map (λ x. number_and_place (read_from large (starting_from x.before) x.bytes)) method_rows ≡ map (λ x. x.refused) method_rows
unfolding read_from
method-rows-are-so = refl

-- Points of a step ------------------------------------------------------------------------------------------------------

-- with the methods 0, 1 and 2, of which the last has two outcomes; what follows stands at 60
abbrev steps_then : List ℕ → List ℕ
steps_then s = points_then (method 0 0 ++ (primitive0 ++ (failing_method 2 2 2 ++ s)))

abbrev step_rows : List Row
step_rows =
    -- "24 when a step joins points of different owners", and where one has none it does not
    after 1 0 0 0 (steps_then (event 0 1)) (24 ∷ 60 ∷ [])
    ∷ after 1 0 0 0 (steps_then (event 1 0)) (24 ∷ 60 ∷ [])
    ∷ after 1 0 0 0 (steps_then (event 1 1 ++ (event 0 2 ++ event 2 1))) []
    ∷ after 1 0 0 0 (steps_then (call 0 1 0)) (24 ∷ 60 ∷ [])
    ∷ after 1 0 0 0 (steps_then (pass 1 0)) (24 ∷ 60 ∷ [])
    ∷ after 1 0 0 0 (steps_then (pass 2 0 ++ (pass 0 0 ++ pass 0 1))) (24 ∷ 70 ∷ [])
    -- each two of three points, where the other has no owner
    ∷ after 1 0 0 0 (steps_then (failing_call 0 1 2 2)) (24 ∷ 60 ∷ [])
    ∷ after 1 0 0 0 (steps_then (failing_call 0 2 1 2)) (24 ∷ 60 ∷ [])
    ∷ after 1 0 0 0 (steps_then (failing_call 2 0 1 2)) (24 ∷ 60 ∷ [])
    ∷ after 1 0 0 0 (steps_then (failing_call 0 0 0 2 ++ (failing_call 2 1 1 2 ++ failing_call 2 2 0 2))) []
    -- the method that is called is not compared
    ∷ after 1 0 0 0 (steps_then (call 1 1 0 ++ (call 0 2 1 ++ failing_call 1 1 1 2))) []
    -- a stop joins nothing
    ∷ after 1 0 0 0 (0x12 ∷ steps_then (stop 0 ++ (stop 1 ++ stop 2))) []
    -- 7 before 24, also for an event; 18 before 24
    ∷ after 1 0 0 0 (steps_then (failing_call 0 1 3 2)) (7 ∷ 60 ∷ [])
    ∷ after 1 0 0 0 (steps_then (naming 0x0A (0 ∷ 1 ∷ []) ++ (32 ∷ []))) (7 ∷ 60 ∷ [])
    ∷ after 1 0 0 0 (steps_then (call 0 1 2)) (18 ∷ 60 ∷ [])
    ∷ after 1 0 0 0 (steps_then (failing_call 0 1 2 0)) (18 ∷ 60 ∷ [])
    ∷ []

step-rows-are-so : map (λ x. number_and_place (read_from large (starting_from x.before) x.bytes)) step_rows ≡ map (λ x. x.refused) step_rows
unfolding read_from
step-rows-are-so = refl

-- behind a library with a condition, a point of the method 0, one of the method 1, and these two methods
abbrev behind : List ℕ → List ℕ → Row
behind s refused = record { before = library; bytes = s; refused = refused }
  where
    of : ℕ → List ℕ → Counted
    of kind values = record { last = with kind values; opened = nothing }

    library : ℕ → List Counted
    library k =
        get_or ([] ∷ (of 6 [] ∷ []) ∷ (of 20 (0 ∷ 0 ∷ 0 ∷ 0 ∷ []) ∷ of 20 (0 ∷ 0 ∷ 0 ∷ 1 ∷ []) ∷ []) ∷ (of 9 [] ∷ of 9 [] ∷ []) ∷ []) k []

-- "A guest's counts go on from the library's": a guest's method has the number 2, and the library's points have their owners
abbrev guest_rows : List Row
guest_rows =
    behind (point0 ++ method 0 2) (24 ∷ 7 ∷ [])
    ∷ behind (point0 ++ method 2 1) (24 ∷ 7 ∷ [])
    ∷ behind (owned 2 ++ method 2 2) []
    ∷ behind (point0 ++ (method 2 2 ++ pass 0 1)) (24 ∷ 18 ∷ [])
    ∷ behind (point0 ++ (method 2 2 ++ pass 1 1)) []
    ∷ []

guest-rows-are-so : map (λ x. number_and_place (read_from large (starting_from x.before) x.bytes)) guest_rows ≡ map (λ x. x.refused) guest_rows
unfolding read_from
guest-rows-are-so = refl

-- Owners that are no methods --------------------------------------------------------------------------------------------

abbrev owner_rows : List Row
owner_rows =
    -- "25 .. when an owner is no method": the last method, and one more; a primitive is one, and a library's are too
    after 1 0 0 0 (point0 ++ (owned 0 ++ method 0 0)) []
    ∷ after 1 0 0 0 (point0 ++ (owned 1 ++ method 0 0)) (25 ∷ 7 ∷ [])
    ∷ after 1 0 0 0 (point0 ++ (owned 1 ++ (method 0 0 ++ primitive0))) []
    ∷ after 1 0 0 0 (point0 ++ (owned 2 ++ (method 0 0 ++ primitive0))) (25 ∷ 7 ∷ [])
    ∷ after 1 0 2 0 (point0 ++ (owned 2 ++ method 0 0)) []
    ∷ after 1 0 2 0 (point0 ++ (owned 3 ++ method 0 0)) (25 ∷ 7 ∷ [])
    -- of two bytes
    ∷ after 1 0 0 0 (point0 ++ (0x14 ∷ 0 ∷ 0 ∷ 0 ∷ 0 ∷ 0 ∷ 0 ∷ 0 ∷ 1 ∷ method 0 0)) (25 ∷ 7 ∷ [])
    -- "with the first such point's offset"
    ∷ after 1 0 0 0 (owned 0 ++ (owned 2 ++ (owned 1 ++ (owned 9 ++ method 0 0)))) (25 ∷ 9 ∷ [])
    ∷ after 1 0 0 0 (owned 0 ++ (point0 ++ (owned 1 ++ (owned 2 ++ (method 0 0 ++ (primitive0 ++ pass 3 3)))))) (25 ∷ 25 ∷ [])
    -- "at the end after 9": 8, 9 for no method
    ∷ after 1 0 0 0 (owned 1) (9 ∷ 9 ∷ [])
    ∷ after 1 0 0 0 (point0 ++ (owned 1 ++ (method 0 0 ++ pair_bytes))) (8 ∷ 33 ∷ [])
    ∷ after 1 0 0 0 (point0 ++ (owned 1 ++ (method 0 0 ++ (pair_bytes ++ (0x0E ∷ []))))) (25 ∷ 7 ∷ [])
    -- and so after each refusal of a later record
    ∷ after 1 0 0 0 (owned 1 ++ method 0 0) (24 ∷ 9 ∷ [])
    ∷ after 1 0 0 0 (owned 0 ++ (owned 9 ++ (method 0 0 ++ pass 0 1))) (24 ∷ 29 ∷ [])
    ∷ after 1 0 0 0 (owned 0 ++ (owned 9 ++ (method 0 0 ++ (0x15 ∷ [])))) (2 ∷ 29 ∷ [])
    ∷ []

owner-rows-are-so : map (λ x. number_and_place (read_from large (starting_from x.before) x.bytes)) owner_rows ≡ map (λ x. x.refused) owner_rows
unfolding read_from
owner-rows-are-so = refl

-- A point as any other --------------------------------------------------------------------------------------------------

abbrev point_rows : List Row
point_rows =
    -- "An owner is the one name that may point forward: 7 does not judge it"; it does past, own and due
    after 1 0 0 0 (naming 0x14 (1 ∷ 0 ∷ 0 ∷ 0 ∷ [])) (7 ∷ 0 ∷ [])
    ∷ after 1 0 0 0 (naming 0x14 (0 ∷ 1 ∷ 0 ∷ 0 ∷ [])) (7 ∷ 0 ∷ [])
    ∷ after 1 0 0 0 (naming 0x14 (0 ∷ 0 ∷ 1 ∷ 0 ∷ [])) (7 ∷ 0 ∷ [])
    ∷ after 1 0 0 0 (naming 0x14 (0 ∷ 0 ∷ 0 ∷ 255 ∷ [])) (9 ∷ 9 ∷ [])
    -- "in the section of kind 7"
    ∷ after 1 0 0 0 (0x02 ∷ owned 0) (4 ∷ 1 ∷ [])
    ∷ after 1 1 0 0 (method 0 0 ++ owned 0) (4 ∷ 11 ∷ [])
    ∷ after 1 0 0 0 (owned 0 ++ (0x02 ∷ [])) (4 ∷ 9 ∷ [])
    ∷ after 1 0 0 0 (owned 0 ++ (point0 ++ (owned 0 ++ method 0 1))) []
    -- "512 points", of both kinds together; 6 before 7; a body one byte short
    ∷ after 1 511 0 0 (owned 0) (9 ∷ 9 ∷ [])
    ∷ after 1 511 0 0 (owned 0 ++ point0) (6 ∷ 9 ∷ [])
    ∷ after 1 511 0 0 (point0 ++ owned 0) (6 ∷ 7 ∷ [])
    ∷ after 1 512 0 0 (naming 0x14 (0 ∷ 0 ∷ 1 ∷ 0 ∷ [])) (6 ∷ 0 ∷ [])
    ∷ after 1 0 0 0 (0x14 ∷ replicate 7 0) (3 ∷ 0 ∷ [])
    ∷ []

point-rows-are-so : map (λ x. number_and_place (read_from large (starting_from x.before) x.bytes)) point_rows ≡ map (λ x. x.refused) point_rows
unfolding read_from
point-rows-are-so = refl

-- "64 points" on the entry instrument
abbrev entry_rows : List Row
entry_rows = after 1 63 0 0 (owned 0) (9 ∷ 9 ∷ []) ∷ after 1 63 0 0 (owned 0 ++ point0) (6 ∷ 9 ∷ []) ∷ after 1 63 0 0 (point0 ++ owned 0) (6 ∷ 7 ∷ []) ∷ []

entry-rows-are-so : map (λ x. number_and_place (read_from entry (starting_from x.before) x.bytes)) entry_rows ≡ map (λ x. x.refused) entry_rows
unfolding read_from
entry-rows-are-so = refl

-- an instrument that takes no kind above 19: 2, before 3 and 4
abbrev former_rows : List Row
former_rows =
    after 1 0 0 0 (point0 ++ (owned 0 ++ method 0 0)) (2 ∷ 7 ∷ [])
    ∷ after 1 0 0 0 (0x14 ∷ []) (2 ∷ 0 ∷ [])
    ∷ after 1 0 0 0 (0x02 ∷ owned 0) (2 ∷ 1 ∷ [])
    ∷ after 1 0 0 0 (0x12 ∷ (point0 ++ (method 0 0 ++ stop 0))) []
    ∷ []

former-rows-are-so : map (λ x. number_and_place (read_from (with_kinds 19 large) (starting_from x.before) x.bytes)) former_rows
    ≡ map (λ x. x.refused) former_rows
unfolding read_from
former-rows-are-so = refl
