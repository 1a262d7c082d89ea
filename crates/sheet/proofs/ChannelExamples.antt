-- The four-channel instrument, by evaluation: leaves with eight bytes and with four, calls on a channel, refusal 26 and its place in the order of
-- refusals, the last event, and the instruments that do not take the kinds.
use mathlib.Core.Path.{◌≡◌, refl}
use mathlib.Core.Bool.{false}
use mathlib.Core.Option.{none, some}
use mathlib.Core.List.{List, [], ◌∷◌, ◌++◌, map}
use Prim.Native.Nat.{ℕ}
use native.Mathlib.Omega.{arith}
use lib.ListN.{replicate}
use Rattle.condition.specs.Condition.{leaf, join, either, star, any}
use Rattle.condition.specs.Exchange.{exchange}
use Rattle.sheet.specs.Model.{large, entry, four, with_kinds, set_events, NoMoreEvents, as_many, fewer, NoLarger}
use Rattle.sheet.specs.Sheet.{point_from, event_step, call_from, channel_call_from, on_channel}
use Rattle.sheet.specs.Reading.{starting_from, read_from, read_sheet}
use Rattle.sheet.specs.Decode.{sheet_of}
use Rattle.sheet.proofs.Examples.{declared, one_outcome, body, starts, Row, number_and_place, after, times, leaf_of0, point0, method0, pass0, primitive0, naming, behind}

-- The instrument --------------------------------------------------------------------------------------------------------

-- "It has 64 events"; bytes and points as the large one
four-is-so : four ≡ record { bytes = 65536; points = 512; events = 64; kinds = 22 }
four-is-so = refl

-- "an 8-byte set" where kind 21 is taken
set-events-are : map set_events (large ∷ entry ∷ four ∷ with_kinds 20 four ∷ with_kinds 21 large ∷ []) ≡ 32 ∷ 32 ∷ 64 ∷ 32 ∷ 64 ∷ []
set-events-are = refl

-- the two-channel instruments are no larger, and it is no larger than itself
large-no-larger : NoLarger large four
large-no-larger = record { bytes = omega arith; points = omega arith; events = fewer (omega arith) (omega arith); kinds = omega arith }

entry-no-larger : NoLarger entry four
entry-no-larger = record { bytes = omega arith; points = omega arith; events = fewer (omega arith) (omega arith); kinds = omega arith }

four-no-larger : NoLarger four four
four-no-larger = record { bytes = omega arith; points = omega arith; events = as_many refl; kinds = omega arith }

-- but not the other way, nor one with fewer events than its sets hold
four-is-larger : NoMoreEvents four large → ⊥
four-is-larger (as_many e) = omega (arith, e)
four-is-larger (fewer held less) = omega (arith, less)

sets-hold-more : NoMoreEvents (with_kinds 21 large) four → ⊥
sets-hold-more (as_many e) = omega (arith, e)
sets-hold-more (fewer held less) = omega (arith, held)

-- A sheet ---------------------------------------------------------------------------------------------------------------

-- a leaf of kind 21, whose set is the eight bytes, low byte first
abbrev long_leaf : List ℕ → List ℕ
long_leaf set = 0x15 ∷ set

-- a call on a channel, which has 8 bytes
abbrev channel_call : ℕ → ℕ → ℕ → ℕ → List ℕ
channel_call from to m c = naming 0x16 (from ∷ to ∷ m ∷ []) ++ (c ∷ [])

abbrev event : ℕ → List ℕ
event e = naming 0x0A (0 ∷ 1 ∷ []) ++ (e ∷ [])

-- four conditions, of leaves of both kinds
abbrev leaf_conditions : List ℕ
leaf_conditions =
    (long_leaf (1 ∷ 2 ∷ 3 ∷ 4 ∷ 5 ∷ 6 ∷ 7 ∷ 8 ∷ []) ++ (leaf_of0 ++ (0x03 ∷ 0x06 ∷ [])))
    ++ ((long_leaf (replicate 8 0xFF) ++ (0x06 ∷ []))
    ++ ((0x01 ∷ replicate 4 0xFF ++ (0x06 ∷ []))
    ++ (leaf_of0 ++ (long_leaf (replicate 7 0 ++ (0x80 ∷ [])) ++ (0x04 ∷ 0x05 ∷ 0x06 ∷ [])))))

-- behind them two points, a method and a primitive, and calls of the primitive on channels and on none
abbrev channel_sheet : List ℕ
channel_sheet =
    leaf_conditions
    ++ (times 2 point0
    ++ (method0
    ++ (primitive0
    ++ (event 63
    ++ (channel_call 0 1 1 3
    ++ (channel_call 1 0 1 0
    ++ naming 0x0B (1 ∷ 1 ∷ 1 ∷ [])))))))

-- "kind 1 leaves the upper bits 0": with all bits of its four bytes it is not "any"
channel-sheet-is-so : sheet_of four channel_sheet
    ≡ record {
      conditions = join (leaf 0x0807060504030201) (leaf 1) ∷ any 64 ∷ any 32 ∷ star (either (leaf 1) (leaf 0x8000000000000000)) ∷ [];
      points = replicate 2 (point_from 0 0 0);
      methods = one_outcome 0 (declared 0 0) (body 0 0 none) ∷ one_outcome 0 (declared 0 0) none ∷ [];
      steps = event_step 0 1 63 ∷ channel_call_from 0 1 1 3 ∷ channel_call_from 1 0 1 0 ∷ call_from 1 1 1 ∷ [];
      certificates = [];
      new = false;
    }
unfolding sheet_of
channel-sheet-is-so = refl

channel-sheet-starts : starts (read_sheet four channel_sheet)
    ≡ (0 ∷ 16 ∷ 26 ∷ 32 ∷ []) ∷ (49 ∷ 56 ∷ []) ∷ (63 ∷ 74 ∷ []) ∷ (81 ∷ 87 ∷ 95 ∷ 103 ∷ []) ∷ [] ∷ []
unfolding starts read_sheet
channel-sheet-starts = refl

-- a condition as a call reads it: "with the events of channel 0 and that channel exchanged", by kind 22 alone
read-on-channel : map (λ c. on_channel c (leaf 0x0001000200040008)) (none ∷ some 0 ∷ some 1 ∷ some 3 ∷ [])
    ≡ leaf 0x0001000200040008 ∷ leaf 0x0001000200040008 ∷ leaf 0x0001000200080004 ∷ leaf 0x0008000200040001 ∷ []
unfolding exchange
read-on-channel = refl

-- Leaves ----------------------------------------------------------------------------------------------------------------

abbrev long_leaf0 : List ℕ
long_leaf0 = long_leaf (1 ∷ replicate 7 0)

abbrev leaf_rows : List Row
leaf_rows =
    -- it opens a condition and stands in an open one, not behind a point; each set is taken
    after 0 0 0 0 long_leaf0 (8 ∷ 9 ∷ [])
    ∷ after 0 0 0 0 (leaf_of0 ++ long_leaf (replicate 8 0xFF)) (8 ∷ 14 ∷ [])
    ∷ after 1 0 0 0 (point0 ++ long_leaf0) (4 ∷ 7 ∷ [])
    -- "JOIN or EITHER with under two items, .. end of condition with other than one": it is one item
    ∷ after 0 0 0 0 (long_leaf0 ++ (0x06 ∷ [])) (9 ∷ 10 ∷ [])
    ∷ after 0 0 0 0 (long_leaf0 ++ (0x03 ∷ [])) (5 ∷ 9 ∷ [])
    ∷ after 0 0 0 0 (long_leaf0 ++ (long_leaf0 ++ (0x04 ∷ 0x06 ∷ []))) (9 ∷ 20 ∷ [])
    ∷ after 0 0 0 0 (long_leaf0 ++ (leaf_of0 ++ (0x06 ∷ []))) (5 ∷ 14 ∷ [])
    -- "96 records of kinds 1-5", and of 21
    ∷ after 0 0 0 0 (replicate 95 0x02 ++ long_leaf0) (8 ∷ 104 ∷ [])
    ∷ after 0 0 0 0 (replicate 95 0x02 ++ (long_leaf0 ++ (0x02 ∷ []))) (6 ∷ 104 ∷ [])
    ∷ after 0 0 0 0 (replicate 96 0x02 ++ long_leaf0) (6 ∷ 96 ∷ [])
    -- "31 leaves in a condition", of both kinds together
    ∷ after 0 0 0 0 (times 31 long_leaf0) (8 ∷ 279 ∷ [])
    ∷ after 0 0 0 0 (times 32 long_leaf0) (6 ∷ 279 ∷ [])
    ∷ after 0 0 0 0 (times 15 (leaf_of0 ++ long_leaf0) ++ leaf_of0) (8 ∷ 215 ∷ [])
    ∷ after 0 0 0 0 (times 15 (leaf_of0 ++ long_leaf0) ++ (leaf_of0 ++ leaf_of0)) (6 ∷ 215 ∷ [])
    ∷ after 0 0 0 0 (times 15 (leaf_of0 ++ long_leaf0) ++ (leaf_of0 ++ long_leaf0)) (6 ∷ 215 ∷ [])
    -- a body one byte short
    ∷ after 0 0 0 0 (0x15 ∷ replicate 7 0) (3 ∷ 0 ∷ [])
    ∷ []

leaf-rows-are-so : map (λ x. number_and_place (read_from four (starting_from x.before) x.bytes)) leaf_rows ≡ map (λ x. x.refused) leaf_rows
unfolding read_from
leaf-rows-are-so = refl

-- Calls on a channel ----------------------------------------------------------------------------------------------------

abbrev call_on : ℕ → ℕ → List ℕ
call_on c m = channel_call 0 0 m c

abbrev channel_rows : List Row
channel_rows =
    -- "26 when kind 22 names a method with body, a two-outcome method": kind 8 alone has neither
    behind (8 ∷ []) (call_on 0 0) (9 ∷ 8 ∷ [])
    ∷ behind (9 ∷ []) (call_on 0 0) (26 ∷ 0 ∷ [])
    ∷ behind (15 ∷ []) (call_on 0 0) (26 ∷ 0 ∷ [])
    ∷ behind (16 ∷ []) (call_on 0 0) (26 ∷ 0 ∷ [])
    -- "or a channel above 3"
    ∷ behind (8 ∷ []) (call_on 1 0 ++ (call_on 2 0 ++ call_on 3 0)) (9 ∷ 24 ∷ [])
    ∷ behind (8 ∷ []) (call_on 4 0) (26 ∷ 0 ∷ [])
    ∷ behind (8 ∷ []) (call_on 255 0) (26 ∷ 0 ∷ [])
    ∷ behind (9 ∷ []) (call_on 4 0) (26 ∷ 0 ∷ [])
    -- of several methods the one that is named; "at that record"; also the sheet's own methods
    ∷ behind (9 ∷ 15 ∷ 8 ∷ []) (call_on 3 2) (9 ∷ 8 ∷ [])
    ∷ behind (8 ∷ 15 ∷ 8 ∷ []) (call_on 3 1) (26 ∷ 0 ∷ [])
    ∷ behind (8 ∷ 16 ∷ []) (pass0 ++ (call_on 2 0 ++ call_on 2 1)) (26 ∷ 13 ∷ [])
    ∷ after 1 1 0 0 (method0 ++ (primitive0 ++ call_on 3 1)) []
    ∷ after 1 1 0 0 (method0 ++ (primitive0 ++ call_on 3 0)) (26 ∷ 18 ∷ [])
    ∷ after 1 1 0 0 (0x12 ∷ method0 ++ (primitive0 ++ call_on 3 1)) []
    -- 7 before 26: each name; but of the channel 7 says nothing
    ∷ behind (8 ∷ []) (channel_call 1 0 0 4) (7 ∷ 0 ∷ [])
    ∷ behind (8 ∷ []) (channel_call 0 1 0 4) (7 ∷ 0 ∷ [])
    ∷ behind (8 ∷ []) (channel_call 0 0 1 4) (7 ∷ 0 ∷ [])
    -- 18 is not for kind 22
    ∷ behind (15 ∷ []) (naming 0x0B (0 ∷ 0 ∷ 0 ∷ [])) (18 ∷ 0 ∷ [])
    -- "512 steps"; 6 before 26
    ∷ after 1 1 1 511 (call_on 0 0) (26 ∷ 0 ∷ [])
    ∷ after 1 1 1 512 (call_on 0 0) (6 ∷ 0 ∷ [])
    -- among the steps: 4 before 26; a body one byte short, 3 before 4
    ∷ behind (8 ∷ []) (0x02 ∷ call_on 4 0) (4 ∷ 1 ∷ [])
    ∷ behind (8 ∷ []) (0x0E ∷ call_on 4 0) (4 ∷ 1 ∷ [])
    ∷ behind (8 ∷ []) (call_on 0 0 ++ method0) (4 ∷ 8 ∷ [])
    ∷ behind (8 ∷ []) (0x02 ∷ 0x16 ∷ replicate 6 0) (3 ∷ 1 ∷ [])
    ∷ []

channel-rows-are-so : map (λ x. number_and_place (read_from four (starting_from x.before) x.bytes)) channel_rows ≡ map (λ x. x.refused) channel_rows
unfolding read_from
channel-rows-are-so = refl

-- the point 0 belongs to the method 0, the point 1 to the method 1, which is a primitive, and the point 2 to none; what follows stands at 43
abbrev owned_then : List ℕ → List ℕ
owned_then s = naming 0x14 (0 ∷ 0 ∷ 0 ∷ 0 ∷ []) ++ (naming 0x14 (0 ∷ 0 ∷ 0 ∷ 1 ∷ []) ++ (point0 ++ (method0 ++ (primitive0 ++ s))))

-- "at that record after 24", which compares from and to
abbrev owned_rows : List Row
owned_rows =
    after 1 0 0 0 (owned_then (channel_call 0 1 1 3)) (24 ∷ 43 ∷ [])
    ∷ after 1 0 0 0 (owned_then (channel_call 0 1 1 4)) (24 ∷ 43 ∷ [])
    ∷ after 1 0 0 0 (owned_then (channel_call 1 0 0 3)) (24 ∷ 43 ∷ [])
    ∷ after 1 0 0 0 (owned_then (channel_call 0 0 1 4)) (26 ∷ 43 ∷ [])
    ∷ after 1 0 0 0 (owned_then (channel_call 0 2 1 3 ++ (channel_call 1 1 1 3 ++ channel_call 2 2 1 3))) []
    ∷ []

owned-rows-are-so : map (λ x. number_and_place (read_from four (starting_from x.before) x.bytes)) owned_rows ≡ map (λ x. x.refused) owned_rows
unfolding read_from
owned-rows-are-so = refl

-- Events, points and kinds ------------------------------------------------------------------------------------------------

abbrev limit_rows : List Row
limit_rows =
    -- "events go to 63"
    after 1 2 1 0 (event 63) (9 ∷ 6 ∷ [])
    ∷ after 1 2 1 0 (event 64) (7 ∷ 0 ∷ [])
    ∷ after 1 511 0 0 point0 (9 ∷ 7 ∷ [])
    ∷ after 1 512 0 0 point0 (6 ∷ 0 ∷ [])
    -- no kind above 22
    ∷ after 0 0 0 0 (0x17 ∷ []) (2 ∷ 0 ∷ [])
    ∷ []

limit-rows-are-so : map (λ x. number_and_place (read_from four (starting_from x.before) x.bytes)) limit_rows ≡ map (λ x. x.refused) limit_rows
unfolding read_from
limit-rows-are-so = refl

-- "The two-channel instrument still gives 2 for both kinds", before 3 and 4, and has 32 events
abbrev two_channel_rows : List Row
two_channel_rows =
    after 0 0 0 0 (long_leaf0 ++ (0x06 ∷ [])) (2 ∷ 0 ∷ [])
    ∷ after 0 0 0 0 (leaf_of0 ++ long_leaf0) (2 ∷ 5 ∷ [])
    ∷ after 0 0 0 0 (0x15 ∷ []) (2 ∷ 0 ∷ [])
    ∷ behind (8 ∷ []) (call_on 0 0) (2 ∷ 0 ∷ [])
    ∷ behind (8 ∷ []) (pass0 ++ (0x16 ∷ [])) (2 ∷ 5 ∷ [])
    ∷ behind (8 ∷ []) (0x02 ∷ call_on 4 0) (2 ∷ 1 ∷ [])
    ∷ after 1 2 1 0 (event 31) (9 ∷ 6 ∷ [])
    ∷ after 1 2 1 0 (event 32) (7 ∷ 0 ∷ [])
    ∷ []

two-channel-rows-are-so : map (λ x. map (λ M. number_and_place (read_from M (starting_from x.before) x.bytes)) (large ∷ entry ∷ [])) two_channel_rows
    ≡ map (λ x. x.refused ∷ x.refused ∷ []) two_channel_rows
unfolding read_from
two-channel-rows-are-so = refl

-- an instrument that takes kind 21 and not kind 22
abbrev former_rows : List Row
former_rows = after 0 0 0 0 (long_leaf0 ++ (0x06 ∷ [])) (9 ∷ 10 ∷ []) ∷ behind (8 ∷ []) (call_on 0 0) (2 ∷ 0 ∷ []) ∷ []

former-rows-are-so : map (λ x. number_and_place (read_from (with_kinds 21 four) (starting_from x.before) x.bytes)) former_rows
    ≡ map (λ x. x.refused) former_rows
unfolding read_from
former-rows-are-so = refl
