-- The instruments by evaluation: the longest sheet that each reads, and one byte more; as many points as the entry instrument takes, and one more;
-- the events and the kinds that they take; which number names which.
use mathlib.Core.Path.{◌≡◌, refl}
use mathlib.Core.List.{List, [], ◌∷◌, ◌++◌, map}
use Prim.Native.Nat.{ℕ, zero, suc}
use lib.ListN.{replicate}
use Rattle.sheet.specs.Reading.{fresh, ReadResult, whole, refusal, read_sheet}
use Rattle.instrument.specs.declared.Instrument.TheVariants.{Large, Entry, Four}
use Rattle.std.specs.Prelude.{Some, None}
use Rattle.instrument.specs.Model.{model_of, instrument_of}

-- "65,536 bytes 00: `refused 2 at 0`; 65,537: `refused 1 at 65536`"
longest-read : read_sheet (model_of Large) (replicate 65536 0) ≡ refusal 2 0 fresh
unfolding read_sheet
longest-read = refl

too_long : read_sheet (model_of Large) (replicate 65537 0) ≡ refusal 1 65536 fresh
unfolding read_sheet
too_long = refl

-- "at most 8,192 bytes"; "Refusal 1 then gives place 8,192"
longest-on-entry : read_sheet (model_of Entry) (replicate 8192 0) ≡ refusal 2 0 fresh
unfolding read_sheet
longest-on-entry = refl

too-long-on-entry : read_sheet (model_of Entry) (replicate 8193 0) ≡ refusal 1 8192 fresh
unfolding read_sheet
too-long-on-entry = refl

-- and not the length
much-too-long : read_sheet (model_of Entry) (replicate 65536 0) ≡ refusal 1 8192 fresh
unfolding read_sheet
much-too-long = refl

-- a condition, so many points, and a method
abbrev points : ℕ → List ℕ
points zero = []
points (suc n) = 0x07 ∷ 0 ∷ 0 ∷ 0 ∷ 0 ∷ 0 ∷ 0 ∷ points n

abbrev with_points : ℕ → List ℕ
with_points n = (0x02 ∷ 0x06 ∷ []) ++ (points n ++ (0x09 ∷ replicate 10 0))

-- the number and the place of the refusal, neither where there is none
abbrev number_and_place : ReadResult → List ℕ
number_and_place (whole r) = []
number_and_place (refusal n at r) = n ∷ at ∷ []

-- "64 points" are read, and "6 comes at the 65th point", behind the 2 bytes of the condition and 64 points of 7 bytes
most-points : number_and_place (read_sheet (model_of Entry) (with_points 64)) ≡ []
unfolding read_sheet
most-points = refl

too-many-points : number_and_place (read_sheet (model_of Entry) (with_points 65)) ≡ 6 ∷ 450 ∷ []
unfolding read_sheet
too-many-points = refl

-- which the large instrument reads
read-by-large : number_and_place (read_sheet (model_of Large) (with_points 65)) ≡ []
unfolding read_sheet
read-by-large = refl

-- points with an owner and points without one count together: one of each, so often
abbrev mixed : ℕ → List ℕ
mixed zero = []
mixed (suc n) = 0x07 ∷ 0 ∷ 0 ∷ 0 ∷ 0 ∷ 0 ∷ 0 ∷ 0x14 ∷ 0 ∷ 0 ∷ 0 ∷ 0 ∷ 0 ∷ 0 ∷ 0 ∷ 0 ∷ mixed n

abbrev with_mixed : ℕ → List ℕ → List ℕ
with_mixed n more = (0x02 ∷ 0x06 ∷ []) ++ (mixed n ++ (more ++ (0x09 ∷ replicate 10 0)))

mixed-points : map (λ more. number_and_place (read_sheet (model_of Entry) (with_mixed 32 more))) ([] ∷ points 1 ∷ (0x14 ∷ replicate 8 0) ∷ [])
    ≡ [] ∷ (6 ∷ 514 ∷ []) ∷ (6 ∷ 514 ∷ []) ∷ []
unfolding read_sheet
mixed-points = refl

-- "It has 64 events" and reads as many bytes and points as the large one
longest-on-four : map (λ n. number_and_place (read_sheet (model_of Four) (replicate n 0))) (65536 ∷ 65537 ∷ []) ≡ (2 ∷ 0 ∷ []) ∷ (1 ∷ 65536 ∷ []) ∷ []
unfolding read_sheet
longest-on-four = refl

-- a condition, a point, a method and a step with an event
abbrev with_event : ℕ → List ℕ
with_event a = (0x02 ∷ 0x06 ∷ []) ++ (points 1 ++ ((0x09 ∷ replicate 10 0) ++ (0x0A ∷ 0 ∷ 0 ∷ 0 ∷ 0 ∷ a ∷ [])))

-- the last event of each instrument, and the one behind it: 7
events-read : map (λ i. map (λ a. number_and_place (read_sheet (model_of i) (with_event a))) (31 ∷ 32 ∷ 63 ∷ 64 ∷ [])) (Large ∷ Entry ∷ Four ∷ [])
    ≡ ([] ∷ (7 ∷ 20 ∷ []) ∷ (7 ∷ 20 ∷ []) ∷ (7 ∷ 20 ∷ []) ∷ []) ∷ ([] ∷ (7 ∷ 20 ∷ []) ∷ (7 ∷ 20 ∷ []) ∷ (7 ∷ 20 ∷ []) ∷ []) ∷ ([] ∷ [] ∷ [] ∷ (7 ∷ 20 ∷ []) ∷ []) ∷ []
unfolding read_sheet
events-read = refl

-- all take kinds up to 20: a condition, a point, a method and a primitive with two outcomes, and a call of each; as a sheet of the new edition with a
-- stop behind them; and a point with an owner
abbrev with_failing : List ℕ
with_failing =
    (0x02 ∷ 0x06 ∷ []) ++ (points 1 ++ ((0x10 ∷ replicate 16 0) ++ ((0x0F ∷ replicate 10 0) ++ ((0x11 ∷ replicate 8 0) ++ (0x11 ∷ 0 ∷ 0 ∷ 0 ∷ 0 ∷ 0 ∷ 0 ∷ 1 ∷ 0 ∷ [])))))

abbrev with_stop : List ℕ
with_stop = (0x12 ∷ with_failing) ++ (0x13 ∷ 0 ∷ 0 ∷ [])

kinds-read : map (λ i. map (λ s. number_and_place (read_sheet (model_of i) s)) (with_failing ∷ with_stop ∷ with_mixed 1 [] ∷ (0x14 ∷ []) ∷ [])) (Large ∷ Entry ∷ Four ∷ [])
    ≡ replicate 3 ([] ∷ [] ∷ [] ∷ (3 ∷ 0 ∷ []) ∷ [])
unfolding read_sheet
kinds-read = refl

-- "The two-channel instrument still gives 2 for both kinds", 21 and 22, which the four-channel one takes, and it none above: a long leaf; a condition, a
-- point, a method, a primitive and a call of it on channel 3
abbrev with_channel : List ℕ
with_channel =
    (0x02 ∷ 0x06 ∷ []) ++ (points 1 ++ ((0x09 ∷ replicate 10 0) ++ ((0x08 ∷ replicate 6 0) ++ (0x16 ∷ 0 ∷ 0 ∷ 0 ∷ 0 ∷ 1 ∷ 0 ∷ 3 ∷ []))))

channels-read : map (λ i. map (λ s. number_and_place (read_sheet (model_of i) s)) ((0x15 ∷ replicate 8 255) ∷ with_channel ∷ (0x16 ∷ []) ∷ (0x17 ∷ []) ∷ []))
    (Large ∷ Entry ∷ Four ∷ [])
    ≡ ((2 ∷ 0 ∷ []) ∷ (2 ∷ 27 ∷ []) ∷ (2 ∷ 0 ∷ []) ∷ (2 ∷ 0 ∷ []) ∷ []) ∷ ((2 ∷ 0 ∷ []) ∷ (2 ∷ 27 ∷ []) ∷ (2 ∷ 0 ∷ []) ∷ (2 ∷ 0 ∷ []) ∷ [])
    ∷ ((8 ∷ 9 ∷ []) ∷ [] ∷ (3 ∷ 0 ∷ []) ∷ (2 ∷ 0 ∷ []) ∷ []) ∷ []
unfolding read_sheet
channels-read = refl

-- the numbers that name an instrument, and numbers beside them
named : map instrument_of (0 ∷ 1 ∷ 2 ∷ 3 ∷ 4 ∷ 4294967297 ∷ []) ≡ None ∷ Some Large ∷ Some Entry ∷ Some Four ∷ None ∷ None ∷ []
named = refl
