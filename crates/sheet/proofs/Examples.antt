-- Records, sheets and readings by evaluation: the table of kinds, the fields of a record of each kind and what they stand for, a sheet, each limit at its
-- last and at one more, the order of sections, refusals of one record in their order, what was counted before a refusal, other instruments' limits, and
-- methods with two outcomes and their calls.
use mathlib.Core.Path.{◌≡◌, refl}
use mathlib.Core.Bool.{true, false}
use mathlib.Core.Option.{Option, none, some}
use mathlib.Core.List.{List, [], ◌∷◌, ◌++◌, map}
use Prim.Native.Nat.{ℕ, zero, suc}
use native.Mathlib.Omega.{arith}
use lib.ListN.{get_or, replicate, set, take}
use Rattle.condition.specs.Condition.{leaf, empty, join, either, star}
use Rattle.certificate.specs.Certificate.{pair}
use Rattle.sheet.specs.Model.{Model, large, entry, with_kinds, as_many, NoLarger}
use Rattle.sheet.specs.Sheet.{point_from, Declared, Body, Method, event_step, call_from, failing_call_from, channel_call_from, pass_step, stop_step}
use Rattle.sheet.specs.Kind.{kind_of, section_of, body_length}
use Rattle.sheet.specs.Record.{Record, record_at}
use Rattle.sheet.specs.Reading.{nothing, Counted, Reading, starting_from, starts_of, in_condition, ReadResult, whole, refusal, state_of, read_from, read_sheet}
use Rattle.sheet.specs.Decode.{point_of, method_of, step_of, sheet_of}

-- Kinds -----------------------------------------------------------------------------------------------------------------

abbrev all_kinds : List ℕ
all_kinds = 1 ∷ 2 ∷ 3 ∷ 4 ∷ 5 ∷ 6 ∷ 7 ∷ 8 ∷ 9 ∷ 10 ∷ 11 ∷ 12 ∷ 13 ∷ 14 ∷ 15 ∷ 16 ∷ 17 ∷ 18 ∷ 19 ∷ 20 ∷ 21 ∷ 22 ∷ []

-- "Body lengths by kind, 1 to 14: 4, 0, 0, 0, 0, 0, 6, 6, 10, 5, 6, 4, 5, 0"; of 15 to 17 five, eight and four fields, "all fields two bytes"; 18
-- "no body", 19 "body from (2 bytes)"; 20 four fields, "two bytes each"; 21 "an 8-byte set", 22 "from, to, method (2 bytes each), channel (1)"
lengths-are : map body_length all_kinds ≡ 4 ∷ 0 ∷ 0 ∷ 0 ∷ 0 ∷ 0 ∷ 6 ∷ 6 ∷ 10 ∷ 5 ∷ 6 ∷ 4 ∷ 5 ∷ 0 ∷ 10 ∷ 16 ∷ 8 ∷ 0 ∷ 2 ∷ 8 ∷ 8 ∷ 7 ∷ []
lengths-are = refl

-- "Sections in order: kinds 1-6, 7, 8-9, 10-12, 13-14"; 15 to 17 "in the sections of 8, 9 and 11"; 18 in "the first
-- section", 19 "among the steps", 20 "in the section of kind 7"; 21 is a leaf and 22 a call
sections-are : map section_of all_kinds ≡ 1 ∷ 1 ∷ 1 ∷ 1 ∷ 1 ∷ 1 ∷ 2 ∷ 3 ∷ 3 ∷ 4 ∷ 4 ∷ 4 ∷ 5 ∷ 5 ∷ 3 ∷ 3 ∷ 4 ∷ 1 ∷ 4 ∷ 2 ∷ 1 ∷ 4 ∷ []
sections-are = refl

-- in an open condition stand "kinds 1-6": "a condition is open and the kind is above 6" is 4; 21 is "read as kind 1 is for 4 to 6"
in-condition-are : map (λ (k : ℕ). in_condition (section_of k) (kind_of k).role) all_kinds ≡ replicate 6 true ++ (replicate 14 false ++ (true ∷ false ∷ []))
in-condition-are = refl

-- Fields ----------------------------------------------------------------------------------------------------------------

-- each field has another value, and those of two bytes have both
abbrev leaf_bytes : List ℕ
leaf_bytes = 0x01 ∷ 0x01 ∷ 0x02 ∷ 0x03 ∷ 0x04 ∷ []

abbrev long_leaf_bytes : List ℕ
long_leaf_bytes = 0x15 ∷ 0x01 ∷ 0x02 ∷ 0x03 ∷ 0x04 ∷ 0x05 ∷ 0x06 ∷ 0x07 ∷ 0x08 ∷ []

abbrev point_bytes : List ℕ
point_bytes = 0x07 ∷ 0x01 ∷ 0x11 ∷ 0x02 ∷ 0x12 ∷ 0x03 ∷ 0x13 ∷ []

abbrev primitive_bytes : List ℕ
primitive_bytes = 0x08 ∷ 0x01 ∷ 0x11 ∷ 0x02 ∷ 0x12 ∷ 0x03 ∷ 0x13 ∷ []

abbrev method_bytes : List ℕ
method_bytes = 0x09 ∷ 0x01 ∷ 0x11 ∷ 0x02 ∷ 0x12 ∷ 0x03 ∷ 0x13 ∷ 0x04 ∷ 0x14 ∷ 0x05 ∷ 0x15 ∷ []

abbrev failing_primitive_bytes : List ℕ
failing_primitive_bytes = 0x0F ∷ 0x01 ∷ 0x11 ∷ 0x02 ∷ 0x12 ∷ 0x03 ∷ 0x13 ∷ 0x04 ∷ 0x14 ∷ 0x05 ∷ 0x15 ∷ []

abbrev failing_method_bytes : List ℕ
failing_method_bytes =
    0x10 ∷ 0x01 ∷ 0x11 ∷ 0x02 ∷ 0x12 ∷ 0x03 ∷ 0x13 ∷ 0x04 ∷ 0x14 ∷ 0x05 ∷ 0x15 ∷ 0x06 ∷ 0x16 ∷ 0x07 ∷ 0x17 ∷ 0x08 ∷ 0x18 ∷ []

abbrev step_bytes : List (List ℕ)
step_bytes =
    (0x0A ∷ 0x01 ∷ 0x11 ∷ 0x02 ∷ 0x12 ∷ 0x03 ∷ [])
    ∷ (0x0B ∷ 0x01 ∷ 0x11 ∷ 0x02 ∷ 0x12 ∷ 0x03 ∷ 0x13 ∷ [])
    ∷ (0x0C ∷ 0x01 ∷ 0x11 ∷ 0x02 ∷ 0x12 ∷ [])
    ∷ (0x11 ∷ 0x01 ∷ 0x11 ∷ 0x02 ∷ 0x12 ∷ 0x03 ∷ 0x13 ∷ 0x04 ∷ 0x14 ∷ [])
    ∷ (0x13 ∷ 0x01 ∷ 0x11 ∷ [])
    ∷ (0x16 ∷ 0x01 ∷ 0x11 ∷ 0x02 ∷ 0x12 ∷ 0x03 ∷ 0x13 ∷ 0x04 ∷ [])
    ∷ []

abbrev pub pair_bytes : List ℕ
pair_bytes = 0x0D ∷ 0x05 ∷ 0x01 ∷ 0x02 ∷ 0x03 ∷ 0x04 ∷ []

abbrev pub with : ℕ → List ℕ → Record
with kind values = record { at = 0; kind = kind; values = values }

fields-are-so : map (λ (s : List ℕ). record_at s 0) (leaf_bytes ∷ long_leaf_bytes ∷ (0x03 ∷ []) ∷ point_bytes ∷ method_bytes ∷ pair_bytes ∷ [])
    ≡ with 1 (0x04030201 ∷ []) ∷ with 21 (0x0807060504030201 ∷ []) ∷ with 3 [] ∷ with 7 (0x1101 ∷ 0x1202 ∷ 0x1303 ∷ []) ∷ with 9 (0x1101 ∷ 0x1202 ∷ 0x1303 ∷ 0x1404 ∷ 0x1505 ∷ [])
    ∷ with 13 (0x05 ∷ 0x04030201 ∷ []) ∷ []
unfolding record_at
fields-are-so = refl

point-is-so : point_of (record_at point_bytes 0) ≡ point_from 0x1101 0x1202 0x1303
unfolding record_at
point-is-so = refl

abbrev pub declared : ℕ → ℕ → Declared
declared trace future = record { trace = trace; future = future }

-- with one outcome, and with two
abbrev pub one_outcome : ℕ → Declared → Option Body → Method
one_outcome pre normal body = record { pre = pre; normal = normal; failing = none; body = body }

abbrev pub two_outcomes : ℕ → Declared → Declared → Option Body → Method
two_outcomes pre normal failing body = record { pre = pre; normal = normal; failing = some failing; body = body }

abbrev pub body : ℕ → ℕ → Option ℕ → Option Body
body entry exit failed_exit = some (record { entry = entry; exit = exit; failed_exit = failed_exit })

methods-are-so : map (λ (s : List ℕ). method_of (record_at s 0)) (primitive_bytes ∷ method_bytes ∷ failing_primitive_bytes ∷ failing_method_bytes ∷ [])
    ≡ one_outcome 0x1101 (declared 0x1202 0x1303) none
    ∷ one_outcome 0x1101 (declared 0x1202 0x1303) (body 0x1404 0x1505 none)
    ∷ two_outcomes 0x1101 (declared 0x1202 0x1303) (declared 0x1404 0x1505) none
    ∷ two_outcomes 0x1101 (declared 0x1202 0x1303) (declared 0x1606 0x1707) (body 0x1404 0x1505 (some 0x1808))
    ∷ []
unfolding record_at
methods-are-so = refl

steps-are-so : map (λ (s : List ℕ). step_of (record_at s 0)) step_bytes
    ≡ event_step 0x1101 0x1202 0x03 ∷ call_from 0x1101 0x1202 0x1303 ∷ pass_step 0x1101 0x1202 ∷ failing_call_from 0x1101 0x1202 0x1303 0x1404 ∷ stop_step 0x1101
    ∷ channel_call_from 0x1101 0x1202 0x1303 0x04 ∷ []
unfolding record_at
steps-are-so = refl

-- A sheet ---------------------------------------------------------------------------------------------------------------

-- two conditions, two points, a method and a primitive, a step of each kind, two certificates
abbrev small : List ℕ
small =
    (0x02 ∷ 0x01 ∷ 1 ∷ 0 ∷ 0 ∷ 0 ∷ 0x03 ∷ 0x06 ∷ [])
    ++ ((0x01 ∷ 2 ∷ 0 ∷ 0 ∷ 0 ∷ 0x02 ∷ 0x04 ∷ 0x05 ∷ 0x06 ∷ [])
    ++ ((0x07 ∷ 0 ∷ 0 ∷ 1 ∷ 0 ∷ 0 ∷ 0 ∷ 0x07 ∷ 1 ∷ 0 ∷ 0 ∷ 0 ∷ 1 ∷ 0 ∷ [])
    ++ ((0x09 ∷ 1 ∷ 0 ∷ 0 ∷ 0 ∷ 1 ∷ 0 ∷ 0 ∷ 0 ∷ 1 ∷ 0 ∷ 0x08 ∷ 0 ∷ 0 ∷ 1 ∷ 0 ∷ 0 ∷ 0 ∷ [])
    ++ ((0x0A ∷ 0 ∷ 0 ∷ 1 ∷ 0 ∷ 31 ∷ 0x0B ∷ 1 ∷ 0 ∷ 0 ∷ 0 ∷ 1 ∷ 0 ∷ 0x0C ∷ 1 ∷ 0 ∷ 0 ∷ 0 ∷ [])
    ++ (0x0D ∷ 0 ∷ 1 ∷ 0 ∷ 0 ∷ 0 ∷ 0x0D ∷ 5 ∷ 1 ∷ 2 ∷ 3 ∷ 4 ∷ 0x0E ∷ 0x0E ∷ [])))))

small-is-so : sheet_of large small
    ≡ record {
      conditions = join empty (leaf 1) ∷ star (either (leaf 2) empty) ∷ [];
      points = point_from 0 1 0 ∷ point_from 1 0 1 ∷ [];
      methods = one_outcome 1 (declared 0 1) (body 0 1 none) ∷ one_outcome 0 (declared 1 0) none ∷ [];
      steps = event_step 0 1 31 ∷ call_from 1 0 1 ∷ pass_step 1 0 ∷ [];
      certificates = (pair 0 1 ∷ pair 5 0x04030201 ∷ []) ∷ [] ∷ [];
      new = false;
    }
unfolding sheet_of
small-is-so = refl

-- where its conditions, points, methods, steps and certificates start
unfoldable pub starts : ReadResult → List (List ℕ)
starts x = map (λ (k : ℕ). starts_of ((state_of x).own k)) (1 ∷ 2 ∷ 3 ∷ 4 ∷ 5 ∷ [])

small-starts : starts (read_sheet large small)
    ≡ (0 ∷ 8 ∷ []) ∷ (17 ∷ 24 ∷ []) ∷ (31 ∷ 42 ∷ []) ∷ (49 ∷ 55 ∷ 62 ∷ []) ∷ (67 ∷ 80 ∷ []) ∷ []
unfolding starts read_sheet
small-starts = refl

-- Readings --------------------------------------------------------------------------------------------------------------

-- bytes that are read behind others, and the number and the place of the refusal, neither where there is none
pub record Row : Type 0 where
  pub before : ℕ → List Counted
  pub bytes : List ℕ
  pub refused : List ℕ

abbrev pub number_and_place : ReadResult → List ℕ
number_and_place (whole r) = []
number_and_place (refusal n at r) = n ∷ at ∷ []

-- with as many conditions, points, methods and steps before
abbrev pub after : ℕ → ℕ → ℕ → ℕ → List ℕ → List ℕ → Row
after c p m t s refused = record { before = λ k. replicate (get_or (0 ∷ c ∷ p ∷ m ∷ t ∷ []) k 0) one; bytes = s; refused = refused }
  where
    one : Counted
    one = record { last = with 0 []; opened = nothing }

abbrev pub times : ℕ → List ℕ → List ℕ
times zero s = []
times (suc n) s = s ++ times n s

abbrev pub leaf_of0 : List ℕ
leaf_of0 = 0x01 ∷ 0x01 ∷ 0x00 ∷ 0x00 ∷ 0x00 ∷ []

abbrev pub point0 : List ℕ
point0 = 0x07 ∷ 0 ∷ 0 ∷ 0 ∷ 0 ∷ 0 ∷ 0 ∷ []

abbrev pub method0 : List ℕ
method0 = 0x09 ∷ 0 ∷ 0 ∷ 0 ∷ 0 ∷ 0 ∷ 0 ∷ 0 ∷ 0 ∷ 0 ∷ 0 ∷ []

abbrev pub pass0 : List ℕ
pass0 = 0x0C ∷ 0 ∷ 0 ∷ 0 ∷ 0 ∷ []

-- a point, and a primitive, that name condition 1
abbrev point1 : List ℕ
point1 = 0x07 ∷ 0 ∷ 0 ∷ 0 ∷ 0 ∷ 1 ∷ 0 ∷ []

abbrev primitive1 : List ℕ
primitive1 = 0x08 ∷ 0 ∷ 0 ∷ 0 ∷ 0 ∷ 1 ∷ 0 ∷ []

-- a condition of 96 records with one item
abbrev longest : List ℕ
longest = replicate 48 0x02 ++ replicate 47 0x03 ++ (0x05 ∷ [])

abbrev rows : List Row
rows =
    -- "256 conditions; 96 records of kinds 1-5 and 31 leaves in a condition; 512 points; 64 methods; 512 steps": the last one, and one more
    after 255 0 0 0 (0x02 ∷ 0x06 ∷ []) (9 ∷ 2 ∷ [])
    ∷ after 256 0 0 0 (0x02 ∷ 0x06 ∷ []) (6 ∷ 1 ∷ [])
    ∷ after 0 0 0 0 (replicate 96 0x02) (8 ∷ 96 ∷ [])
    ∷ after 0 0 0 0 (replicate 97 0x02) (6 ∷ 96 ∷ [])
    ∷ after 0 0 0 0 (times 31 leaf_of0) (8 ∷ 155 ∷ [])
    ∷ after 0 0 0 0 (times 32 leaf_of0) (6 ∷ 155 ∷ [])
    ∷ after 1 511 0 0 point0 (9 ∷ 7 ∷ [])
    ∷ after 1 512 0 0 point0 (6 ∷ 0 ∷ [])
    ∷ after 1 1 63 0 method0 []
    ∷ after 1 1 64 0 method0 (6 ∷ 0 ∷ [])
    ∷ after 1 1 1 511 pass0 (9 ∷ 5 ∷ [])
    ∷ after 1 1 1 512 pass0 (6 ∷ 0 ∷ [])
    -- "Sections in order": a record of each section, and then one of the section before
    ∷ after 1 0 0 0 (point0 ++ (0x02 ∷ [])) (4 ∷ 7 ∷ [])
    ∷ after 1 1 0 0 (method0 ++ point0) (4 ∷ 11 ∷ [])
    ∷ after 1 1 1 0 (pass0 ++ method0) (4 ∷ 5 ∷ [])
    ∷ after 1 1 1 0 (0x0E ∷ pass0) (4 ∷ 1 ∷ [])
    -- "a condition is open and the kind is above 6"
    ∷ after 1 0 0 0 (0x02 ∷ point0) (4 ∷ 1 ∷ [])
    ∷ after 1 0 0 0 (0x02 ∷ 0x0E ∷ []) (4 ∷ 1 ∷ [])
    -- "the end comes inside a condition or a certificate"
    ∷ after 0 0 0 0 (0x02 ∷ []) (8 ∷ 1 ∷ [])
    ∷ after 1 1 0 0 (method0 ++ (0x0D ∷ 0 ∷ 1 ∷ 0 ∷ 0 ∷ 0 ∷ [])) (8 ∷ 17 ∷ [])
    -- "kind not 1 to 14", but 15 to 20; "an event above 31"; the names of a pass step are points, where no method is yet
    ∷ after 0 0 0 0 (0x15 ∷ []) (2 ∷ 0 ∷ [])
    ∷ after 1 1 1 0 (0x0A ∷ 0 ∷ 0 ∷ 0 ∷ 0 ∷ 32 ∷ []) (7 ∷ 0 ∷ [])
    ∷ after 1 1 0 0 pass0 (9 ∷ 5 ∷ [])
    -- "at one record the table's order holds": 3 before 4, 4 before 5, 5 before 6, 6 before 7, 7 before 9, and behind each of the last three
    -- the second alone
    ∷ after 1 0 0 0 (point0 ++ (0x01 ∷ [])) (3 ∷ 7 ∷ [])
    ∷ after 1 0 0 0 (point0 ++ (0x03 ∷ [])) (4 ∷ 7 ∷ [])
    ∷ after 0 0 0 0 (longest ++ (0x03 ∷ [])) (5 ∷ 96 ∷ [])
    ∷ after 0 0 0 0 (longest ++ (0x02 ∷ [])) (6 ∷ 96 ∷ [])
    ∷ after 1 512 0 0 point1 (6 ∷ 0 ∷ [])
    ∷ after 1 511 0 0 point1 (7 ∷ 0 ∷ [])
    ∷ after 1 0 0 0 primitive1 (7 ∷ 0 ∷ [])
    ∷ after 2 0 0 0 primitive1 (9 ∷ 0 ∷ [])
    ∷ []

rows-are-so : map (λ x. number_and_place (read_from large (starting_from x.before) x.bytes)) rows ≡ map (λ x. x.refused) rows
unfolding read_from
rows-are-so = refl

-- a refusal has what was counted before it: here one condition and one point
counted-before : starts (read_sheet large (0x02 ∷ 0x06 ∷ (point0 ++ point1))) ≡ (0 ∷ []) ∷ (2 ∷ []) ∷ [] ∷ [] ∷ [] ∷ []
unfolding starts read_sheet
counted-before = refl

-- More readings ---------------------------------------------------------------------------------------------------------

abbrev pub primitive0 : List ℕ
primitive0 = 0x08 ∷ 0 ∷ 0 ∷ 0 ∷ 0 ∷ 0 ∷ 0 ∷ []

abbrev more_rows : List Row
more_rows =
    -- "kind not 1 to 14": 0 is none
    after 0 0 0 0 (0x00 ∷ []) (2 ∷ 0 ∷ [])
    -- "end of condition with other than one": with none, and with two
    ∷ after 0 0 0 0 (0x06 ∷ []) (5 ∷ 0 ∷ [])
    ∷ after 0 0 0 0 (0x02 ∷ 0x02 ∷ 0x06 ∷ []) (5 ∷ 2 ∷ [])
    -- "31 leaves": symbols before and behind them that are no leaves do not count
    ∷ after 0 0 0 0 (replicate 40 0x02 ++ (times 31 leaf_of0 ++ (0x02 ∷ []))) (8 ∷ 196 ∷ [])
    -- each set and each left place is taken
    ∷ after 0 0 0 0 (0x01 ∷ 0xFF ∷ 0xFF ∷ 0xFF ∷ 0xFF ∷ []) (8 ∷ 5 ∷ [])
    ∷ after 1 1 0 0 (method0 ++ (0x0D ∷ 0xFF ∷ 0xFF ∷ 0xFF ∷ 0xFF ∷ 0xFF ∷ 0x0E ∷ [])) []
    -- a method, and each kind of step, that names what does not exist yet
    ∷ after 1 1 0 0 (0x09 ∷ 0 ∷ 0 ∷ 0 ∷ 0 ∷ 0 ∷ 0 ∷ 0 ∷ 0 ∷ 1 ∷ 0 ∷ []) (7 ∷ 0 ∷ [])
    ∷ after 1 1 1 0 (0x0A ∷ 0 ∷ 0 ∷ 1 ∷ 0 ∷ 0 ∷ []) (7 ∷ 0 ∷ [])
    ∷ after 1 2 1 0 (0x0B ∷ 0 ∷ 0 ∷ 0 ∷ 0 ∷ 1 ∷ 0 ∷ []) (7 ∷ 0 ∷ [])
    ∷ after 1 1 2 1 (0x0C ∷ 0 ∷ 0 ∷ 1 ∷ 0 ∷ []) (7 ∷ 0 ∷ [])
    -- "4, 8, 9 and 19 are the guest's own": the first method of a sheet is its own first one
    ∷ after 1 1 1 0 primitive0 (9 ∷ 0 ∷ [])
    ∷ after 1 1 0 0 (method0 ++ primitive0) []
    -- every record is read, also where each has one byte
    ∷ after 1 1 1 0 (0x0E ∷ 0x0E ∷ 0x15 ∷ []) (2 ∷ 2 ∷ [])
    ∷ []

more-rows-are-so : map (λ x. number_and_place (read_from large (starting_from x.before) x.bytes)) more_rows ≡ map (λ x. x.refused) more_rows
unfolding read_from
more-rows-are-so = refl

-- neither certificates nor the pairs of one have a limit: behind 600 of them, one more is read
abbrev many : Reading
many = record {
  section = 5;
  opened = record { section = 5; start = 0; items = []; symbols = 0; leaves = 0; pairs = replicate 600 (pair 0 1) };
  before = λ k. replicate 600 (record { last = with 0 []; opened = nothing });
  own = λ k. [];
}

no-limit : number_and_place (read_from large many (pair_bytes ++ (0x0E ∷ []))) ≡ 9 ∷ 7 ∷ []
unfolding read_from
no-limit = refl

-- an instrument with limits of its own: 20 bytes, one point, two events, kinds up to 12
abbrev other : Model
other = record { bytes = 20; points = 1; events = 2; kinds = 12 }

abbrev other_rows : List Row
other_rows =
    -- 1 comes before reading, and behind 20 bytes
    after 1 1 1 0 (replicate 21 0x0F) (1 ∷ 20 ∷ [])
    ∷ after 1 1 1 0 (replicate 20 0x0F) (2 ∷ 0 ∷ [])
    -- 2 before 3, at the first kind that is not taken
    ∷ after 1 1 1 0 (0x0D ∷ []) (2 ∷ 0 ∷ [])
    ∷ after 1 1 1 0 (0x0C ∷ []) (3 ∷ 0 ∷ [])
    ∷ after 1 0 0 0 (point0 ++ point0) (6 ∷ 7 ∷ [])
    ∷ after 1 1 1 0 (pass0 ++ pass0) (9 ∷ 10 ∷ [])
    ∷ after 1 1 1 0 (0x0A ∷ 0 ∷ 0 ∷ 0 ∷ 0 ∷ 1 ∷ []) (9 ∷ 6 ∷ [])
    ∷ after 1 1 1 0 (0x0A ∷ 0 ∷ 0 ∷ 0 ∷ 0 ∷ 2 ∷ []) (7 ∷ 0 ∷ [])
    ∷ []

other-rows-are-so : map (λ x. number_and_place (read_from other (starting_from x.before) x.bytes)) other_rows ≡ map (λ x. x.refused) other_rows
unfolding read_from
other-rows-are-so = refl

-- refusal 1 leaves what was counted before the sheet
too-long-behind : read_from other many (replicate 21 0) ≡ refusal 1 20 many
unfolding read_from
too-long-behind = refl

-- bytes that are refused stand for a sheet with nothing in it, also where conditions and points were read
refused-is-nothing : sheet_of large (0x02 ∷ 0x06 ∷ (point0 ++ point1)) ≡ record { conditions = []; points = []; methods = []; steps = []; certificates = []; new = false }
unfolding sheet_of
refused-is-nothing = refl

-- The entry instrument --------------------------------------------------------------------------------------------------

-- "at most 8,192 bytes and 64 points": the last one, and one more; the other limits are those of the large one
abbrev entry_rows : List Row
entry_rows =
    after 0 0 0 0 (replicate 8192 0x00) (2 ∷ 0 ∷ [])
    ∷ after 0 0 0 0 (replicate 8193 0x00) (1 ∷ 8192 ∷ [])
    ∷ after 1 63 0 0 point0 (9 ∷ 7 ∷ [])
    ∷ after 1 64 0 0 point0 (6 ∷ 0 ∷ [])
    ∷ after 1 62 0 0 (point0 ++ (point0 ++ point0)) (6 ∷ 14 ∷ [])
    ∷ after 255 0 0 0 (0x02 ∷ 0x06 ∷ []) (9 ∷ 2 ∷ [])
    ∷ after 256 0 0 0 (0x02 ∷ 0x06 ∷ []) (6 ∷ 1 ∷ [])
    ∷ after 1 1 63 0 method0 []
    ∷ after 1 1 64 0 method0 (6 ∷ 0 ∷ [])
    ∷ after 1 1 1 511 pass0 (9 ∷ 5 ∷ [])
    ∷ after 1 1 1 512 pass0 (6 ∷ 0 ∷ [])
    ∷ after 1 1 1 0 (0x0A ∷ 0 ∷ 0 ∷ 0 ∷ 0 ∷ 31 ∷ []) (9 ∷ 6 ∷ [])
    ∷ after 1 1 1 0 (0x0A ∷ 0 ∷ 0 ∷ 0 ∷ 0 ∷ 32 ∷ []) (7 ∷ 0 ∷ [])
    ∷ after 1 1 1 0 (0x0E ∷ 0x15 ∷ []) (2 ∷ 1 ∷ [])
    ∷ []

entry-rows-are-so : map (λ x. number_and_place (read_from entry (starting_from x.before) x.bytes)) entry_rows ≡ map (λ x. x.refused) entry_rows
unfolding read_from
entry-rows-are-so = refl

-- it is no larger than the large one
pub entry-no-larger : NoLarger entry large
entry-no-larger = record { bytes = omega arith; points = omega arith; events = as_many refl; kinds = omega arith }

-- Two outcomes ----------------------------------------------------------------------------------------------------------

-- a record of names below 256
abbrev pub shorts : List ℕ → List ℕ
shorts [] = []
shorts (v ∷ vs) = v ∷ 0 ∷ shorts vs

abbrev pub naming : ℕ → List ℕ → List ℕ
naming kind names = kind ∷ shorts names

-- five conditions, three points, a method and a primitive with two outcomes, a method with one, and calls of each
abbrev failing_sheet : List ℕ
failing_sheet =
    times 5 (0x02 ∷ 0x06 ∷ [])
    ++ (times 3 point0
    ++ (naming 0x10 (0 ∷ 1 ∷ 2 ∷ 0 ∷ 1 ∷ 3 ∷ 4 ∷ 2 ∷ [])
    ++ (naming 0x0F (4 ∷ 3 ∷ 2 ∷ 1 ∷ 0 ∷ [])
    ++ (naming 0x09 (1 ∷ 2 ∷ 3 ∷ 2 ∷ 0 ∷ [])
    ++ (naming 0x11 (0 ∷ 1 ∷ 2 ∷ 1 ∷ [])
    ++ (naming 0x11 (2 ∷ 0 ∷ 1 ∷ 0 ∷ [])
    ++ naming 0x0B (1 ∷ 0 ∷ 2 ∷ [])))))))

failing-sheet-is-so : sheet_of large failing_sheet
    ≡ record {
      conditions = replicate 5 empty;
      points = replicate 3 (point_from 0 0 0);
      methods =
          two_outcomes 0 (declared 1 2) (declared 3 4) (body 0 1 (some 2))
          ∷ two_outcomes 4 (declared 3 2) (declared 1 0) none
          ∷ one_outcome 1 (declared 2 3) (body 2 0 none)
          ∷ [];
      steps = failing_call_from 0 1 2 1 ∷ failing_call_from 2 0 1 0 ∷ call_from 1 0 2 ∷ [];
      certificates = [];
      new = false;
    }
unfolding sheet_of
failing-sheet-is-so = refl

-- behind conditions, points and methods of these kinds
abbrev counts : ℕ → ℕ → List ℕ → ℕ → List Counted
counts c p kinds k = get_or ([] ∷ replicate c (of 0) ∷ replicate p (of 0) ∷ map of kinds ∷ []) k []
  where
    of : ℕ → Counted
    of kind = record { last = with kind []; opened = nothing }

abbrev pub behind : List ℕ → List ℕ → List ℕ → Row
behind kinds s refused = record { before = counts 1 1 kinds; bytes = s; refused = refused }

abbrev call : ℕ → List ℕ
call m = naming 0x0B (0 ∷ 0 ∷ m ∷ [])

abbrev pub failing_call : ℕ → List ℕ
failing_call m = naming 0x11 (0 ∷ 0 ∷ 0 ∷ m ∷ [])

abbrev failing_primitive0 : List ℕ
failing_primitive0 = naming 0x0F (replicate 5 0)

abbrev pub failing_method0 : List ℕ
failing_method0 = naming 0x10 (replicate 8 0)

abbrev outcome_rows : List Row
outcome_rows =
    -- "18 when kind 11 names a method of kind 15 or 16, or kind 17 one of kind 8 or 9"; a call that is taken leads to the end, where the sheet has no method
    behind (15 ∷ []) (call 0) (18 ∷ 0 ∷ [])
    ∷ behind (16 ∷ []) (call 0) (18 ∷ 0 ∷ [])
    ∷ behind (8 ∷ []) (failing_call 0) (18 ∷ 0 ∷ [])
    ∷ behind (9 ∷ []) (failing_call 0) (18 ∷ 0 ∷ [])
    ∷ behind (8 ∷ []) (call 0) (9 ∷ 7 ∷ [])
    ∷ behind (9 ∷ []) (call 0) (9 ∷ 7 ∷ [])
    ∷ behind (15 ∷ []) (failing_call 0) (9 ∷ 9 ∷ [])
    ∷ behind (16 ∷ []) (failing_call 0) (9 ∷ 9 ∷ [])
    -- of several methods the one that is named; "at that record"; also the sheet's own methods
    ∷ behind (9 ∷ 15 ∷ 8 ∷ []) (call 1) (18 ∷ 0 ∷ [])
    ∷ behind (9 ∷ 15 ∷ 8 ∷ []) (call 2) (9 ∷ 7 ∷ [])
    ∷ behind (9 ∷ 15 ∷ 8 ∷ []) (failing_call 1) (9 ∷ 9 ∷ [])
    ∷ behind (9 ∷ 15 ∷ 8 ∷ []) (failing_call 2) (18 ∷ 0 ∷ [])
    ∷ behind (15 ∷ []) (pass0 ++ call 0) (18 ∷ 5 ∷ [])
    ∷ after 1 1 0 0 (method0 ++ failing_call 0) (18 ∷ 11 ∷ [])
    ∷ after 1 1 0 0 (failing_method0 ++ call 0) (18 ∷ 17 ∷ [])
    ∷ after 1 1 0 0 (failing_method0 ++ failing_call 0) []
    -- "after 7": a method, a point and a failed target that do not exist
    ∷ behind (8 ∷ []) (failing_call 1) (7 ∷ 0 ∷ [])
    ∷ behind (15 ∷ []) (naming 0x0B (1 ∷ 0 ∷ 0 ∷ [])) (7 ∷ 0 ∷ [])
    ∷ behind (8 ∷ []) (naming 0x11 (0 ∷ 0 ∷ 1 ∷ 0 ∷ [])) (7 ∷ 0 ∷ [])
    -- 9 for a first primitive of kind 15, and 7 before it; a method of kind 16 has a body
    ∷ after 1 1 0 0 failing_primitive0 (9 ∷ 0 ∷ [])
    ∷ after 1 1 0 0 (naming 0x0F (0 ∷ 0 ∷ 0 ∷ 0 ∷ 1 ∷ [])) (7 ∷ 0 ∷ [])
    ∷ after 1 1 0 0 failing_method0 []
    ∷ after 1 1 0 0 (method0 ++ failing_primitive0) []
    -- "64 methods; 512 steps": 15 and 16 count among the methods, 17 among the steps
    ∷ after 1 1 63 0 failing_method0 []
    ∷ after 1 1 64 0 failing_method0 (6 ∷ 0 ∷ [])
    ∷ after 1 1 64 0 failing_primitive0 (6 ∷ 0 ∷ [])
    ∷ after 1 1 1 511 (failing_call 0) (18 ∷ 0 ∷ [])
    ∷ after 1 1 1 512 (failing_call 0) (6 ∷ 0 ∷ [])
    -- "in the sections of 8, 9 and 11"
    ∷ after 1 1 0 0 (failing_method0 ++ point0) (4 ∷ 17 ∷ [])
    ∷ behind (16 ∷ []) (failing_call 0 ++ failing_method0) (4 ∷ 9 ∷ [])
    ∷ behind (16 ∷ []) (failing_call 0 ++ failing_primitive0) (4 ∷ 9 ∷ [])
    -- "The sheet 0F now gives `refused 3 at 0`"; bodies one byte short
    ∷ after 0 0 0 0 (0x0F ∷ []) (3 ∷ 0 ∷ [])
    ∷ after 1 1 1 0 (0x0F ∷ replicate 9 0) (3 ∷ 0 ∷ [])
    ∷ after 1 1 1 0 (0x10 ∷ replicate 15 0) (3 ∷ 0 ∷ [])
    ∷ after 1 1 1 0 (0x11 ∷ replicate 7 0) (3 ∷ 0 ∷ [])
    ∷ []

outcome-rows-are-so : map (λ x. number_and_place (read_from large (starting_from x.before) x.bytes)) outcome_rows ≡ map (λ x. x.refused) outcome_rows
unfolding read_from
outcome-rows-are-so = refl

-- every name is judged: a record of a kind whose n fields are 0 but one, which is 1, by the number of that field
judged : (ℕ → List Counted) → ℕ → ℕ → List (List ℕ)
judged before kind n =
    map (λ i. number_and_place (read_from large (starting_from before) (naming kind (set (replicate n 0) i 1)))) (take n (0 ∷ 1 ∷ 2 ∷ 3 ∷ 4 ∷ 5 ∷ 6 ∷ 7 ∷ []))

abbrev unknown : List ℕ
unknown = 7 ∷ 0 ∷ []

-- conditions, where there is one, and points, where there is one: "pre, trace, future, failed trace, failed future"
primitive-judged : judged (counts 1 2 []) 0x0F 5 ++ judged (counts 2 1 []) 0x0F 5 ≡ replicate 5 unknown ++ replicate 5 (9 ∷ 0 ∷ [])
unfolding read_from judged
primitive-judged = refl

-- "pre, trace, future, entry, exit, failed trace, failed future, failed exit"
method-judged : judged (counts 1 2 []) 0x10 8 ++ judged (counts 2 1 []) 0x10 8
    ≡ (unknown ∷ unknown ∷ unknown ∷ [] ∷ [] ∷ unknown ∷ unknown ∷ [] ∷ []) ++ ([] ∷ [] ∷ [] ∷ unknown ∷ unknown ∷ [] ∷ [] ∷ unknown ∷ [])
unfolding read_from judged
method-judged = refl

-- "from, to, failed target, method", where there is one point, and where there is one method
call-judged : judged (counts 1 1 (16 ∷ 16 ∷ [])) 0x11 4 ++ judged (counts 1 2 (16 ∷ [])) 0x11 4
    ≡ (unknown ∷ unknown ∷ unknown ∷ (9 ∷ 9 ∷ []) ∷ []) ++ ((9 ∷ 9 ∷ []) ∷ (9 ∷ 9 ∷ []) ∷ (9 ∷ 9 ∷ []) ∷ unknown ∷ [])
unfolding read_from judged
call-judged = refl

-- an instrument that takes the kinds of document 01 alone
abbrev older_rows : List Row
older_rows =
    after 1 1 1 0 (0x0F ∷ []) (2 ∷ 0 ∷ [])
    ∷ after 1 1 1 0 failing_method0 (2 ∷ 0 ∷ [])
    ∷ behind (16 ∷ []) (pass0 ++ failing_call 0) (2 ∷ 5 ∷ [])
    ∷ after 1 1 0 0 (method0 ++ (0x0E ∷ [])) []
    ∷ []

older-rows-are-so : map (λ x. number_and_place (read_from (with_kinds 14 large) (starting_from x.before) x.bytes)) older_rows ≡ map (λ x. x.refused) older_rows
unfolding read_from
older-rows-are-so = refl

-- it is no larger, and the large one is no such one beside it
pub older-no-larger : NoLarger (with_kinds 14 large) large
older-no-larger = record { bytes = omega arith; points = omega arith; events = as_many refl; kinds = omega arith }

larger-than-older : NoLarger large (with_kinds 14 large) → ⊥
larger-than-older n = omega (arith, n.kinds)
