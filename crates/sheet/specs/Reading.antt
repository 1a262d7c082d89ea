-- Reading a sheet, record by record: document 01, "Records" and "What the loader returns", refusals 1 to 9, and document 02's 18 to 20 and 24 to 26,
-- which are met while reading.
use Rattle.std.specs.Prelude.{ℕ, zero, suc, ◌+◌, Bool, true, false, not, cond, ◌&&◌, ◌||◌, List, [], ◌∷◌, ◌++◌, map, length, get_or, drop, eqb, ltb, leb}
use Rattle.std.proofs.Math.Option.{Option, none, some}
use Rattle.std.proofs.Math.ListN.{get_elem?}
use Rattle.condition.specs.Condition.{Condition, no_word}
use Rattle.certificate.specs.Certificate.{Certificate, pair}
use Rattle.sheet.specs.Model.{Model, condition_limit, symbol_limit, leaf_limit, method_limit, step_limit}
use Rattle.sheet.specs.Kind.{conditions, points, methods, Field, a-set, a-long-set, an-event, a-place, an-owner, a-channel, a_name, Role, symbol, a_pair, counts, edition, Kind, kind_of}
use Rattle.sheet.specs.Record.{Record, byte_at, record_at, next_at, value}

-- The state between two records ---------------------------------------------------------------------------------------

-- what was begun and not yet ended: its section, 0 if nothing is open, and the offset of its first record; of a condition, its items, the last
-- first ("Conditions are in postfix order"), and its records of kinds 1-5 and leaves so far; of a certificate, its pairs so far
pub record Opened : Type 0 where
  pub section : ℕ
  pub start : ℕ
  pub items : List Condition
  pub symbols : ℕ
  pub leaves : ℕ
  pub pairs : Certificate

-- before the first record of a condition or of a certificate, and outside them
abbrev pub nothing : Opened
nothing = record { section = 0; start = 0; items = []; symbols = 0; leaves = 0; pairs = [] }

-- what counts: the record at which it does, and what was open there
pub record Counted : Type 0 where
  pub last : Record
  pub opened : Opened

-- the section of the record before, 0 before the first; and what was counted, by section: before this sheet, and in it
pub record Reading : Type 0 where
  pub section : ℕ
  pub opened : Opened
  pub before : ℕ → List Counted
  pub own : ℕ → List Counted

-- before the first record: "A guest's counts go on from the library's"; "each counted from 0"
abbrev pub starting_from : (ℕ → List Counted) → Reading
starting_from library = record { section = 0; opened = nothing; before = library; own = λ k. [] }

-- where nothing was counted before the sheet
abbrev pub fresh : Reading
fresh = starting_from (λ k. [])

-- "the tally of conditions, points, methods, steps and certificates"
abbrev pub tally : Reading → ℕ → ℕ
tally r k = length (r.before k ++ r.own k)

-- where what is open started, or what starts here; and where things that were counted start
abbrev pub start_of : Opened → ℕ → ℕ
start_of o here = cond (eqb o.section 0) here o.start

abbrev pub starts_of : List Counted → List ℕ
starts_of = map (λ (c : Counted). start_of c.opened c.last.at)

-- x where the test passes, and else what follows
infixr 10 ◌when◌else◌
abbrev pub ◌when◌else◌ : {A : Type 0} → A → Bool → A → A
x when b else y = cond b x y

-- The refusals of a record --------------------------------------------------------------------------------------------

-- not 4, where a condition is open: "kinds 1-6", its symbols and its end; "a condition is open and the kind is above 6" is 4
abbrev pub in_condition : ℕ → Role → Bool
in_condition section (symbol takes make) = true
in_condition section a_pair = false
in_condition section counts = eqb section conditions
in_condition section edition = false

-- "A sheet of the new edition begins with a record of kind 18"
abbrev pub is_new : List ℕ → Bool
is_new s = eqb (byte_at s 0) 18

-- kinds 1 and 21; kinds 8 and 15; kinds 15 and 16; kind 20
abbrev pub is_leaf : Record → Bool
is_leaf x = eqb x.kind 1 || eqb x.kind 21

abbrev pub is_primitive : Record → Bool
is_primitive x = eqb x.kind 8 || eqb x.kind 15

abbrev pub has_two_outcomes : Record → Bool
has_two_outcomes x = eqb x.kind 15 || eqb x.kind 16

abbrev pub is_owned : Record → Bool
is_owned x = eqb x.kind 20

-- 5: "JOIN or EITHER with under two items, STAR with none, end of condition with other than one"
abbrev pub wrong_items : ℕ → Role → ℕ → Bool
wrong_items section (symbol takes make) items = ltb items takes
wrong_items section a_pair items = false
wrong_items section counts items = eqb section conditions && not (eqb items 1)
wrong_items section edition items = false

-- "256 conditions; .. 512 points; 64 methods; 512 steps": as many are there already
abbrev pub full : Model → ℕ → ℕ → Bool
full M section n = get_or (false ∷ leb condition_limit n ∷ leb M.points n ∷ leb method_limit n ∷ leb step_limit n ∷ []) section false

-- 6: "one more than a limit"; "96 records of kinds 1-5 and 31 leaves in a condition", among which kind 21 counts as kind 1 does
abbrev pub over_limit : Model → Reading → Record → ℕ → Role → Bool
over_limit M r x section (symbol takes make) = leb symbol_limit r.opened.symbols || (is_leaf x && leb leaf_limit r.opened.leaves)
over_limit M r x section a_pair = false
over_limit M r x section counts = full M section (tally r section)
over_limit M r x section edition = false

-- not 7, "a name that does not exist yet, or an event above 31": "Names point only backward"; of an owner "7 does not judge it", and a channel is 26's
abbrev pub exists : ℕ → (ℕ → ℕ) → Field → ℕ → Bool
exists events counted a-set v = true
exists events counted a-long-set v = true
exists events counted an-event v = ltb v events
exists events counted a-place v = true
exists events counted an-owner v = true
exists events counted a-channel v = true
exists events counted (a_name of) v = ltb v (counted of)

-- of all fields of a record, in order
abbrev pub all_exist : ℕ → (ℕ → ℕ) → List Field → List ℕ → Bool
all_exist events counted [] vs = true
all_exist events counted (f ∷ fs) [] = true
all_exist events counted (f ∷ fs) (v ∷ vs) = exists events counted f v && all_exist events counted fs vs

-- the record of a section that a number names, if there is such a one; 7 comes before 18, 24 and 26
abbrev pub record_named : Reading → (section n : ℕ) → Option Record
record_named r section n = get_elem? (map (λ (c : Counted). c.last) (r.before section ++ r.own section)) n

abbrev pub two_outcomes_in : Option Record → Bool
two_outcomes_in none = false
two_outcomes_in (some m) = has_two_outcomes m

-- 18: "when kind 11 names a method of kind 15 or 16, or kind 17 one of kind 8 or 9"
abbrev pub wrong_outcomes : Reading → Record → Bool
wrong_outcomes r x =
    (eqb x.kind 11 && two_outcomes_in (record_named r methods (value x 2))) || (eqb x.kind 17 && not (two_outcomes_in (record_named r methods (value x 3))))

-- the owner of a point, if it has one: of kind 20 its fourth field; kind 7 "has no owner"
abbrev pub owner_of : Record → Option ℕ
owner_of x = some (value x 3) when is_owned x else none

abbrev pub owner_in : Option Record → Option ℕ
owner_in none = none
owner_in (some x) = owner_of x

abbrev pub point_owner : Reading → ℕ → Option ℕ
point_owner r p = owner_in (record_named r points p)

-- "Owners are compared only where there are any": of two, and of each two of a list
abbrev pub agree : Option ℕ → Option ℕ → Bool
agree none b = true
agree (some m) none = true
agree (some m) (some n) = eqb m n

abbrev pub agrees_with : Option ℕ → List (Option ℕ) → Bool
agrees_with o [] = true
agrees_with o (x ∷ xs) = agree o x && agrees_with o xs

abbrev pub all_agree : List (Option ℕ) → Bool
all_agree [] = true
all_agree (o ∷ os) = agrees_with o os && all_agree os

-- the points that a record names: a method's entry, exit and failed exit, and the points that a step joins; "from" alone of a stop
abbrev pub names_point : Field → Bool
names_point a-set = false
names_point a-long-set = false
names_point an-event = false
names_point a-place = false
names_point an-owner = false
names_point a-channel = false
names_point (a_name of) = eqb of points

abbrev pub points_named : List Field → List ℕ → List ℕ
points_named [] vs = []
points_named (f ∷ fs) [] = []
points_named (f ∷ fs) (v ∷ vs) = let rest = points_named fs vs in (v ∷ rest) when names_point f else rest

-- their owners; before those of a method stands its own number, which it gets by this record
abbrev pub owners_joined : (number : ℕ) → (owner : ℕ → Option ℕ) → Kind → List ℕ → List (Option ℕ)
owners_joined number owner k vs =
    let owners = map owner (points_named k.fields vs) in
    (some number ∷ owners) when eqb k.section methods else owners

-- 24: "when a step joins points of different owners, or a method's entry or exit (failed exit too) has another owner"
abbrev pub wrong_owner : Reading → Kind → Record → Bool
wrong_owner r k x = not (all_agree (owners_joined (tally r methods) (point_owner r) k x.values))

-- a primitive of one outcome, which alone is called on a channel; and the last channel
abbrev pub plain_primitive_in : Option Record → Bool
plain_primitive_in none = false
plain_primitive_in (some m) = is_primitive m && not (has_two_outcomes m)

abbrev pub last_channel : ℕ
last_channel = 3

-- 26: "when kind 22 names a method with body, a two-outcome method or a channel above 3"
abbrev pub wrong_channel : Reading → Record → Bool
wrong_channel r x = eqb x.kind 22 && (not (plain_primitive_in (record_named r methods (value x 2))) || ltb last_channel (value x 3))

-- "at one record the table's order holds"; 19, "when kind 18 is not first", comes "at its record after 4", 20, "when kind 19 stands in an old sheet", "at
-- its record after 19", 18 "at that record after 7", 24 "at that record after 18", and 26 "at that record after 24": the number of the first refusal that
-- applies to the record at an offset, 0 if none does
abbrev pub refusal_of : Model → List ℕ → ℕ → Reading → ℕ
refusal_of M s at r =
    let x = record_at s at in
    let k = kind_of (byte_at s at) in
    2 when eqb (byte_at s at) 0 || ltb M.kinds (byte_at s at)
    else 3 when ltb (length s) (next_at s at)
    else 4 when ltb k.section r.section || (eqb r.opened.section conditions && not (in_condition k.section k.role))
    else 19 when eqb (byte_at s at) 18 && ltb 0 at
    else 20 when eqb (byte_at s at) 19 && not (is_new s)
    else 5 when wrong_items k.section k.role (length r.opened.items)
    else 6 when over_limit M r x k.section k.role
    else 7 when not (all_exist M.events (tally r) k.fields x.values)
    else 9 when is_primitive x && eqb (length (r.own methods)) 0
    else 18 when wrong_outcomes r x
    else 24 when wrong_owner r k x
    else 26 when wrong_channel r x
    else 0

-- The state past a record that is not refused -------------------------------------------------------------------------

-- the item that is so many before the last; a symbol short of items is refused (5)
abbrev pub item : Opened → ℕ → Condition
item o i = get_or o.items i no_word

-- what is open past a record
abbrev pub opened_past : Opened → Record → ℕ → Role → Opened
opened_past o x section (symbol takes make) =
    record {
      section = section;
      start = start_of o x.at;
      items = make (value x 0) (item o 1) (item o 0) ∷ drop takes o.items;
      symbols = suc o.symbols;
      leaves = o.leaves + cond (is_leaf x) 1 0;
      pairs = [];
    }
opened_past o x section a_pair =
    record { section = section; start = start_of o x.at; items = []; symbols = 0; leaves = 0; pairs = o.pairs ++ (pair (value x 0) (value x 1) ∷ []) }
opened_past o x section counts = nothing
opened_past o x section edition = nothing

-- one more of its section, where the record counts
abbrev pub own_past : (ℕ → List Counted) → Counted → ℕ → Role → ℕ → List Counted
own_past own x section (symbol takes make) k = own k
own_past own x section a_pair k = own k
own_past own x section counts k = cond (eqb k section) (own k ++ (x ∷ [])) (own k)
own_past own x section edition k = own k

-- the state past the record at an offset
abbrev pub past_at : List ℕ → ℕ → Reading → Reading
past_at s at r =
    let x = record_at s at in
    let k = kind_of (byte_at s at) in
    record {
      section = k.section;
      opened = opened_past r.opened x k.section k.role;
      before = r.before;
      own = own_past r.own (record { last = x; opened = r.opened }) k.section k.role;
    }

-- Reading -------------------------------------------------------------------------------------------------------------

-- "a record, or the refusal that ends reading": the state past what is read, or the refusal's number and place, and the state that it ends in
pub data ReadResult : Type 0 where
  whole : Reading → ReadResult
  refusal : (number at : ℕ) → Reading → ReadResult

-- the state that reading ends in, either way
abbrev pub state_of : ReadResult → Reading
state_of (whole r) = r
state_of (refusal n at r) = r

-- 25: "when an owner is no method, .. with the first such point's offset"
abbrev pub no_method : (methods : ℕ) → Option ℕ → Bool
no_method n none = false
no_method n (some m) = leb n m

abbrev pub owners_from : Reading → List Counted → ReadResult
owners_from r [] = whole r
owners_from r (p ∷ ps) = let rest = owners_from r ps in refusal 25 p.last.at r when no_method (tally r methods) (owner_of p.last) else rest

-- "8, 9 for no method, and 10 follow in that order at the end"; 8: "the end comes inside a condition or a certificate"; 25 comes "at the end after 9 and
-- before 10", of the points of this sheet
abbrev pub at_end : List ℕ → Reading → ReadResult
at_end s r =
    let owners = owners_from r (r.own points) in
    refusal 8 (length s) r when ltb 0 r.opened.section
    else refusal 9 (length s) r when eqb (length (r.own methods)) 0
    else owners

-- the records from an offset on: "The earliest record at fault counts"; a record has a byte or more, so as much fuel as there are bytes is enough
unfoldable pub read_on : Model → List ℕ → ℕ → ℕ → Reading → ReadResult
read_on M s zero at r = at_end s r
read_on M s (suc fuel) at r =
    let n = refusal_of M s at r in
    let more = read_on M s fuel (next_at s at) (past_at s at r) in
    let rest = more when eqb n 0 else refusal n at r in
    at_end s r when leb (length s) at else rest

-- "1, place 65,536"; "Refusal 1 comes before reading."
unfoldable pub read_from : Model → Reading → List ℕ → ReadResult
unfolding record_at next_at read_on
read_from M r s = let rest = read_on M s (length s) 0 r in refusal 1 M.bytes r when ltb M.bytes (length s) else rest

-- the reading of a sheet that stands alone
unfoldable pub read_sheet : Model → List ℕ → ReadResult
unfolding read_from
read_sheet M s = read_from M fresh s
