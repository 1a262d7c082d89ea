-- The kinds of records: document 01, "Records", and document 02, Asks 2, 4, 9 and 11. One table says of each kind its section, what it is to what is open,
-- and its fields.
use Rattle.std.specs.Prelude.{ℕ, ◌+◌, List, [], ◌∷◌, get_or}
use Rattle.condition.specs.Condition.{Condition, leaf, empty, join, either, star}

-- "Sections in order: kinds 1-6, 7, 8-9, 10-12, 13-14", each called by what is counted in it
abbrev pub conditions : ℕ
conditions = 1

abbrev pub points : ℕ
points = 2

abbrev pub methods : ℕ
methods = 3

abbrev pub steps : ℕ
steps = 4

abbrev pub certificates : ℕ
certificates = 5

-- the fields of a body: "a 4-byte set"; "an 8-byte set"; "event (1)"; "left place (1)"; "an owner, its method's number", "the one name that may point
-- forward"; "channel (1)"; the number of a condition, a point or a method, by its section: "2 bytes each"
pub data Field : Type 0 where
  a-set a-long-set an-event a-place an-owner a-channel : Field
  a_name : (of : ℕ) → Field

-- how many bytes a field has
abbrev pub width : Field → ℕ
width a-set = 4
width a-long-set = 8
width an-event = 1
width a-place = 1
width an-owner = 2
width a-channel = 1
width (a_name of) = 2

-- what a record is to what is open
pub data Role : Type 0 where
  -- a symbol of a condition: how many items it takes, and the item that it makes of its set and the last two
  symbol : (takes : ℕ) → (ℕ → Condition → Condition → Condition) → Role
  -- a pair of a certificate; and one of its section, whole or at its end: "A condition counts at its end record"
  a_pair counts : Role
  -- the mark of the new edition, which counts as nothing
  edition : Role

-- a kind of record: its section, what it is to what is open, and the fields of its body in order
pub record Kind : Type 0 where
  pub section : ℕ
  pub role : Role
  pub fields : List Field

-- a row of the table
abbrev pub a_kind : ℕ → Role → List Field → Kind
a_kind section role fields = record { section = section; role = role; fields = fields }

-- the table of "Records", from the kind 0 on, which is none
abbrev pub kinds : List Kind
kinds =
    a_kind 0 counts []
    -- 1: leaf; 2 to 5: "EMPTY, JOIN, EITHER, STAR"; 6: end of condition
    ∷ a_kind conditions (symbol 0 (λ set a b. leaf set)) (a-set ∷ [])
    ∷ a_kind conditions (symbol 0 (λ set a b. empty)) []
    ∷ a_kind conditions (symbol 2 (λ set a b. join a b)) []
    ∷ a_kind conditions (symbol 2 (λ set a b. either a b)) []
    ∷ a_kind conditions (symbol 1 (λ set a b. star b)) []
    ∷ a_kind conditions counts []
    -- 7: point: "conditions past, own, due"
    ∷ a_kind points counts (a_name conditions ∷ a_name conditions ∷ a_name conditions ∷ [])
    -- 8: primitive: "conditions pre, trace, future"; 9: method with body: "pre, trace, future, entry point, exit point"
    ∷ a_kind methods counts (a_name conditions ∷ a_name conditions ∷ a_name conditions ∷ [])
    ∷ a_kind methods counts (a_name conditions ∷ a_name conditions ∷ a_name conditions ∷ a_name points ∷ a_name points ∷ [])
    -- 10: event step: "from, to (2 each), event (1)"; 11: call step: "from, to, method"; 12: pass step: "from, to"
    ∷ a_kind steps counts (a_name points ∷ a_name points ∷ an-event ∷ [])
    ∷ a_kind steps counts (a_name points ∷ a_name points ∷ a_name methods ∷ [])
    ∷ a_kind steps counts (a_name points ∷ a_name points ∷ [])
    -- 13: pair: "left place (1), right set (4)"; 14: end of certificate
    ∷ a_kind certificates a_pair (a-place ∷ a-set ∷ [])
    ∷ a_kind certificates counts []
    -- Ask 2, "all fields two bytes, in the sections of 8, 9 and 11". 15: "a primitive with pre, trace, future, failed trace, failed future"; 16: "a
    -- method with pre, trace, future, entry, exit, failed trace, failed future, failed exit"; 17: "a call with from, to, failed target, method"
    ∷ a_kind methods counts (a_name conditions ∷ a_name conditions ∷ a_name conditions ∷ a_name conditions ∷ a_name conditions ∷ [])
    ∷ a_kind methods counts
    (a_name conditions ∷ a_name conditions ∷ a_name conditions ∷ a_name points ∷ a_name points ∷ a_name conditions ∷ a_name conditions ∷ a_name points ∷ [])
    ∷ a_kind steps counts (a_name points ∷ a_name points ∷ a_name points ∷ a_name methods ∷ [])
    -- Ask 4. 18: "a record of kind 18, no body, which belongs to the first section"; 19: "body from (2 bytes), among the steps"
    ∷ a_kind conditions edition []
    ∷ a_kind steps counts (a_name points ∷ [])
    -- Ask 9. 20: "a point with past, own, due and an owner", which "stands in the section of kind 7"
    ∷ a_kind points counts (a_name conditions ∷ a_name conditions ∷ a_name conditions ∷ an-owner ∷ [])
    -- Ask 11. 21: "a leaf with an 8-byte set, read as kind 1 is for 4 to 6"; 22: "a call with from, to, method (2 bytes each), channel (1)"
    ∷ a_kind conditions (symbol 0 (λ set a b. leaf set)) (a-long-set ∷ [])
    ∷ a_kind steps counts (a_name points ∷ a_name points ∷ a_name methods ∷ a-channel ∷ [])
    ∷ []

-- the row of a kind; a kind that the table lacks has that of kind 0
abbrev pub kind_of : ℕ → Kind
kind_of k = get_or kinds k (a_kind 0 counts [])

-- the section of a kind: "kinds 1-6, 7, 8-9, 10-12, 13-14", 15 to 17 in those of 8, 9 and 11, 18 and 21 in the first, 19 and 22 in that of the steps and
-- 20 in that of 7
abbrev pub section_of : ℕ → ℕ
section_of k = (kind_of k).section

-- "a body whose length the kind fixes": that of its fields
abbrev pub widths : List Field → ℕ
widths [] = 0
widths (f ∷ fs) = width f + widths fs

-- "Body lengths by kind, 1 to 14", and of 15 to 22
abbrev pub body_length : ℕ → ℕ
body_length k = widths (kind_of k).fields
