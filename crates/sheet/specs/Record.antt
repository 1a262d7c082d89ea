-- Records and their fields: document 01, "Records".
use Rattle.std.specs.Prelude.{ℕ, zero, suc, ◌+◌, ◌*◌, ◌<◌, List, [], ◌∷◌, get_or}
use Rattle.sheet.specs.Kind.{Field, width, kind_of, body_length}

-- a sheet is "bytes": each element is below 256
abbrev pub Bytes : List ℕ → Type 0
Bytes s = (i : ℕ) → get_or s i 0 < 256

-- A byte past the end is 0; no record that is taken has one.
unfoldable pub byte_at : List ℕ → ℕ → ℕ
byte_at s i = get_or s i 0

-- "Fields of more than one byte are unsigned, low byte first": the number in so many bytes from an offset on
unfoldable pub number_at : List ℕ → ℕ → ℕ → ℕ
number_at s zero at = 0
number_at s (suc n) at = byte_at s at + 256 * number_at s n (at + 1)

-- the fields of a body that starts at an offset
unfoldable pub values_at : List ℕ → ℕ → List Field → List ℕ
values_at s at [] = []
values_at s at (f ∷ fs) = number_at s (width f) at ∷ values_at s (at + width f) fs

-- the offset where a record starts, its kind, and its fields in order
pub record Record : Type 0 where
  pub at : ℕ
  pub kind : ℕ
  pub values : List ℕ

-- "A record is one byte of kind, then a body"
unfoldable pub record_at : List ℕ → ℕ → Record
unfolding byte_at number_at values_at
record_at s at = record { at = at; kind = byte_at s at; values = values_at s (at + 1) (kind_of (byte_at s at)).fields }

-- the offset after the record at an offset
unfoldable pub next_at : List ℕ → ℕ → ℕ
unfolding byte_at
next_at s at = at + 1 + body_length (byte_at s at)

-- field i of a record
abbrev pub value : Record → ℕ → ℕ
value x i = get_or x.values i 0
