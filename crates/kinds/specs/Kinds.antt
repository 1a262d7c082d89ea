-- What a kind is to the code: the last one, and whether one is known; what its role says of a record; leaves, primitives, methods with body,
-- methods of two outcomes, calls.
use Rattle.std.specs.Prelude.{ℕ, Bool, true, false, ◌&&◌, ◌||◌, eqb, ltb, leb}
use Rattle.sheet.specs.Kind.{Role, symbol, a_pair, counts, edition}

-- the last kind of the table
abbrev pub last_kind : ℕ
last_kind = 22

-- the kinds from 1 to `kinds`
abbrev pub is_known : ℕ → ℕ → Bool
is_known kinds kind = ltb 0 kind && leb kind kinds

-- whether a record of a role counts, and how many items it takes
abbrev pub counts_one : Role → Bool
counts_one (symbol takes make) = false
counts_one a_pair = false
counts_one counts = true
counts_one edition = false

abbrev pub takes_items : Role → ℕ
takes_items (symbol takes make) = takes
takes_items a_pair = 0
takes_items counts = 0
takes_items edition = 0

-- kinds 1 and 21; kinds 8 and 15; kinds 9 and 16; kinds 15 and 16
abbrev pub leaf_kind : ℕ → Bool
leaf_kind kind = eqb kind 1 || eqb kind 21

abbrev pub primitive_kind : ℕ → Bool
primitive_kind kind = eqb kind 8 || eqb kind 15

abbrev pub body_kind : ℕ → Bool
body_kind kind = eqb kind 9 || eqb kind 16

abbrev pub two_outcome_kind : ℕ → Bool
two_outcome_kind kind = eqb kind 15 || eqb kind 16

-- calls: kind 11, kind 17, which has a failed target, and kind 22, which has a channel
abbrev pub call_kind : ℕ → Bool
call_kind kind = eqb kind 11

abbrev pub two_outcome_call_kind : ℕ → Bool
two_outcome_call_kind kind = eqb kind 17

abbrev pub channel_call_kind : ℕ → Bool
channel_call_kind kind = eqb kind 22
