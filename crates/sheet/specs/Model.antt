-- What an instrument takes: document 01, "Records", "Limits". What differs from instrument to instrument is a model's, the rest is fixed here.
use Rattle.std.specs.Prelude.{ℕ, ◌≤◌, ◌<◌, ◌≡◌, cond, ltb}

pub record Model : Type 0 where
  -- "65,536 bytes"; "512 points"; "Events are 0 to 31": how many there are; "kind not 1 to 14": the highest kind that is taken, 17 with those of Ask 2,
  -- 19 with those of Ask 4, 20 with that of Ask 9, 22 with those of Ask 11
  pub bytes : ℕ
  pub points : ℕ
  pub events : ℕ
  pub kinds : ℕ

-- the large two-channel instrument, which is document 01's
abbrev pub large : Model
large = record { bytes = 65536; points = 512; events = 32; kinds = 20 }

-- the entry instrument: document 02, Ask 8, "at most 8,192 bytes and 64 points"
abbrev pub entry : Model
entry = record { bytes = 8192; points = 64; events = large.events; kinds = large.kinds }

-- the four-channel instrument: document 02, Ask 11, "It has 64 events"
abbrev pub four : Model
four = record { bytes = large.bytes; points = large.points; events = 64; kinds = 22 }

-- an instrument before the requests that brought the kinds above k
abbrev pub with_kinds : ℕ → Model → Model
with_kinds k M = record { bytes = M.bytes; points = M.points; events = M.events; kinds = k }

-- how many events the set of a leaf can hold: "a 4-byte set", and "an 8-byte set" where kind 21 is taken
abbrev pub set_events : Model → ℕ
set_events M = cond (ltb M.kinds 21) 32 64

-- M has as many events as M'; or fewer, but all that a set of its leaves can hold
pub data NoMoreEvents (M M' : Model) : Type 0 where
  as_many : M.events ≡ M'.events → NoMoreEvents M M'
  fewer : set_events M ≤ M.events → M.events < M'.events → NoMoreEvents M M'

-- M takes no more bytes, points, events and kinds than M': Ask 8, "over both limits as parameters"; a request that brings kinds makes an instrument of
-- one that took fewer, and the two-channel instruments are no larger than the four-channel one
pub record NoLarger (M M' : Model) : Type 0 where
  pub bytes : M.bytes ≤ M'.bytes
  pub points : M.points ≤ M'.points
  pub events : NoMoreEvents M M'
  pub kinds : M.kinds ≤ M'.kinds

-- "256 conditions; 96 records of kinds 1-5 and 31 leaves in a condition; .. 64 methods; 512 steps"; "word longer than 4,096"
abbrev pub condition_limit : ℕ
condition_limit = 256

abbrev pub symbol_limit : ℕ
symbol_limit = 96

abbrev pub leaf_limit : ℕ
leaf_limit = 31

abbrev pub method_limit : ℕ
method_limit = 64

abbrev pub step_limit : ℕ
step_limit = 512

abbrev pub word_limit : ℕ
word_limit = 4096
