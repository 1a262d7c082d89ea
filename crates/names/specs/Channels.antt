-- Refusal 26 as the code tests it, where the methods stand at the offsets of a table.
use Rattle.std.specs.Prelude.{Bool, not, ◌&&◌, ◌||◌, List, ℕ, ◌+◌, ltb}
use Rattle.sheet.specs.Record.{byte_at}
use Rattle.sheet.specs.Reading.{last_channel}
use Rattle.sheet_laws.specs.AtOffset.{short_at}
use Rattle.kinds.specs.Kinds.{primitive_kind, two_outcome_kind, channel_call_kind}
use Rattle.names.specs.Outcomes.{kind_listed}

-- the kind of a primitive of one outcome
abbrev pub plain_kind : ℕ → Bool
plain_kind kind = primitive_kind kind && not (two_outcome_kind kind)

-- a call on a channel, whose record stands at the offset, names another method, or a channel above the last
abbrev pub wrong_channel_at : List ℕ → ℕ → ℕ → List ℕ → Bool
wrong_channel_at s at kind methods =
    channel_call_kind kind && (not (plain_kind (kind_listed s methods (short_at s (at + 5)))) || ltb last_channel (byte_at s (at + 7)))
