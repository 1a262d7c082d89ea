-- What stands at an offset: a record, or one of the refusals 2 and 3. Past the end the byte of kind is 0.
use Rattle.std.specs.Prelude.{ℕ, cond, Option, Some, None, List, length, ltb}
use Rattle.sheet.specs.Record.{byte_at, next_at}
use Rattle.kinds.specs.declared.Kind.{Kind}
use Rattle.kinds.specs.Kinds.{is_known}
use Rattle.kinds.specs.Numbers.{kind_number, IsKindOf}
use Rattle.format.specs.declared.Refusal.{Refusal}
use Rattle.format.specs.declared.Refusal.TheVariants.{UnknownKind, BodyPastEnd}
use Rattle.format.specs.declared.Record.{Record}

-- the byte at the offset is the number of a kind, or of none
abbrev pub IsKindAt : List ℕ → ℕ → Option Kind → Type 0
IsKindAt s at kind = IsKindOf (byte_at s at) kind

-- a record by the number of its kind, and the offset after it
pub record Numbered : Type 0 where
  pub kind : ℕ
  pub next : ℕ

abbrev pub numbered : Option Record → Option Numbered
numbered None = None
numbered (Some r) = Some (record { kind = kind_number r.kind; next = r.next })

unfoldable pub found_at : ℕ → List ℕ → ℕ → Option Numbered
unfolding next_at
found_at kinds s at =
    cond (is_known kinds (byte_at s at)) (cond (ltb (length s) (next_at s at)) None (Some (record { kind = byte_at s at; next = next_at s at }))) None

-- where no record stands, 2: "kind not 1 to 14"; 3: "body runs past the end"
abbrev pub refusal_at : ℕ → List ℕ → ℕ → Refusal
refusal_at kinds s at = cond (is_known kinds (byte_at s at)) (BodyPastEnd at) (UnknownKind at)
