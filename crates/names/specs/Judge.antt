-- What a record is refused for by what it names, as the code tests it.
use Rattle.std.specs.Prelude.{Result, Ok, Err, Bool, not, cond, ◌&&◌, List, ℕ}
use Rattle.sheet.specs.Kind.{kind_of}
use Rattle.sheet.specs.Record.{record_at}
use Rattle.sheet.specs.Reading.{all_exist}
use Rattle.format.specs.declared.Refusal.{Refusal}
use Rattle.format.specs.declared.Refusal.TheVariants.{UnknownName, NoFirstBody, WrongOutcomes, WrongOwner, WrongChannel}
use Rattle.kinds.specs.Kinds.{primitive_kind}
use Rattle.tally.specs.declared.Tally.{Tally}
use Rattle.tally.specs.Tally.{count_of}
use Rattle.names.specs.Outcomes.{wrong_outcomes_at}
use Rattle.names.specs.Channels.{wrong_channel_at}
use Rattle.owners.specs.Owners.{owners_fit}

-- 7, 9 for a record of a primitive that is the first method, 18, 24 and 26, in that order
abbrev pub judged_at : (events : ℕ) → List ℕ → (at kind : ℕ) → (first : Bool) → Tally → (points methods : List ℕ) → Result (Unit {0}) Refusal
judged_at events s at kind first t points methods =
    cond (not (all_exist events (count_of t) (kind_of kind).fields (record_at s at).values)) (Err (UnknownName at))
    (cond (first && primitive_kind kind) (Err (NoFirstBody at))
    (cond (wrong_outcomes_at s at kind methods) (Err (WrongOutcomes at))
    (cond (not (owners_fit s at kind t.methods points)) (Err (WrongOwner at))
    (cond (wrong_channel_at s at kind methods) (Err (WrongChannel at)) (Ok tt)))))
