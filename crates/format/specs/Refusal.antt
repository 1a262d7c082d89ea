-- Document 01's number and place of each refusal: "What the loader returns"; and those of document 02's 18 to 20 and 24 to 26.
use Rattle.std.specs.Prelude.{ℕ}
use Rattle.std.proofs.Math.Option.{Option, none, some}
use Rattle.format.specs.declared.Refusal.{Refusal}
use Rattle.format.specs.declared.Refusal.TheVariants.{TooLong, UnknownKind, BodyPastEnd, WrongSection, WrongItems, OverLimit, UnknownName, Unfinished, NoFirstBody, CertificateCount, WordTooLong, StrayEvent, NoSuchCondition, WrongOutcomes, EditionNotFirst, StopInOldSheet, WrongOwner, UnknownOwner, WrongChannel}

-- the number, 1 to 10, 12 to 14, 18 to 20, 24 to 26
abbrev pub number_of : Refusal → ℕ
number_of (TooLong at) = 1
number_of (UnknownKind at) = 2
number_of (BodyPastEnd at) = 3
number_of (WrongSection at) = 4
number_of (WrongItems at) = 5
number_of (OverLimit at) = 6
number_of (UnknownName at) = 7
number_of (Unfinished at) = 8
number_of (NoFirstBody at) = 9
number_of (CertificateCount at) = 10
number_of WordTooLong = 12
number_of (StrayEvent at) = 13
number_of NoSuchCondition = 14
number_of (WrongOutcomes at) = 18
number_of (EditionNotFirst at) = 19
number_of (StopInOldSheet at) = 20
number_of (WrongOwner at) = 24
number_of (UnknownOwner at) = 25
number_of (WrongChannel at) = 26

-- "place", "offset", "length" or "index", by the refusal; 12 and 14 have none
abbrev pub place_of : Refusal → Option ℕ
place_of (TooLong at) = some at
place_of (UnknownKind at) = some at
place_of (BodyPastEnd at) = some at
place_of (WrongSection at) = some at
place_of (WrongItems at) = some at
place_of (OverLimit at) = some at
place_of (UnknownName at) = some at
place_of (Unfinished at) = some at
place_of (NoFirstBody at) = some at
place_of (CertificateCount at) = some at
place_of WordTooLong = none
place_of (StrayEvent at) = some at
place_of NoSuchCondition = none
place_of (WrongOutcomes at) = some at
place_of (EditionNotFirst at) = some at
place_of (StopInOldSheet at) = some at
place_of (WrongOwner at) = some at
place_of (UnknownOwner at) = some at
place_of (WrongChannel at) = some at
