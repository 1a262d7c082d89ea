-- The numbers of the sections and of the kinds, which are the documents'; and the kind that a byte stands for.
use Rattle.std.specs.Prelude.{ℕ, ◌≡◌, Option, Some, None, Result, Ok, Err}
use Rattle.kinds.specs.declared.Section.{Section}
use Rattle.kinds.specs.declared.Section.TheVariants.{Conditions, Points, Methods, Steps, Certificates}
use Rattle.kinds.specs.declared.Kind.{Kind}
use Rattle.kinds.specs.declared.Kind.TheVariants.{Leaf, Empty, Join, Either, Star, ConditionEnd, Point, Primitive, WithBody, Event, Call, Pass, Pair, CertificateEnd, TwoOutcomePrimitive, TwoOutcomeBody, TwoOutcomeCall, Edition, Stop, OwnedPoint, LongLeaf, ChannelCall}
use Rattle.kinds.specs.declared.UnknownKind.{UnknownKind}

abbrev pub section_number : Section → ℕ
section_number Conditions = 1
section_number Points = 2
section_number Methods = 3
section_number Steps = 4
section_number Certificates = 5

abbrev pub kind_number : Kind → ℕ
kind_number Leaf = 1
kind_number Empty = 2
kind_number Join = 3
kind_number Either = 4
kind_number Star = 5
kind_number ConditionEnd = 6
kind_number Point = 7
kind_number Primitive = 8
kind_number WithBody = 9
kind_number Event = 10
kind_number Call = 11
kind_number Pass = 12
kind_number Pair = 13
kind_number CertificateEnd = 14
kind_number TwoOutcomePrimitive = 15
kind_number TwoOutcomeBody = 16
kind_number TwoOutcomeCall = 17
kind_number Edition = 18
kind_number Stop = 19
kind_number OwnedPoint = 20
kind_number LongLeaf = 21
kind_number ChannelCall = 22

-- a byte reads as the kind whose number it is, or as the byte itself, which is the number of none
abbrev pub Reads : ℕ → Result Kind UnknownKind → Type 0
Reads byte (Ok kind) = kind_number kind ≡ byte
Reads byte (Err unknown) = (unknown.0 ≡ byte) × ((kind : Kind) → kind_number kind ≡ byte → ⊥)

-- .. as an option
abbrev pub IsKindOf : ℕ → Option Kind → Type 0
IsKindOf byte (Some kind) = kind_number kind ≡ byte
IsKindOf byte None = (kind : Kind) → kind_number kind ≡ byte → ⊥
