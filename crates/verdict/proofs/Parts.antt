-- Parts of small sheets, for examples: records whose fields are two bytes each, and certificates. And sheets with the lines that they get.
use mathlib.Core.Path.{◌≡◌}
use mathlib.Core.List.{List, [], ◌∷◌, ◌++◌, map}
use Prim.Native.Nat.{ℕ, zero, suc}
use Prim.Native.String.{String}
use Rattle.certificate.specs.Certificate.{pair, Certificate}
use Rattle.sheet.specs.Model.{Model}
use Rattle.verdict.specs.Verdict.{verdict_of}
use Rattle.verdict.specs.Line.{ascii, line}
use Rattle.verdict.specs.Cases.{point0, method0, start_only}

-- a sheet's bytes, and a line
pub record Printed : Type 0 where
  pub bytes : List ℕ
  pub prints : String

abbrev pub printed : List ℕ → String → Printed
printed s t = record { bytes = s; prints = t }

-- on an instrument the loading program prints these lines
abbrev pub AsPrinted : Model → List Printed → Type 0
AsPrinted M xs = map (λ x. line (verdict_of M x.bytes)) xs ≡ map (λ x. ascii x.prints) xs

-- the bytes of fields that are below 256
abbrev pub fields : List ℕ → List ℕ
fields [] = []
fields (n ∷ ns) = n ∷ 0 ∷ fields ns

-- a record of a kind
abbrev pub record_of : ℕ → List ℕ → List ℕ
record_of kind ns = kind ∷ fields ns

-- the bytes of a certificate whose sets are below 256
abbrev pub certified : Certificate → List ℕ
certified [] = 0x0E ∷ []
certified (p ∷ ps) = 0x0D ∷ p.place ∷ p.set ∷ 0 ∷ 0 ∷ 0 ∷ certified ps

-- the start; a leaf's, and that of two leaves joined
abbrev pub one : List ℕ
one = start_only

abbrev pub two : List ℕ
two = certified (pair 0 1 ∷ pair 1 2 ∷ [])

abbrev pub three : List ℕ
three = certified (pair 0 1 ∷ pair 1 2 ∷ pair 2 4 ∷ [])

-- so many of the start
abbrev pub ones : ℕ → List ℕ
ones zero = []
ones (suc n) = one ++ ones n

-- Sheets whose one condition is EMPTY -------------------------------------------------------------------------------------

-- a point with an owner
abbrev pub owned : ℕ → List ℕ
owned m = record_of 0x14 (0 ∷ 0 ∷ 0 ∷ m ∷ [])

-- with one point, methods and steps, and certificates
abbrev pub all_empty : List ℕ → List ℕ → List ℕ
all_empty records certificates = (0x02 ∷ 0x06 ∷ []) ++ (point0 ++ (records ++ certificates))

-- a method with body and a primitive with two outcomes, and a call of the primitive
abbrev pub with_primitive : List ℕ
with_primitive = method0 0 ++ (record_of 15 (0 ∷ 0 ∷ 0 ∷ 0 ∷ 0 ∷ []) ++ record_of 17 (0 ∷ 0 ∷ 0 ∷ 1 ∷ []))

-- a method with body and two outcomes
abbrev pub method16 : List ℕ
method16 = record_of 16 (0 ∷ 0 ∷ 0 ∷ 0 ∷ 0 ∷ 0 ∷ 0 ∷ 0 ∷ [])
