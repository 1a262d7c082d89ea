-- What is read of a certificate at an offset: document 01, kind 13, "left place (1), right set (4)".
use Rattle.std.specs.Prelude.{ℕ, ◌+◌, cond, List, eqb, ltb, length, Result, Ok, Err}
use Rattle.certificate.specs.Certificate as certificate
use Rattle.certificate.specs.Certificate.{pair}
use Rattle.sheet.specs.Record.{byte_at}
use Rattle.sheet_laws.specs.AtOffset.{set_at}
use Rattle.format.specs.declared.listing.Pair.{Pair}

-- the pair that a value of the code stands for
abbrev pub pair_is : Pair → certificate.Pair
pair_is p = pair p.place p.set

-- the fields behind an offset
abbrev pub fields_at : List ℕ → ℕ → Pair
fields_at s at = record { place = byte_at s (at + 1); set = set_at s (at + 2) }

-- The pair at an offset, or that none stands there, with the fields that would be its own. Where fewer than six bytes are there none stands, and the
-- fields are 0.
unfoldable pub listed_at : List ℕ → ℕ → Result Pair Pair
listed_at s at =
    cond (ltb (at + 5) (length s))
    (cond (eqb (byte_at s at) 13) (Ok (fields_at s at)) (Err (fields_at s at)))
    (Err (record { place = 0; set = 0 }))
