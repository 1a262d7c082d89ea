-- The pairs of a certificate by number.
use Rattle.std.specs.Prelude.{ℕ, cond, ltb, length, Option, None, Some}
use Rattle.certificate.specs.Certificate as certificate
use Rattle.certificate.specs.Certificate.{Certificate, pair_of}
use Rattle.format.specs.declared.listing.Pair as format

-- the code's value of a pair
abbrev pub pair_value : certificate.Pair → format.Pair
pair_value p = record { place = p.place; set = p.set }

-- pair i of a certificate, or none at its end
unfoldable pub pair_found : Certificate → ℕ → Option format.Pair
pair_found c i = cond (ltb i (length c)) (Some (pair_value (pair_of c i))) None
