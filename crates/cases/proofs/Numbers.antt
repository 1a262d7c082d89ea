-- Two numbers of two bytes, one behind the other, as one of four.
use Rattle.std.proofs.Common.{◌≡◌, ℕ, ◌+◌, ◌*◌, List, ◌++◌, Option, Some, None, length, arith, length-append}
use Rattle.std.proofs.KnownBytes.{Consumes-trans}
use Rattle.std.proofs.lemmas.List.{get_or_append_left, get_or-append_right}
use Rattle.sheet.specs.Record.{number_at}
use Rattle.cases.specs.Bounds.{Reads}
use Rattle.sheet_laws.proofs.Fields.{byte-is, short-is, set_is, short-value, set_value}

module _ (low high : List ℕ) (two : length low ≡ 2) where
  four : number_at (low ++ high) 4 0 ≡ number_at low 2 0 + 65536 * number_at high 2 0
  four =
      let all = low ++ high in
      omega (
        arith,
        set_value all 0,
        set_is all 0,
        short-is all 0,
        short-is all 2,
        byte-is all 0,
        byte-is all 1,
        byte-is all 2,
        byte-is all 3,
        short-value low 0,
        short-is low 0,
        byte-is low 0,
        byte-is low 1,
        short-value high 0,
        short-is high 0,
        byte-is high 0,
        byte-is high 1,
        get_or_append_left low high 0 0 (omega arith),
        get_or_append_left low high 0 1 (omega arith),
        get_or-append_right low high 2 2 0 two (omega arith),
        get_or-append_right low high 2 3 0 two (omega arith),
      )

module _ (a b c : Option (List ℕ)) where
  pub then-more : {m : ℕ} → Reads 2 a b (Some m) → Reads 2 b c None → Reads 4 a c None
  then-more p q = (p.0 ++ q.0, Consumes-trans a b c p.0 q.0 p.1 q.1)

  pub as-one : (m n : ℕ) → Reads 2 a b (Some m) → Reads 2 b c (Some n) → Reads 4 a c (Some (m + 65536 * n))
  as-one m n p q = (
    p.0 ++ q.0,
    Consumes-trans a b c p.0 q.0 p.1 q.1,
    omega (arith, length-append p.0 q.0, p.2, q.2),
    omega (arith, four p.0 q.0 p.2, p.3, q.3),
  )
