-- A sheet is read as before the kinds above k, if reading meets no record of a kind that has come since.
use mathlib.Core.Path.{◌≡◌, refl, ap, ◌∙◌}
use mathlib.Core.Bool.{cond}
use mathlib.Core.List.{List}
use Prim.Native.Nat.{ℕ, zero, suc, ◌≤◌, ◌<◌}
use native.Mathlib.Nat.{le_refl}
use native.Mathlib.Omega.{arith}
use lib.ListN.{length}
use lib.Dec.{eqb-suc-zero, ltb, leb}
use Rattle.sheet.specs.Model.{Model, as_many, NoLarger, with_kinds}
use Rattle.sheet.specs.Record.{byte_at, next_at}
use Rattle.sheet.specs.Reading.{Reading, fresh, refusal_of, past_at, ReadResult, refusal, at_end, read_on, read_sheet}
use Rattle.sheet_laws.proofs.Take.{took}
use Rattle.sheet_laws.proofs.ReadOn.{after_record}
use Rattle.sheet_laws.proofs.States.{Reached, at_start, past}
use Rattle.sheet_laws.proofs.Models.{Beside, two, six, seven, same, numbers}

-- no record that reading comes to is of a kind above k that the instrument M takes
abbrev pub WithoutKindsAbove : ℕ → Model → List ℕ → Type 0
WithoutKindsAbove k M s = (at : ℕ) (r : Reading) → Reached M s at r → k < byte_at s at → byte_at s at ≤ M.kinds → ⊥

-- an instrument that took the kinds up to k only is no larger
pub fewer-kinds : (k : ℕ) (M : Model) → k ≤ M.kinds → NoLarger (with_kinds k M) M
fewer-kinds k M l = record { bytes = le_refl _; points = le_refl _; events = as_many refl; kinds = l }

module _ (k : ℕ) (M : Model) (l : k ≤ M.kinds) (s : List ℕ) (without : WithoutKindsAbove k M s) where
  abbrev N : Model
  N = with_kinds k M

  -- a record that reading comes to is refused with the same number, or taken by both
  same_number : (at : ℕ) (r : Reading) → Reached M s at r → {n n' : ℕ} → Beside N M (fewer-kinds k M l) s at r n n' → n ≡ n'
  same_number at r h (two above taken) = absurd (without at r h above taken)
  same_number at r h (six fewer) = absurd (omega (arith, fewer))
  same_number at r h (seven step above below) = absurd (omega (arith, above, below))
  same_number at r h same = refl

  -- reading on from an offset finds the same
  abbrev SameOn : ℕ → ℕ → Reading → Type 0
  SameOn fuel at r = read_on N s fuel at r ≡ read_on M s fuel at r

  past-record : (fuel at : ℕ) (r : Reading) → (refusal_of M s at r ≡ 0 → SameOn fuel (next_at s at) (past_at s at r))
      → (n : ℕ) → refusal_of M s at r ≡ n → after_record N s fuel at r n ≡ after_record M s fuel at r n
  past-record fuel at r more zero e = more e
  past-record fuel at r more (suc n) e = rw eqb-suc-zero

  on : (fuel at : ℕ) (r : Reading) → Reached M s at r → SameOn fuel at r
  unfolding read_on
  on zero at r h = refl
  on (suc fuel) at r h =
      let more : refusal_of M s at r ≡ 0 → SameOn fuel (next_at s at) (past_at s at r) = λ e. on fuel (next_at s at) (past_at s at r) (past h (took M s at r e)) in
      ap (λ (x : ReadResult). cond (leb (length s) at) (at_end s r) x)
      (ap (after_record N s fuel at r) (same_number at r h (numbers N M (fewer-kinds k M l) s at r)) ∙ past-record fuel at r more (refusal_of M s at r) refl)

  -- read as before
  pub reads-as-before : read_sheet N s ≡ read_sheet M s
  unfolding read_sheet
  reads-as-before = ap (λ (x : ReadResult). cond (ltb M.bytes (length s)) (refusal 1 M.bytes fresh) x) (on (length s) 0 fresh at_start)
