-- 24 and 25 by the table of points: where every name exists, and the table leads to the records of the points, the code's tests are the definition's.
use mathlib.Core.Path.{◌≡◌, refl, sym, ap, ◌∙◌}
use mathlib.Core.Bool.{Bool, true, false, not, cond, ◌&&◌}
use mathlib.Core.Option.{Option, none, some}
use mathlib.Core.List.{List, [], ◌∷◌}
use Prim.Native.Nat.{ℕ, ◌+◌, ◌<◌}
use native.Mathlib.Nat.{not-suc-le-zero}
use native.Mathlib.Omega.{arith}
use lib.ListN.{length, get_or, take}
use lib.Dec.{T, eqb}
use borrow.Author.Tests.{lt-ltb, eqb-true, eqb-false}
use Rattle.sheet.specs.Kind.{points, methods, steps, an-owner, kind_of, section_of}
use Rattle.sheet.specs.Record.{Record, byte_at, values_at, record_at, value}
use Rattle.sheet.specs.Reading.{Counted, Reading, tally, all_exist, owner_of, owner_in, point_owner, all_agree, owners_joined, wrong_owner, ◌when◌else◌, ReadResult, whole, refusal, no_method, owners_from}
use Rattle.sheet_laws.specs.AtOffset.{short_at, owner_at}
use Rattle.sheet_laws.proofs.Fields.{owner-value, names-then}
use Rattle.sheet_laws.proofs.Owners.{named-owners}
use Rattle.kinds.proofs.Table.{not_body}
use Rattle.owners.proofs.Joined.{none-joined}
use Rattle.owners.specs.Owners.{owner_listed, owners_fit, stray_in}
use Rattle.sections.specs.Sections.{Listed}
use Rattle.sections.proofs.Counted.{at-is}
use Rattle.sections.proofs.Listed.{Leads, leads-later}

-- The owner of a point --------------------------------------------------------------------------------------------------

owner-value-is : (s : List ℕ) (at : ℕ) → byte_at s at ≡ 20 → value (record_at s at) 3 ≡ short_at s (at + 7)
unfolding record_at
owner-value-is s at e =
    ap (λ (k : ℕ). get_or (values_at s (at + 1) (kind_of k).fields) 3 0) e
    ∙ ap (λ (vs : List ℕ). get_or vs 3 0) (names-then s at 1 (1 ∷ 1 ∷ 1 ∷ []) (an-owner ∷ []) (owner-value s (at + 7)))

owner-by : (s : List ℕ) (at : ℕ) (b : Bool) → eqb (byte_at s at) 20 ≡ b → cond b (some (value (record_at s at) 3)) none ≡ cond b (some (short_at s (at + 7))) none
owner-by s at true e = ap some (owner-value-is s at (eqb-true (byte_at s at) 20 e))
owner-by s at false e = refl

-- .. of the record at an offset, as the code reads it
owner-is : (s : List ℕ) (at : ℕ) → owner_of (record_at s at) ≡ owner_at s at
unfolding record_at owner_at
owner-is s at = owner-by s at (eqb (byte_at s at) 20) refl

-- 24 --------------------------------------------------------------------------------------------------------------------

-- .. of the point p
listed-owner : (s table : List ℕ) (u : Reading) → Listed s table points u → (p : ℕ) → p < tally u points → point_owner u p ≡ owner_listed s table p
listed-owner s table u listed p l =
    let (inside, is) = listed p l in
    ap owner_in is ∙ owner-is s (get_or table p 0) ∙ sym (ap (λ (b : Bool). cond b (owner_at s (get_or table p 0)) none) (lt-ltb p (length table) inside))

-- the code's test, of a record of points, methods or steps
module _ (events : ℕ) (s table : List ℕ) (u : Reading) (at : ℕ) {kind number : ℕ} (is : byte_at s at ≡ kind) (counted : tally u methods ≡ number)
    (names : T (all_exist events (tally u) (kind_of (byte_at s at)).fields (record_at s at).values))
    (listed : (section_of (byte_at s at) ≡ points → ⊥) → Listed s table points u) where
  abbrev Joined : (ℕ → Option ℕ) → Bool
  Joined owner = all_agree (owners_joined number owner (kind_of (byte_at s at)) (record_at s at).values)

  of-a-point : section_of (byte_at s at) ≡ points → (owner : ℕ → Option ℕ) → Joined owner ≡ true
  unfolding record_at
  of-a-point point owner =
      none-joined s (at + 1) number owner (byte_at s at) (not_body (byte_at s at) (λ e. omega (arith, point)))
      (ap (λ (k : ℕ). eqb k steps && not (eqb (byte_at s at) 19)) point)

  joined-are : (b : Bool) → eqb (section_of (byte_at s at)) points ≡ b → Joined (point_owner u) ≡ Joined (owner_listed s table)
  joined-are true e =
      let point = eqb-true (section_of (byte_at s at)) points e in
      of-a-point point (point_owner u) ∙ sym (of-a-point point (owner_listed s table))
  joined-are false e =
      ap (λ (owners : List (Option ℕ)). all_agree ((some number ∷ owners) when eqb (section_of (byte_at s at)) methods else owners))
      (named-owners events u (owner_listed s table) (listed-owner s table u (listed (eqb-false (section_of (byte_at s at)) points e)))
      (kind_of (byte_at s at)).fields (record_at s at).values names)

  pub owners-are : wrong_owner u (kind_of (byte_at s at)) (record_at s at) ≡ not (owners_fit s at kind number table)
  owners-are =
      ap (λ (n : ℕ). not (all_agree (owners_joined n (point_owner u) (kind_of (byte_at s at)) (record_at s at).values))) counted
      ∙ ap not (joined-are (eqb (section_of (byte_at s at)) points) refl)
      ∙ ap (λ (k : ℕ). not (owners_fit s at k number table)) is

-- 25 --------------------------------------------------------------------------------------------------------------------

-- the result, by the first offset whose point has an owner that is no method
abbrev pub owners_told : Reading → Option ℕ → ReadResult
owners_told r none = whole r
owners_told r (some at) = refusal 25 at r

module _ (s : List ℕ) (r : Reading) where
  pub strays-are : (ps : List Counted) (table : List ℕ) → Leads s table ps
      → owners_from r ps ≡ owners_told r (stray_in s (tally r methods) (take (length ps) table))
  strays-are [] table h = refl
  strays-are (p ∷ ps) [] h = absurd (not-suc-le-zero (h 0 (omega arith)).0)
  strays-are (p ∷ ps) (at ∷ table) h =
      ap (λ (b : Bool). cond b (refusal 25 p.last.at r) (owners_from r ps)) (ap (no_method (tally r methods)) (ap owner_of is ∙ owner-is s at))
      ∙ go (no_method (tally r methods) (owner_at s at)) _ (strays-are ps table (leads-later s at table p ps h))
    where
      record-in : Option Record → Record
      record-in none = p.last
      record-in (some x) = x

      is : p.last ≡ record_at s at
      is = ap record-in (h 0 (omega arith)).1

      go : (b : Bool) {rest : ReadResult} (stray : Option ℕ) → rest ≡ owners_told r stray
          → cond b (refusal 25 p.last.at r) rest ≡ owners_told r (cond b (some at) stray)
      go true stray more = ap (λ (i : ℕ). refusal 25 i r) (ap (λ (x : Record). x.at) is ∙ at-is s at)
      go false stray more = more
