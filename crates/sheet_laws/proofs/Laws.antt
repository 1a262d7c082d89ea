-- What holds of a sheet that is read whole, whatever the table of kinds says: what counts is the record at its offset, of its section; every name
-- exists; no limit is passed.
use mathlib.Core.Path.{◌≡◌, refl, sym, ap, subst}
use mathlib.Core.Bool.{Bool, true, false, ◌&&◌}
use mathlib.Core.List.{List, [], ◌∷◌, ◌++◌}
use Prim.Native.Nat.{ℕ, zero, suc, ◌≤◌}
use native.Mathlib.Nat.{lt_of_lt_of_le}
use native.Mathlib.Omega.{arith}
use lib.ListN.{length, length-append}
use lib.Dec.{T, ltb→lt}
use borrow.Author.Tests.{leb-false, lt-ltb}
use Rattle.bits.proofs.Tests.{and-out}
use Rattle.sheet.specs.Model.{Model, condition_limit, method_limit, step_limit}
use Rattle.sheet.specs.Each.{Each, nil, cons}
use Rattle.sheet.specs.Kind.{Field, a-set, a-long-set, an-event, a-place, an-owner, a-channel, a_name, Role, counts, kind_of, section_of}
use Rattle.sheet.specs.Record.{byte_at, record_at, next_at}
use Rattle.sheet.specs.Reading.{Counted, Reading, fresh, tally, full, over_limit, exists, all_exist, past_at, whole, read_sheet}
use Rattle.sheet.proofs.Each.{each_map, each_append}
use Rattle.sheet_laws.proofs.Take.{Took}
use Rattle.sheet_laws.proofs.ReadOn.{read_keeps}
use Rattle.sheet_laws.proofs.Own.{counted, own-cases, each-own}

-- What counts is a record -------------------------------------------------------------------------------------------------

-- it counts at the record at its offset, which is of its section
pub record Recorded (s : List ℕ) (k : ℕ) (c : Counted) : Type 0 where
  pub is : record_at s c.last.at ≡ c.last
  pub section : section_of c.last.kind ≡ k

recorded : (M : Model) (s : List ℕ) (at : ℕ) (r : Reading) → Took M s at r → Unit {0} → (kind_of (byte_at s at)).role ≡ counts
    → Recorded s (section_of (byte_at s at)) (counted s at r)
unfolding record_at
recorded M s at r w q e = record { is = refl; section = refl }

pub all-recorded : (M : Model) (s : List ℕ) (r : Reading) → read_sheet M s ≡ whole r → (k : ℕ) → Each (Recorded s k) (r.own k)
all-recorded M s r h = each-own M s (λ at r. Unit {0}) (Recorded s) (λ at r w q. tt) (recorded M s) r h tt

-- The tally -----------------------------------------------------------------------------------------------------------------

-- a sheet that stands alone counts from 0
pub none_before : (M : Model) (s : List ℕ) (r : Reading) → read_sheet M s ≡ whole r → r.before ≡ fresh.before
none_before M s r h = (read_keeps M s (λ at (r : Reading). r.before ≡ fresh.before) (λ at r w e. e) r h refl).holds

pub own-tally : (M : Model) (s : List ℕ) (r : Reading) → read_sheet M s ≡ whole r → (k : ℕ) → tally r k ≡ length (r.own k)
own-tally M s r h k = ap (λ (before : ℕ → List Counted). length (before k ++ r.own k)) (none_before M s r h)

-- with one more
one-longer : (before own : List Counted) (c : Counted) → length (before ++ (own ++ (c ∷ []))) ≡ suc (length (before ++ own))
one-longer before own c = omega (arith, length-append before own, length-append before (own ++ (c ∷ [])), length-append own (c ∷ []))

-- it grows with each record
pub grows : (s : List ℕ) (at : ℕ) (r : Reading) (k : ℕ) → tally r k ≤ tally (past_at s at r) k
grows s at r k =
    own-cases (λ own. tally r k ≤ length (r.before k ++ own)) s at r k (omega arith) (λ e same. omega (arith, one-longer (r.before k) (r.own k) (counted s at r)))

-- Names -----------------------------------------------------------------------------------------------------------------------

module _ (M : Model) (r t : Reading) (more : (k : ℕ) → tally r k ≤ tally t k) where
  exists-still : (f : Field) (v : ℕ) → T (exists M.events (tally r) f v) → T (exists M.events (tally t) f v)
  exists-still a-set v e = e
  exists-still a-long-set v e = e
  exists-still (a_name k) v e = subst T (sym (lt-ltb v (tally t k) (lt_of_lt_of_le (ltb→lt v (tally r k) e) (more k)))) tt
  exists-still an-event v e = e
  exists-still a-place v e = e
  exists-still an-owner v e = e
  exists-still a-channel v e = e

  names-still : (fs : List Field) (vs : List ℕ) → T (all_exist M.events (tally r) fs vs) → T (all_exist M.events (tally t) fs vs)
  names-still [] vs e = e
  names-still (f ∷ fs) [] e = e
  names-still (f ∷ fs) (v ∷ vs) e =
      let (a, b) = and-out (exists M.events (tally r) f v) (all_exist M.events (tally r) fs vs) e in
      and_in (exists M.events (tally t) f v) (all_exist M.events (tally t) fs vs) (exists-still f v a) (names-still fs vs b)
    where
      and_in : (a b : Bool) → T a → T b → T (a && b)
      and_in true b p q = q
      and_in false b p q = absurd p

-- the names of what was counted exist in the state r
abbrev pub Named : Model → Reading → Counted → Type 0
Named M r c = T (all_exist M.events (tally r) (kind_of c.last.kind).fields c.last.values)

module _ (M : Model) (s : List ℕ) where
  abbrev NamedIn : ℕ → Reading → Type 0
  NamedIn at r = (k : ℕ) → Each (Named M r) (r.own k)

  named-now : (at : ℕ) (r : Reading) → Took M s at r → Named M r (counted s at r)
  unfolding record_at
  named-now at r w = w.names

  still-named : (at : ℕ) (r : Reading) → Took M s at r → NamedIn at r → NamedIn (next_at s at) (past_at s at r)
  still-named at r w all k =
      let u = past_at s at r in
      let still : (c : Counted) → Named M r c → Named M u c =
      λ c. names-still M r u (grows s at r) (kind_of c.last.kind).fields c.last.values in
      let now = each_map still (all k) in
      own-cases (Each (Named M u)) s at r k now (λ e same. each_append now (cons (still (counted s at r) (named-now at r w)) nil))

  pub all_named : (r : Reading) → read_sheet M s ≡ whole r → (k : ℕ) → Each (Named M r) (r.own k)
  all_named r h = (read_keeps M s NamedIn still-named r h (λ k. nil)).holds

-- Limits ----------------------------------------------------------------------------------------------------------------------

-- "256 conditions; .. 512 points; 64 methods; 512 steps", of which the points are the model's
abbrev pub Within : Model → ℕ → ℕ → Type 0
Within M zero n = Unit {0}
Within M (suc zero) n = n ≤ condition_limit
Within M (suc (suc zero)) n = n ≤ M.points
Within M (suc (suc (suc zero))) n = n ≤ method_limit
Within M (suc (suc (suc (suc zero)))) n = n ≤ step_limit
Within M (suc (suc (suc (suc (suc k))))) n = Unit {0}

one-more-fits : (M : Model) (k n : ℕ) → full M k n ≡ false → Within M k (suc n)
one-more-fits M zero n e = tt
one-more-fits M (suc zero) n e = leb-false condition_limit n e
one-more-fits M (suc (suc zero)) n e = leb-false M.points n e
one-more-fits M (suc (suc (suc zero))) n e = leb-false method_limit n e
one-more-fits M (suc (suc (suc (suc zero)))) n e = leb-false step_limit n e
one-more-fits M (suc (suc (suc (suc (suc k))))) n e = tt

none-fits : (M : Model) (k : ℕ) → Within M k 0
none-fits M zero = tt
none-fits M (suc zero) = omega arith
none-fits M (suc (suc zero)) = omega arith
none-fits M (suc (suc (suc zero))) = omega arith
none-fits M (suc (suc (suc (suc zero)))) = omega arith
none-fits M (suc (suc (suc (suc (suc k))))) = tt

module _ (M : Model) (s : List ℕ) where
  abbrev WithinIn : ℕ → Reading → Type 0
  WithinIn at r = (k : ℕ) → Within M k (tally r k)

  still-within : (at : ℕ) (r : Reading) → Took M s at r → WithinIn at r → WithinIn (next_at s at) (past_at s at r)
  still-within at r w all k =
      let section = section_of (byte_at s at) in
      own-cases (λ own. Within M k (length (r.before k ++ own))) s at r k (all k) (λ e same.
      let room : full M section (tally r section) ≡ false = subst (λ (y : Role). over_limit M r (record_at s at) section y ≡ false) e w.room in
      subst (Within M k) (sym (one-longer (r.before k) (r.own k) _)) (one-more-fits M k (tally r k) (subst (λ (j : ℕ). full M j (tally r j) ≡ false) (sym same) room)))

  -- none of 6
  pub none_over : (r : Reading) → read_sheet M s ≡ whole r → (k : ℕ) → Within M k (tally r k)
  none_over r h = (read_keeps M s WithinIn still-within r h (none-fits M)).holds
