-- A record that is taken: none of the refusals 2 to 7, 9, 18 to 20, 24 and 26 applies to it.
use mathlib.Core.Path.{◌≡◌, refl, sym, subst}
use mathlib.Core.Bool.{Bool, true, false, not, ◌&&◌, ◌||◌}
use mathlib.Core.List.{List}
use Prim.Native.Nat.{ℕ, zero, suc, ◌+◌, ◌≤◌, ◌<◌}
use native.Mathlib.Omega.{arith}
use lib.ListN.{length}
use lib.Dec.{T, eqb, ltb}
use borrow.Author.Tests.{ltb-false, not-false}
use Rattle.sheet.specs.Model.{Model}
use Rattle.sheet.specs.Kind.{body_length, kind_of, section_of}
use Rattle.sheet.specs.Record.{byte_at, values_at, record_at, next_at}
use Rattle.sheet.specs.Reading.{Reading, tally, in_condition, is_new, wrong_items, over_limit, is_primitive, all_exist, wrong_outcomes, wrong_owner, wrong_channel, ◌when◌else◌, refusal_of}

-- checked before the proofs

pub or-false : (a b : Bool) → (a || b) ≡ false → (a ≡ false) × (b ≡ false)
or-false true b e = absurd (subst T e tt)
or-false false b e = (refl, e)

pub and-false : (a b : Bool) → (a && b) ≡ false → a ≡ true → b ≡ false
and-false true b h e = h
and-false false b h e = absurd (subst T (sym e) tt)

abbrev IsZero : ℕ → Type 0
IsZero zero = Unit {0}
IsZero (suc n) = ⊥

-- a refusal that does not apply
pub when-zero : (n : ℕ) (b : Bool) (m : ℕ) → (suc n when b else m) ≡ 0 → (b ≡ false) × (m ≡ 0)
when-zero n true m e = absurd (subst IsZero (sym e) tt)
when-zero n false m e = (refl, e)

module _ (s : List ℕ) (at : ℕ) where
  pub next_is : next_at s at ≡ at + 1 + body_length (byte_at s at)
  unfolding next_at
  next_is = refl

  pub next-lt : at < next_at s at
  next-lt = omega (arith, next_is)

  pub record_is : record_at s at ≡ record { at = at; kind = byte_at s at; values = values_at s (at + 1) (kind_of (byte_at s at)).fields }
  unfolding record_at
  record_is = refl

-- the record at an offset is taken in the state r
pub record Took (M : Model) (s : List ℕ) (at : ℕ) (r : Reading) : Type 0 where
  -- not 2
  pub known : (eqb (byte_at s at) 0 || ltb M.kinds (byte_at s at)) ≡ false
  -- not 3
  pub inside : next_at s at ≤ length s
  -- not 4
  pub in_order : r.section ≤ section_of (byte_at s at)
  pub none_open : (eqb r.opened.section 1 && not (in_condition (section_of (byte_at s at)) (kind_of (byte_at s at)).role)) ≡ false
  -- not 19
  pub edition_first : (eqb (byte_at s at) 18 && ltb 0 at) ≡ false
  -- not 20
  pub stops_new : (eqb (byte_at s at) 19 && not (is_new s)) ≡ false
  -- not 5
  pub items : wrong_items (section_of (byte_at s at)) (kind_of (byte_at s at)).role (length r.opened.items) ≡ false
  -- not 6
  pub room : over_limit M r (record_at s at) (section_of (byte_at s at)) (kind_of (byte_at s at)).role ≡ false
  -- not 7
  pub names : T (all_exist M.events (tally r) (kind_of (byte_at s at)).fields (record_at s at).values)
  -- not 9
  pub first : (is_primitive (record_at s at) && eqb (length (r.own 3)) 0) ≡ false
  -- not 18
  pub outcomes : wrong_outcomes r (record_at s at) ≡ false
  -- not 24
  pub owners : wrong_owner r (kind_of (byte_at s at)) (record_at s at) ≡ false
  -- not 26
  pub channels : wrong_channel r (record_at s at) ≡ false

pub took : (M : Model) (s : List ℕ) (at : ℕ) (r : Reading) → refusal_of M s at r ≡ 0 → Took M s at r
took M s at r e =
    let b = byte_at s at in
    let (two, e) = when-zero 1 (eqb b 0 || ltb M.kinds b) _ e in
    let (three, e) = when-zero 2 (ltb (length s) (next_at s at)) _ e in
    let (four, e) = when-zero 3 (ltb (section_of b) r.section || (eqb r.opened.section 1 && not (in_condition (section_of b) (kind_of b).role))) _ e in
    let (nineteen, e) = when-zero 18 (eqb b 18 && ltb 0 at) _ e in
    let (twenty, e) = when-zero 19 (eqb b 19 && not (is_new s)) _ e in
    let (five, e) = when-zero 4 (wrong_items (section_of b) (kind_of b).role (length r.opened.items)) _ e in
    let (six, e) = when-zero 5 (over_limit M r (record_at s at) (section_of b) (kind_of b).role) _ e in
    let (seven, e) = when-zero 6 (not (all_exist M.events (tally r) (kind_of b).fields (record_at s at).values)) _ e in
    let (nine, e) = when-zero 8 (is_primitive (record_at s at) && eqb (length (r.own 3)) 0) _ e in
    let (eighteen, e) = when-zero 17 (wrong_outcomes r (record_at s at)) _ e in
    let (twenty_four, e) = when-zero 23 (wrong_owner r (kind_of b) (record_at s at)) _ e in
    let (twenty-six, e) = when-zero 25 (wrong_channel r (record_at s at)) _ e in
    let (order, condition) = or-false (ltb (section_of b) r.section) (eqb r.opened.section 1 && not (in_condition (section_of b) (kind_of b).role)) four in
    record {
      known = two;
      inside = ltb-false (length s) (next_at s at) three;
      in_order = ltb-false (section_of b) r.section order;
      none_open = condition;
      edition_first = nineteen;
      stops_new = twenty;
      items = five;
      room = six;
      names = subst T (sym (not-false (all_exist M.events (tally r) (kind_of b).fields (record_at s at).values) seven)) tt;
      first = nine;
      outcomes = eighteen;
      owners = twenty_four;
      channels = twenty-six;
    }
