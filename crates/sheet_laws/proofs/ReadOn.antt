-- Reading on from an offset: its laws, and what holds at the end of a whole reading.
use mathlib.Core.Path.{◌≡◌, refl, sym, ap, ◌∙◌, subst}
use mathlib.Core.Bool.{Bool, true, false, cond}
use mathlib.Core.Logic.{◌⊎◌, inl, inr}
use mathlib.Core.List.{List, [], ◌∷◌}
use Prim.Native.Nat.{ℕ, zero, suc, ◌≤◌, ◌<◌}
use lib.ListN.{length}
use lib.Dec.{T, eqb, eqb-suc-zero, ltb, leb}
use borrow.Author.Tests.{lt-leb, le-leb}
use Rattle.sheet.specs.Model.{Model}
use Rattle.sheet.specs.Each.{Each, nil, cons}
use Rattle.sheet.specs.Kind.{points, methods}
use Rattle.sheet.specs.Record.{next_at}
use Rattle.sheet.specs.Reading.{Counted, Reading, fresh, tally, owner_of, refusal_of, past_at, ReadResult, whole, refusal, state_of, no_method, owners_from, at_end, read_on, read_from, read_sheet}
use Rattle.sheet_laws.proofs.Take.{Took, took}

-- what follows in the state r at an offset before the end, where n is the number of the refusal there
abbrev pub after_record : Model → List ℕ → ℕ → ℕ → Reading → ℕ → ReadResult
after_record M s fuel at r n = cond (eqb n 0) (read_on M s fuel (next_at s at) (past_at s at r)) (refusal n at r)

module _ (M : Model) (s : List ℕ) where
  no_fuel : (at : ℕ) (r : Reading) → read_on M s 0 at r ≡ at_end s r
  unfolding read_on
  no_fuel at r = refl

  on-is : (fuel at : ℕ) (r : Reading) → read_on M s (suc fuel) at r ≡ cond (leb (length s) at) (at_end s r) (after_record M s fuel at r (refusal_of M s at r))
  unfolding read_on
  on-is fuel at r = refl

  pub on-end : (fuel at : ℕ) (r : Reading) → length s ≤ at → read_on M s fuel at r ≡ at_end s r
  on-end zero at r h = no_fuel at r
  on-end (suc fuel) at r h = on-is fuel at r ∙ simp (le-leb (length s) at h)

  pub on-record : (fuel at : ℕ) (r : Reading) → at < length s → read_on M s (suc fuel) at r ≡ after_record M s fuel at r (refusal_of M s at r)
  on-record fuel at r h = on-is fuel at r ∙ simp (lt-leb (length s) at h)

pub from_is : (M : Model) (s : List ℕ) (r : Reading)
    → read_from M r s ≡ cond (ltb M.bytes (length s)) (refusal 1 M.bytes r) (read_on M s (length s) 0 r)
unfolding read_from
from_is M s r = refl

-- Where reading ends --------------------------------------------------------------------------------------------------

module _ (M : Model) (s : List ℕ) (P : ℕ → Reading → Type 0) where
  -- how reading ends, and that a property of the offset and the state holds there: with 1, at a record that is refused, or at the end
  pub data Ends : ReadResult → Type 0 where
    too_long : {r : Reading} → Ends (refusal 1 M.bytes r)
    at_record : {at : ℕ} {r : Reading} → P at r → Ends (refusal (refusal_of M s at r) at r)
    at_the_end : {at : ℕ} {r : Reading} → P at r → Ends (at_end s r)

  -- an invariant of the offset and the state, kept by each record that is taken, holds where reading ends
  module _ (kept : (at : ℕ) (r : Reading) → Took M s at r → P at r → P (next_at s at) (past_at s at r)) where
    module _ (fuel at : ℕ) (r : Reading) (p : P at r)
        (more : P (next_at s at) (past_at s at r) → Ends (read_on M s fuel (next_at s at) (past_at s at r))) where
      record-ends : (n : ℕ) → refusal_of M s at r ≡ n → Ends (after_record M s fuel at r n)
      record-ends zero e = more (kept at r (took M s at r e) p)
      record-ends (suc n) e = simp (eqb-suc-zero n) (subst (λ (n : ℕ). Ends (refusal n at r)) e (at_record p))

      suc-ends : (b : Bool) → Ends (cond b (at_end s r) (after_record M s fuel at r (refusal_of M s at r)))
      suc-ends true = at_the_end p
      suc-ends false = record-ends (refusal_of M s at r) refl

    pub on-ends : (fuel at : ℕ) (r : Reading) → P at r → Ends (read_on M s fuel at r)
    on-ends zero at r p = subst Ends (sym (no_fuel M s at r)) (at_the_end p)
    on-ends (suc fuel) at r p =
        subst Ends (sym (on-is M s fuel at r)) (suc-ends fuel at r p (on-ends fuel (next_at s at) (past_at s at r)) (leb (length s) at))

    pub read-ends : P 0 fresh → Ends (read_sheet M s)
    unfolding read_sheet
    read-ends p = go (ltb M.bytes (length s))
      where
        go : (b : Bool) → Ends (cond b (refusal 1 M.bytes fresh) (read_on M s (length s) 0 fresh))
        go true = too_long
        go false = on-ends (length s) 0 fresh p

-- the number of the refusal that reading ends with, 0 if it is whole
abbrev pub number_of : ReadResult → ℕ
number_of (whole r) = 0
number_of (refusal n at r) = n

-- at the end it is 8, 9, or that of the owners, which is 25
pub end-number : (s : List ℕ) (r : Reading) (P : ℕ → Type 0) → P 8 → P 9 → P (number_of (owners_from r (r.own points))) → P (number_of (at_end s r))
end-number s r P p8 p9 owners = go (ltb 0 r.opened.section) (eqb (length (r.own methods)) 0)
  where
    go : (b c : Bool) → P (number_of (cond b (refusal 8 (length s) r) (cond c (refusal 9 (length s) r) (owners_from r (r.own points)))))
    go true c = p8
    go false true = p9
    go false false = owners

pub owners-number : (r : Reading) (P : ℕ → Type 0) → P 0 → P 25 → (ps : List Counted) → P (number_of (owners_from r ps))
owners-number r P p0 p25 [] = p0
owners-number r P p0 p25 (p ∷ ps) = go (no_method (tally r methods) (owner_of p.last)) (owners-number r P p0 p25 ps)
  where
    go : (b : Bool) → P (number_of (owners_from r ps)) → P (number_of (cond b (refusal 25 p.last.at r) (owners_from r ps)))
    go true more = p25
    go false more = more

-- The end of a whole reading ------------------------------------------------------------------------------------------

-- the owner of a point that was counted, if it has one, is one of so many methods
abbrev pub OwnerExists : ℕ → Counted → Type 0
OwnerExists methods p = no_method methods (owner_of p.last) ≡ false

-- a property of the offset and the state holds at the end, where neither 9 nor 25 applies
pub record Finished (P : ℕ → Reading → Type 0) (r : Reading) : Type 0 where
  pub end : ℕ
  pub holds : P end r
  pub some_method : eqb (length (r.own 3)) 0 ≡ false
  pub owners_exist : Each (OwnerExists (tally r 3)) (r.own 2)

abbrev IsWhole : ReadResult → Type 0
IsWhole (whole r) = Unit {0}
IsWhole (refusal n at r) = ⊥

not-whole : {A : Type 0} {n at : ℕ} {r r' : Reading} → refusal n at r ≡ whole r' → A
not-whole h = absurd (subst IsWhole (sym h) tt)

-- not 25
owners-whole : (r r' : Reading) (ps : List Counted) → owners_from r ps ≡ whole r' → (r ≡ r') × Each (OwnerExists (tally r 3)) ps
owners-whole r r' [] h = (ap state_of h, nil)
owners-whole r r' (p ∷ ps) h = go (no_method (tally r 3) (owner_of p.last)) refl h (owners-whole r r' ps)
  where
    go : (b : Bool) → no_method (tally r 3) (owner_of p.last) ≡ b → cond b (refusal 25 p.last.at r) (owners_from r ps) ≡ whole r'
        → (owners_from r ps ≡ whole r' → (r ≡ r') × Each (OwnerExists (tally r 3)) ps) → (r ≡ r') × Each (OwnerExists (tally r 3)) (p ∷ ps)
    go true e h more = not-whole h
    go false e h more = let (same, all) = more h in (same, cons e all)

finishes : (s : List ℕ) (P : ℕ → Reading → Type 0) (at : ℕ) (r r' : Reading) → P at r → at_end s r ≡ whole r' → Finished P r'
finishes s P at r r' p = go (ltb 0 r.opened.section) (eqb (length (r.own 3)) 0) refl
  where
    go : (b c : Bool) → eqb (length (r.own 3)) 0 ≡ c
        → cond b (refusal 8 (length s) r) (cond c (refusal 9 (length s) r) (owners_from r (r.own 2))) ≡ whole r' → Finished P r'
    go true c f h = not-whole h
    go false true f h = not-whole h
    go false false f h =
        let (same, all) = owners-whole r r' (r.own 2) h in
        subst (Finished P) same (record { end = at; holds = p; some_method = f; owners_exist = all })

-- the invariant holds at the end
pub read_keeps : (M : Model) (s : List ℕ) (P : ℕ → Reading → Type 0)
    → ((at : ℕ) (r : Reading) → Took M s at r → P at r → P (next_at s at) (past_at s at r))
    → (r : Reading) → read_sheet M s ≡ whole r → P 0 fresh → Finished P r
read_keeps M s P kept r h p = go (read-ends M s P kept p) h
  where
    go : {o : ReadResult} → Ends M s P o → o ≡ whole r → Finished P r
    go too_long h = not-whole h
    go (at_record p) h = not-whole h
    go (at_the_end {at} {r = u} p) h = finishes s P at u r p h

-- a sheet that is read whole has a first record, and it is taken
pub first_taken : (M : Model) (s : List ℕ) (r : Reading) → read_sheet M s ≡ whole r → Took M s 0 fresh
first_taken M s r h = let end = read_keeps M s Begun begun r h (inl (refl, refl)) in taken end.holds end.some_method
  where
    Begun : ℕ → Reading → Type 0
    Begun at r = ((at ≡ 0) × (r ≡ fresh)) ⊎ Took M s 0 fresh

    begun : (at : ℕ) (r : Reading) → Took M s at r → Begun at r → Begun (next_at s at) (past_at s at r)
    begun at r w (inl (start, none)) = inr (subst (λ (r : Reading). Took M s 0 r) none (subst (λ (at : ℕ). Took M s at r) start w))
    begun at r w (inr first) = inr first

    taken : {end : ℕ} → Begun end r → eqb (length (r.own 3)) 0 ≡ false → Took M s 0 fresh
    taken (inl (start, none)) some_method = absurd (subst T (sym (ap (λ (r : Reading). eqb (length (r.own 3)) 0) none) ∙ some_method) tt)
    taken (inr first) some_method = first
