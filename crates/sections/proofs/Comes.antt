-- Reading comes to an offset: at the start, and past each record that is taken; and what is known of the result where it ends.
use mathlib.Core.Path.{◌≡◌, refl, sym, ap, ◌∙◌, subst}
use mathlib.Core.Bool.{false}
use mathlib.Core.List.{List}
use Prim.Native.Nat.{ℕ, zero, suc, ◌+◌, ◌≤◌, ◌<◌}
use native.Mathlib.Omega.{arith}
use lib.ListN.{length}
use lib.Dec.{eqb}
use borrow.Author.Tests.{lt-ltb, le-ltb}
use Rattle.sheet.specs.Model.{Model}
use Rattle.sheet.specs.Reading.{Reading, refusal_of, past_at, ReadResult, refusal, at_end, read_on, read_from}
use Rattle.sheet_laws.proofs.Take.{next-lt}
use Rattle.sheet_laws.proofs.ReadOn.{after_record, on-end, on-record, from_is}
use Rattle.format.specs.declared.Refusal.{Refusal}
use Rattle.format.specs.declared.Refusal.TheVariants.{TooLong, UnknownKind, BodyPastEnd, WrongSection, WrongItems, OverLimit, UnknownName, Unfinished, NoFirstBody, CertificateCount, WordTooLong, StrayEvent, NoSuchCondition, WrongOutcomes, EditionNotFirst, StopInOldSheet, WrongOwner, UnknownOwner, WrongChannel}
use Rattle.format.specs.Refusal.{number_of}
use Rattle.format.proofs.Laws.{Stood, Refuses}
use Rattle.sections.specs.Sections.{Ends, Comes}

module _ (M : Model) (s : List ℕ) (r : Reading) where
  -- 1: nothing is read
  pub too_long : M.bytes < length s → read_from M r s ≡ refusal 1 M.bytes r
  too_long h = from_is M s r ∙ simp (lt-ltb M.bytes (length s) h)

  pub begins : length s ≤ M.bytes → Comes M s (read_from M r s) 0 r
  begins h =
      record {
        inside = omega arith;
        fuel = length s;
        enough = omega arith;
        rest = sym (from_is M s r ∙ simp (le-ltb M.bytes (length s) h));
      }

-- the number of a refusal is not 0, which stands for none
numbered : (y : Refusal) → eqb (number_of y) 0 ≡ false
numbered (TooLong p) = refl
numbered (UnknownKind p) = refl
numbered (BodyPastEnd p) = refl
numbered (WrongSection p) = refl
numbered (WrongItems p) = refl
numbered (OverLimit p) = refl
numbered (UnknownName p) = refl
numbered (Unfinished p) = refl
numbered (NoFirstBody p) = refl
numbered (CertificateCount p) = refl
numbered WordTooLong = refl
numbered (StrayEvent p) = refl
numbered NoSuchCondition = refl
numbered (WrongOutcomes p) = refl
numbered (EditionNotFirst p) = refl
numbered (StopInOldSheet p) = refl
numbered (WrongOwner p) = refl
numbered (UnknownOwner p) = refl
numbered (WrongChannel p) = refl

module _ {M : Model} {s : List ℕ} {o : ReadResult} {at : ℕ} {r : Reading} (c : Comes M s o at r) where
  -- no record is left
  pub ended : length s ≤ at → o ≡ at_end s r
  ended h = sym c.rest ∙ on-end M s c.fuel at r h

  module _ (before : at < length s) where
    -- the refusal of the record there has the number n
    spent : (n : ℕ) → refusal_of M s at r ≡ n → (fuel : ℕ) × (length s ≤ suc fuel + at) × (after_record M s fuel at r n ≡ o)
    spent n e = go c.fuel c.enough c.rest
      where
        go : (fuel : ℕ) → length s ≤ fuel + at → read_on M s fuel at r ≡ o → (fuel : ℕ) × (length s ≤ suc fuel + at) × (after_record M s fuel at r n ≡ o)
        go zero enough rest = absurd (omega arith)
        go (suc fuel) enough rest = (fuel, enough, sym (on-record M s fuel at r before ∙ ap (after_record M s fuel at r) e) ∙ rest)

    -- the record there is refused: reading ends
    pub refuses : {y : Refusal} → Refuses M s at r y → Ends o r y
    refuses {y} (e, placed) =
        let (fuel, enough, rest) = spent (number_of y) e in
        record { place = at; placed = placed; result = sym rest ∙ simp (numbered y) }

    -- the record there is taken
    pub taken-on : {kind q : ℕ} → Stood M s at kind q → refusal_of M s at r ≡ 0 → Comes M s o q (past_at s at r)
    taken-on w e =
        let (fuel, enough, rest) = spent 0 e in
        subst (λ (q : ℕ). Comes M s o q (past_at s at r)) w.next
        (record { inside = w.inside; fuel = fuel; enough = omega (arith, next-lt s at); rest = rest })
