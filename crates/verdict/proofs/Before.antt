-- "judged as before": document 01's kinds, 1 to 14, those of Ask 2, 15 to 17, those of Ask 4, 18 and 19, that of Ask 9, 20, and those of Ask 11, 21
-- and 22. Sheets and words by evaluation, with each of the two cases; sheets without the kinds of a request; what the promise alone says of a sheet; and
-- answers that break it.
use mathlib.Core.Path.{◌≡◌, refl, sym, ap, ◌∙◌, subst}
use mathlib.Core.Logic.{⊎_elim}
use mathlib.Core.Option.{some}
use mathlib.Core.List.{List, [], ◌∷◌, map}
use Prim.Native.Nat.{ℕ, suc, ◌≤◌}
use native.Mathlib.Nat.{eq-or-lt_of_le, le_of_suc-le-suc}
use native.Mathlib.Omega.{arith}
use lib.ListN.{take}
use Rattle.condition.specs.Condition.{Word}
use Rattle.certificate.specs.Certificate.{Fault}
use Rattle.sheet.specs.Model.{Model, large, entry, four, NoLarger, with_kinds}
use Rattle.sheet.specs.Record.{byte_at}
use Rattle.sheet.specs.Reading.{Reading, ReadResult, whole, refusal, read_sheet}
use Rattle.sheet_laws.proofs.States.{Reached}
use Rattle.sheet_laws.proofs.Before.{WithoutKindsAbove, fewer-kinds}
use Rattle.verdict.specs.Verdict.{Report, accepted, refused, unproved, verdict_of}
use Rattle.verdict.specs.WordTest.{Answer, held, not_held, untested, word_test}
use Rattle.verdict.specs.Reply.{Reply, ◌giving◌, reply_of, answer_reply}
use Rattle.verdict.specs.Promise.{RefusedFor, while_reading, wrong_count, AsBefore, of_new_kind, the_same_answer, Loads, TestsWord}
use Rattle.verdict.specs.Cases.{M, M', W}
use Rattle.verdict.proofs.Parts.{ones, all_empty, with_primitive, method16}
use Rattle.verdict.proofs.Reply.{IsHeld, or_zero, same_number, same-value}
use Rattle.verdict.proofs.Models.{judged-the-same, tested-the-same}
use Rattle.verdict.proofs.Bytes.{all_below, none_above}

-- By evaluation -------------------------------------------------------------------------------------------------------------

-- an instrument before Ask 2
abbrev former : Model → Model
former I = with_kinds 14 I

-- a sheet, and what the large instrument answered and answers
record Both : Type 0 where
  bytes : List ℕ
  before : Report
  since : Report

abbrev both : List ℕ → Report → Report → Both
both s x y = record { bytes = s; before = x; since = y }

abbrev failing : ℕ → Fault
failing clause = record { clause = clause; pair = 0; event = 0; place = 0 }

abbrev sheets : List Both
sheets =
    -- "The sheet 0F now gives `refused 3 at 0`"; the first kind that the large instrument does not know
    both (0x0F ∷ []) (refused 2 (some 0)) (refused 3 (some 0))
    ∷ both (0x15 ∷ []) (refused 2 (some 0)) (refused 2 (some 0))
    -- a record of a kind of Ask 2 further on
    ∷ both (all_empty method16 (ones 5)) (refused 2 (some 9)) (accepted 9)
    ∷ both (all_empty with_primitive (ones 12)) (refused 2 (some 20)) (accepted 15)
    -- document 01's sheets
    ∷ both [] (refused 9 (some 0)) (refused 9 (some 0))
    ∷ both M (accepted 6) (accepted 6)
    ∷ both (take 40 M) (refused 8 (some 40)) (refused 8 (some 40))
    ∷ both (take 20 M) (refused 10 (some 20)) (refused 10 (some 20))
    ∷ both M' (unproved 5 0 (failing 3)) (unproved 5 0 (failing 3))
    ∷ []

as_before : map (λ x. verdict_of (former large) x.bytes) sheets ≡ map (λ x. x.before) sheets
unfolding verdict_of
as_before = refl

as-since : map (λ x. verdict_of large x.bytes) sheets ≡ map (λ x. x.since) sheets
unfolding verdict_of
as-since = refl

-- each of the two cases is met
at-new-kind : AsBefore reply_of 14 large (0x0F ∷ []) (verdict_of (former large) (0x0F ∷ [])) (verdict_of large (0x0F ∷ []))
unfolding verdict_of byte_at
at-new-kind = of_new_kind {at = 0} (omega arith) (omega arith) refl

at-edition : AsBefore reply_of 17 large (0x12 ∷ []) (verdict_of (with_kinds 17 large) (0x12 ∷ [])) (verdict_of large (0x12 ∷ []))
unfolding verdict_of byte_at
at-edition = of_new_kind {at = 0} (omega arith) (omega arith) refl

at-owned-point : AsBefore reply_of 19 large (0x14 ∷ []) (verdict_of (with_kinds 19 large) (0x14 ∷ [])) (verdict_of large (0x14 ∷ []))
unfolding verdict_of byte_at
at-owned-point = of_new_kind {at = 0} (omega arith) (omega arith) refl

at-long-leaf : AsBefore reply_of 20 four (0x15 ∷ []) (verdict_of (with_kinds 20 four) (0x15 ∷ [])) (verdict_of four (0x15 ∷ []))
unfolding verdict_of byte_at
at-long-leaf = of_new_kind {at = 0} (omega arith) (omega arith) refl

at-call-on-channel : AsBefore reply_of 20 four (0x16 ∷ []) (verdict_of (with_kinds 20 four) (0x16 ∷ [])) (verdict_of four (0x16 ∷ []))
unfolding verdict_of byte_at
at-call-on-channel = of_new_kind {at = 0} (omega arith) (omega arith) refl

M-before : verdict_of (former large) M ≡ accepted 6
unfolding verdict_of
M-before = refl

M-since : verdict_of large M ≡ accepted 6
unfolding verdict_of
M-since = refl

without-new-kinds : AsBefore reply_of 14 large M (verdict_of (former large) M) (verdict_of large M)
without-new-kinds = the_same_answer (M-before ∙ sym M-since)

-- Sheets without the kinds of a request ---------------------------------------------------------------------------------------

-- no record that reading comes to is of one of the two kinds above k, which are the last that an instrument takes
neither : (k : ℕ) (I : Model) (s : List ℕ) → I.kinds ≡ suc (suc k)
    → ((at : ℕ) (r : Reading) → Reached I s at r → (byte_at s at ≡ suc k → ⊥) × (byte_at s at ≡ suc (suc k) → ⊥)) → WithoutKindsAbove k I s
neither k I s kinds none at r h above taken =
    let (not_first, not-second) = none at r h in
    let within : byte_at s at ≤ suc (suc k) = omega (arith, taken, kinds) in
    ⊎_elim not-second (λ below. not_first (omega (arith, above, below))) (eq-or-lt_of_le within)

-- "sheets without kinds 18 and 19 are judged as before": where no record that reading comes to is of one of these kinds, an instrument that takes the kinds
-- up to 19 gives the verdict, and the answer of the word test, that it gave when it took those up to 17
module _ (I : Model) (kinds : I.kinds ≡ 19) (s : List ℕ)
    (none : (at : ℕ) (r : Reading) → Reached I s at r → (byte_at s at ≡ 18 → ⊥) × (byte_at s at ≡ 19 → ⊥)) where
  pub judged-without-18-and-19 : verdict_of (with_kinds 17 I) s ≡ verdict_of I s
  judged-without-18-and-19 = judged-the-same I s 17 (omega (arith, kinds)) (neither 17 I s kinds none)

  pub tested-without-18-and-19 : (c : ℕ) (w : Word) → word_test (with_kinds 17 I) s c w ≡ word_test I s c w
  tested-without-18-and-19 = tested-the-same I s 17 (omega (arith, kinds)) (neither 17 I s kinds none)

-- and where none is of kind 20, one that takes the kinds up to 20 gives those that it gave when it took those up to 19
module _ (I : Model) (kinds : I.kinds ≡ 20) (s : List ℕ) (none : (at : ℕ) (r : Reading) → Reached I s at r → byte_at s at ≡ 20 → ⊥) where
  not-20 : WithoutKindsAbove 19 I s
  not-20 at r h above taken = none at r h (omega (arith, above, taken, kinds))

  pub judged-without-20 : verdict_of (with_kinds 19 I) s ≡ verdict_of I s
  judged-without-20 = judged-the-same I s 19 (omega (arith, kinds)) not-20

  pub tested-without-20 : (c : ℕ) (w : Word) → word_test (with_kinds 19 I) s c w ≡ word_test I s c w
  tested-without-20 = tested-the-same I s 19 (omega (arith, kinds)) not-20

-- and where none is of kind 21 or 22, the four-channel instrument gives those of one that takes the kinds up to 20. Beside the large instrument, which has
-- fewer events, too: proofs/Four
module _ (s : List ℕ) (none : (at : ℕ) (r : Reading) → Reached four s at r → (byte_at s at ≡ 21 → ⊥) × (byte_at s at ≡ 22 → ⊥)) where
  pub judged-without-21-and-22 : verdict_of (with_kinds 20 four) s ≡ verdict_of four s
  judged-without-21-and-22 = judged-the-same four s 20 (omega arith) (neither 20 four s refl none)

  pub tested-without-21-and-22 : (c : ℕ) (w : Word) → word_test (with_kinds 20 four) s c w ≡ word_test four s c w
  tested-without-21-and-22 = tested-the-same four s 20 (omega arith) (neither 20 four s refl none)

-- whatever keeps the promise gives a sheet without the kinds above k the verdict that it had
pub keeps-without : {I : Model} {s : List ℕ} {answer : Report} → Loads I s answer → (k : ℕ) → k ≤ I.kinds → WithoutKindsAbove k I s
    → answer ≡ verdict_of (with_kinds k I) s
keeps-without {I} {s} l k few without = l.stated ∙ sym (judged-the-same I s k few without)

-- such a sheet is one that has no byte above k, as document 01's sheet M
no-byte-above : (k : ℕ) (I : Model) (s : List ℕ) → ((i : ℕ) → byte_at s i ≤ k) → WithoutKindsAbove k I s
no-byte-above k I s none at r h above taken = omega (arith, above, none at)

M-without : WithoutKindsAbove 14 large M
unfolding all_below byte_at
M-without = no-byte-above 14 large M (λ i. le_of_suc-le-suc (none_above 14 M tt i))

-- What the promise says -------------------------------------------------------------------------------------------------------

-- "judged as before": where the instrument that took the kinds up to k gave no 2 at a record of a kind above k, this is its answer
module _ {A : Type 0} (reply : A → Reply) (k : ℕ) (I : Model) (s : List ℕ) {before since : A} where
  pub as-then : AsBefore reply k I s before since → ((at : ℕ) → reply before ≡ 2 giving (at ∷ []) → byte_at s at ≤ k) → before ≡ since
  as-then (of_new_kind {at} above taken e) known = absurd (omega (arith, above, known at e))
  as-then (the_same_answer e) known = e

  -- as where its answer has another number
  pub as-other : AsBefore reply k I s before since → (or_zero (reply before).number ≡ 2 → ⊥) → before ≡ since
  as-other h other = as-then h (λ at e. absurd (other (same_number e)))

-- whatever keeps the promise gives document 01's sheets the answers that they had, by this part of it alone
keeps-nothing : {answer : Report} → Loads large [] answer → refused 9 (some 0) ≡ answer
unfolding verdict_of
keeps-nothing l = as-other reply_of 14 large [] (l.as_before 14 (omega arith)) (λ e. omega (arith, e))

keeps-M : {answer : Report} → Loads large M answer → accepted 6 ≡ answer
unfolding verdict_of
keeps-M l = as-other reply_of 14 large M (l.as_before 14 (omega arith)) (λ e. omega (arith, e))

keeps-M' : {answer : Report} → Loads large M' answer → unproved 5 0 (failing 3) ≡ answer
unfolding verdict_of
keeps-M' l = as-other reply_of 14 large M' (l.as_before 14 (omega arith)) (λ e. omega (arith, e))

keeps-on-entry : {answer : Report} → Loads entry M answer → accepted 6 ≡ answer
unfolding verdict_of
keeps-on-entry l = as-other reply_of 14 entry M (l.as_before 14 (omega arith)) (λ e. omega (arith, e))

-- 2 at a record of kind 0 was given before, and is
keeps-kind-0 : {answer : Report} → Loads large (0 ∷ []) answer → refused 2 (some 0) ≡ answer
unfolding verdict_of byte_at
keeps-kind-0 l =
    as-then reply_of 14 large (0 ∷ []) (l.as_before 14 (omega arith))
    (λ at e. let here : byte_at (0 ∷ []) at ≡ 0 = ap (byte_at (0 ∷ [])) (sym (same-value 0 e)) in omega (arith, here))

keeps-word : {answer : Answer} → TestsWord large W 0 [] answer → held ≡ answer
unfolding word_test
keeps-word t = as-other answer_reply 14 large W (t.as_before 14 (omega arith)) (λ e. omega (arith, e))

-- Answers that break it -----------------------------------------------------------------------------------------------------------

-- a loader that answers 2 to a sheet without the kinds of Ask 2, one that counts its rules otherwise, and one that accepts what was unproved
unknown-to-M : Loads large M (refused 2 (some 0)) → ⊥
unknown-to-M l = omega (arith, same_number (ap reply_of (keeps-M l)))

other-count : Loads large M (accepted 7) → ⊥
other-count l = omega (arith, same-value 0 (ap reply_of (keeps-M l)))

accepts-M' : (n : ℕ) → Loads large M' (accepted n) → ⊥
accepts-M' n l = omega (arith, same_number (ap reply_of (keeps-M' l)))

-- a word test that does not know the sheet, and one that says no
unknown-to-W : TestsWord large W 0 [] (untested 2 (some 0)) → ⊥
unknown-to-W t = omega (arith, same_number (ap answer_reply (keeps-word t)))

no-for-yes : (n : ℕ) → TestsWord large W 0 [] (not_held n) → ⊥
no-for-yes n t = subst IsHeld (keeps-word t) tt

-- a loader that answers 0F as before: not by this part of the promise, but by its refusals
abbrev number_in : ReadResult → ℕ
number_in (whole r) = 0
number_in (refusal n at r) = n

former-answer : Loads large (0x0F ∷ []) (refused 2 (some 0)) → ⊥
unfolding read_sheet
former-answer l = go ((l.refused_iff 2 0).0 refl) refl
  where
    go : {n at : ℕ} → RefusedFor large (0x0F ∷ []) n at → n ≡ 2 → ⊥
    go (while_reading e) z = omega (arith, ap number_in e, z)
    go (wrong_count read others) z = omega (arith, z)

-- Two answers that are not as before ------------------------------------------------------------------------------------------------

-- the record of a sheet of one byte at which 2 is given
only-byte : (kind : ℕ) {at : ℕ} → reply_of (refused 2 (some 0)) ≡ 2 giving (at ∷ []) → byte_at (kind ∷ []) at ≡ kind
unfolding byte_at
only-byte kind e = ap (byte_at (kind ∷ [])) (sym (same-value 0 e))

-- 2 at a record of document 01's last kind, and of a kind that the large instrument does not know
at-former-kind : AsBefore reply_of 14 large (14 ∷ []) (refused 2 (some 0)) (accepted 6) → ⊥
at-former-kind (of_new_kind above taken e) = omega (arith, above, only-byte 14 e)
at-former-kind (the_same_answer e) = omega (arith, same_number (ap reply_of e))

at-unknown-kind : AsBefore reply_of 14 large (21 ∷ []) (refused 2 (some 0)) (accepted 6) → ⊥
at-unknown-kind (of_new_kind above taken e) = omega (arith, taken, only-byte 21 e)
at-unknown-kind (the_same_answer e) = omega (arith, same_number (ap reply_of e))

-- another refusal than 2, at a record of a kind of Ask 2
other-refusal : AsBefore reply_of 14 large (15 ∷ []) (refused 3 (some 0)) (accepted 6) → ⊥
other-refusal (of_new_kind above taken e) = omega (arith, same_number e)
other-refusal (the_same_answer e) = omega (arith, same_number (ap reply_of e))

-- Request 8 -------------------------------------------------------------------------------------------------------------------------

-- a refusal with 2 is not the larger one's too, where that one takes more kinds
not-with-more-kinds : ((I I' : Model) → NoLarger I I' → (s : List ℕ) (n : ℕ) (values : List ℕ) → reply_of (verdict_of I s) ≡ n giving values
    → (n ≡ 1 → ⊥) → (n ≡ 6 → ⊥) → reply_of (verdict_of I' s) ≡ n giving values) → ⊥
unfolding verdict_of
not-with-more-kinds h =
    let same = h (former large) large (fewer-kinds 14 large (omega arith)) (0x0F ∷ []) 2 (0 ∷ []) refl (λ e. omega (arith, e)) (λ e. omega (arith, e)) in
    omega (arith, same_number same)
