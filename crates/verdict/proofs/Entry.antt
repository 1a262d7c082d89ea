-- Request 8 of the entry and the large instrument: sheets and words by evaluation, with each way in which the two may answer; that it is false the other
-- way round; what each part of the promise alone says; and answers that break it.
use mathlib.Core.Path.{◌≡◌, refl, sym, ap, ◌∙◌, subst}
use mathlib.Core.Option.{some}
use mathlib.Core.List.{List, [], ◌∷◌, ◌++◌, map}
use Prim.Native.Nat.{ℕ, zero, suc}
use native.Mathlib.Omega.{arith}
use lib.ListN.{take, replicate}
use Rattle.condition.specs.Condition.{Word}
use Rattle.certificate.specs.Certificate.{Fault}
use Rattle.sheet.specs.Model.{Model, large, entry, as_many, NoLarger}
use Rattle.sheet.proofs.Examples.{entry-no-larger}
use Rattle.verdict.specs.Verdict.{Report, accepted, refused, unproved, verdict_of}
use Rattle.verdict.specs.WordTest.{Answer, held, not_held, untested, word_test}
use Rattle.verdict.specs.Reply.{◌giving◌, reply_of, answer_reply}
use Rattle.verdict.specs.Promise.{LikeLarger, too_long, over-limit, unknown_kind, step_above, the_same, TestsLikeLarger, as_loaded, word_above, OnLarger, Loads, TestsWord}
use Rattle.verdict.specs.Cases.{point0, method0, three_starts, M, M', W}
use Rattle.verdict.proofs.Reply.{IsAccepted, IsTested, same_number, same-value, tested-number}

-- By evaluation -----------------------------------------------------------------------------------------------------------

-- document 01's sheet M with n points
abbrev points_of : ℕ → List ℕ
points_of zero = []
points_of (suc n) = point0 ++ points_of n

abbrev with_points : ℕ → List ℕ
with_points n = (0x02 ∷ 0x06 ∷ []) ++ (points_of n ++ (method0 0 ++ three_starts))

-- a sheet, and what each instrument answers
record Both : Type 0 where
  bytes : List ℕ
  on_entry : Report
  on_large : Report

abbrev failing : ℕ → Fault
failing clause = record { clause = clause; pair = 0; event = 0; place = 0 }

abbrev both : List ℕ → Report → Report → Both
both s x y = record { bytes = s; on_entry = x; on_large = y }

abbrev sheets : List Both
sheets =
    -- "at most 8,192 bytes"; "Refusal 1 then gives place 8,192"
    both (replicate 8192 0) (refused 2 (some 0)) (refused 2 (some 0))
    ∷ both (replicate 8193 0) (refused 1 (some 8192)) (refused 2 (some 0))
    -- the same answer: accepted, refused while reading and for the certificates, unproved
    ∷ both M (accepted 6) (accepted 6)
    ∷ both (take 40 M) (refused 8 (some 40)) (refused 8 (some 40))
    ∷ both (take 20 M) (refused 10 (some 20)) (refused 10 (some 20))
    ∷ both M' (unproved 5 0 (failing 3)) (unproved 5 0 (failing 3))
    ∷ []

as-on-entry : map (λ x. verdict_of entry x.bytes) sheets ≡ map (λ x. x.on_entry) sheets
unfolding verdict_of
as-on-entry = refl

as-on-large : map (λ x. verdict_of large x.bytes) sheets ≡ map (λ x. x.on_large) sheets
unfolding verdict_of
as-on-large = refl

-- "6 comes at" the point that is one too many: the second one, behind the 2 bytes of the condition and a point of 7, where an instrument takes one.
-- 64 and 65 points on the entry instrument: instrument/proofs/Examples
abbrev taking : ℕ → Model
taking n = record { bytes = entry.bytes; points = n; events = entry.events; kinds = entry.kinds }

most-points : verdict_of (taking 1) (with_points 1) ≡ accepted 6
unfolding verdict_of
most-points = refl

many-points : verdict_of (taking 1) (with_points 2) ≡ refused 6 (some 9)
unfolding verdict_of
many-points = refl

many-on-larger : verdict_of (taking 2) (with_points 2) ≡ accepted 6
unfolding verdict_of
many-on-larger = refl

words-on-entry : map (λ (w : Word). word_test entry W 0 w) ([] ∷ (0 ∷ []) ∷ (2 ∷ 32 ∷ []) ∷ []) ≡ held ∷ not_held 0 ∷ untested 13 (some 1) ∷ []
unfolding word_test
words-on-entry = refl

-- The other way round -------------------------------------------------------------------------------------------------------

-- the larger one accepts a sheet that the smaller one does not: it is not true of two instruments of which the second is the smaller
not-turned : ((I I' : Model) → NoLarger I' I → (s : List ℕ) → OnLarger I I' s (verdict_of I s) (verdict_of I' s)) → ⊥
not-turned h =
    let smaller : NoLarger (taking 1) (taking 2) = record { bytes = omega arith; points = omega arith; events = as_many refl; kinds = omega arith } in
    let o = h (taking 2) (taking 1) smaller (with_points 2) in
    subst IsAccepted (sym (sym many-points ∙ o.accepted_too 6 many-on-larger)) tt

not-like-turned : (I : Model) (s : List ℕ) → LikeLarger reply_of large I s (accepted 6) (refused 6 (some 9)) → ⊥
not-like-turned I s (too_long fewer e) = omega (arith, same_number e)
not-like-turned I s (over-limit fewer e) = omega (arith, same_number e)
not-like-turned I s (unknown_kind above taken e) = omega (arith, same_number e)
not-like-turned I s (step_above event above below e) = omega (arith, same_number e)
not-like-turned I s (the_same e) = omega (arith, same_number (ap reply_of e))

-- What the promise says -------------------------------------------------------------------------------------------------------

-- whatever keeps the promise on the entry instrument: what it accepts, the large one accepts
pub accepted-by-large : {s : List ℕ} {answer : Report} → Loads entry s answer → (n : ℕ) → answer ≡ accepted n → verdict_of large s ≡ accepted n
accepted-by-large l n h = (l.on_larger large entry-no-larger).accepted_too n h

-- what it refuses, for another reason than its bytes and points, the large one refuses: the two take the same kinds and have
-- as many events
pub refused-by-large : {s : List ℕ} {answer : Report} → Loads entry s answer → (n : ℕ) (values : List ℕ) → reply_of answer ≡ n giving values
    → (n ≡ 1 → ⊥) → (n ≡ 6 → ⊥) → reply_of (verdict_of large s) ≡ n giving values
refused-by-large l n values h not1 not6 = (l.on_larger large entry-no-larger).refused_too n values h not1 not6 (λ e. refl) (λ e. refl)

-- and where it says yes or no of a word, the large one says the same, and no with the same length
pub said-by-large : {s : List ℕ} {c : ℕ} {w : Word} {answer : Answer} → IsTested answer → TestsWord entry s c w answer → word_test large s c w ≡ answer
said-by-large {s} {c} {w} {answer} said t = go (t.on_larger large entry-no-larger)
  where
    loaded : {x : Answer} → LikeLarger answer_reply entry large s answer x → x ≡ answer
    loaded (too_long fewer e) = absurd (omega (arith, tested-number answer said, same_number e))
    loaded (over-limit fewer e) = absurd (omega (arith, tested-number answer said, same_number e))
    loaded (unknown_kind above taken e) = absurd (omega (arith, tested-number answer said, same_number e))
    loaded (step_above event above below e) = absurd (omega (arith, above, below))
    loaded (the_same e) = sym e

    go : {x : Answer} → TestsLikeLarger entry large s w answer x → x ≡ answer
    go (as_loaded like) = loaded like
    go (word_above above below e) = absurd (omega (arith, above, below))

-- Answers that break it, of the entry and the large instrument, whatever the sheet ----------------------------------------------

module _ (s : List ℕ) where
  -- 1 with the length for its place
  length-for-limit : LikeLarger reply_of entry large s (refused 1 (some 8193)) (refused 2 (some 0)) → ⊥
  length-for-limit (too_long fewer e) = omega (arith, same-value 0 e)
  length-for-limit (over-limit fewer e) = omega (arith, same_number e)
  length-for-limit (unknown_kind above taken e) = omega (arith, same_number e)
  length-for-limit (step_above event above below e) = omega (arith, above, below)
  length-for-limit (the_same e) = omega (arith, same_number (ap reply_of e))

  -- a refusal that is neither 1, 2 nor 6, where the larger one accepts
  refused-for-accepted : LikeLarger reply_of entry large s (refused 10 (some 20)) (accepted 6) → ⊥
  refused-for-accepted (too_long fewer e) = omega (arith, same_number e)
  refused-for-accepted (over-limit fewer e) = omega (arith, same_number e)
  refused-for-accepted (unknown_kind above taken e) = omega (arith, same_number e)
  refused-for-accepted (step_above event above below e) = omega (arith, above, below)
  refused-for-accepted (the_same e) = omega (arith, same_number (ap reply_of e))

  -- 2 where the two take the same kinds
  unknown-for-accepted : LikeLarger reply_of entry large s (refused 2 (some 0)) (accepted 6) → ⊥
  unknown-for-accepted (too_long fewer e) = omega (arith, same_number e)
  unknown-for-accepted (over-limit fewer e) = omega (arith, same_number e)
  unknown-for-accepted (unknown_kind above taken e) = omega (arith, above, taken)
  unknown-for-accepted (step_above event above below e) = omega (arith, above, below)
  unknown-for-accepted (the_same e) = omega (arith, same_number (ap reply_of e))

  -- 1 and 6 where the two take the same bytes and points: of an instrument beside itself
  long-beside-itself : LikeLarger reply_of large large s (refused 1 (some 65536)) (accepted 6) → ⊥
  long-beside-itself (too_long fewer e) = omega (arith, fewer)
  long-beside-itself (over-limit fewer e) = omega (arith, fewer)
  long-beside-itself (unknown_kind above taken e) = omega (arith, above, taken)
  long-beside-itself (step_above event above below e) = omega (arith, above, below)
  long-beside-itself (the_same e) = omega (arith, same_number (ap reply_of e))

  many-beside-itself : LikeLarger reply_of large large s (refused 6 (some 9)) (accepted 6) → ⊥
  many-beside-itself (too_long fewer e) = omega (arith, fewer)
  many-beside-itself (over-limit fewer e) = omega (arith, fewer)
  many-beside-itself (unknown_kind above taken e) = omega (arith, above, taken)
  many-beside-itself (step_above event above below e) = omega (arith, above, below)
  many-beside-itself (the_same e) = omega (arith, same_number (ap reply_of e))

  -- accepted with another count
  other-count : OnLarger entry large s (accepted 5) (accepted 6) → ⊥
  other-count o = omega (arith, same-value 0 (ap reply_of (o.accepted_too 5 refl)))

  -- refused with another number, and with another place
  other-number : OnLarger entry large s (refused 9 (some 0)) (refused 2 (some 0)) → ⊥
  other-number o =
      omega (arith, same_number (o.refused_too 9 (0 ∷ []) refl (λ e. omega (arith, e)) (λ e. omega (arith, e)) (λ e. refl) (λ e. refl)))

  other_place : OnLarger entry large s (refused 2 (some 0)) (refused 2 (some 7)) → ⊥
  other_place o =
      omega (arith, same-value 0 (o.refused_too 2 (0 ∷ []) refl (λ e. omega (arith, e)) (λ e. omega (arith, e)) (λ e. refl) (λ e. refl)))

  -- unproved, where the larger one finds another clause
  other-clause : (r k : ℕ) → OnLarger entry large s (unproved r k (failing 3)) (unproved r k (failing 4)) → ⊥
  other-clause r k o =
      omega (
        arith,
        same-value 2
            (o.refused_too 11 (r ∷ k ∷ 3 ∷ 0 ∷ 0 ∷ 0 ∷ []) refl (λ e. omega (arith, e)) (λ e. omega (arith, e)) (λ e. refl) (λ e. refl)),
      )
