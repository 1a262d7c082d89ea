-- Request 11 of the large and the four-channel instrument: the promises hold of the latter; sheets and words by evaluation, with the ways in which the two
-- may answer; what the promise alone says of the two; and answers that break it.
use mathlib.Core.Path.{◌≡◌, refl, sym, ap, subst}
use mathlib.Core.Logic.{⊎_elim}
use mathlib.Core.Option.{Option, some}
use mathlib.Core.List.{List, [], ◌∷◌, ◌++◌, map}
use Prim.Native.Nat.{ℕ, ◌+◌, ◌≤◌, ◌<◌}
use Prim.Native.String.{String}
use native.Mathlib.Nat.{eq-or-lt_of_le}
use native.Mathlib.Omega.{arith}
use lib.ListN.{get_or, replicate}
use Rattle.condition.specs.Condition.{Word}
use Rattle.certificate.specs.Certificate.{Fault}
use Rattle.sheet.specs.Model.{Model, large, entry, four, fewer as fewer-events, NoLarger}
use Rattle.sheet.specs.Each.{Each}
use Rattle.sheet.specs.Kind.{points}
use Rattle.sheet.specs.Record.{Bytes, byte_at}
use Rattle.sheet.specs.Reading.{Reading, ReadResult, whole, refusal, state_of, at_end, read_sheet}
use Rattle.sheet.proofs.Each.{each-get_or}
use Rattle.sheet_laws.proofs.ReadOn.{Ends, too_long as ends-too-long, at_record, at_the_end, read-ends, number_of, end-number, owners-number}
use Rattle.sheet_laws.proofs.States.{Reached, at_start, past}
use Rattle.verdict.specs.Verdict.{Report, accepted, refused, unproved, verdict_of}
use Rattle.verdict.specs.WordTest.{Answer, held, not_held, untested, word_test}
use Rattle.verdict.specs.Reply.{Reply, ◌giving◌, reply_of, answer_reply}
use Rattle.verdict.specs.Line.{ascii, line}
use Rattle.verdict.specs.Promise.{RefusedFor, while_reading, wrong_count, LikeLarger, too_long, over-limit, unknown_kind, step_above, the_same, TestsLikeLarger, as_loaded, word_above, OnLarger, Loads, WordRefusedFor, sheet_refused, no_such_condition, word_too_long, stray_event, TestsWord}
use Rattle.verdict.specs.Cases.{point0, method0, M, M', W}
use Rattle.verdict.proofs.Parts.{record_of, ones, all_empty}
use Rattle.verdict.proofs.Reply.{IsTested, or_zero, same_number, same-value, tested-number}
use Rattle.verdict.proofs.Loads.{loads-as-promised}
use Rattle.verdict.proofs.WordTest.{tests-as-promised}

-- The promises --------------------------------------------------------------------------------------------------------------

pub four-loads : (s : List ℕ) → Bytes s → Loads four s (verdict_of four s)
four-loads = loads-as-promised four (omega arith)

pub four-tests : (s : List ℕ) (c : ℕ) (w : Word) → TestsWord four s c w (word_test four s c w)
four-tests = tests-as-promised four

-- the two-channel instruments have fewer events than it, but all that the sets of their leaves can hold
pub large-no-larger : NoLarger large four
large-no-larger = record { bytes = omega arith; points = omega arith; events = fewer-events (omega arith) (omega arith); kinds = omega arith }

pub entry-no-larger-than-four : NoLarger entry four
entry-no-larger-than-four = record { bytes = omega arith; points = omega arith; events = fewer-events (omega arith) (omega arith); kinds = omega arith }

-- By evaluation -----------------------------------------------------------------------------------------------------------

-- M with an event step from point 0 to itself
abbrev stepping : ℕ → List ℕ
stepping e = all_empty (method0 0 ++ (record_of 0x0A (0 ∷ 0 ∷ []) ++ (e ∷ []))) (ones 6)

-- document 01's W with eight FF for four; on the four-channel instrument FF FF FF FF is not "any"
abbrev long_w : List ℕ
long_w =
    (0x02 ∷ 0x01 ∷ 0x04 ∷ 0 ∷ 0 ∷ 0 ∷ 0x15 ∷ 0xFF ∷ 0xFF ∷ 0xFF ∷ 0xFF ∷ 0xFF ∷ 0xFF ∷ 0xFF ∷ 0xFF ∷ 0x05 ∷ 0x03 ∷ 0x04 ∷ 0x06 ∷ [])
    ++ (point0 ++ method0 0)

-- a sheet, and the lines that the two print
record Both : Type 0 where
  bytes : List ℕ
  on_large : String
  on_four : String

abbrev both : List ℕ → String → String → Both
both s x y = record { bytes = s; on_large = x; on_four = y }

sheets : List Both
sheets =
    -- "The two-channel instrument still gives 2 for both kinds"; the first kind that neither knows
    both (0x15 ∷ []) "refused 2 at 0" "refused 3 at 0"
    ∷ both (0x16 ∷ []) "refused 2 at 0" "refused 3 at 0"
    ∷ both (0x17 ∷ []) "refused 2 at 0" "refused 2 at 0"
    ∷ both long_w "refused 2 at 6" "refused 10 at 37"
    -- "events go to 63", and those that clause 4 names, too
    ∷ both (stepping 31) "unproved rule 7 step 0 clause 4 pair 0 event 31 place 1" "unproved rule 7 step 0 clause 4 pair 0 event 31 place 1"
    ∷ both (stepping 32) "refused 7 at 20" "unproved rule 7 step 0 clause 4 pair 0 event 32 place 1"
    ∷ both (stepping 63) "refused 7 at 20" "unproved rule 7 step 0 clause 4 pair 0 event 63 place 1"
    ∷ both (stepping 64) "refused 7 at 20" "refused 7 at 20"
    -- document 01's sheets
    ∷ both [] "refused 9 at 0" "refused 9 at 0"
    ∷ both M "accepted 6" "accepted 6"
    ∷ both M' "unproved rule 5 method 0 clause 3 pair 0 event 0 place 0" "unproved rule 5 method 0 clause 3 pair 0 event 0 place 0"
    ∷ []

print-on-large : map (λ x. line (verdict_of large x.bytes)) sheets ≡ map (λ x. ascii x.on_large) sheets
unfolding sheets verdict_of line
print-on-large = refl

print-on-four : map (λ x. line (verdict_of four x.bytes)) sheets ≡ map (λ x. ascii x.on_four) sheets
unfolding sheets verdict_of line
print-on-four = refl

-- words of the two conditions
abbrev after2 : Model → List ℕ → List Answer
after2 I s = map (λ (e : ℕ). word_test I s 0 (2 ∷ e ∷ [])) (31 ∷ 32 ∷ 63 ∷ 64 ∷ [])

words-of-W : (after2 large W ≡ held ∷ replicate 3 (untested 13 (some 1)))
    × (after2 four W ≡ held ∷ not_held 1 ∷ not_held 1 ∷ untested 13 (some 1) ∷ [])
unfolding word_test
words-of-W = (refl, refl)

words-of-long_w : (after2 large long_w ≡ replicate 4 (untested 2 (some 6)))
    × (after2 four long_w ≡ held ∷ held ∷ held ∷ untested 13 (some 1) ∷ [])
unfolding word_test
words-of-long_w = (refl, refl)

-- What the promise says -------------------------------------------------------------------------------------------------------

-- of an instrument that is no larger, as the large and the entry instrument
module _ {I : Model} (no-larger : NoLarger I four) {s : List ℕ} where
  -- whatever keeps the promise there: what it accepts, the four-channel one accepts with the same count
  pub accepted-by-four : {answer : Report} → Loads I s answer → (n : ℕ) → answer ≡ accepted n → verdict_of four s ≡ accepted n
  accepted-by-four l n h = (l.on_larger four no-larger).accepted_too n h

  -- what it refuses or leaves unproved, but for 1, 6, 2 and 7, so does that one
  pub refused-by-four : {answer : Report} → Loads I s answer → (n : ℕ) (values : List ℕ) → reply_of answer ≡ n giving values
      → (n ≡ 1 → ⊥) → (n ≡ 6 → ⊥) → (n ≡ 2 → ⊥) → (n ≡ 7 → ⊥) → reply_of (verdict_of four s) ≡ n giving values
  refused-by-four l n values h not1 not6 not2 not7 =
      (l.on_larger four no-larger).refused_too n values h not1 not6 (λ e. absurd (not2 e)) (λ e. absurd (not7 e))

  -- and where it says yes or no of a word, that one says the same, and no with the same length
  pub said-by-four : {c : ℕ} {w : Word} {answer : Answer} → IsTested answer → TestsWord I s c w answer → word_test four s c w ≡ answer
  said-by-four {c} {w} {answer} said t = go (t.on_larger four no-larger)
    where
      loaded : {x : Answer} → LikeLarger answer_reply I four s answer x → x ≡ answer
      loaded (too_long fewer e) = absurd (omega (arith, tested-number answer said, same_number e))
      loaded (over-limit fewer e) = absurd (omega (arith, tested-number answer said, same_number e))
      loaded (unknown_kind above taken e) = absurd (omega (arith, tested-number answer said, same_number e))
      loaded (step_above event above below e) = absurd (omega (arith, tested-number answer said, same_number e))
      loaded (the_same e) = sym e

      go : {x : Answer} → TestsLikeLarger I four s w answer x → x ≡ answer
      go (as_loaded like) = loaded like
      go (word_above above below e) = absurd (omega (arith, tested-number answer said, same_number e))

-- Sheets of two channels ------------------------------------------------------------------------------------------------------

abbrev place_in : ReadResult → ℕ
place_in (whole r) = 0
place_in (refusal n at r) = at

-- a refusal that is given at a record is given at one that reading comes to
reached : (I : Model) (s : List ℕ) (n at : ℕ) (r : Reading) → read_sheet I s ≡ refusal n at r → 2 ≤ n → n ≤ 7 → Reached I s at r
reached I s n at r h above below = go (read-ends I s (Reached I s) (λ at r took here. past here took) at_start) h
  where
    Late : ℕ → Type 0
    Late k = 2 ≤ k → k ≤ 7 → ⊥

    late : (u : Reading) → Late (number_of (at_end s u))
    late u =
        end-number s u Late (λ a b. omega (arith, b)) (λ a b. omega (arith, b))
        (owners-number u Late (λ a b. omega (arith, a)) (λ a b. omega (arith, b)) (u.own points))

    go : {o : ReadResult} → Ends I s (Reached I s) o → o ≡ refusal n at r → Reached I s at r
    go ends-too-long e = absurd (omega (arith, above, ap number_of e))
    go (at_record {at = at'} {r = u} here) e =
        subst (λ (u : Reading). Reached I s at u) (ap state_of e) (subst (λ (at : ℕ). Reached I s at u) (ap place_in e) here)
    go (at_the_end {r = u} here) e = absurd (subst Late (ap number_of e) (late u) above below)

-- "uses neither kind 21 nor 22 nor events above 31": so of each record that reading comes to
pub record OfTwoChannels (s : List ℕ) : Type 0 where
  pub kinds : (at : ℕ) (r : Reading) → Reached large s at r → (byte_at s at ≡ 21 → ⊥) × (byte_at s at ≡ 22 → ⊥)
  pub events : (at : ℕ) (r : Reading) → Reached large s at r → byte_at s at ≡ 10 → byte_at s (at + 5) ≤ 31

-- such a sheet gets the answer of the large instrument, and so does a word without events above 31
module _ {s : List ℕ} (two : OfTwoChannels s) where
  -- where a refusal that the answer a gives is one of reading
  same_answer : {A : Type 0} (reply : A → Reply) {a b : A}
      → ((n at : ℕ) → 2 ≤ n → n ≤ 7 → reply a ≡ n giving (at ∷ []) → (r : Reading) × (read_sheet large s ≡ refusal n at r))
      → LikeLarger reply large four s a b → b ≡ a
  same_answer reply read (too_long fewer e) = absurd (omega (arith, fewer))
  same_answer reply read (over-limit fewer e) = absurd (omega (arith, fewer))
  same_answer reply read (unknown_kind {at} above taken e) =
      let (r, h) = read 2 at (omega arith) (omega arith) e in
      let (not21, not22) = two.kinds at r (reached large s 2 at r h (omega arith) (omega arith)) in
      absurd (⊎_elim not22 (λ below. not21 (omega (arith, above, below))) (eq-or-lt_of_le taken))
  same_answer reply read (step_above {at} event above below e) =
      let (r, h) = read 7 at (omega arith) (omega arith) e in
      absurd (omega (arith, above, two.events at r (reached large s 7 at r h (omega arith) (omega arith)) event))
  same_answer reply read (the_same e) = sym e

  pub judged-as-on-large : {answer : Report} → Loads large s answer → verdict_of four s ≡ answer
  judged-as-on-large {answer} l = same_answer reply_of (λ n at above below e. go ((l.refused_iff n at).0 e) below) (l.on_larger four large-no-larger).like
    where
      go : {n at : ℕ} → RefusedFor large s n at → n ≤ 7 → (r : Reading) × (read_sheet large s ≡ refusal n at r)
      go (while_reading {r = r} e) below = (r, e)
      go (wrong_count read others) below = absurd (omega (arith, below))

  pub tested-as-on-large : {c : ℕ} {w : Word} {answer : Answer} → TestsWord large s c w answer → Each (λ (e : ℕ). e ≤ 31) w → word_test four s c w ≡ answer
  tested-as-on-large {c} {w} {answer} t small = loaded (t.on_larger four large-no-larger)
    where
      go : {n at : ℕ} {place : Option ℕ} → WordRefusedFor large s c w n place → place ≡ some at → n ≤ 7
          → (r : Reading) × (read_sheet large s ≡ refusal n at r)
      go (sheet_refused {n} {r = r} e) same below = (r, subst (λ (k : ℕ). read_sheet large s ≡ refusal n k r) (ap or_zero same) e)
      go (no_such_condition read h) same below = absurd (omega (arith, below))
      go (word_too_long f h) same below = absurd (omega (arith, below))
      go (stray_event f short h) same below = absurd (omega (arith, below))

      loaded : {x : Answer} → TestsLikeLarger large four s w answer x → x ≡ answer
      loaded (as_loaded like) = same_answer answer_reply (λ n at above below e. go ((t.refused_iff n (some at)).0 e) refl below) like
      loaded (word_above {i} above below e) = absurd (omega (arith, above, each-get_or (λ (e : ℕ). e ≤ 31) small 0 (omega arith) i))

-- Answers that break it -------------------------------------------------------------------------------------------------------

abbrev at_event : ℕ → Fault
at_event e = record { clause = 4; pair = 0; event = e; place = 1 }

-- what must be so where the smaller one gives 2, 7 or 13 at the first record or event, and the other one accepts
module _ (I I' : Model) (s : List ℕ) where
  two-needs : LikeLarger reply_of I I' s (refused 2 (some 0)) (accepted 6) → (I.kinds < byte_at s 0) × (byte_at s 0 ≤ I'.kinds)
  two-needs (too_long fewer e) = absurd (omega (arith, same_number e))
  two-needs (over-limit fewer e) = absurd (omega (arith, same_number e))
  two-needs (unknown_kind above taken e) =
      let here = ap (byte_at s) (same-value 0 e) in
      (subst (λ (b : ℕ). I.kinds < b) (sym here) above, subst (λ (b : ℕ). b ≤ I'.kinds) (sym here) taken)
  two-needs (step_above event above below e) = absurd (omega (arith, same_number e))
  two-needs (the_same e) = absurd (omega (arith, same_number (ap reply_of e)))

  seven-needs : LikeLarger reply_of I I' s (refused 7 (some 0)) (accepted 6)
      → (byte_at s 0 ≡ 10) × (I.events ≤ byte_at s 5) × (byte_at s 5 < I'.events)
  seven-needs (too_long fewer e) = absurd (omega (arith, same_number e))
  seven-needs (over-limit fewer e) = absurd (omega (arith, same_number e))
  seven-needs (unknown_kind above taken e) = absurd (omega (arith, same_number e))
  seven-needs (step_above event above below e) =
      let here = same-value 0 e in
      subst (λ (at : ℕ). (byte_at s at ≡ 10) × (I.events ≤ byte_at s (at + 5)) × (byte_at s (at + 5) < I'.events)) (sym here) (event, above, below)
  seven-needs (the_same e) = absurd (omega (arith, same_number (ap reply_of e)))

  thirteen-needs : (w : Word) → TestsLikeLarger I I' s w (untested 13 (some 0)) held → (I.events ≤ get_or w 0 0) × (get_or w 0 0 < I'.events)
  thirteen-needs w (as_loaded (too_long fewer e)) = absurd (omega (arith, same_number e))
  thirteen-needs w (as_loaded (over-limit fewer e)) = absurd (omega (arith, same_number e))
  thirteen-needs w (as_loaded (unknown_kind above taken e)) = absurd (omega (arith, same_number e))
  thirteen-needs w (as_loaded (step_above event above below e)) = absurd (omega (arith, same_number e))
  thirteen-needs w (as_loaded (the_same e)) = absurd (omega (arith, same_number (ap answer_reply e)))
  thirteen-needs w (word_above above below e) =
      subst (λ (i : ℕ). (I.events ≤ get_or w i 0) × (get_or w i 0 < I'.events)) (sym (same-value 0 e)) (above, below)

-- 2 at a kind that both take, and at one that neither takes
two-at-20 : LikeLarger reply_of large four (20 ∷ []) (refused 2 (some 0)) (accepted 6) → ⊥
unfolding byte_at
two-at-20 h = omega (arith, (two-needs large four (20 ∷ []) h).0)

two-at-23 : LikeLarger reply_of large four (23 ∷ []) (refused 2 (some 0)) (accepted 6) → ⊥
unfolding byte_at
two-at-23 h = omega (arith, (two-needs large four (23 ∷ []) h).1)

-- a record with that event in its place; 7 at another kind than 10, at an event that both have and at one that neither has
abbrev first : (kind event : ℕ) → List ℕ
first kind event = kind ∷ 0 ∷ 0 ∷ 0 ∷ 0 ∷ event ∷ []

seven-at-12 : LikeLarger reply_of large four (first 12 32) (refused 7 (some 0)) (accepted 6) → ⊥
unfolding byte_at
seven-at-12 h = omega (arith, (seven-needs large four (first 12 32) h).0)

seven-at-31 : LikeLarger reply_of large four (first 10 31) (refused 7 (some 0)) (accepted 6) → ⊥
unfolding byte_at
seven-at-31 h = omega (arith, (seven-needs large four (first 10 31) h).1)

seven-at-64 : LikeLarger reply_of large four (first 10 64) (refused 7 (some 0)) (accepted 6) → ⊥
unfolding byte_at
seven-at-64 h = omega (arith, (seven-needs large four (first 10 64) h).2)

-- 7 where the two have as many events: of the entry and the large instrument, and of the four-channel one beside itself
seven-on-entry : (s : List ℕ) → LikeLarger reply_of entry large s (refused 7 (some 0)) (accepted 6) → ⊥
seven-on-entry s h = let (event, above, below) = seven-needs entry large s h in omega (arith, above, below)

seven-beside-itself : (s : List ℕ) → LikeLarger reply_of four four s (refused 7 (some 0)) (accepted 6) → ⊥
seven-beside-itself s h = let (event, above, below) = seven-needs four four s h in omega (arith, above, below)

-- 13 at an event that both have, at one that neither has, and where the two have as many
module _ (s : List ℕ) where
  thirteen-at-31 : TestsLikeLarger large four s (31 ∷ []) (untested 13 (some 0)) held → ⊥
  thirteen-at-31 h = omega (arith, (thirteen-needs large four s (31 ∷ []) h).0)

  thirteen-at-64 : TestsLikeLarger large four s (64 ∷ []) (untested 13 (some 0)) held → ⊥
  thirteen-at-64 h = omega (arith, (thirteen-needs large four s (64 ∷ []) h).1)

  thirteen-beside-itself : (w : Word) → TestsLikeLarger four four s w (untested 13 (some 0)) held → ⊥
  thirteen-beside-itself w h = let (above, below) = thirteen-needs four four s w h in omega (arith, above, below)

  -- accepted with another count; unproved, where the other one names an event that the smaller one lacks
  other-count : OnLarger large four s (accepted 5) (accepted 6) → ⊥
  other-count o = omega (arith, same-value 0 (ap reply_of (o.accepted_too 5 refl)))

  other-event : OnLarger large four s (unproved 7 0 (at_event 31)) (unproved 7 0 (at_event 32)) → ⊥
  other-event o =
      omega (
        arith,
        same-value 4
            (o.refused_too 11 (7 ∷ 0 ∷ 4 ∷ 0 ∷ 31 ∷ 1 ∷ []) refl (λ e. omega (arith, e)) (λ e. omega (arith, e)) (λ e. omega (arith, e)) (λ e. omega (arith, e))),
      )

  -- refused for a channel, which only the other one can
  other-refusal : OnLarger large four s (refused 26 (some 0)) (accepted 6) → ⊥
  other-refusal o =
      omega (
        arith,
        same_number
            (o.refused_too 26 (0 ∷ []) refl (λ e. omega (arith, e)) (λ e. omega (arith, e)) (λ e. omega (arith, e)) (λ e. omega (arith, e))),
      )

-- a refusal with 7 is not the larger one's too, where that one has more events
not-with-more-events : ((I I' : Model) → NoLarger I I' → (s : List ℕ) (n : ℕ) (values : List ℕ) → reply_of (verdict_of I s) ≡ n giving values
    → (n ≡ 1 → ⊥) → (n ≡ 6 → ⊥) → (n ≡ 2 → I.kinds ≡ I'.kinds) → reply_of (verdict_of I' s) ≡ n giving values) → ⊥
unfolding verdict_of
not-with-more-events h =
    let same = h large four large-no-larger (stepping 32) 7 (20 ∷ []) refl (λ e. omega (arith, e)) (λ e. omega (arith, e)) (λ e. omega (arith, e)) in
    omega (arith, same_number same)
