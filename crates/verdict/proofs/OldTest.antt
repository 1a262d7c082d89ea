-- Document 02, Ask 3: "Yes and no remain those of the old test." The old test is document 01's: stepping gives the set of places alone, and the answer is a
-- bare yes or no. With the length left out, the word test's answer is the old test's, for all bytes, conditions and words, on every instrument; and the set
-- that stepping gives is the old one, so that clause 4 and the reachable pairs, which take nothing else of stepping, are those over the old sets.
use mathlib.Core.Path.{◌≡◌, refl, sym, ap, ◌∙◌, subst}
use mathlib.Core.Bool.{Bool, true, false, cond, ◌&&◌}
use mathlib.Core.Logic.{◌↔◌}
use mathlib.Core.Option.{Option, none, some}
use mathlib.Core.List.{List, [], ◌∷◌}
use Prim.Native.Nat.{ℕ, suc, ◌<◌}
use lib.ListN.{length}
use lib.Dec.{T, ltb, leb}
use Rattle.bits.specs.Bits.{◌⇒◌, has, any_below, set_of}
use Rattle.condition.specs.Condition.{Condition, Word, Holds}
use Rattle.condition.specs.Places.{places, leaf_holds, follows, some_ends, step, step_all, accepts, longest}
use Rattle.condition.proofs.Words.{words, accepts-is}
use Rattle.certificate.specs.Certificate.{Pair, pair, Certificate, in_order, unless, fault, listed, clause4_at, Reachable, start, onward}
use Rattle.sheet.specs.Model.{Model, word_limit}
use Rattle.sheet.specs.Sheet.{Sheet, condition}
use Rattle.sheet.specs.Reading.{is_new, ReadResult, whole, refusal, read_sheet}
use Rattle.sheet.specs.Decode.{sheet_read}
use Rattle.verdict.specs.WordTest.{Answer, held, not_held, untested, tested, unless_stray, tested_after, word_test}

-- The old test ----------------------------------------------------------------------------------------------------------

-- "Stepping a set of places by e gives all followers whose leaf holds e."
unfoldable pub old_step : Condition → ℕ → ℕ → ℕ
old_step r s e = set_of (places r) (λ q. any_below (places r) (λ p. has s p && follows r p q) && leaf_holds r q e)

-- the set s stepped by each event of a word
unfoldable pub old_step_all : Condition → ℕ → Word → ℕ
old_step_all r s [] = s
old_step_all r s (e ∷ w) = old_step_all r (old_step r s e) w

-- from the start, which is the set 1 of place 0 alone, to a set with a place that ends a word
unfoldable pub old_accepts : Condition → Word → Bool
old_accepts r w = some_ends r (old_step_all r 1 w)

-- yes or no; or a refusal's number, and its place where it has one
pub data OldAnswer : Type 0 where
  says : Bool → OldAnswer
  refuses : (number : ℕ) (at : Option ℕ) → OldAnswer

-- 13, "index": "an event above 31, first such index", from the index i on; without one, the answer `otherwise`
unfoldable pub old_unless_stray : ℕ → ℕ → Word → OldAnswer → OldAnswer
old_unless_stray events i [] otherwise = otherwise
old_unless_stray events i (e ∷ w) otherwise =
    let after = old_unless_stray events (suc i) w otherwise in
    cond (ltb e events) after (refuses 13 (some i))

-- "it first applies 1 to 9, then 14, 12, 13"
unfoldable pub old_tested_after : Model → List ℕ → ℕ → Word → ReadResult → OldAnswer
old_tested_after M s c w (refusal n at r) = refuses n (some at)
old_tested_after M s c w (whole r) =
    let S = sheet_read (is_new s) r.own in
    let answer = old_unless_stray M.events 0 w (says (old_accepts (condition S c) w)) in
    cond (leb (length S.conditions) c) (refuses 14 none) (cond (ltb word_limit (length w)) (refuses 12 none) answer)

-- what the old test returns for the bytes s, the condition c and the word w
unfoldable pub old_test : Model → List ℕ → ℕ → Word → OldAnswer
old_test M s c w = old_tested_after M s c w (read_sheet M s)

-- Stepping --------------------------------------------------------------------------------------------------------------

-- "besides its old set": the set is the old one, whatever is told besides
pub same_set : (r : Condition) (s e : ℕ) → (step r s e).set ≡ old_step r s e
unfolding step old_step
same_set r s e = refl

pub same-sets : (r : Condition) (w : Word) (s : ℕ) → step_all r s w ≡ old_step_all r s w
unfolding step_all old_step_all
same-sets r [] s = refl
same-sets r (e ∷ w) s = same-sets r w (step r s e).set ∙ ap (λ (t : ℕ). old_step_all r t w) (same_set r s e)

pub same-accepts : (r : Condition) (w : Word) → accepts r w ≡ old_accepts r w
unfolding old_accepts
same-accepts r w = accepts-is r w ∙ ap (some_ends r) (same-sets r w 1)

-- the old test, too, says yes exactly of the words that the condition holds
pub old-words : (r : Condition) (w : Word) → T (old_accepts r w) ↔ Holds r w
old-words r w = subst (λ (b : Bool). T b ↔ Holds r w) (same-accepts r w) (words r w)

-- What the loader takes of it --------------------------------------------------------------------------------------------

-- clause 4 looks for the old set
pub old-clause4 : (events : ℕ) (left right : Condition) (c : Certificate) (i : ℕ) (p : Pair) (e : ℕ)
    → clause4_at events left right c i p e
    ≡ in_order (places left)
    (λ l. unless ((follows left p.place l && leaf_holds left l e) ⇒ listed right c l (old_step right p.set e)) (fault 4 i e l))
unfolding clause4_at step old_step
old-clause4 events left right c i p e = refl

-- the pairs that are reachable by the old sets
pub data OldReachable (events : ℕ) (left right : Condition) : Pair → Type 0 where
  old_start : OldReachable events left right (pair 0 1)
  old_onward : {l s : ℕ} (e q : ℕ) → OldReachable events left right (pair l s) → e < events → T (follows left l q) → T (leaf_holds left q e)
      → OldReachable events left right (pair q (old_step right s e))

pub same-reachable : (events : ℕ) (left right : Condition) (p : Pair) → Reachable events left right p ↔ OldReachable events left right p
same-reachable events left right p = (λ h. to h, λ h. from h)
  where
    to : {p : Pair} → Reachable events left right p → OldReachable events left right p
    to start = old_start
    to (onward {l} {s} e q h below n t) =
        subst (λ (x : ℕ). OldReachable events left right (pair q x)) (sym (same_set right s e)) (old_onward e q (to h) below n t)

    from : {p : Pair} → OldReachable events left right p → Reachable events left right p
    from old_start = start
    from (old_onward {l} {s} e q h below n t) =
        subst (λ (x : ℕ). Reachable events left right (pair q x)) (same_set right s e) (onward e q (from h) below n t)

-- The answers -----------------------------------------------------------------------------------------------------------

-- an answer with the length left out
abbrev pub bare : Answer → OldAnswer
bare held = says true
bare (not_held n) = says false
bare (untested n at) = refuses n at

-- of one of two answers
bare-cond : (b : Bool) (x y : Answer) → bare (cond b x y) ≡ cond b (bare x) (bare y)
bare-cond true x y = refl
bare-cond false x y = refl

bare-tested : (r : Condition) (w : Word) → bare (tested r w) ≡ says (old_accepts r w)
bare-tested r w = go (accepts r w) ∙ ap says (same-accepts r w)
  where
    go : (b : Bool) → bare (cond b held (not_held (longest r w))) ≡ says b
    go true = refl
    go false = refl

bare-unless : (events i : ℕ) (w : Word) (a : Answer) → bare (unless_stray events i w a) ≡ old_unless_stray events i w (bare a)
unfolding unless_stray old_unless_stray
bare-unless events i [] a = refl
bare-unless events i (e ∷ w) a =
    bare-cond (ltb e events) (unless_stray events (suc i) w a) (untested 13 (some i))
    ∙ ap (λ (x : OldAnswer). cond (ltb e events) x (refuses 13 (some i))) (bare-unless events (suc i) w a)

bare-after : (M : Model) (s : List ℕ) (c : ℕ) (w : Word) (x : ReadResult) → bare (tested_after M s c w x) ≡ old_tested_after M s c w x
unfolding tested_after old_tested_after
bare-after M s c w (refusal n at r) = refl
bare-after M s c w (whole r) = within (sheet_read (is_new s) r.own)
  where
    said : Sheet → Answer
    said S = unless_stray M.events 0 w (tested (condition S c) w)

    old : Sheet → OldAnswer
    old S = old_unless_stray M.events 0 w (says (old_accepts (condition S c) w))

    same : (S : Sheet) → bare (said S) ≡ old S
    same S = bare-unless M.events 0 w (tested (condition S c) w) ∙ ap (old_unless_stray M.events 0 w) (bare-tested (condition S c) w)

    within : (S : Sheet)
        → bare (cond (leb (length S.conditions) c) (untested 14 none) (cond (ltb word_limit (length w)) (untested 12 none) (said S)))
        ≡ cond (leb (length S.conditions) c) (refuses 14 none) (cond (ltb word_limit (length w)) (refuses 12 none) (old S))
    within S =
        bare-cond (leb (length S.conditions) c) (untested 14 none) (cond (ltb word_limit (length w)) (untested 12 none) (said S))
        ∙ ap (cond (leb (length S.conditions) c) (refuses 14 none))
        (bare-cond (ltb word_limit (length w)) (untested 12 none) (said S) ∙ ap (cond (ltb word_limit (length w)) (refuses 12 none)) (same S))

-- "Yes and no remain those of the old test", and so do the refusals
pub remains : (M : Model) (s : List ℕ) (c : ℕ) (w : Word) → bare (word_test M s c w) ≡ old_test M s c w
unfolding word_test old_test
remains M s c w = bare-after M s c w (read_sheet M s)
