-- Request 8: what an instrument answers, beside one that is no smaller. An answer depends on the instrument by what is read and by the number of events
-- alone. And "judged as before": beside the same instrument with more kinds, of which a sheet may have none.
use mathlib.Core.Path.{◌≡◌, refl, sym, ap, ap₂, ◌∙◌, subst}
use mathlib.Core.Bool.{Bool, true, false, cond}
use mathlib.Core.Option.{none, some}
use mathlib.Core.List.{List, [], ◌∷◌}
use Prim.Native.Nat.{ℕ, suc, ◌+◌, ◌≤◌, ◌<◌}
use native.Mathlib.Omega.{arith}
use lib.ListN.{length, get_or}
use lib.Dec.{eqb, ltb, leb}
use borrow.Author.Tests.{ltb-true, ltb-false}
use Rattle.condition.specs.Condition.{Word}
use Rattle.certificate.specs.Certificate.{Certificate, Finding}
use Rattle.certificate.proofs.Events.{check-more}
use Rattle.sheet.specs.Model.{Model, NoMoreEvents, as_many, fewer as fewer-events, NoLarger, with_kinds, word_limit}
use Rattle.sheet.specs.Each.{Each, nil, cons}
use Rattle.sheet.specs.Record.{Bytes}
use Rattle.sheet.specs.Sheet.{Sheet, condition}
use Rattle.sheet.specs.Reading.{Reading, fresh, is_new, ReadResult, whole, refusal, read_sheet}
use Rattle.sheet.specs.Decode.{sheet_read}
use Rattle.runs.specs.Rules.{Claim, ◌is_in◌, holds_empty, Rule, rules, rules_from, count}
use Rattle.sheet_laws.proofs.Models.{ReadsLike, too_long as reads-too-long, over-limit as reads-over-limit, unknown_kind as reads-unknown-kind, step_above as reads-step-above, the_same as reads-the-same, reads-like}
use Rattle.sheet_laws.proofs.SheetOf.{sheet-is}
use Rattle.sheet_laws.proofs.Before.{WithoutKindsAbove, fewer-kinds, reads-as-before}
use Rattle.verdict.specs.Verdict.{Report, accepted, refused, test_of, certificates_needed, next_of, left_after, reported, first_fault, judged, verdict_after, verdict_of}
use Rattle.verdict.specs.WordTest.{Answer, tested, untested, unless_stray, tested_after, word_test}
use Rattle.verdict.specs.Reply.{Reply, ◌giving◌, reply_of, answer_reply}
use Rattle.verdict.specs.Promise.{LikeLarger, too_long, over-limit, unknown_kind, step_above, the_same, TestsLikeLarger, as_loaded, word_above, OnLarger, ModelsAgree, AsBefore, of_new_kind, the_same_answer}
use Rattle.verdict.proofs.Reply.{IsAccepted, same_number, reply-refused}
use Rattle.verdict.proofs.RulesMet.{LeftBelow, all-below}

-- What follows from being like the larger one's answer -------------------------------------------------------------------

module _ (M M' : Model) (s : List ℕ) (a b : Report) where
  accepted_too : LikeLarger reply_of M M' s a b → (n : ℕ) → a ≡ accepted n → b ≡ accepted n
  accepted_too (too_long fewer e) n h = absurd (subst IsAccepted (sym h ∙ reply-refused a _ _ e) tt)
  accepted_too (over-limit fewer e) n h = absurd (subst IsAccepted (sym h ∙ reply-refused a _ _ e) tt)
  accepted_too (unknown_kind above taken e) n h = absurd (subst IsAccepted (sym h ∙ reply-refused a _ _ e) tt)
  accepted_too (step_above event above below e) n h = absurd (subst IsAccepted (sym h ∙ reply-refused a _ _ e) tt)
  accepted_too (the_same e) n h = sym e ∙ h

  refused_too : LikeLarger reply_of M M' s a b → (n : ℕ) (values : List ℕ) → reply_of a ≡ n giving values
      → (n ≡ 1 → ⊥) → (n ≡ 6 → ⊥) → (n ≡ 2 → M.kinds ≡ M'.kinds) → (n ≡ 7 → M.events ≡ M'.events) → reply_of b ≡ n giving values
  refused_too (too_long fewer e) n values h not1 not6 kinds events = absurd (not1 (same_number (sym h ∙ e)))
  refused_too (over-limit fewer e) n values h not1 not6 kinds events = absurd (not6 (same_number (sym h ∙ e)))
  refused_too (unknown_kind above taken e) n values h not1 not6 kinds events = absurd (omega (arith, above, taken, kinds (same_number (sym h ∙ e))))
  refused_too (step_above event above below e) n values h not1 not6 kinds events = absurd (omega (arith, above, below, events (same_number (sym h ∙ e))))
  refused_too (the_same e) n values h not1 not6 kinds events = ap reply_of (sym e) ∙ h

-- as many bytes and points: 1 and 6 are the same answer
pub as_before : {A : Type 0} (reply : A → Reply) (k : ℕ) (M : Model) (s : List ℕ) {a b : A} → LikeLarger reply (with_kinds k M) M s a b
    → AsBefore reply k M s a b
as_before reply k M s (too_long fewer e) = absurd (omega (arith, fewer))
as_before reply k M s (over-limit fewer e) = absurd (omega (arith, fewer))
as_before reply k M s (unknown_kind above taken e) = of_new_kind above taken e
as_before reply k M s (step_above event above below e) = absurd (omega (arith, above, below))
as_before reply k M s (the_same e) = the_same_answer e

pub word-as-before : (k : ℕ) (M : Model) (s : List ℕ) {w : Word} {a b : Answer} → TestsLikeLarger (with_kinds k M) M s w a b
    → AsBefore answer_reply k M s a b
word-as-before k M s (as_loaded like) = as_before answer_reply k M s like
word-as-before k M s (word_above above below e) = absurd (omega (arith, above, below))

-- The answers ---------------------------------------------------------------------------------------------------------------

-- a model with so many events
abbrev with : ℕ → Model
with events = record { bytes = 0; points = 0; events = events; kinds = 0 }

-- with as many events
module _ (M M' : Model) (e : M.events ≡ M'.events) (s : List ℕ) where
  same-verdict : (x : ReadResult) → verdict_after M s x ≡ verdict_after M' s x
  unfolding verdict_after
  same-verdict (whole r) = ap (λ (events : ℕ). verdict_after (with events) s (whole r)) e
  same-verdict (refusal n at r) = refl

  same-tested : (c : ℕ) (w : Word) (x : ReadResult) → tested_after M s c w x ≡ tested_after M' s c w x
  unfolding tested_after
  same-tested c w (whole r) = ap (λ (events : ℕ). tested_after (with events) s c w (whole r)) e
  same-tested c w (refusal n at r) = refl

-- rules whose left sides have only events below n are tested alike over n events and over more
test-more : (n n' : ℕ) → n ≤ n' → (claim : Claim) → LeftBelow n claim → (c : Certificate) → test_of n claim c ≡ test_of n' claim c
test-more n n' l (a is_in b) below c = check-more n n' l a b below c
test-more n n' l (holds_empty a) below c = refl

faults-more : (n n' : ℕ) → n ≤ n' → {xs : List Rule} → Each (λ (x : Rule). LeftBelow n x.claim) xs → (cs : List Certificate) (otherwise : Report)
    → first_fault n xs cs otherwise ≡ first_fault n' xs cs otherwise
unfolding first_fault
faults-more n n' l nil cs otherwise = refl
faults-more n n' l (cons {x = x} below more) cs otherwise =
    ap₂ (λ (f : Finding) (after : Report). reported x f after) (test-more n n' l x.claim below (next_of cs))
    (faults-more n n' l more (left_after x.claim cs) otherwise)

-- a word over n events and over more: 13 at the first event that is not below n, if it is below the other number, or the same
data StraysLike (n n' i : ℕ) (w : Word) (a b : Answer) : Type 0 where
  above_here : (j : ℕ) → n ≤ get_or w j 0 → get_or w j 0 < n' → a ≡ untested 13 (some (i + j)) → StraysLike n n' i w a b
  strays_same : a ≡ b → StraysLike n n' i w a b

strays-like : (n n' : ℕ) → n ≤ n' → (i : ℕ) (w : Word) (o : Answer) → StraysLike n n' i w (unless_stray n i w o) (unless_stray n' i w o)
unfolding unless_stray
strays-like n n' l i [] o = strays_same refl
strays-like n n' l i (e ∷ w) o = go (ltb e n) refl (ltb e n') refl (strays-like n n' l (suc i) w o)
  where
    later : {a b : Answer} → StraysLike n n' (suc i) w a b → StraysLike n n' i (e ∷ w) a b
    later (above_here j above below h) = above_here (suc j) above below (h ∙ ap (λ (k : ℕ). untested 13 (some k)) (omega arith))
    later (strays_same h) = strays_same h

    go : (b : Bool) → ltb e n ≡ b → (c : Bool) → ltb e n' ≡ c → {x y : Answer} → StraysLike n n' (suc i) w x y
        → StraysLike n n' i (e ∷ w) (cond b x (untested 13 (some i))) (cond c y (untested 13 (some i)))
    go true f true g like = later like
    go true f false g like = absurd (omega (arith, l, ltb-true e n f, ltb-false e n' g))
    go false f true g like = above_here 0 (ltb-false e n f) (ltb-true e n' g) (ap (λ (k : ℕ). untested 13 (some k)) (omega arith))
    go false f false g like = strays_same refl

module _ (M M' : Model) (N : NoLarger M M') (s : List ℕ) where
  verdict-after : {x y : ReadResult} → ((r : Reading) → x ≡ whole r → verdict_after M s (whole r) ≡ verdict_after M' s (whole r))
      → ReadsLike M M' s x y → LikeLarger reply_of M M' s (verdict_after M s x) (verdict_after M' s y)
  unfolding verdict_after
  verdict-after same (reads-too-long r fewer) = too_long fewer refl
  verdict-after same (reads-over-limit at r fewer) = over-limit fewer refl
  verdict-after same (reads-unknown-kind at r above taken) = unknown_kind above taken refl
  verdict-after same (reads-step-above at r event above below) = step_above event above below refl
  verdict-after same (reads-the-same {x}) = the_same (go x same)
    where
      go : (x : ReadResult) → ((r : Reading) → x ≡ whole r → verdict_after M s (whole r) ≡ verdict_after M' s (whole r)) → verdict_after M s x ≡ verdict_after M' s x
      go (whole r) same = same r refl
      go (refusal n at r) same = refl

  -- a sheet that is read whole is judged alike
  judged-like : Bytes s → (r : Reading) → read_sheet M s ≡ whole r → verdict_after M s (whole r) ≡ verdict_after M' s (whole r)
  unfolding verdict_after judged rules
  judged-like bytes r read = go N.events
    where
      S : Sheet
      S = sheet_read (is_new s) r.own

      go : NoMoreEvents M M' → verdict_after M s (whole r) ≡ verdict_after M' s (whole r)
      go (as_many e) = same-verdict M M' e s (whole r)
      go (fewer-events wide less) =
          let below = subst (λ (S : Sheet). Each (λ (x : Rule). LeftBelow M.events x.claim) (rules_from (0 ∷ []) S)) (sheet-is M s r read)
          (all-below M s wide bytes r read (0 ∷ [])) in
          ap (λ (first : Report). cond (eqb (length S.certificates) (certificates_needed (rules S))) first (refused 10 (some (length s))))
          (faults-more M.events M'.events (omega (arith, less)) below S.certificates (accepted (count S)))

  pub verdict-like : Bytes s → LikeLarger reply_of M M' s (verdict_of M s) (verdict_of M' s)
  unfolding verdict_of read_sheet
  verdict-like bytes = verdict-after (judged-like bytes) (reads-like M M' N s fresh)

  pub on_larger : Bytes s → OnLarger M M' s (verdict_of M s) (verdict_of M' s)
  on_larger bytes =
      record {
        like = verdict-like bytes;
        accepted_too = accepted_too M M' s (verdict_of M s) (verdict_of M' s) (verdict-like bytes);
        refused_too = refused_too M M' s (verdict_of M s) (verdict_of M' s) (verdict-like bytes);
      }

  module _ (c : ℕ) (w : Word) where
    abbrev Like : Answer → Answer → Type 0
    Like = TestsLikeLarger M M' s w

    from-strays : {a b : Answer} → StraysLike M.events M'.events 0 w a b → Like a b
    from-strays (above_here j above below h) = word_above above below (ap answer_reply h ∙ ap (λ (k : ℕ). 13 giving (k ∷ [])) (omega arith))
    from-strays (strays_same h) = as_loaded (the_same h)

    -- 14 and 12 come before
    behind : (b : Bool) (x : Answer) {y z : Answer} → Like y z → Like (cond b x y) (cond b x z)
    behind true x like = as_loaded (the_same refl)
    behind false x like = like

    tested-like : (x : ReadResult) → Like (tested_after M s c w x) (tested_after M' s c w x)
    unfolding tested_after
    tested-like x = go N.events x
      where
        go : NoMoreEvents M M' → (x : ReadResult) → Like (tested_after M s c w x) (tested_after M' s c w x)
        go (as_many e) x = as_loaded (the_same (same-tested M M' e s c w x))
        go (fewer-events wide less) (refusal n at r) = as_loaded (the_same refl)
        go (fewer-events wide less) (whole r) =
            behind (leb (length (sheet_read (is_new s) r.own).conditions) c) (untested 14 none)
            (behind (ltb word_limit (length w)) (untested 12 none)
            (from-strays (strays-like M.events M'.events (omega (arith, less)) 0 w (tested (condition (sheet_read (is_new s) r.own) c) w))))

    tested-after : {x y : ReadResult} → ReadsLike M M' s x y → Like (tested_after M s c w x) (tested_after M' s c w y)
    unfolding tested_after
    tested-after (reads-too-long r fewer) = as_loaded (too_long fewer refl)
    tested-after (reads-over-limit at r fewer) = as_loaded (over-limit fewer refl)
    tested-after (reads-unknown-kind at r above taken) = as_loaded (unknown_kind above taken refl)
    tested-after (reads-step-above at r event above below) = as_loaded (step_above event above below refl)
    tested-after (reads-the-same {x}) = tested-like x

    pub word-on-larger : Like (word_test M s c w) (word_test M' s c w)
    unfolding word_test
    word-on-larger = tested-after (reads-like M M' N s fresh)

pub models-agree : ModelsAgree
models-agree M M' N s bytes = (on_larger M M' N s bytes, word-on-larger M M' N s)

-- Before the kinds above k ----------------------------------------------------------------------------------------------------

module _ (M : Model) (s : List ℕ) (k : ℕ) (l : k ≤ M.kinds) where
  pub judged-as-before : AsBefore reply_of k M s (verdict_of (with_kinds k M) s) (verdict_of M s)
  unfolding verdict_of
  judged-as-before =
      as_before reply_of k M s
      (verdict-after (with_kinds k M) M (fewer-kinds k M l) s (λ r read. same-verdict (with_kinds k M) M refl s (whole r)) (reads-like (with_kinds k M) M (fewer-kinds k M l) s fresh))

  pub tested-as-before : (c : ℕ) (w : Word) → AsBefore answer_reply k M s (word_test (with_kinds k M) s c w) (word_test M s c w)
  tested-as-before c w = word-as-before k M s (word-on-larger (with_kinds k M) M (fewer-kinds k M l) s c w)

  -- sheets without the kinds above k are judged as before: the same verdict, and the same answer of the word test
  module _ (without : WithoutKindsAbove k M s) where
    pub judged-the-same : verdict_of (with_kinds k M) s ≡ verdict_of M s
    unfolding verdict_of
    judged-the-same =
        ap (verdict_after (with_kinds k M) s) (reads-as-before k M l s without) ∙ same-verdict (with_kinds k M) M refl s (read_sheet M s)

    pub tested-the-same : (c : ℕ) (w : Word) → word_test (with_kinds k M) s c w ≡ word_test M s c w
    unfolding word_test
    tested-the-same c w =
        ap (tested_after (with_kinds k M) s c w) (reads-as-before k M l s without) ∙ same-tested (with_kinds k M) M refl s c w (read_sheet M s)
