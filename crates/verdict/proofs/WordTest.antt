-- The word test says yes or no exactly of the words it takes, yes exactly of those that the condition holds, no with the length of the longest beginning that
-- begins a word of the condition, and else names the first refusal.
use mathlib.Core.Path.{◌≡◌, refl, sym, ap, ◌∙◌, subst}
use mathlib.Core.Bool.{Bool, true, false, cond}
use mathlib.Core.Logic.{◌⊎◌, inl, inr, ◌↔◌}
use mathlib.Core.Option.{Option, none, some}
use mathlib.Core.List.{List, [], ◌∷◌}
use Prim.Native.Nat.{ℕ, zero, suc, ◌+◌, ◌≤◌, ◌<◌}
use native.Mathlib.Nat.{not-suc-le-zero, le_of_suc-le-suc}
use native.Mathlib.Omega.{arith}
use lib.ListN.{length, get_or}
use lib.Dec.{T, ltb, leb}
use borrow.Author.Tests.{ltb-true, ltb-false, leb-true, leb-false, lt-ltb, le-ltb, le-leb, lt-leb}
use Rattle.condition.specs.Condition.{Condition, Word, Holds, Longest}
use Rattle.condition.specs.Places.{accepts, longest}
use Rattle.condition.proofs.Words.{words}
use Rattle.condition.proofs.Longest.{longest-meets, longest-only}
use Rattle.sheet.specs.Model.{Model, word_limit}
use Rattle.sheet.specs.Each.{Each, nil, cons}
use Rattle.sheet.specs.Sheet.{condition}
use Rattle.sheet.specs.Reading.{Reading, ReadResult, whole, refusal, read_sheet}
use Rattle.sheet.specs.Decode.{sheet_of}
use Rattle.sheet_laws.proofs.SheetOf.{sheet-is}
use Rattle.verdict.specs.WordTest.{Answer, held, not_held, untested, tested, unless_stray, tested_after, word_test}
use Rattle.verdict.specs.Reply.{answer_reply}
use Rattle.verdict.specs.Promise.{FindsCondition, FirstStray, WordRefusedFor, sheet_refused, no_such_condition, word_too_long, stray_event, TakesWord, TestsWord, TestsAsPromised}
use Rattle.verdict.proofs.Reply.{IsTested, IsHeld, length_in, reply-untested}
use Rattle.verdict.proofs.Models.{word-on-larger, tested-as-before}

-- Yes and no ------------------------------------------------------------------------------------------------------------

module _ (r : Condition) (w : Word) where
  -- yes or no, by whether the places accept the word
  abbrev saying : Bool → Answer
  saying b = cond b held (not_held (longest r w))

  pub tested-either : (tested r w ≡ held) ⊎ ((n : ℕ) × (tested r w ≡ not_held n))
  tested-either = go (accepts r w)
    where
      go : (b : Bool) → (saying b ≡ held) ⊎ ((n : ℕ) × (saying b ≡ not_held n))
      go true = inl refl
      go false = inr (longest r w, refl)

  pub is-tested : IsTested (tested r w)
  is-tested = go (accepts r w)
    where
      go : (b : Bool) → IsTested (saying b)
      go true = tt
      go false = tt

  -- yes exactly of the words that the condition holds
  pub tested-yes : (tested r w ≡ held) ↔ Holds r w
  tested-yes = (λ e. (words r w).0 (out (accepts r w) e), λ h. within (accepts r w) ((words r w).1 h))
    where
      out : (b : Bool) → saying b ≡ held → T b
      out true e = tt
      out false e = absurd (subst IsHeld (sym e) tt)

      within : (b : Bool) → T b → saying b ≡ held
      within true t = refl
      within false t = absurd t

  -- no exactly of the others, with the length of the longest beginning
  pub tested-no : (n : ℕ) → (tested r w ≡ not_held n) ↔ ((Holds r w → ⊥) × Longest r w n)
  tested-no n = (
    λ e. let (lacks, same) = out (accepts r w) e in (λ h. lacks ((words r w).1 h), subst (Longest r w) same (longest-meets r w)),
    λ x. within (accepts r w) (λ t. x.0 ((words r w).0 t)) ∙ ap not_held (sym (longest-only r w n x.1)),
  )
    where
      out : (b : Bool) → saying b ≡ not_held n → (T b → ⊥) × (longest r w ≡ n)
      out true e = absurd (subst IsHeld e tt)
      out false e = (λ t. t, ap length_in e)

      within : (b : Bool) → (T b → ⊥) → saying b ≡ not_held (longest r w)
      within true f = absurd (f tt)
      within false f = refl

-- Stray events ----------------------------------------------------------------------------------------------------------

stray-is : (n i e : ℕ) (w : Word) (a : Answer) → unless_stray n i (e ∷ w) a ≡ cond (ltb e n) (unless_stray n (suc i) w a) (untested 13 (some i))
unfolding unless_stray
stray-is n i e w a = refl

module _ (n : ℕ) (a : Answer) where
  one-past : (i e : ℕ) (w : Word) → e < n → unless_stray n i (e ∷ w) a ≡ unless_stray n (suc i) w a
  one-past i e w l = stray-is n i e w a ∙ ap (λ (b : Bool). cond b (unless_stray n (suc i) w a) (untested 13 (some i))) (lt-ltb e n l)

  none_stray : (i : ℕ) {w : Word} → Each (λ e. e < n) w → unless_stray n i w a ≡ a
  unfolding unless_stray
  none_stray i nil = refl
  none_stray i (cons {x = e} {xs = w} l o) = one-past i e w l ∙ none_stray (suc i) o

  stray-from : (i : ℕ) (w : Word) (j : ℕ) → FirstStray n w j → unless_stray n i w a ≡ untested 13 (some (i + j))
  stray-from i [] j f = absurd (not-suc-le-zero f.inside)
  stray-from i (e ∷ w) zero f =
      let here : i ≡ i + 0 = omega arith in
      stray-is n i e w a
      ∙ ap (λ (b : Bool). cond b (unless_stray n (suc i) w a) (untested 13 (some i))) (le-ltb e n f.stray)
      ∙ ap (λ (k : ℕ). untested 13 (some k)) here
  stray-from i (e ∷ w) (suc j) f =
      let next : suc i + j ≡ i + suc j = omega arith in
      let rest : FirstStray n w j =
      record { inside = le_of_suc-le-suc f.inside; before = λ k h. f.before (suc k) (omega (arith, h)); stray = f.stray } in
      one-past i e w (f.before 0 (omega arith)) ∙ stray-from (suc i) w j rest ∙ ap (λ (k : ℕ). untested 13 (some k)) next

-- every event is one, or there is a first that is none
data Strays (n : ℕ) (w : Word) : Type 0 where
  none_is : Each (λ e. e < n) w → Strays n w
  first_is : (i : ℕ) → FirstStray n w i → Strays n w

strays : (n : ℕ) (w : Word) → Strays n w
strays n [] = none_is nil
strays n (e ∷ w) = go (ltb e n) refl (strays n w)
  where
    later : e < n → (i : ℕ) → FirstStray n w i → FirstStray n (e ∷ w) (suc i)
    later l i f = record { inside = omega (arith, f.inside); before = earlier; stray = f.stray }
      where
        earlier : (j : ℕ) → j < suc i → get_or (e ∷ w) j 0 < n
        earlier zero h = l
        earlier (suc j) h = f.before j (omega (arith, h))

    go : (b : Bool) → ltb e n ≡ b → Strays n w → Strays n (e ∷ w)
    go true l (none_is o) = none_is (cons (ltb-true e n l) o)
    go true l (first_is i f) = first_is (suc i) (later (ltb-true e n l) i f)
    go false l rest = first_is 0 (record { inside = omega arith; before = λ j h. absurd (not-suc-le-zero h); stray = ltb-false e n l })

-- The whole -------------------------------------------------------------------------------------------------------------

module _ (M : Model) (s : List ℕ) (c : ℕ) (w : Word) where
  abbrev pub said : Answer
  said = tested (condition (sheet_of M s) c) w

  abbrev too_long : Answer
  too_long = cond (ltb word_limit (length w)) (untested 12 none) (unless_stray M.events 0 w said)

  test-is : word_test M s c w ≡ tested_after M s c w (read_sheet M s)
  unfolding word_test
  test-is = refl

  after-whole : (r : Reading) → read_sheet M s ≡ whole r → tested_after M s c w (whole r) ≡ cond (leb (length (sheet_of M s).conditions) c) (untested 14 none) too_long
  unfolding tested_after
  after-whole r read = rw (sheet-is M s r read)

  after-refusal : (n at : ℕ) (r : Reading) → tested_after M s c w (refusal n at r) ≡ untested n (some at)
  unfolding tested_after
  after-refusal n at r = refl

  -- By what applies -------------------------------------------------------------------------------------------------------

  whole_is : {r : Reading} → read_sheet M s ≡ whole r → (b : Bool) → leb (length (sheet_of M s).conditions) c ≡ b
      → word_test M s c w ≡ cond b (untested 14 none) too_long
  whole_is {r} read b e =
      test-is ∙ (ap (tested_after M s c w) read ∙ (after-whole r read ∙ ap (λ (x : Bool). cond x (untested 14 none) too_long) e))

  found-is : FindsCondition M s c → (b : Bool) → ltb word_limit (length w) ≡ b
      → word_test M s c w ≡ cond b (untested 12 none) (unless_stray M.events 0 w said)
  found-is f b e =
      whole_is f.read false (lt-leb _ c f.exists) ∙ ap (λ (x : Bool). cond x (untested 12 none) (unless_stray M.events 0 w said)) e

  pub refused-in : {n : ℕ} {at : Option ℕ} → WordRefusedFor M s c w n at → word_test M s c w ≡ untested n at
  refused-in (sheet_refused {n} {at} {r} e) = test-is ∙ (ap (tested_after M s c w) e ∙ after-refusal n at r)
  refused-in (no_such_condition read h) = whole_is read true (le-leb _ c h)
  refused-in (word_too_long f h) = found-is f true (lt-ltb word_limit _ h)
  refused-in (stray_event {i} f short first) =
      let here : 0 + i ≡ i = omega arith in
      found-is f false (le-ltb word_limit _ short) ∙ stray-from M.events said 0 w i first ∙ ap (λ (k : ℕ). untested 13 (some k)) here

  pub taken_in : TakesWord M s c w → word_test M s c w ≡ said
  taken_in t = found-is t.found false (le-ltb word_limit _ t.short) ∙ none_stray M.events said 0 t.none_stray

  -- refused for the first refusal that applies, or the word is tested
  data Decided : Type 0 where
    refuses : (n : ℕ) (at : Option ℕ) → WordRefusedFor M s c w n at → Decided
    tests : TakesWord M s c w → Decided

  decided : Decided
  decided = by-reading (read_sheet M s) refl
    where
      by-events : FindsCondition M s c → length w ≤ word_limit → Strays M.events w → Decided
      by-events f short (none_is o) = tests (record { found = f; short = short; none_stray = o })
      by-events f short (first_is i x) = refuses 13 (some i) (stray_event f short x)

      by_length : FindsCondition M s c → (b : Bool) → ltb word_limit (length w) ≡ b → Decided
      by_length f true e = refuses 12 none (word_too_long f (ltb-true word_limit (length w) e))
      by_length f false e = by-events f (ltb-false word_limit (length w) e) (strays M.events w)

      by_number : (r : Reading) → read_sheet M s ≡ whole r → (b : Bool) → leb (length (sheet_of M s).conditions) c ≡ b → Decided
      by_number r read true e = refuses 14 none (no_such_condition read (leb-true _ c e))
      by_number r read false e = by_length (record { reading = r; read = read; exists = leb-false _ c e }) (ltb word_limit (length w)) refl

      by-reading : (x : ReadResult) → read_sheet M s ≡ x → Decided
      by-reading (refusal n at r) e = refuses n (some at) (sheet_refused e)
      by-reading (whole r) e = by_number r e (leb (length (sheet_of M s).conditions) c) refl

  taken_out : {answer : Answer} → word_test M s c w ≡ answer → IsTested answer → TakesWord M s c w
  taken_out h said_of = go decided
    where
      go : Decided → TakesWord M s c w
      go (refuses n at f) = absurd (subst IsTested (sym h ∙ refused-in f) said_of)
      go (tests t) = t

  abbrev RefusalIn : Answer → Type 0
  RefusalIn held = ⊥
  RefusalIn (not_held n) = ⊥
  RefusalIn (untested n at) = WordRefusedFor M s c w n at

  refused-out : (n : ℕ) (at : Option ℕ) → word_test M s c w ≡ untested n at → WordRefusedFor M s c w n at
  refused-out n at h = go decided
    where
      go : Decided → WordRefusedFor M s c w n at
      go (refuses k o f) = subst RefusalIn (sym (refused-in f) ∙ h) f
      go (tests t) = absurd (subst IsTested (sym (taken_in t) ∙ h) (is-tested (condition (sheet_of M s) c) w))

  yes-out : TakesWord M s c w → word_test M s c w ≡ held → TakesWord M s c w × Holds (condition (sheet_of M s) c) w
  yes-out t e = (t, (tested-yes (condition (sheet_of M s) c) w).0 (sym (taken_in t) ∙ e))

  no-out : (n : ℕ) → TakesWord M s c w → word_test M s c w ≡ not_held n
      → TakesWord M s c w × (Holds (condition (sheet_of M s) c) w → ⊥) × Longest (condition (sheet_of M s) c) w n
  no-out n t e = let (lacks, most) = (tested-no (condition (sheet_of M s) c) w n).0 (sym (taken_in t) ∙ e) in (t, lacks, most)

  -- what the word test promises is true of the definition's answer
  pub tests-word : TestsWord M s c w (word_test M s c w)
  tests-word =
      record {
        stated = refl;
        yes_iff = (λ e. yes-out (taken_out e tt) e, λ x. taken_in x.0 ∙ (tested-yes (condition (sheet_of M s) c) w).1 x.1);
        no_iff = λ n. (λ e. no-out n (taken_out e tt) e, λ x. taken_in x.0 ∙ (tested-no (condition (sheet_of M s) c) w n).1 (x.1, x.2));
        tests_all = λ t. subst (λ (a : Answer). (a ≡ held) ⊎ ((n : ℕ) × (a ≡ not_held n))) (sym (taken_in t)) (tested-either (condition (sheet_of M s) c) w);
        refused_iff = λ n at. (λ e. refused-out n at (reply-untested (word_test M s c w) n at e), λ f. ap answer_reply (refused-in f));
        on_larger = λ M' N. word-on-larger M M' N s c w;
        as_before = λ k l. tested-as-before M s k l c w;
      }

pub tests-as-promised : (M : Model) → TestsAsPromised M
tests-as-promised M s c w = tests-word M s c w
