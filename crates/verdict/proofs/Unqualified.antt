-- The loaders and word tests that "do not qualify" in document 01: of each, an input at which its answer breaks the promise, by the part of it that
-- speaks for the demand named there, alone; and word tests whose no carries another number than document 02, Ask 3, says. And the other way round: what
-- each part alone makes of an answer.
use mathlib.Core.Path.{◌≡◌, refl, sym, ◌∙◌, subst}
use mathlib.Core.Logic.{inl, inr, ⊎_elim}
use mathlib.Core.Option.{Option, none, some}
use mathlib.Core.List.{List, [], ◌∷◌, ◌++◌}
use Prim.Native.Nat.{ℕ, zero, suc, ◌≤◌, ◌<◌}
use native.Mathlib.Omega.{arith}
use lib.ListN.{length, take, drop}
use Rattle.condition.specs.Condition.{Condition, Word, leaf, empty, Holds, Begins}
use Rattle.condition.specs.Places.{nullable, accepts, longest}
use Rattle.condition.proofs.Words.{words}
use Rattle.condition.proofs.Longest.{live-begins}
use Rattle.certificate.specs.Certificate.{Fault, check}
use Rattle.sheet.specs.Model.{Model, large}
use Rattle.sheet.specs.Each.{Each, nil, cons}
use Rattle.sheet.specs.Sheet.{normal, condition, owner}
use Rattle.sheet.specs.Reading.{ReadResult, whole, refusal, read_sheet}
use Rattle.sheet.specs.Decode.{sheet_of}
use Rattle.sheet.proofs.Each.{each-head, each_tail}
use Rattle.runs.specs.Rules.{◌is_in◌, rules, count}
use Rattle.runs.specs.Runs.{return, by_step, run}
use Rattle.runs.specs.Owing.{ToldApart}
use Rattle.verdict.specs.Verdict.{Report, accepted, refused, unproved, certificates_needed}
use Rattle.verdict.specs.WordTest.{Answer, held, not_held, untested}
use Rattle.verdict.specs.Reply.{◌giving◌, reply_of, answer_reply}
use Rattle.verdict.specs.Promise.{WellFormed, EachCertified, done, bare, certified, Passes, FirstFault, RefusedFor, while_reading, wrong_count, AnswerForm, with_count, with_place, with_fault, Loads, WordRefusedFor, sheet_refused, no_such_condition, word_too_long, stray_event, TakesWord, TestsWord}
use Rattle.verdict.specs.Cases.{method0, three_starts, M, M', W}
use Rattle.verdict.proofs.Parts.{record_of, owned}
use Rattle.verdict.proofs.Reply.{IsAccepted, IsTested}
use Rattle.verdict.proofs.Judged.{pass_all, fault-found}
use Rattle.verdict.proofs.RulesMet.{all_pass}
use Rattle.verdict.proofs.Witnesses.{M-premises}
use Rattle.verdict.proofs.Examples.{with_set0}

-- Answers told apart ------------------------------------------------------------------------------------------------------

abbrev IsWhole : ReadResult → Type 0
IsWhole (whole r) = Unit {0}
IsWhole (refusal n at r) = ⊥

-- Demand 1 ------------------------------------------------------------------------------------------------------------------

-- a refusal without a place
abbrev HasPlace : Report → Type 0
HasPlace (accepted n) = Unit {0}
HasPlace (refused n none) = ⊥
HasPlace (refused n (some at)) = Unit {0}
HasPlace (unproved r k f) = Unit {0}

has-place : {x : Report} → AnswerForm x → HasPlace x
has-place (with_count n) = tt
has-place (with_place n at) = tt
has-place (with_fault r k f) = tt

refused-nowhere : (s : List ℕ) (n : ℕ) → Loads large s (refused n none) → ⊥
refused-nowhere s n l = has-place l.total

-- Demand 2 ------------------------------------------------------------------------------------------------------------------

M-passes : EachCertified (Passes 32) (rules (sheet_of large M)) (sheet_of large M).certificates
M-passes = all_pass 32 M-premises.exact M-premises.true_rules

-- "one accepting with an invented count"
invented-count : Loads large M (accepted 7) → ⊥
unfolding sheet_of count
invented-count l = let (w, p, e) = (l.accepted_iff 7).0 refl in omega (arith, e)

-- well formed, and all tests pass: accepted, with the count
accepts-M : {answer : Report} → Loads large M answer → answer ≡ accepted 6
unfolding sheet_of count
accepts-M l = (l.accepted_iff 6).1 (M-premises.well_formed, M-passes, refl)

-- a clause that fails at pair 0, with event and place 0
abbrev fails_first : ℕ → Fault
fails_first clause = record { clause = clause; pair = 0; event = 0; place = 0 }

-- "one giving 11 before it reads a pair"
unproved-at-once : Loads large M (unproved 3 0 (fails_first 1)) → ⊥
unproved-at-once l =
    let (w, f) = (l.unproved_iff 3 0 (fails_first 1)).0 refl in
    subst IsAccepted (sym (pass_all 32 (accepted 6) M-passes) ∙ fault-found 32 (accepted 6) f) tt

-- well formed, and this is the first fault: 11, with its six values
M'-well-formed : WellFormed large M'
unfolding sheet_of rules certificates_needed
M'-well-formed = record { reading = _; read = refl; enough = refl }

M'-fault : FirstFault 32 (rules (sheet_of large M')) (sheet_of large M').certificates 5 0 (fails_first 3)
unfolding sheet_of rules check nullable
M'-fault =
    record {
      before = take 4 (rules (sheet_of large M'));
      failing = empty is_in leaf 1;
      after = drop 5 (rules (sheet_of large M'));
      used = take 1 (sheet_of large M').certificates;
      unused = drop 1 (sheet_of large M').certificates;
      rules_are = refl;
      certificates_are = refl;
      before_pass = bare refl (bare refl (certified refl (bare refl done)));
      fails = refl;
    }

names-fault : {answer : Report} → Loads large M' answer → reply_of answer ≡ 11 giving (5 ∷ 0 ∷ 3 ∷ 0 ∷ 0 ∷ 0 ∷ [])
names-fault l = (l.unproved_iff 5 0 (fails_first 3)).1 (M'-well-formed, M'-fault)

-- "one refusing all"
refusing-all : Loads large M (refused 2 (some 0)) → ⊥
refusing-all l = go ((l.refused_iff 2 0).0 refl) refl
  where
    go : {n at : ℕ} → RefusedFor large M n at → n ≡ 2 → ⊥
    go (while_reading e) z = subst IsWhole (sym M-premises.well_formed.read ∙ e) tt
    go (wrong_count read others) z = omega (arith, z)

-- a refusal that applies is given: while reading, and of too few certificates
refuses-nothing : {answer : Report} → Loads large [] answer → reply_of answer ≡ 9 giving (0 ∷ [])
unfolding read_sheet
refuses-nothing l = (l.refused_iff 9 0).1 (while_reading refl)

refuses-few : {answer : Report} → Loads large (take 20 M) answer → reply_of answer ≡ 10 giving (20 ∷ [])
unfolding sheet_of rules certificates_needed
refuses-few l = (l.refused_iff 10 20).1 (wrong_count {r = _} refl (λ e. omega (arith, e)))

-- "result and contents are the definition's": there is one answer
one_answer : {I : Model} {s : List ℕ} {a b : Report} → Loads I s a → Loads I s b → a ≡ b
one_answer l k = l.stated ∙ sym k.stated

-- Demand 3 ------------------------------------------------------------------------------------------------------------------

-- "one checking the first certificate and waving the others by", and "one accepting all": method 0 of M' returns at once, and its trace lacks the
-- empty word
not-safe : (n : ℕ) → Loads large M' (accepted n) → ⊥
unfolding sheet_of run accepts
not-safe n l = (words (leaf 1) []).1 (each-head (l.sound n refl (return normal ∷ [])).raised_well)

-- and its rule 5 is false
not-true : (n : ℕ) → Loads large M' (accepted n) → ⊥
unfolding sheet_of rules accepts
not-true n l = (words (leaf 1) []).1 (each-head (each_tail (each_tail (each_tail (each_tail (l.rules_met n refl))))) [] refl)

-- activations are told apart in the runs of a refused sheet too
told-of-nothing : {answer : Report} → Loads large [] answer → ToldApart (sheet_of large []) 0 (return normal ∷ [])
told-of-nothing l = l.told_apart (return normal ∷ [])

-- Request 9: M with the owner 0 for its point, and with a second method whose own point the first one calls into. Where all points have owners, a state of a
-- run at a point of another method than the active one is none that the promise lets be: here after no move, and after a call.
abbrev owned_m : List ℕ
owned_m = (0x02 ∷ 0x06 ∷ []) ++ (owned 0 ++ (method0 0 ++ three_starts))

its-owner : {answer : Report} → Loads large owned_m answer → owner (sheet_of large owned_m) 0 ≡ some 0
unfolding sheet_of run
its-owner l = l.owned _ refl (cons refl nil) []

-- points 0 and 1 of methods 0 and 1, whose bodies they are, and a call of method 1 at point 0
abbrev owned_call : List ℕ
owned_call =
    (0x02 ∷ 0x06 ∷ [])
    ++ (owned 0 ++ (owned 1 ++ (method0 0 ++ (record_of 0x09 (0 ∷ 0 ∷ 0 ∷ 1 ∷ 1 ∷ []) ++ record_of 0x0B (0 ∷ 0 ∷ 1 ∷ [])))))

called-owner : {answer : Report} → Loads large owned_call answer → owner (sheet_of large owned_call) 1 ≡ some 1
unfolding sheet_of run
called-owner l = l.owned _ refl (cons refl (cons refl nil)) (by_step 0 normal [] ∷ [])

-- The word test ---------------------------------------------------------------------------------------------------------------

-- "a word test with a constant reply": no, yes, and a refusal
always-no : (n : ℕ) → TestsWord large W 0 [] (not_held n) → ⊥
unfolding sheet_of accepts
always-no n t = ((t.no_iff n).0 refl).1 ((words (condition (sheet_of large W) 0) []).0 tt)

always-yes : TestsWord large W 0 (0 ∷ []) held → ⊥
unfolding sheet_of accepts
always-yes t = (words (condition (sheet_of large W) 0) (0 ∷ [])).1 (t.yes_iff.0 refl).1

W-taken : TakesWord large W 0 []
unfolding sheet_of
W-taken = record { found = record { reading = _; read = refl; exists = omega arith }; short = omega arith; none_stray = nil }

never-tests : TestsWord large W 0 [] (untested 12 none) → ⊥
never-tests t = ⊎_elim (λ e. subst IsTested (sym e) tt) (λ x. subst IsTested (sym x.1) tt) (t.tests_all W-taken)

too-long-for-nothing : TestsWord large W 0 [] (untested 12 none) → ⊥
too-long-for-nothing t = go ((t.refused_iff 12 none).0 refl) refl
  where
    go : {n : ℕ} {at : Option ℕ} → WordRefusedFor large W 0 [] n at → n ≡ 12 → ⊥
    go (sheet_refused e) z = subst IsWhole (sym W-taken.found.read ∙ e) tt
    go (no_such_condition read h) z = omega (arith, z)
    go (word_too_long f h) z = omega (arith, h)
    go (stray_event f short s) z = omega (arith, z)

-- W has one condition: a word is not tested in a second, and 14 is given
tests-no-other : (answer : Answer) → IsTested answer → TestsWord large W 1 [] answer → ⊥
unfolding sheet_of
tests-no-other held said t = omega (arith, (t.yes_iff.0 refl).0.found.exists)
tests-no-other (not_held n) said t = omega (arith, ((t.no_iff n).0 refl).0.found.exists)
tests-no-other (untested n at) said t = absurd said

refuses-other : {answer : Answer} → TestsWord large W 1 [] answer → answer_reply answer ≡ 14 giving []
unfolding sheet_of
refuses-other t = (t.refused_iff 14 none).1 (no_such_condition {r = _} refl (omega arith))

one-word-answer : {I : Model} {s : List ℕ} {c : ℕ} {w : Word} {a b : Answer} → TestsWord I s c w a → TestsWord I s c w b → a ≡ b
one-word-answer t u = t.stated ∙ sym u.stated

-- Request 3 -------------------------------------------------------------------------------------------------------------------

-- the conditions of a sheet with leaves of the set 0 (proofs/Examples), and the words that are taken
abbrev in0 : ℕ → Condition
in0 c = condition (sheet_of large with_set0) c

taken0 : (c : ℕ) {w : Word} → c < 4 → length w ≤ 4096 → Each (λ (e : ℕ). e < 32) w → TakesWord large with_set0 c w
unfolding sheet_of
taken0 c exists short below = record { found = record { reading = _; read = refl; exists = exists }; short = short; none_stray = below }

-- "A condition with no words gives 0": a word test that gives the length of the word
length-for-0 : TestsWord large with_set0 2 (0 ∷ []) (not_held 1) → ⊥
unfolding sheet_of accepts longest
length-for-0 t = ⊎_elim (λ b. (live-begins (in0 2) (0 ∷ [])).1 b) (λ x. omega (arith, x.0)) ((t.no_iff 1).0 refl).2.begins

-- one that counts while a place is left, though no word can be finished, and one that counts the event at which none is left
while-places-left : TestsWord large with_set0 1 (0 ∷ 1 ∷ 2 ∷ []) (not_held 2) → ⊥
unfolding sheet_of accepts longest
while-places-left t = ⊎_elim (λ b. (live-begins (in0 1) (0 ∷ 1 ∷ [])).1 b) (λ x. omega (arith, x.0)) ((t.no_iff 2).0 refl).2.begins

one-too-far : TestsWord large with_set0 0 (0 ∷ 2 ∷ 2 ∷ []) (not_held 3) → ⊥
unfolding sheet_of accepts longest
one-too-far t = ⊎_elim (λ b. (live-begins (in0 0) (0 ∷ 2 ∷ 2 ∷ [])).1 b) (λ x. omega (arith, x.0)) ((t.no_iff 3).0 refl).2.begins

-- one that gives 0 always, and one that counts more events than the word has
one-too-few : TestsWord large with_set0 1 (0 ∷ 1 ∷ 2 ∷ []) (not_held 0) → ⊥
unfolding sheet_of accepts longest
one-too-few t = ((t.no_iff 0).0 refl).2.no_longer 1 (omega arith) (omega arith) ((live-begins (in0 1) (0 ∷ [])).0 tt)

beyond-the-word : TestsWord large with_set0 0 (0 ∷ []) (not_held 2) → ⊥
beyond-the-word t = omega (arith, ((t.no_iff 2).0 refl).2.beginning)

-- one that says no of a word that is held, with its length
no-with-length : TestsWord large with_set0 0 (0 ∷ 2 ∷ []) (not_held 2) → ⊥
unfolding sheet_of accepts
no-with-length t = ((t.no_iff 2).0 refl).1 ((words (in0 0) (0 ∷ 2 ∷ [])).0 tt)

-- and the other way round: the longest beginning of a word that is not held is given, where the condition has no words,
without-words : (v : Word) → Holds (in0 2) v → ⊥
unfolding sheet_of accepts longest
without-words v h = (live-begins (in0 2) []).1 (v, h)

gives-0 : {answer : Answer} → TestsWord large with_set0 2 (0 ∷ []) answer → answer ≡ not_held 0
unfolding sheet_of
gives-0 t =
    (t.no_iff 0).1 (
      taken0 2 (omega arith) (omega arith) (cons (omega arith) nil),
      without-words (0 ∷ []),
      record { beginning = omega arith; begins = inr (refl, without-words); no_longer = λ m l k b. without-words _ b.1 },
    )

-- where the word begins one,
gives-length : {answer : Answer} → TestsWord large with_set0 0 (0 ∷ []) answer → answer ≡ not_held 1
unfolding sheet_of accepts longest
gives-length t =
    (t.no_iff 1).1 (
      taken0 0 (omega arith) (omega arith) (cons (omega arith) nil),
      (words (in0 0) (0 ∷ [])).1,
      record { beginning = omega arith; begins = inl ((live-begins (in0 0) (0 ∷ [])).0 tt); no_longer = λ m l k b. omega (arith, l, k) },
    )

-- and where it goes wrong with a place left
no_more : (m : ℕ) → 1 < m → m ≤ 3 → Begins (in0 1) (take m (0 ∷ 1 ∷ 2 ∷ [])) → ⊥
unfolding sheet_of accepts longest
no_more zero l k b = omega (arith, l)
no_more (suc zero) l k b = omega (arith, l)
no_more (suc (suc zero)) l k b = (live-begins (in0 1) (0 ∷ 1 ∷ [])).1 b
no_more (suc (suc (suc zero))) l k b = (live-begins (in0 1) (0 ∷ 1 ∷ 2 ∷ [])).1 b
no_more (suc (suc (suc (suc m)))) l k b = omega (arith, k)

gives-1 : {answer : Answer} → TestsWord large with_set0 1 (0 ∷ 1 ∷ 2 ∷ []) answer → answer ≡ not_held 1
unfolding sheet_of accepts longest
gives-1 t =
    (t.no_iff 1).1 (
      taken0 1 (omega arith) (omega arith) (cons (omega arith) (cons (omega arith) (cons (omega arith) nil))),
      (words (in0 1) (0 ∷ 1 ∷ 2 ∷ [])).1,
      record { beginning = omega arith; begins = inl ((live-begins (in0 1) (0 ∷ [])).0 tt); no_longer = no_more },
    )
