-- What is promised of the loader's and of the word test's answers: the three demands and what document 02's requests add, as one record each over
-- the bytes and the answer. Of an answer's number and values it speaks by specs/Reply. That a function "reads nothing outside the sheet and writes
-- nothing into it" is in its type, which lends it the sheet to be read.
use Rattle.std.specs.Prelude.{ℕ, ◌+◌, ◌≤◌, ◌<◌, ◌≡◌, ◌⊎◌, ◌↔◌, List, [], ◌∷◌, ◌++◌, length, get_or}
use Rattle.std.proofs.Math.Option.{Option, none, some}
use Rattle.condition.specs.Condition.{Condition, Word, Holds, Longest}
use Rattle.certificate.specs.Certificate.{Certificate, Fault, fine, found, Exact}
use Rattle.sheet.specs.Model.{Model, set_events, NoLarger, with_kinds, word_limit}
use Rattle.sheet.specs.Each.{Each}
use Rattle.sheet.specs.Record.{Bytes, byte_at}
use Rattle.sheet.specs.Sheet.{condition}
use Rattle.sheet.specs.Reading.{Reading, whole, refusal, read_sheet}
use Rattle.sheet.specs.Decode.{sheet_of}
use Rattle.runs.specs.Rules.{Claim, ◌is_in◌, holds_empty, Rule, ◌of◌says◌, rules, AllMet, count}
use Rattle.runs.specs.Runs.{Move, run, Safe}
use Rattle.runs.specs.Owing.{Owing, ToldApart}
use Rattle.runs.specs.Owners.{AllOwned, Belongs}
use Rattle.verdict.specs.Verdict.{Report, accepted, refused, unproved, test_of, certificates_needed, next_of, verdict_of}
use Rattle.verdict.specs.WordTest.{Answer, held, not_held, word_test}
use Rattle.verdict.specs.Reply.{Reply, ◌giving◌, place_value, fault_values, reply_of, answer_reply}

-- Of a sheet's bytes ----------------------------------------------------------------------------------------------------

-- "A sheet is well formed if none of 1 to 10 applies to it, nor a later refusal met while reading"
pub record WellFormed (M : Model) (s : List ℕ) : Type 0 where
  pub reading : Reading
  -- none of 1 to 9, nor 18 to 20, nor 24 to 26
  pub read : read_sheet M s ≡ whole reading
  -- nor 10
  pub enough : length (sheet_of M s).certificates ≡ certificates_needed (rules (sheet_of M s))

-- P of each rule's claim and its certificate: "Rules 3, 5, 6 and 7 to 17 have a certificate each, in that order", and 18 to 23 and 26; the others have none,
-- and P gets []
pub data EachCertified (P : Claim → Certificate → Type 0) : List Rule → List Certificate → Type 0 where
  done : EachCertified P [] []
  bare : {n k : ℕ} {a : Condition} {xs : List Rule} {cs : List Certificate} → P (holds_empty a) [] → EachCertified P xs cs
      → EachCertified P ((n of k says holds_empty a) ∷ xs) cs
  certified : {n k : ℕ} {a b : Condition} {c : Certificate} {xs : List Rule} {cs : List Certificate} → P (a is_in b) c → EachCertified P xs cs
      → EachCertified P ((n of k says a is_in b) ∷ xs) (c ∷ cs)

-- the test of a rule finds nothing wrong
abbrev pub Passes : ℕ → Claim → Certificate → Type 0
Passes events claim c = test_of events claim c ≡ fine

-- "each certificate lists exactly the reachable pairs, the start first"; of a rule without a certificate nothing is asked
abbrev pub ExactFor : ℕ → Claim → Certificate → Type 0
ExactFor events (a is_in b) c = Exact events a b c
ExactFor events (holds_empty a) c = Unit {0}

-- "this is the first fault": the rules before it pass, and the next one's test finds it. The test of a rule without a certificate looks at none.
pub record FirstFault (events : ℕ) (xs : List Rule) (cs : List Certificate) (rule subject : ℕ) (f : Fault) : Type 0 where
  pub before : List Rule
  pub failing : Claim
  pub after : List Rule
  pub used : List Certificate
  pub unused : List Certificate
  pub rules_are : xs ≡ before ++ ((rule of subject says failing) ∷ after)
  pub certificates_are : cs ≡ used ++ unused
  pub before_pass : EachCertified (Passes events) before used
  pub fails : test_of events failing (next_of unused) ≡ found f

-- one of the refusals 1 to 10, 18 to 20 and 24 to 26 applies, and the first of them has this number and place; what they are but 10 is said by
-- sheet/specs/Reading
pub data RefusedFor (M : Model) (s : List ℕ) : ℕ → ℕ → Type 0 where
  -- 1 to 9, 18 to 20 and 24 to 26: reading ends with it
  while_reading : {n at : ℕ} {r : Reading} → read_sheet M s ≡ refusal n at r → RefusedFor M s n at
  -- 10, "length": "certificates are more or fewer than the rules need"
  wrong_count : {r : Reading} → read_sheet M s ≡ whole r
      → (length (sheet_of M s).certificates ≡ certificates_needed (rules (sheet_of M s)) → ⊥) → RefusedFor M s 10 (length s)

-- Of two instruments ----------------------------------------------------------------------------------------------------

-- What an instrument M answers to the bytes s, a, beside the answer b of an instrument M' that is no smaller: 1 with its own limit for the place, where
-- it takes fewer bytes; 6, where it takes fewer points; 2, where it does not take the record's kind and the other does; 7 at an event step, where it
-- has fewer events; or the same answer with all its values. `reply` gives document 01's number and values of an answer.
pub data LikeLarger {A : Type 0} (reply : A → Reply) (M M' : Model) (s : List ℕ) (a b : A) : Type 0 where
  -- "Refusal 1 then gives place 8,192": the limit, not the sheet's length
  too_long : M.bytes < M'.bytes → reply a ≡ 1 giving (M.bytes ∷ []) → LikeLarger reply M M' s a b
  -- "6 comes at the 65th point"; what the larger one makes of the sheet is not said
  over-limit : {at : ℕ} → M.points < M'.points → reply a ≡ 6 giving (at ∷ []) → LikeLarger reply M M' s a b
  -- a record of a kind that only the larger one takes
  unknown_kind : {at : ℕ} → M.kinds < byte_at s at → byte_at s at ≤ M'.kinds → reply a ≡ 2 giving (at ∷ []) → LikeLarger reply M M' s a b
  -- an event step, whose event only the larger one has
  step_above : {at : ℕ} → byte_at s at ≡ 10 → M.events ≤ byte_at s (at + 5) → byte_at s (at + 5) < M'.events → reply a ≡ 7 giving (at ∷ [])
      → LikeLarger reply M M' s a b
  -- "accepted by the large one with an equal count", and so every other answer
  the_same : a ≡ b → LikeLarger reply M M' s a b

-- The same of the word test's answers on the word w: there is 13, too, where the instrument has fewer events
pub data TestsLikeLarger (M M' : Model) (s : List ℕ) (w : Word) (a b : Answer) : Type 0 where
  as_loaded : LikeLarger answer_reply M M' s a b → TestsLikeLarger M M' s w a b
  -- a word with an event that only the larger one has
  word_above : {i : ℕ} → M.events ≤ get_or w i 0 → get_or w i 0 < M'.events → answer_reply a ≡ 13 giving (i ∷ []) → TestsLikeLarger M M' s w a b

-- Request 8, of the loader
pub record OnLarger (M M' : Model) (s : List ℕ) (a b : Report) : Type 0 where
  pub like : LikeLarger reply_of M M' s a b
  -- "A sheet that the small one accepts is accepted by the large one with an equal count"
  pub accepted_too : (n : ℕ) → a ≡ accepted n → b ≡ accepted n
  -- "a refusal there of a lone sheet by the loader, not 1 or 6, is the large one's too": its number and its values, 11 included; 2 where both take the
  -- same kinds, and 7 where both have as many events
  pub refused_too : (n : ℕ) (values : List ℕ) → reply_of a ≡ n giving values → (n ≡ 1 → ⊥) → (n ≡ 6 → ⊥) → (n ≡ 2 → M.kinds ≡ M'.kinds)
      → (n ≡ 7 → M.events ≡ M'.events) → reply_of b ≡ n giving values

-- "State it over both limits as parameters": of any two instruments, whatever their limits, and all bytes; of the word test too (proofs/Models)
abbrev pub ModelsAgree : Type 0
ModelsAgree =
    (M M' : Model) → NoLarger M M' → (s : List ℕ) → Bytes s
    → OnLarger M M' s (verdict_of M s) (verdict_of M' s) × ((c : ℕ) (w : Word) → TestsLikeLarger M M' s w (word_test M s c w) (word_test M' s c w))

-- "judged as before" (Ask 4, and so of each request that brings kinds): before, when an instrument M took the kinds up to k only, its answer was 2 at a
-- record of a kind above k, or it was the present answer. A sheet without such kinds has no such record.
pub data AsBefore {A : Type 0} (reply : A → Reply) (k : ℕ) (M : Model) (s : List ℕ) (before present : A) : Type 0 where
  of_new_kind : {at : ℕ} → k < byte_at s at → byte_at s at ≤ M.kinds → reply before ≡ 2 giving (at ∷ []) → AsBefore reply k M s before present
  the_same_answer : before ≡ present → AsBefore reply k M s before present

-- Of the loader ---------------------------------------------------------------------------------------------------------

-- "accepted with a count, refused with a number and place, or unproved with the first rule that fails"
pub data AnswerForm : Report → Type 0 where
  with_count : (n : ℕ) → AnswerForm (accepted n)
  with_place : (n at : ℕ) → AnswerForm (refused n (some at))
  with_fault : (r k : ℕ) (f : Fault) → AnswerForm (unproved r k f)

-- What the loader promises of its answer to the bytes s, for every s, on an instrument that has at least the events that a leaf's set can hold
-- (`LoadsAsPromised` below). With fewer events clause 4 would leave some events of a leaf untested.
pub record Loads (M : Model) (s : List ℕ) (answer : Report) : Type 0 where
  -- the answer is the definition's
  pub stated : answer ≡ verdict_of M s
  -- Demand 1: "The loader is total on every byte string"
  pub total : AnswerForm answer
  -- Demand 2: "A sheet is accepted exactly if it is well formed and passes all rule tests", with the count of the formula
  pub accepted_iff : (n : ℕ) → (answer ≡ accepted n)
      ↔ (WellFormed M s × EachCertified (Passes M.events) (rules (sheet_of M s)) (sheet_of M s).certificates × (n ≡ count (sheet_of M s)))
  -- "else the first fault is named": a refusal's number and place exactly if it is the first that applies,
  pub refused_iff : (n at : ℕ) → (reply_of answer ≡ n giving (at ∷ [])) ↔ RefusedFor M s n at
  -- and "11, rule, subject, clause, pair, event, place" exactly if the sheet is "well formed, and this is the first fault"
  pub unproved_iff : (r k : ℕ) (f : Fault) → (reply_of answer ≡ 11 giving (r ∷ k ∷ fault_values f))
      ↔ (WellFormed M s × FirstFault M.events (rules (sheet_of M s)) (sheet_of M s).certificates r k f)
  -- the rules of an accepted sheet are true, whoever wrote its point conditions and certificates
  pub rules_met : (n : ℕ) → answer ≡ accepted n → AllMet (rules (sheet_of M s))
  -- Demand 3: "If a sheet is accepted .. then after EVERY list of moves" the state of the run is safe
  pub sound : (n : ℕ) → answer ≡ accepted n → (ms : List Move) → Safe (sheet_of M s) (run (sheet_of M s) 0 ms)
  -- Request 12: "In an accepted sheet, after a call has returned, ..", after every list of moves, also of one that stops, what is owed then holds
  pub owing : (n : ℕ) → answer ≡ accepted n → (ms : List Move) → Owing (sheet_of M s) (run (sheet_of M s) 0 ms)
  -- and the activations that it speaks of are told apart, in the runs of every sheet
  pub told_apart : (ms : List Move) → ToldApart (sheet_of M s) 0 ms
  -- Request 9: "If all points have owners, the point of a run belongs to the active method as long as a call is open", at a stop too, in the runs of every
  -- sheet that is read whole
  pub owned : (r : Reading) → read_sheet M s ≡ whole r → AllOwned (sheet_of M s) → (ms : List Move) → Belongs (sheet_of M s) (run (sheet_of M s) 0 ms)
  -- "Conversely a well-formed sheet with true rules is accepted if each certificate lists exactly the reachable pairs, the start first."
  pub complete : WellFormed M s → AllMet (rules (sheet_of M s)) → EachCertified (ExactFor M.events) (rules (sheet_of M s)) (sheet_of M s).certificates
      → answer ≡ accepted (count (sheet_of M s))
  -- Request 8: the answer of an instrument that is no smaller is this one, unless this one is 1, 6, 2 at a kind that only the other takes,
  -- or 7 at an event that only the other has; so of the two-channel instruments and the four-channel one
  pub on_larger : (M' : Model) → NoLarger M M' → OnLarger M M' s answer (verdict_of M' s)
  -- Requests 2, 4, 9 and 11: a sheet that does not use the kinds above k is judged as by an instrument that takes none of them
  pub as_before : (k : ℕ) → k ≤ M.kinds → AsBefore reply_of k M s (verdict_of (with_kinds k M) s) answer

-- that the definition's answer keeps the promise (proofs/Loads)
abbrev pub LoadsAsPromised : Model → Type 0
LoadsAsPromised M = set_events M ≤ M.events → (s : List ℕ) → Bytes s → Loads M s (verdict_of M s)

-- Of the word test ------------------------------------------------------------------------------------------------------

-- the word test reads the sheet whole and finds the condition: none of 1 to 9, 18 to 20 and 24 to 26, nor 14
pub record FindsCondition (M : Model) (s : List ℕ) (c : ℕ) : Type 0 where
  pub reading : Reading
  pub read : read_sheet M s ≡ whole reading
  pub exists : c < length (sheet_of M s).conditions

-- i is the "first such index" of "an event above 31": of one that is not below `events`
pub record FirstStray (events : ℕ) (w : Word) (i : ℕ) : Type 0 where
  pub inside : i < length w
  pub before : (j : ℕ) → j < i → get_or w j 0 < events
  pub stray : events ≤ get_or w i 0

-- one of the refusals applies, and the first of them, in the order "1 to 9, then 14, 12, 13", has this number and place
pub data WordRefusedFor (M : Model) (s : List ℕ) (c : ℕ) (w : Word) : ℕ → Option ℕ → Type 0 where
  sheet_refused : {n at : ℕ} {r : Reading} → read_sheet M s ≡ refusal n at r → WordRefusedFor M s c w n (some at)
  no_such_condition : {r : Reading} → read_sheet M s ≡ whole r → length (sheet_of M s).conditions ≤ c → WordRefusedFor M s c w 14 none
  word_too_long : FindsCondition M s c → word_limit < length w → WordRefusedFor M s c w 12 none
  stray_event : {i : ℕ} → FindsCondition M s c → length w ≤ word_limit → FirstStray M.events w i → WordRefusedFor M s c w 13 (some i)

-- the words that the test takes: no refusal applies
pub record TakesWord (M : Model) (s : List ℕ) (c : ℕ) (w : Word) : Type 0 where
  pub found : FindsCondition M s c
  -- nor 12, 13
  pub short : length w ≤ word_limit
  pub none_stray : Each (λ e. e < M.events) w

-- What the word test promises of its answer to the bytes s, the condition's number c and the word w, for every s, c and w, on every instrument.
pub record TestsWord (M : Model) (s : List ℕ) (c : ℕ) (w : Word) (answer : Answer) : Type 0 where
  -- the answer is the definition's
  pub stated : answer ≡ word_test M s c w
  -- Demand 2: "The word test is exactly the regular language": of the words that it takes, it says yes exactly of the condition's
  pub yes_iff : (answer ≡ held) ↔ (TakesWord M s c w × Holds (condition (sheet_of M s) c) w)
  -- and no of each other. Request 3: no carries "the length of the longest beginning of the word that begins some word of the condition"
  pub no_iff : (n : ℕ) → (answer ≡ not_held n)
      ↔ (TakesWord M s c w × (Holds (condition (sheet_of M s) c) w → ⊥) × Longest (condition (sheet_of M s) c) w n)
  -- one of both of each word that it takes
  pub tests_all : TakesWord M s c w → (answer ≡ held) ⊎ ((n : ℕ) × (answer ≡ not_held n))
  -- and else it names the first refusal that applies
  pub refused_iff : (n : ℕ) (at : Option ℕ) → (answer_reply answer ≡ n giving place_value at) ↔ WordRefusedFor M s c w n at
  -- Request 8: the answer of an instrument that is no smaller is this one, unless this one is 1, 6, 2 at a kind that only the other takes,
  -- or 7 or 13 at an event that only the other has
  pub on_larger : (M' : Model) → NoLarger M M' → TestsLikeLarger M M' s w answer (word_test M' s c w)
  -- Requests 2, 4, 9 and 11: a sheet that does not use the kinds above k is tested as by an instrument that takes none of them
  pub as_before : (k : ℕ) → k ≤ M.kinds → AsBefore answer_reply k M s (word_test (with_kinds k M) s c w) answer

-- that the definition's answer keeps the promise (proofs/WordTest)
abbrev pub TestsAsPromised : Model → Type 0
TestsAsPromised M = (s : List ℕ) (c : ℕ) (w : Word) → TestsWord M s c w (word_test M s c w)
