-- The rules of a sheet: document 01, "Seventeen rules", and 18 to 26 of document 02, Asks 2 and 4; Ask 11 gives a call its channel. Each rule is a claim about the languages of the sheet's
-- conditions; the list has them in the order of testing, and `Met` says what a claim says.
use Rattle.std.specs.Prelude.{ℕ, suc, ◌+◌, ◌*◌, Bool, false, cond, ◌||◌, List, [], ◌∷◌, ◌++◌, eqb, length}
use Rattle.std.proofs.Math.Option.{Option, none, some}
use Rattle.condition.specs.Condition.{Condition, join, Holds, ◌⊆◌, event}
use Rattle.sheet.specs.Each.{Each}
use Rattle.sheet.specs.Sheet.{Outcome, normal, failed, Body, Method, CallStep, Step, event_step, call_step, pass_step, stop_step, Sheet, past, own, due, pre, trace, future, on_channel, body, entry_in}

-- ""A in B" says that every word of A is in B"; or A holds the empty word
infix 30 ◌is_in◌
pub data Claim : Type 0 where
  ◌is_in◌ : Condition → Condition → Claim
  holds_empty : Condition → Claim

-- what a claim says of the languages
abbrev pub Met : Claim → Type 0
Met (a is_in b) = a ⊆ b
Met (holds_empty a) = Holds a []

-- "An unproved answer names its rule, and the rule its method or step": the subject
pub record Rule : Type 0 where
  pub number : ℕ
  pub subject : ℕ
  pub claim : Claim

-- a rule from its number, its subject and its claim
infix 20 ◌of◌says◌
abbrev pub ◌of◌says◌ : ℕ → ℕ → Claim → Rule
n of k says c = record { number = n; subject = k; claim = c }

-- the rules whose subject is a method: 1 to 6, and "22 to 24 have a method as subject"; that of the others is a step
abbrev pub rules_of_methods : List ℕ
rules_of_methods = 1 ∷ 2 ∷ 3 ∷ 4 ∷ 5 ∷ 6 ∷ 22 ∷ 23 ∷ 24 ∷ []

-- whether a number is one of a list, and a rule's number one of these
abbrev pub is_among : List ℕ → ℕ → Bool
is_among [] n = false
is_among (k ∷ ks) n = eqb n k || is_among ks n

abbrev pub of_method : ℕ → Bool
of_method rule = is_among rules_of_methods rule

-- the rules about what a method or a call need not have
abbrev pub if_any : {A : Type 0} → Option A → (A → List Rule) → List Rule
if_any none f = []
if_any (some x) f = f x

module _ (S : Sheet) where
  -- "1 and 2, method 0: pre, and future, hold the empty word", of a method m that runs start at
  abbrev pub first_rules : ℕ → List Rule
  first_rules m = (1 of m says holds_empty (pre S m)) ∷ (2 of m says holds_empty (future S m normal)) ∷ []

  -- "5 own(exit) in trace; 6 future in due(exit)"; "22 and 23 are 5 and 6 for the failed exit": of an outcome, numbered from n on
  abbrev pub exit_rules : (n m : ℕ) → Outcome → (exit : ℕ) → List Rule
  exit_rules n m o exit = (n of m says own S exit is_in trace S m o) ∷ (n + 1 of m says future S m o is_in due S exit) ∷ []

  -- those of the failed exit; "24 is rule 2 for the failed future of method 0", of each method that runs start at
  abbrev pub failed_exit_rules : List ℕ → (m exit : ℕ) → List Rule
  failed_exit_rules starts m exit =
      exit_rules 22 m failed exit ++ cond (is_among starts m) ((24 of m says holds_empty (future S m failed)) ∷ []) []

  -- "For each method with body: 3 pre in past(entry); 4 own(entry) holds the empty word", then those of its exits, "in order of number"; runs start
  -- at the methods of a list
  abbrev pub method_rules : List ℕ → ℕ → Option Body → List Rule
  method_rules starts m none = []
  method_rules starts m (some b) =
      (3 of m says pre S m is_in past S b.entry)
      ∷ (4 of m says holds_empty (own S b.entry))
      ∷ (exit_rules 5 m normal b.exit ++ if_any b.failed_exit (failed_exit_rules starts m))

  -- "p and q are a step's from and to, T the called method's trace, a the event"; "AB is A joined with B". What the method declares is read as the call
  -- reads it, on its channel.

  -- "11 past(p)T in past(q); 12 own(p)T in own(q); 13 due(q) in future; 14 T due(q) in due(p)"; "Rules 18 to 21 are 11 to 14 for the failed side": of
  -- an outcome that leads to q, numbered from n on
  abbrev pub return_rules : (n i : ℕ) → CallStep → Outcome → (q : ℕ) → List Rule
  return_rules n i t o q =
      let p = t.from in
      let T = on_channel t.channel (trace S t.method o) in
      (n of i says join (past S p) T is_in past S q)
      ∷ (n + 1 of i says join (own S p) T is_in own S q)
      ∷ (n + 2 of i says due S q is_in on_channel t.channel (future S t.method o))
      ∷ (n + 3 of i says join T (due S q) is_in due S p)
      ∷ []

  -- the entry that rule 26 asks about where the method m is called: "new edition only", and "of a called method with body"
  abbrev pub entry_asked : (m : ℕ) → Option ℕ
  entry_asked m = cond S.new (entry_in (body S m)) none

  -- "26 ..: the due of the entry of a called method with body is in the due of the calling point"
  abbrev pub entry_rules : (i : ℕ) → CallStep → (entry : ℕ) → List Rule
  entry_rules i t e = (26 of i says due S e is_in due S t.from) ∷ []

  abbrev pub step_rules : ℕ → Step → List Rule
  -- "Event step: 7 past(p)a in past(q); 8 own(p)a in own(q); 9 a due(q) in due(p)."
  step_rules i (event_step p q a) =
      (7 of i says join (past S p) (event a) is_in past S q)
      ∷ (8 of i says join (own S p) (event a) is_in own S q)
      ∷ (9 of i says join (event a) (due S q) is_in due S p)
      ∷ []
  -- "Call: 10 past(p) in pre", then those of its returns, and 26 "after a call's other rules"
  step_rules i (call_step t) =
      (10 of i says past S t.from is_in on_channel t.channel (pre S t.method))
      ∷ (return_rules 11 i t normal t.to
      ++ (if_any t.failed_to (return_rules 18 i t failed) ++ if_any (entry_asked t.method) (entry_rules i t)))
  -- "Pass: 15 past(p) in past(q); 16 own(p) in own(q); 17 due(q) in due(p)."
  step_rules i (pass_step p q) =
      (15 of i says past S p is_in past S q)
      ∷ (16 of i says own S p is_in own S q)
      ∷ (17 of i says due S q is_in due S p)
      ∷ []
  -- "Rule 25: due at that point holds the empty word."
  step_rules i (stop_step p) = (25 of i says holds_empty (due S p)) ∷ []

  -- "1, 2" of each method that runs start at, one method after the other
  unfoldable pub firsts_rules : List ℕ → List Rule
  firsts_rules [] = []
  firsts_rules (m ∷ ms) = first_rules m ++ firsts_rules ms

  -- "methods ascending, steps ascending, each one's rules by number", from the number k on
  unfoldable pub methods_rules : List ℕ → ℕ → List Method → List Rule
  methods_rules starts k [] = []
  methods_rules starts k (m ∷ ms) = method_rules starts k m.body ++ methods_rules starts (suc k) ms

  unfoldable pub steps_rules : ℕ → List Step → List Rule
  steps_rules k [] = []
  steps_rules k (t ∷ ts) = step_rules k t ++ steps_rules (suc k) ts

-- "They are tested in this order: 1, 2, methods ascending, steps ascending", where runs start at the methods of a list
unfoldable pub rules_from : List ℕ → Sheet → List Rule
unfolding firsts_rules methods_rules steps_rules
rules_from starts S = firsts_rules S starts ++ (methods_rules S starts 0 S.methods ++ steps_rules S 0 S.steps)

-- document 01's runs start at method 0
unfoldable pub rules : Sheet → List Rule
unfolding rules_from
rules S = rules_from (0 ∷ []) S

-- the rules are true: what each of them says holds of the conditions' languages
abbrev pub AllMet : List Rule → Type 0
AllMet = Each (λ x. Met x.claim)

-- The count: "2 + 4b + 3e + 5c + 3p for b methods with body, e event, c call and p pass steps", and 18 to 26, of which "each adds one" -----

-- whether something is there, as a number
abbrev pub how_many : {A : Type 0} → Option A → ℕ
how_many none = 0
how_many (some x) = 1

-- b, of one method
abbrev pub body_count : Method → ℕ
body_count m = how_many m.body

-- e, c and p, of one step
abbrev pub event_count : Step → ℕ
event_count (event_step p q a) = 1
event_count (call_step t) = 0
event_count (pass_step p q) = 0
event_count (stop_step p) = 0

abbrev pub call_count : Step → ℕ
call_count (event_step p q a) = 0
call_count (call_step t) = 1
call_count (pass_step p q) = 0
call_count (stop_step p) = 0

abbrev pub pass_count : Step → ℕ
pass_count (event_step p q a) = 0
pass_count (call_step t) = 0
pass_count (pass_step p q) = 1
pass_count (stop_step p) = 0

-- whether a method has a failed exit, and with it 22 and 23, and 24 where runs start at it
abbrev pub failed_exits : Option Body → ℕ
failed_exits none = 0
failed_exits (some b) = how_many b.failed_exit

abbrev pub failed_exit_count : Method → ℕ
failed_exit_count m = failed_exits m.body

-- whether a step is a call with a failed target, and with it 18 to 21
abbrev pub failed_call_count : Step → ℕ
failed_call_count (event_step p q a) = 0
failed_call_count (call_step t) = how_many t.failed_to
failed_call_count (pass_step p q) = 0
failed_call_count (stop_step p) = 0

-- whether a step is a stop, and with it 25; and whether it is a call with 26
abbrev pub stop_count : Step → ℕ
stop_count (event_step p q a) = 0
stop_count (call_step t) = 0
stop_count (pass_step p q) = 0
stop_count (stop_step p) = 1

abbrev pub entry_count : Sheet → Step → ℕ
entry_count S (event_step p q a) = 0
entry_count S (call_step t) = how_many (entry_asked S t.method)
entry_count S (pass_step p q) = 0
entry_count S (stop_step p) = 0

-- the sum over a list
unfoldable pub total : {A : Type 0} → (A → ℕ) → List A → ℕ
total f [] = 0
total f (x ∷ xs) = f x + total f xs

-- how many methods with a failed exit runs start at, of those from the number k on
unfoldable pub failing_starts : List ℕ → ℕ → List Method → ℕ
failing_starts starts k [] = 0
failing_starts starts k (m ∷ ms) = cond (is_among starts k) (failed_exit_count m) 0 + failing_starts starts (suc k) ms

-- where runs start at the methods of a list: two rules for each
unfoldable pub count_from : List ℕ → Sheet → ℕ
unfolding total failing_starts
count_from starts S =
    2 * length starts
    + 4 * total body_count S.methods
    + 3 * total event_count S.steps
    + 5 * total call_count S.steps
    + 3 * total pass_count S.steps
    -- 22 and 23, 24, 18 to 21, 25, and 26
    + 2 * total failed_exit_count S.methods
    + failing_starts starts 0 S.methods
    + 4 * total failed_call_count S.steps
    + total stop_count S.steps
    + total (entry_count S) S.steps

-- where they start at method 0
unfoldable pub count : Sheet → ℕ
unfolding count_from
count S = count_from (0 ∷ []) S
