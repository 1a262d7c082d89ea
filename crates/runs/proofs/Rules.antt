-- The rules of a sheet by their numbers: what each says of words, where all rules of the sheet's list are true.
use mathlib.Core.Path.{◌≡◌, refl, sym, ap, ◌∙◌, subst}
use mathlib.Core.Logic.{⊎_elim}
use Prim.Native.Nat.{ℕ, zero, suc, ◌+◌}
use native.Mathlib.Nat.{zero-add}
use native.Mathlib.Omega.{arith}
use mathlib.Core.Bool.{Bool, true, false, cond, ◌||◌}
use mathlib.Core.Option.{Option, none, some, none-ne-some}
use mathlib.Core.List.Memᴰ
use mathlib.Core.List.{List, [], ◌∷◌, ◌++◌, append-nil, Memᴰ}
use lib.ListN.{get_elem?}
use lib.Dec.{eqb, eqb_refl}
use Rattle.bits.proofs.Sets.{single-has}
use Rattle.bits.proofs.Tests.{T_true}
use Rattle.condition.specs.Condition.{Word, Condition, join, Holds, ◌⊆◌, event}
use Rattle.sheet.specs.Each.{Each, nil, cons}
use Rattle.sheet.proofs.Each.{each-head, each_tail, each_left, each_right, each-get}
use Rattle.sheet.specs.Sheet.{Outcome, normal, failed, Body, Method, CallStep, Step, event_step, call_step, pass_step, stop_step, Sheet, past, own, due, pre, trace, future, on_channel, body_in, body, entry_in, exit_for, exit_in, target_for}
use Rattle.runs.specs.Rules.{Rule, is_among, if_any, first_rules, exit_rules, failed_exit_rules, method_rules, return_rules, entry_asked, entry_rules, step_rules, firsts_rules, methods_rules, steps_rules, rules_from, AllMet}

one-event : (a : ℕ) → Holds (event a) (a ∷ [])
one-event a = (a, single-has a, refl)

-- a number of a list is among it
among : {m : ℕ} (ns : List ℕ) → Memᴰ m ns → is_among ns m ≡ true
among [] k = absurd (Memᴰ.not-nil k)
among {m} (n ∷ ns) k = ⊎_elim here (λ j. go (eqb m n) (among ns j)) (Memᴰ.cases_cons k)
  where
    go : (b : Bool) {c : Bool} → c ≡ true → (b || c) ≡ true
    go true e = refl
    go false e = e

    here : m ≡ n → (eqb m n || is_among ns m) ≡ true
    here e = ap (λ (b : Bool). b || is_among ns m) (subst (λ k. eqb m k ≡ true) e (T_true _ (eqb_refl m)))

module _ (S : Sheet) where
  -- of a method that runs start at: 2 and 24, of each outcome that it may end by
  pub record FirstRules (m : ℕ) : Type 0 where
    pub rule_1 : Holds (pre S m) []
    pub rule_2_24 : (o : Outcome) (e : ℕ) → exit_in o (body S m) ≡ some e → Holds (future S m o) []

  -- 5 and 6, 22 and 23, of an exit by which a method returns with the trace T and the future F of an outcome
  pub record ExitRules (T F : Condition) (exit : ℕ) : Type 0 where
    pub rule_5_22 : own S exit ⊆ T
    pub rule_6_23 : F ⊆ due S exit

  -- of a method with the pre P, and the trace T and the future F of each outcome
  pub record BodyRules (P : Condition) (T F : Outcome → Condition) (b : Body) : Type 0 where
    pub rule_3 : P ⊆ past S b.entry
    pub rule_4 : Holds (own S b.entry) []
    pub exits : (o : Outcome) (e : ℕ) → exit_for o b ≡ some e → ExitRules (T o) (F o) e

  -- of a step from p to q that raises the word w: 7 to 9 of an event, 11, 12 and 14, or 18, 19 and 21, of a call, 15 to 17 of a pass
  pub record Leads (p : ℕ) (w : Word) (q : ℕ) : Type 0 where
    pub past_on : (u : Word) → Holds (past S p) u → Holds (past S q) (u ++ w)
    pub own_on : (u : Word) → Holds (own S p) u → Holds (own S q) (u ++ w)
    pub due_back : (v : Word) → Holds (due S q) v → Holds (due S p) (w ++ v)

  -- 11 to 14, 18 to 21, of a call from p that returns to q, with the trace T and the future F of an outcome
  pub record ReturnRules (p q : ℕ) (T F : Condition) : Type 0 where
    pub leads : (w : Word) → Holds T w → Leads p w q
    pub rule_13_20 : due S q ⊆ F

  -- of a return by the step t to q with the outcome o; what the method declares is read on the step's channel
  abbrev pub ReturnsBy : CallStep → Outcome → ℕ → Type 0
  ReturnsBy t o q =
      let read = on_channel t.channel in
      ReturnRules t.from q (read (trace S t.method o)) (read (future S t.method o))

  pub record CallRules (t : CallStep) : Type 0 where
    pub rule_10 : past S t.from ⊆ on_channel t.channel (pre S t.method)
    pub returns : (o : Outcome) (q : ℕ) → target_for o t ≡ some q → ReturnsBy t o q
    pub rule_26 : S.new ≡ true → {b : Body} → body S t.method ≡ some b → due S b.entry ⊆ due S t.from

  -- a primitive has no rules, and a number that names no method or step has none
  abbrev pub MethodRules : ℕ → Option Body → Type 0
  MethodRules m none = Unit {0}
  MethodRules m (some b) = BodyRules (pre S m) (trace S m) (future S m) b

  abbrev pub StepRules : Option Step → Type 0
  StepRules none = Unit {0}
  StepRules (some (event_step p q a)) = Leads p (a ∷ []) q
  StepRules (some (call_step t)) = CallRules t
  StepRules (some (pass_step p q)) = Leads p [] q
  -- 25
  StepRules (some (stop_step p)) = Holds (due S p) []

  -- all rules of a sheet one of whose runs starts at the method m
  pub record SheetRules (m : ℕ) : Type 0 where
    pub first : FirstRules m
    pub methods : (k : ℕ) → MethodRules k (body S k)
    pub steps : (i : ℕ) → StepRules (get_elem? S.steps i)

  -- One method's and one step's ------------------------------------------------------------------------------------------

  -- the rules about something that is there
  of-any : {A : Type 0} {x : A} (f : A → List Rule) {y : Option A} → AllMet (if_any y f) → y ≡ some x → AllMet (f x)
  of-any f h e = subst (λ y. AllMet (if_any y f)) e h

  of-true : {xs : List Rule} {b : Bool} → AllMet (cond b xs []) → b ≡ true → AllMet xs
  of-true {xs} h e = subst (λ b. AllMet (cond b xs [])) e h

  of-exit : (n m : ℕ) (o : Outcome) (exit : ℕ) → AllMet (exit_rules S n m o exit) → ExitRules (trace S m o) (future S m o) exit
  of-exit n m o exit h = record { rule_5_22 = each-head h; rule_6_23 = each-head (each_tail h) }

  module _ (starts : List ℕ) (m : ℕ) (b : Body) (h : AllMet (method_rules S starts m (some b))) where
    exits : AllMet (exit_rules S 5 m normal b.exit ++ if_any b.failed_exit (failed_exit_rules S starts m))
    exits = each_tail (each_tail h)

    at-failed-exit : (e : ℕ) → b.failed_exit ≡ some e → AllMet (failed_exit_rules S starts m e)
    at-failed-exit e is = of-any (failed_exit_rules S starts m) (each_right (exit_rules S 5 m normal b.exit) exits) is

    of-exits : (o : Outcome) (e : ℕ) → exit_for o b ≡ some e → ExitRules (trace S m o) (future S m o) e
    of-exits normal e is = of-exit 5 m normal e (of-any (exit_rules S 5 m normal) (each_left (exit_rules S 5 m normal b.exit) _ exits) is)
    of-exits failed e is = of-exit 22 m failed e (each_left (exit_rules S 22 m failed e) _ (at-failed-exit e is))

    -- 24
    failed_end : is_among starts m ≡ true → (e : ℕ) → b.failed_exit ≡ some e → Holds (future S m failed) []
    failed_end first e is = each-head (of-true (each_right (exit_rules S 22 m failed e) (at-failed-exit e is)) first)

  of-method : (starts : List ℕ) (m : ℕ) (b : Option Body) → AllMet (method_rules S starts m b) → MethodRules m b
  of-method starts m none h = tt
  of-method starts m (some b) h = record { rule_3 = each-head h; rule_4 = each-head (each_tail h); exits = of-exits starts m b h }

  -- 7 to 9, and 11, 12 and 14, or 18, 19 and 21: of the words of T
  joined : {p q : ℕ} (T : Condition) → join (past S p) T ⊆ past S q → join (own S p) T ⊆ own S q → join T (due S q) ⊆ due S p
      → (w : Word) → Holds T w → Leads p w q
  joined T past-in own_in due_in w t =
      record {
        past_on = λ u h. past-in (u ++ w) (u, w, refl, h, t);
        own_on = λ u h. own_in (u ++ w) (u, w, refl, h, t);
        due_back = λ v h. due_in (w ++ v) (w, v, refl, t, h);
      }

  of-return : (n i : ℕ) (t : CallStep) (o : Outcome) (q : ℕ) → AllMet (return_rules S n i t o q) → ReturnsBy t o q
  of-return n i t o q h =
      let rest = each_tail (each_tail h) in
      record {
        leads = joined (on_channel t.channel (trace S t.method o)) (each-head h) (each-head (each_tail h)) (each-head (each_tail rest));
        rule_13_20 = each-head rest;
      }

  module _ (i : ℕ) (t : CallStep) (h : AllMet (step_rules S i (call_step t))) where
    behind-returns : AllMet (if_any t.failed_to (return_rules S 18 i t failed) ++ if_any (entry_asked S t.method) (entry_rules S i t))
    behind-returns = each_right (return_rules S 11 i t normal t.to) (each_tail h)

    of-returns : (o : Outcome) (q : ℕ) → target_for o t ≡ some q → ReturnsBy t o q
    of-returns normal q is =
        of-return 11 i t normal q (of-any (return_rules S 11 i t normal) (each_left (return_rules S 11 i t normal t.to) _ (each_tail h)) is)
    of-returns failed q is =
        of-return 18 i t failed q
        (of-any (return_rules S 18 i t failed) (each_left (if_any t.failed_to (return_rules S 18 i t failed)) _ behind-returns) is)

    of_entry : S.new ≡ true → {b : Body} → body S t.method ≡ some b → due S b.entry ⊆ due S t.from
    of_entry marked is =
        each-head
        (of-any (entry_rules S i t) (each_right (if_any t.failed_to (return_rules S 18 i t failed)) behind-returns)
        (ap (λ (b : Bool). cond b (entry_in (body S t.method)) none) marked ∙ ap entry_in is))

  of-step : (i : ℕ) (t : Step) → AllMet (step_rules S i t) → StepRules (some t)
  of-step i (event_step p q a) h =
      joined (event a) (each-head h) (each-head (each_tail h)) (each-head (each_tail (each_tail h))) (a ∷ []) (one-event a)
  of-step i (call_step t) h = record { rule_10 = each-head h; returns = of-returns i t h; rule_26 = of_entry i t h }
  of-step i (pass_step p q) h =
      record {
        past_on = λ u x. rw append-nil (each-head h u x);
        own_on = λ u x. rw append-nil (each-head (each_tail h) u x);
        due_back = each-head (each_tail (each_tail h));
      }
  of-step i (stop_step p) h = each-head h

  -- The whole list -------------------------------------------------------------------------------------------------------

  of-firsts : {m : ℕ} (starts : List ℕ) → AllMet (firsts_rules S starts) → Memᴰ m starts → AllMet (first_rules S m)
  unfolding firsts_rules
  of-firsts [] h k = absurd (Memᴰ.not-nil k)
  of-firsts (x ∷ xs) h k =
      ⊎_elim (λ e. subst (λ y. AllMet (first_rules S y)) (sym e) (each_left (first_rules S x) _ h)) (λ j. of-firsts xs (each_right (first_rules S x) h) j)
      (Memᴰ.cases_cons k)

  -- what follows from the rules of a method with its number, and holds of a primitive, holds of each method
  module _ (starts : List ℕ) (P : ℕ → Option Body → Type 0) (primitive : (m : ℕ) → P m none)
      (of : (m : ℕ) (b : Option Body) → AllMet (method_rules S starts m b) → P m b) where
    of-methods : (j : ℕ) (ms : List Method) → AllMet (methods_rules S starts j ms) → (k : ℕ) → P (j + k) (body_in (get_elem? ms k))
    unfolding methods_rules
    of-methods j [] h k = primitive (j + k)
    of-methods j (m ∷ ms) h zero =
        subst (λ n. P n m.body) (omega arith) (of j m.body (each_left (method_rules S starts j m.body) _ h))
    of-methods j (m ∷ ms) h (suc k) =
        subst (λ n. P n (body_in (get_elem? ms k))) (omega arith) (of-methods (suc j) ms (each_right (method_rules S starts j m.body) h) k)

  of_steps : (j : ℕ) (ts : List Step) → AllMet (steps_rules S j ts) → Each (λ t. StepRules (some t)) ts
  unfolding steps_rules
  of_steps j [] h = nil
  of_steps j (t ∷ ts) h = cons (of-step j t (each_left (step_rules S j t) _ h)) (of_steps (suc j) ts (each_right (step_rules S j t) h))

  -- 24 is among a method's own rules
  abbrev FailsWell : List ℕ → ℕ → Option Body → Type 0
  FailsWell starts m b = is_among starts m ≡ true → (e : ℕ) → exit_in failed b ≡ some e → Holds (future S m failed) []

  of-failed-end : (starts : List ℕ) (m : ℕ) (b : Option Body) → AllMet (method_rules S starts m b) → FailsWell starts m b
  of-failed-end starts m none h first e is = absurd (none-ne-some e is)
  of-failed-end starts m (some b) h first e is = failed_end starts m b h first e is

  rules_are : (starts : List ℕ)
      → rules_from starts S ≡ firsts_rules S starts ++ (methods_rules S starts 0 S.methods ++ steps_rules S 0 S.steps)
  unfolding rules_from
  rules_are starts = refl

  pub by_number : {m : ℕ} (starts : List ℕ) → Memᴰ m starts → AllMet (rules_from starts S) → SheetRules m
  by_number {m} starts is h =
      record {
        first = record { rule_1 = each-head firsts; rule_2_24 = ends };
        methods = by-methods MethodRules (λ k. tt) (of-method starts);
        steps = each-get StepRules tt (of_steps 0 S.steps (each_right (methods_rules S starts 0 S.methods) rest));
      }
    where
      all : AllMet (firsts_rules S starts ++ (methods_rules S starts 0 S.methods ++ steps_rules S 0 S.steps))
      all = subst AllMet (rules_are starts) h

      firsts : AllMet (first_rules S m)
      firsts = of-firsts starts (each_left (firsts_rules S starts) _ all) is

      rest : AllMet (methods_rules S starts 0 S.methods ++ steps_rules S 0 S.steps)
      rest = each_right (firsts_rules S starts) all

      by-methods : (P : ℕ → Option Body → Type 0) → ((k : ℕ) → P k none) → ((k : ℕ) (b : Option Body) → AllMet (method_rules S starts k b) → P k b)
          → (k : ℕ) → P k (body S k)
      by-methods P primitive of k =
          subst (λ n. P n (body S k)) (zero-add k)
          (of-methods starts P primitive of 0 S.methods (each_left (methods_rules S starts 0 S.methods) _ rest) k)

      ends : (o : Outcome) (e : ℕ) → exit_in o (body S m) ≡ some e → Holds (future S m o) []
      ends normal e at = each-head (each_tail firsts)
      ends failed e at = by-methods (FailsWell starts) (λ k first e at. absurd (none-ne-some e at)) (of-failed-end starts) m (among starts is) e at
