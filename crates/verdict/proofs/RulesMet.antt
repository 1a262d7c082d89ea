-- A rule that passes its test is true, and a true rule with an exact certificate passes. The left sides of the rules of a sheet that is read whole have
-- only events of the instrument.
use mathlib.Core.Path.{◌≡◌, refl}
use mathlib.Core.Bool.{Bool, true, false, cond}
use mathlib.Core.Option.{Option, none, some}
use mathlib.Core.List.{List, [], ◌∷◌}
use Prim.Native.Nat.{ℕ, suc, ◌*◌, ◌≤◌, ◌<◌}
use native.Mathlib.Omega.{arith}
use lib.Pow.{pow_pos, pow-lt}
use lib.ListN.{get_elem?}
use lib.Dec.{ltb}
use borrow.Author.Tests.{ltb-true, ltb-false}
use Rattle.condition.specs.Condition.{Condition, join, event}
use Rattle.condition.specs.Places.{nullable}
use Rattle.condition.proofs.Words.{nullable-holds}
use Rattle.condition.proofs.Narrow.{EventsBelow}
use Rattle.condition.proofs.Exchange.{exchange-below}
use Rattle.certificate.specs.Certificate.{Certificate, fault}
use Rattle.certificate.proofs.Findings.{fine-is, is-fine, unless-out, unless-in}
use Rattle.certificate.proofs.Sound.{sound}
use Rattle.certificate.proofs.Complete.{complete}
use Rattle.sheet.specs.Model.{Model, set_events}
use Rattle.sheet.specs.Each.{Each, nil, cons}
use Rattle.sheet.specs.Sheet.{Outcome, normal, failed, Point, Declared, Body, Method, CallStep, Step, event_step, call_step, pass_step, stop_step, Sheet, condition, condition_named, past, own, due, declared_in, pre, trace, future, on_channel}
use Rattle.sheet.specs.Record.{Bytes}
use Rattle.sheet.specs.Reading.{Reading, whole, read_sheet}
use Rattle.sheet.specs.Decode.{sheet_of}
use Rattle.sheet.proofs.Each.{each-head, each_tail, each_append, each-zip}
use Rattle.sheet_laws.specs.Names.{EventBelow, ChannelFits, StepOnChannel, NoChannel}
use Rattle.sheet_laws.proofs.Narrow.{conditions-below}
use Rattle.sheet_laws.proofs.Named.{events_below}
use Rattle.sheet_laws.proofs.Channels.{channels_fit, no_channels}
use Rattle.runs.specs.Rules.{Claim, ◌is_in◌, holds_empty, Met, Rule, ◌of◌says◌, is_among, if_any, exit_rules, failed_exit_rules, method_rules, return_rules, entry_asked, entry_rules, step_rules, firsts_rules, methods_rules, steps_rules, rules_from, AllMet}
use Rattle.verdict.specs.Promise.{EachCertified, done, bare, certified, Passes, ExactFor}

-- the left side of a claim has only events below n
abbrev pub LeftBelow : ℕ → Claim → Type 0
LeftBelow n (a is_in b) = EventsBelow n a
LeftBelow n (holds_empty a) = Unit {0}

-- One rule --------------------------------------------------------------------------------------------------------------

passed-met : (n : ℕ) (claim : Claim) (c : Certificate) → LeftBelow n claim → Passes n claim c → Met claim
passed-met n (a is_in b) c w h = sound n a b c w h
passed-met n (holds_empty a) c w h = (nullable-holds a).0 (unless-out (nullable a) _ (is-fine _ h))

met-passes : (n : ℕ) (claim : Claim) (c : Certificate) → Met claim → ExactFor n claim c → Passes n claim c
met-passes n (a is_in b) c h e = complete n a b c h e
met-passes n (holds_empty a) c h e = fine-is _ (unless-in (nullable a) (fault 5 0 0 0) ((nullable-holds a).1 h))

-- All rules -------------------------------------------------------------------------------------------------------------

pub all-met : (n : ℕ) {xs : List Rule} {cs : List Certificate} → EachCertified (Passes n) xs cs → Each (λ x. LeftBelow n x.claim) xs → AllMet xs
all-met n done w = nil
all-met n (bare {a = a} p t) w = cons (passed-met n (holds_empty a) [] (each-head w) p) (all-met n t (each_tail w))
all-met n (certified {a = a} {b = b} {c = c} p t) w = cons (passed-met n (a is_in b) c (each-head w) p) (all-met n t (each_tail w))

pub all_pass : (n : ℕ) {xs : List Rule} {cs : List Certificate} → EachCertified (ExactFor n) xs cs → AllMet xs → EachCertified (Passes n) xs cs
all_pass n done h = done
all_pass n (bare {a = a} p t) h = bare (met-passes n (holds_empty a) [] (each-head h) p) (all_pass n t (each_tail h))
all_pass n (certified {a = a} {b = b} {c = c} p t) h = certified (met-passes n (a is_in b) c (each-head h) p) (all_pass n t (each_tail h))

-- The left sides of a sheet's rules -------------------------------------------------------------------------------------

-- the events of a channel are below n, and what is read on it has then no others
abbrev ChannelBelow : ℕ → Option ℕ → Type 0
ChannelBelow n none = Unit {0}
ChannelBelow n (some c) = 16 * suc c ≤ n

read_below : (n : ℕ) (channel : Option ℕ) → ChannelBelow n channel → (r : Condition) → EventsBelow n r → EventsBelow n (on_channel channel r)
read_below n none l r h = h
read_below n (some c) l r h = exchange-below c n l r h

-- the event of a step and the events of its channel are below n
abbrev StepBelow : ℕ → Step → Type 0
StepBelow n (event_step p q a) = a < n
StepBelow n (call_step t) = ChannelBelow n t.channel
StepBelow n (pass_step p q) = Unit {0}
StepBelow n (stop_step p) = Unit {0}

module _ (n : ℕ) (S : Sheet) (below : (c : ℕ) → EventsBelow n (condition S c)) where
  abbrev Below : List Rule → Type 0
  Below = Each (λ x. LeftBelow n x.claim)

  named : {A : Type 0} (name : A → ℕ) (x : Option A) → EventsBelow n (condition_named S name x)
  named name none = pow_pos n
  named name (some x) = below (name x)

  past-below : (p : ℕ) → EventsBelow n (past S p)
  past-below p = named (λ (x : Point). x.past) (get_elem? S.points p)

  own_below : (p : ℕ) → EventsBelow n (own S p)
  own_below p = named (λ (x : Point). x.own) (get_elem? S.points p)

  due_below : (p : ℕ) → EventsBelow n (due S p)
  due_below p = named (λ (x : Point). x.due) (get_elem? S.points p)

  pre-below : (m : ℕ) → EventsBelow n (pre S m)
  pre-below m = named (λ (x : Method). x.pre) (get_elem? S.methods m)

  trace-below : (m : ℕ) (o : Outcome) → EventsBelow n (trace S m o)
  trace-below m o = named (λ (x : Declared). x.trace) (declared_in o (get_elem? S.methods m))

  future-below : (m : ℕ) (o : Outcome) → EventsBelow n (future S m o)
  future-below m o = named (λ (x : Declared). x.future) (declared_in o (get_elem? S.methods m))

  joined : (a b : Condition) → EventsBelow n a → EventsBelow n b → EventsBelow n (join a b)
  joined a b x y = (x, y)

  if-any : {A : Type 0} (x : Option A) (f : A → List Rule) → ((a : A) → Below (f a)) → Below (if_any x f)
  if-any none f h = nil
  if-any (some a) f h = h a

  exit_below : (n m : ℕ) (o : Outcome) (exit : ℕ) → Below (exit_rules S n m o exit)
  exit_below n m o exit = cons (own_below exit) (cons (future-below m o) nil)

  -- 24 is about the empty word
  if-start : (b : Bool) (m : ℕ) → Below (cond b ((24 of m says holds_empty (future S m failed)) ∷ []) [])
  if-start true m = cons tt nil
  if-start false m = nil

  failed-exit-below : (starts : List ℕ) (m exit : ℕ) → Below (failed_exit_rules S starts m exit)
  failed-exit-below starts m exit = each_append (exit_below 22 m failed exit) (if-start (is_among starts m) m)

  method-below : (starts : List ℕ) (m : ℕ) (b : Option Body) → Below (method_rules S starts m b)
  method-below starts m none = nil
  method-below starts m (some b) =
      cons (pre-below m) (cons tt
      (each_append (exit_below 5 m normal b.exit) (if-any b.failed_exit (failed_exit_rules S starts m) (failed-exit-below starts m))))

  return-below : (k i : ℕ) (t : CallStep) → ChannelBelow n t.channel → (o : Outcome) (q : ℕ) → Below (return_rules S k i t o q)
  return-below k i t h o q =
      let T = on_channel t.channel (trace S t.method o) in
      let small = read_below n t.channel h (trace S t.method o) (trace-below t.method o) in
      cons (joined (past S t.from) T (past-below t.from) small)
      (cons (joined (own S t.from) T (own_below t.from) small)
      (cons (due_below q)
      (cons (joined T (due S q) small (due_below q)) nil)))

  step-below : (k : ℕ) (t : Step) → StepBelow n t → Below (step_rules S k t)
  step-below k (event_step p q a) h =
      cons (joined (past S p) (event a) (past-below p) (pow-lt h))
      (cons (joined (own S p) (event a) (own_below p) (pow-lt h))
      (cons (joined (event a) (due S q) (pow-lt h) (due_below q)) nil))
  step-below k (call_step t) h =
      cons (past-below t.from)
      (each_append (return-below 11 k t h normal t.to)
      (each_append
      (if-any t.failed_to (return_rules S 18 k t failed) (return-below 18 k t h failed))
      (if-any (entry_asked S t.method) (entry_rules S k t) (λ e. cons (due_below e) nil))))
  step-below k (pass_step p q) h = cons (past-below p) (cons (own_below p) (cons (due_below q) nil))
  -- 25 is about the empty word
  step-below k (stop_step p) h = cons tt nil

  firsts-below : (ms : List ℕ) → Below (firsts_rules S ms)
  unfolding firsts_rules
  firsts-below [] = nil
  firsts-below (m ∷ ms) = cons tt (cons tt (firsts-below ms))

  methods-below : (starts : List ℕ) (k : ℕ) (ms : List Method) → Below (methods_rules S starts k ms)
  unfolding methods_rules
  methods-below starts k [] = nil
  methods-below starts k (m ∷ ms) = each_append (method-below starts k m.body) (methods-below starts (suc k) ms)

  steps-below : (k : ℕ) {ts : List Step} → Each (StepBelow n) ts → Below (steps_rules S k ts)
  unfolding steps_rules
  steps-below k nil = nil
  steps-below k (cons {x = t} h r) = each_append (step-below k t h) (steps-below (suc k) r)

  pub rules-below : (starts : List ℕ) → Each (StepBelow n) S.steps → Below (rules_from starts S)
  unfolding rules_from
  rules-below starts h = each_append (firsts-below starts) (each_append (methods-below starts 0 S.methods) (steps-below 0 h))

-- Of a sheet that is read whole -------------------------------------------------------------------------------------------

module _ (M : Model) (s : List ℕ) (wide : set_events M ≤ M.events) (bytes : Bytes s) (r : Reading) (read : read_sheet M s ≡ whole r) where
  abbrev n : ℕ
  n = M.events

  -- without kind 22 no call is on a channel
  no-channel-below : (t : Step) → EventBelow n t → NoChannel t → StepBelow n t
  no-channel-below (event_step p q a) h e = h
  no-channel-below (call_step t) h e = rw e tt
  no-channel-below (pass_step p q) h e = tt
  no-channel-below (stop_step p) h e = tt

  -- with it there are the events of the four channels
  channel-below : 64 ≤ n → (m : ℕ) (channel : Option ℕ) → ChannelFits (sheet_of M s) m channel → ChannelBelow n channel
  channel-below all m none f = tt
  channel-below all m (some c) (plain, one, last) = omega arith

  fitting-below : 64 ≤ n → (t : Step) → EventBelow n t → StepOnChannel (sheet_of M s) t → StepBelow n t
  fitting-below all (event_step p q a) h f = h
  fitting-below all (call_step t) h f = channel-below all t.method t.channel f
  fitting-below all (pass_step p q) h f = tt
  fitting-below all (stop_step p) h f = tt

  each_below : Each (StepBelow n) (sheet_of M s).steps
  each_below = go (ltb M.kinds 22) refl
    where
      -- where kind 22 is taken, so is 21
      many : ltb M.kinds 22 ≡ false → (b : Bool) → ltb M.kinds 21 ≡ b → cond b 32 64 ≤ n → 64 ≤ n
      many e true f l = absurd (omega (arith, ltb-false M.kinds 22 e, ltb-true M.kinds 21 f))
      many e false f l = l

      go : (b : Bool) → ltb M.kinds 22 ≡ b → Each (StepBelow n) (sheet_of M s).steps
      go true e = each-zip no-channel-below (events_below M s r read) (no_channels M s (ltb-true M.kinds 22 e) r read)
      go false e = each-zip (fitting-below (many e (ltb M.kinds 21) refl wide)) (events_below M s r read) (channels_fit M s r read)

  pub all-below : (starts : List ℕ) → Each (λ x. LeftBelow n x.claim) (rules_from starts (sheet_of M s))
  all-below starts = rules-below n (sheet_of M s) (conditions-below M s wide bytes) starts each_below
