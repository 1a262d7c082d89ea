-- Each move keeps the invariant of runs, where the sheet's rules are true.
use mathlib.Core.Path.{◌≡◌, refl, sym, ap, ◌∙◌, subst}
use Prim.Native.Nat.{ℕ}
use mathlib.Core.Bool.{true, false, false≢true}
use mathlib.Core.Option.{Option, none, some, none-ne-some}
use mathlib.Core.List.{List, [], ◌∷◌, ◌++◌, append_assoc, append-nil}
use lib.ListN.{get_elem?}
use Rattle.condition.specs.Condition.{Word, Condition, Holds}
use Rattle.sheet.specs.Each.{Each, nil, cons}
use Rattle.sheet.proofs.Each.{each_map, each-zip, each_all, each-get}
use Rattle.sheet.specs.Sheet.{Outcome, Body, CallStep, Step, call_step, Sheet, past, due, pre, trace, future, on_channel, body, exit_in, target_for}
use Rattle.runs.specs.Runs.{Call, Returned, State, pre_of, trace_of, future_of, entry_of, start, Move, raise, new_call, open_call, returned_now, stop, made_by, target_or, none_open, close, run}
use Rattle.runs.specs.Owing.{IsCaller, InCaller}
use Rattle.sheet_laws.specs.Names.{HasBody, ChannelFits, StepOnChannel, ChannelsFit}
use Rattle.runs.proofs.Rules.{ExitRules, BodyRules, Leads, ReturnRules, CallRules, MethodRules, StepRules, SheetRules}
use Rattle.runs.proofs.Adds.{Adds, adds-more, adds-weaker, adds-nothing}
use Rattle.runs.proofs.Moves.{Makes, event_made, pass_made, primitive_made, open_made, stop_made, return_made, run-keeps}
use Rattle.runs.proofs.Numbers.{NumbersAt, next-is-new, made-numbers, start-numbers}
use Rattle.runs.proofs.Invariant.{Begun, Stands, source, origin, ReturnsWell, WithDue, Frames, outermost, inner, Well, Due, Ended, Owed, here, below, Running, Good, running, over}

module _ (S : Sheet) where
  -- A word is raised: rules 7 to 9, 11, 12 and 14 to 19, and 21 ---------------------------------------------------------------

  module _ {p q : ℕ} {w : Word} (l : Leads S p w q) where
    advance-stands : {h : Word} {c : Call} → Stands S p h c → Stands S q (h ++ w) c
    advance-stands {h} x =
        record {
          in_pre = x.in_pre;
          in_past = l.past_on h x.in_past;
          in_own = adds-more x.in_own w l.own_on;
          no_channel = x.no_channel;
        }

    advance-due : {b h : Word} (c : Condition) → Adds b h (WithDue S c p) → Adds b (h ++ w) (WithDue S c q)
    advance-due c d = adds-more d w (λ u f v x. rw append_assoc (f (w ++ v) (l.due_back v x)))

    advance-frames : {h : Word} {cs : List Call} → Frames S p h cs → Frames S q (h ++ w) cs
    advance-frames (outermost x f) = outermost (advance-stands x) f
    advance-frames (inner {c = c} x k d f) = inner (advance-stands x) k (λ marked. advance-due (due S (origin S c)) (d marked)) f

    advance-owed : {h : Word} {cs : List Call} (r : Returned) → Owed S r p h cs → Owed S r q (h ++ w) cs
    advance-owed r (here d) = here (advance-due (future_of S r.call r.outcome) d)
    advance-owed r (below n o) = below n o

    advance : {h : Word} {cs : List Call} {rs : List Returned} → Running S p h cs rs → Running S q (h ++ w) cs rs
    advance g = record { frames = advance-frames g.frames; owed = each_map advance-owed g.owed; well = g.well }

  -- A call begins: rules 3, 4, 10 and 26, and 13 or 20 of a primitive, which returns at once --------------------------------

  frames-past : {p : ℕ} {h : Word} {cs : List Call} → Frames S p h cs → Holds (past S p) h
  frames-past (outermost x f) = x.in_past
  frames-past (inner x k d f) = x.in_past

  owed-here : {p : ℕ} {h : Word} {cs : List Call} (r : Returned) → Frames S p h cs → Due S r p h → Owed S r p h cs
  owed-here r (outermost x f) d = here d
  owed-here r (inner x k e f) d = here d

  -- step i, which is t, makes a call; control is at its from
  module _ (s : State) (going : s.ended ≡ false) (i : ℕ) {t : CallStep} (k : CallRules S t)
      (g : Running S t.from s.history s.open_calls s.returned_calls) where
    begun : Begun S (new_call s i t)
    begun = k.rule_10 _ (frames-past g.frames)

    primitive-good : (o : Outcome) (w : Word) {q : ℕ} → target_for o t ≡ some q → Holds (trace_of S (new_call s i t) o) w
        → Good S (returned_now (new_call s i t) o (raise w q s))
    primitive-good o w {q} to h =
        let rules = k.returns o q to in
        let a : Running S q (s.history ++ w) s.open_calls s.returned_calls = advance (rules.leads w h) g in
        running going
        record {
          frames = a.frames;
          owed = cons (owed-here _ a.frames (adds-nothing rules.rule_13_20)) a.owed;
          well = cons (record { began = begun; raised = record { word = w; is = refl; inside = h } }) g.well;
        }

    open-good : {b : Body} → get_elem? S.steps i ≡ some (call_step t) → body S t.method ≡ some b → t.channel ≡ none
        → BodyRules S (pre_of S (new_call s i t)) (trace_of S (new_call s i t)) (future_of S (new_call s i t)) b
        → Each (λ r. IsCaller (new_call s i t) r.call → ⊥) s.returned_calls → Good S (open_call (new_call s i t) b.entry s)
    open-good {b} found is unexchanged rules apart =
        running going
        record {
          frames =
              inner
              (record { in_pre = begun; in_past = rules.rule_3 _ begun; in_own = adds-nothing rules.rule_4; no_channel = unexchanged })
              (subst (ReturnsWell S (new_call s i t)) (sym found) (λ here. k.returns))
              (λ marked. from (λ p. Adds s.history s.history (WithDue S (due S p) b.entry)) (adds-nothing (k.rule_26 marked is)))
              (from (λ p. Frames S p s.history s.open_calls) g.frames);
          owed = each-zip (λ r o n. below n (from (λ p. Owed S r p s.history s.open_calls) o)) g.owed apart;
          well = g.well;
        }
      where
        from : (P : ℕ → Type 0) → P t.from → P (origin S (new_call s i t))
        from P = subst P (sym (ap (source S) found))

  -- A call returns: rules 5, 6 and 13, or 22, 23 and 20 ---------------------------------------------------------------------

  module _ {p : ℕ} {h : Word} (c : Call) (o : Outcome) (e : ExitRules S (trace_of S c o) (future_of S c o) p) (x : Stands S p h c) where
    well-now : Well S (record { call = c; outcome = o; at = h })
    well-now = record { began = x.in_pre; raised = adds-weaker x.in_own e.rule_5_22 }

    -- the outermost
    met-at-end : (r : Returned) → Holds (future_of S c o) [] → Owed S r p h (c ∷ []) → Ended S h r
    met-at-end r f (here d) = adds-weaker d (λ u k. rw append-nil at (k [] (e.rule_6_23 [] f)))
    met-at-end r f (below n d) = absurd (elim d [ ])

    -- another, to the target q of its step
    module _ {q : ℕ} {cs : List Call} (k : ReturnRules S (origin S c) q (trace_of S c o) (future_of S c o)) (f : Frames S (origin S c) c.began cs) where
      back-leads : Leads S (origin S c) x.in_own.word q
      back-leads = k.leads x.in_own.word (e.rule_5_22 _ x.in_own.inside)

      back-frames : Frames S q h cs
      back-frames = subst (λ y. Frames S q y cs) (sym x.in_own.is) (advance-frames back-leads f)

      back-owed : (r : Returned) → Owed S r p h (c ∷ cs) → Owed S r q h cs
      back-owed r (here d) = owed-here r back-frames (adds-weaker d (λ u f v y. f v (e.rule_6_23 v (k.rule_13_20 v y))))
      back-owed r (below n d) = subst (λ y. Owed S r q y cs) (sym x.in_own.is) (advance-owed back-leads r d)

      back : {rs : List Returned} → Running S p h (c ∷ cs) rs → Running S q h cs (record { call = c; outcome = o; at = h } ∷ rs)
      back g =
          record {
            frames = back-frames;
            owed = cons (owed-here _ back-frames (adds-nothing k.rule_13_20)) (each_map back-owed g.owed);
            well = cons well-now g.well;
          }

  -- the innermost open call has no channel
  frames-channel : {p : ℕ} {h : Word} {c : Call} {cs : List Call} → Frames S p h (c ∷ cs) → c.channel ≡ none
  frames-channel (outermost x f) = x.no_channel
  frames-channel (inner x k d f) = x.no_channel

  some-open : {p : ℕ} {h : Word} {cs : List Call} → Frames S p h cs → none_open cs ≡ false
  some-open (outermost x f) = refl
  some-open (inner x k d f) = refl

  return-good : (s : State) {c : Call} {cs : List Call} {o : Outcome} {q : ℕ} → ExitRules S (trace_of S c o) (future_of S c o) s.point
      → exit_in o (body S c.method) ≡ some s.point → target_or s.point o (made_by S c.step) ≡ some q
      → Frames S s.point s.history (c ∷ cs) → Running S s.point s.history (c ∷ cs) s.returned_calls → Good S (close s o c cs q)
  return-good s {c} {o = o} e at to (outermost x ends) g =
      let f = ends o s.point at in
      over refl
      record {
        begun = nil;
        owing = each_all (λ r i. absurd i);
        met = cons (adds-nothing f) (each_map (λ r. met-at-end c o e x r f) g.owed);
        well = cons (well-now c o e x) g.well;
      }
  return-good s {c} {o = o} {q = q} e at to (inner x k d f) g = running (some-open f) (back c o e x (k s.point o q to) f g)

  -- The run stops: rules 25 and 26 ------------------------------------------------------------------------------------------

  pub open-begun : {p : ℕ} {h : Word} {cs : List Call} → Frames S p h cs → Each (Begun S) cs
  open-begun (outermost x f) = cons x.in_pre nil
  open-begun (inner x k d f) = cons x.in_pre (open-begun f)

  pub owed-due : {p : ℕ} {h : Word} {cs : List Call} (r : Returned) → Owed S r p h cs → InCaller cs r.call → Due S r p h
  owed-due r (here d) i = d
  owed-due r (below n o) i = absurd (n i)

  -- in the new edition any word of the due where control is meets every future, also those that the calls below owe
  due-meets : (r : Returned) → {p : ℕ} {h : Word} {cs : List Call} → S.new ≡ true → Frames S p h cs → Owed S r p h cs
      → (v : Word) → Holds (due S p) v → Ended S (h ++ v) r
  due-meets r marked f (here d) v x = adds-more d v (λ u k. k v x)
  due-meets r marked (outermost x f) (below n o) v y = absurd (elim o [ ])
  due-meets r marked (inner {c = c} x k d f) (below n o) v y =
      subst (λ z. Ended S z r) (sym (ap (λ (z : Word). z ++ v) (d marked).is ∙ append_assoc c.began (d marked).word v))
      (due-meets r marked f o ((d marked).word ++ v) ((d marked).inside v y))

  stop-good : (s : State) → S.new ≡ true → Running S s.point s.history s.open_calls s.returned_calls → Holds (due S s.point) []
      → Good S (stop s)
  stop-good s marked g e =
      over refl
      record {
        begun = open-begun g.frames;
        owing = each_map owed-due g.owed;
        met = each_map (λ r o. subst (λ h. Ended S h r) (append-nil s.history) (due-meets r marked g.frames o [] e)) g.owed;
        well = g.well;
      }

  -- Every move -----------------------------------------------------------------------------------------------------------

  stands_at : (s : State) {p : ℕ} → s.point ≡ p → Running S s.point s.history s.open_calls s.returned_calls
      → Running S p s.history s.open_calls s.returned_calls
  stands_at s at = subst (λ p. Running S p s.history s.open_calls s.returned_calls) at

  -- a call of a method with body has no channel
  without-channel : (m : ℕ) (c : Option ℕ) {b : Body} → body S m ≡ some b → ChannelFits S m c → c ≡ none
  without-channel m none is fits = refl
  without-channel m (some c) is fits = absurd (none-ne-some _ (sym fits.0 ∙ is))

  module _ (fit : ChannelsFit S) {m₀ : ℕ} (R : SheetRules S m₀) where
    -- where the step i calls a method with body
    step-without-channel : (i : ℕ) {t : CallStep} {b : Body} → get_elem? S.steps i ≡ some (call_step t) → body S t.method ≡ some b
        → t.channel ≡ none
    step-without-channel i {t} found is = without-channel t.method t.channel is (subst Fits found (each-get Fits tt fit i))
      where
        Fits : Option Step → Type 0
        Fits none = Unit {0}
        Fits (some t) = StepOnChannel S t

    -- the rules of a body, of a call of its method without a channel
    rules-of : (c : Call) {b : Body} → c.channel ≡ none → body S c.method ≡ some b → BodyRules S (pre_of S c) (trace_of S c) (future_of S c) b
    rules-of c {b} unexchanged is =
        let m = c.method in
        subst
        (λ (x : Option ℕ). BodyRules S (on_channel x (pre S m)) (λ o. on_channel x (trace S m o)) (λ o. on_channel x (future S m o)) b)
        (sym unexchanged) (subst (MethodRules S m) is (R.methods m))

    made-good : (s t : State) → s.ended ≡ false → Makes S s t → NumbersAt s → Good S s → Good S t
    made-good s t z made n (over e g) = absurd (false≢true (sym z ∙ e))
    made-good s t z (event_made i found) n (running e g) = running z (advance (subst (StepRules S) found (R.steps i)) g)
    made-good s t z (pass_made i found) n (running e g) = running z (advance (subst (StepRules S) found (R.steps i)) g)
    made-good s t z (primitive_made i o w found at is to h) n (running e g) =
        primitive-good s z i (subst (StepRules S) found (R.steps i)) (stands_at s at g) o w to h
    made-good s t z (open_made {t = x} i found at is) n (running e g) =
        let unexchanged = step-without-channel i found is in
        open-good s z i (subst (StepRules S) found (R.steps i)) (stands_at s at g) found is unexchanged
        (rules-of (new_call s i x) unexchanged is) (next-is-new s i x n)
    made-good s t z (stop_made i found marked) n (running e g) = stop-good s marked g (subst (StepRules S) found (R.steps i))
    made-good s t z (return_made {c = c} o opened is at to) n (running e g) =
        let k = subst (λ cs. Running S s.point s.history cs s.returned_calls) opened g in
        return-good s ((rules-of c (frames-channel k.frames) is).exits o s.point at) (ap (exit_in o) is ∙ at) to k.frames k

    start-good : HasBody (body S m₀) → Good S (start S m₀)
    unfolding start
    start-good h = running refl (go (body S m₀) h (R.methods m₀))
      where
        go : (d : Option Body) → HasBody d → MethodRules S m₀ d → Running S (entry_of d) [] (start S m₀).open_calls []
        go none h b = absurd h
        go (some d) h b =
            record {
              frames =
                  outermost
                  (record { in_pre = R.first.rule_1; in_past = b.rule_3 [] R.first.rule_1; in_own = adds-nothing b.rule_4; no_channel = refl })
                  R.first.rule_2_24;
              owed = nil;
              well = nil;
            }

    pub runs-are-good : HasBody (body S m₀) → (ms : List Move) → Good S (run S m₀ ms)
    runs-are-good h ms =
        (run-keeps S (λ s. NumbersAt s × Good S s) (λ s t z made g. (made-numbers S s t made g.0, made-good s t z made g.0 g.1)) m₀
        (start-numbers S m₀, start-good h) ms).1
