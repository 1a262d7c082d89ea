-- The invariant of runs: what is true of every state of a run where the sheet's rules are true.
use mathlib.Core.Path.{◌≡◌}
use Prim.Native.Nat.{ℕ}
use mathlib.Core.Bool.{true, false}
use mathlib.Core.Option.{Option, none, some}
use mathlib.Core.List.{List, [], ◌∷◌, ◌++◌}
use Rattle.condition.specs.Condition.{Word, Condition, Holds}
use Rattle.sheet.specs.Each.{Each}
use Rattle.sheet.specs.Sheet.{Outcome, Step, Sheet, past, own, due, body, exit_in}
use Rattle.runs.specs.Runs.{Call, Returned, State, pre_of, trace_of, future_of, from_of, made_by, target_or}
use Rattle.runs.proofs.Adds.{Adds}
use Rattle.runs.proofs.Rules.{ReturnRules}
use Rattle.runs.specs.Owing.{IsCaller, InCaller}

module _ (S : Sheet) where
  -- The open calls -------------------------------------------------------------------------------------------------------

  abbrev pub Begun : Call → Type 0
  Begun c = Holds (pre_of S c) c.began

  -- the call c stands at the point p after the history h: control is there, or at a call that c made from there
  pub record Stands (p : ℕ) (h : Word) (c : Call) : Type 0 where
    pub in_pre : Begun c
    pub in_past : Holds (past S p) h
    pub in_own : Adds c.began h (Holds (own S p))
    -- its method has a body, and the rules of that read the method's conditions as they are
    pub no_channel : c.channel ≡ none

  -- where the step that made a call starts
  abbrev pub source : Option Step → ℕ
  source none = 0
  source (some t) = from_of t

  abbrev pub origin : Call → ℕ
  origin c = source (made_by S c.step)

  -- wherever a return from c leads, the step that made c has the rules of that return
  abbrev pub ReturnsWell : Call → Option Step → Type 0
  ReturnsWell c t = (here : ℕ) (o : Outcome) (q : ℕ) → target_or here o t ≡ some q → ReturnRules S (source t) q (trace_of S c o) (future_of S c o)

  -- the future of each outcome that c may end by holds the empty word
  abbrev pub EndsWell : Call → Type 0
  EndsWell c = (o : Outcome) (e : ℕ) → exit_in o (body S c.method) ≡ some e → Holds (future_of S c o) []

  -- a word that, followed by any word of the due at p, is in the condition c
  abbrev pub WithDue : Condition → ℕ → Word → Type 0
  WithDue c p u = (v : Word) → Holds (due S p) v → Holds c (u ++ v)

  -- Control is at p after h. The outermost call may end. Each other call was made by a step with its rules, and its caller stands where that step
  -- starts, after the history at the call's beginning; in the new edition, what the call raised since, followed by any word of the due at p, is in
  -- the due there.
  pub data Frames : ℕ → Word → List Call → Type 0 where
    outermost : {p : ℕ} {h : Word} {c : Call} → Stands p h c → EndsWell c → Frames p h (c ∷ [])
    inner : {p : ℕ} {h : Word} {c : Call} {cs : List Call} → Stands p h c → ReturnsWell c (made_by S c.step)
        → (S.new ≡ true → Adds c.began h (WithDue (due S (origin c)) p)) → Frames (origin c) c.began cs → Frames p h (c ∷ cs)

  -- The returned calls ---------------------------------------------------------------------------------------------------

  pub record Well (r : Returned) : Type 0 where
    pub began : Begun r.call
    pub raised : Adds r.call.began r.at (Holds (trace_of S r.call r.outcome))

  -- what was raised since r's return, followed by any word of the due at p, is in the future of r's outcome
  abbrev pub Due : Returned → ℕ → Word → Type 0
  Due r p h = Adds r.at h (WithDue (future_of S r.call r.outcome) p)

  -- it is so where the active call stands, or where one below it stands; the calls above that one began after r's return, and are not r's callers
  pub data Owed (r : Returned) : ℕ → Word → List Call → Type 0 where
    here : {p : ℕ} {h : Word} {c : Call} {cs : List Call} → Due r p h → Owed r p h (c ∷ cs)
    below : {p : ℕ} {h : Word} {c : Call} {cs : List Call} → (IsCaller c r.call → ⊥) → Owed r (origin c) c.began cs → Owed r p h (c ∷ cs)

  -- what was raised since r's return is in the future of r's outcome
  abbrev pub Ended : Word → Returned → Type 0
  Ended h r = Adds r.at h (Holds (future_of S r.call r.outcome))

  -- The state ------------------------------------------------------------------------------------------------------------

  pub record Running (p : ℕ) (h : Word) (cs : List Call) (rs : List Returned) : Type 0 where
    pub frames : Frames p h cs
    pub owed : Each (λ r. Owed r p h cs) rs
    pub well : Each Well rs

  -- the outermost call has returned, or the run stopped at p: every future is met, also those that the calls that are still open owe
  pub record Over (p : ℕ) (h : Word) (cs : List Call) (rs : List Returned) : Type 0 where
    pub begun : Each Begun cs
    pub owing : Each (λ r. InCaller cs r.call → Due r p h) rs
    pub met : Each (Ended h) rs
    pub well : Each Well rs

  pub data Good (s : State) : Type 0 where
    running : s.ended ≡ false → Running s.point s.history s.open_calls s.returned_calls → Good s
    over : s.ended ≡ true → Over s.point s.history s.open_calls s.returned_calls → Good s
