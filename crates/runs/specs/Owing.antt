-- What is owed while a run goes on: document 02, Ask 12. It speaks of "the activation that made it" and of "that activation's callers", so the
-- second half says that the calls of a run are told apart.
use Rattle.std.specs.Prelude.{◌≡◌, ◌↔◌, ℕ, suc, take}
use mathlib.Core.List.{List, [], ◌∷◌, ◌++◌, map, Memᴰ, Nodup}
use Rattle.condition.specs.Condition.{Word, Holds}
use Rattle.sheet.specs.Each.{Each}
use Rattle.sheet.specs.Sheet.{Sheet, due}
use Rattle.runs.specs.Runs.{Call, Returned, State, calls, future_of, since, Move, run}

-- What is owed ----------------------------------------------------------------------------------------------------------

-- the number of the activation that a call is: how many calls began before it
abbrev pub call_number : Call → ℕ
call_number c = c.activation.number

-- d is "the activation that made" the call c, or "one of that activation's callers"
abbrev pub IsCaller : Call → Call → Type 0
IsCaller d c = Memᴰ (call_number d) c.activation.callers

-- "control is in the activation that made it or in one of that activation's callers": the innermost open call has control
abbrev pub InCaller : List Call → Call → Type 0
InCaller [] c = ⊥
InCaller (d ∷ ds) c = IsCaller d c

-- "the events raised since that return, followed by any word of the due at the present point, lie in the call's future (of its outcome)"
abbrev pub LiesInFuture : Sheet → State → Returned → Type 0
LiesInFuture S s r = (v : Word) → Holds (due S s.point) v → Holds (future_of S r.call r.outcome) (since r.at s.history ++ v)

-- "after a call has returned, and whenever control is in the activation that made it or in one of that activation's callers"
abbrev pub Owing : Sheet → State → Type 0
Owing S s = Each (λ r. InCaller s.open_calls r.call → LiesInFuture S s r) s.returned_calls

-- Which activation is which ---------------------------------------------------------------------------------------------

-- In the run of the moves ms that starts at the method m:
module _ (S : Sheet) (m : ℕ) (ms : List Move) where
  -- its state after the first k moves
  abbrev pub state_after : ℕ → State
  state_after k = run S m (take k ms)

  -- the call c begins with move k, counted from 0: it is there after that move, and not before
  pub record Begins (k : ℕ) (c : Call) : Type 0 where
    pub not_before : Memᴰ c (calls (state_after k)) → ⊥
    pub there_after : Memᴰ c (calls (state_after (suc k)))

  -- the call c began by move k
  pub record BeganBy (k : ℕ) (c : Call) : Type 0 where
    pub begins : Begins k c
    -- "the history at its beginning"
    pub history : c.began ≡ (state_after k).history
    -- of all calls of the run, its callers are those that were open when it began
    pub callers : (d : Call) → Memᴰ d (calls (run S m ms)) → IsCaller d c ↔ Memᴰ d (state_after k).open_calls

  -- the outermost call is there from the start, and has no callers; each other one began by a move
  pub data HowBegan (c : Call) : Type 0 where
    at_start : Memᴰ c (calls (state_after 0)) → ((d : Call) → IsCaller d c → ⊥) → HowBegan c
    by_move : (k : ℕ) → BeganBy k c → HowBegan c

  -- Its activations are told apart, also several of one method, by one step, with equal histories.
  pub record ToldApart : Type 0 where
    -- no two calls, open or returned, share a number
    pub numbers : Nodup (map call_number (calls (run S m ms)))
    -- each call's callers are the calls that were open when it began
    pub began : Each HowBegan (calls (run S m ms))

  -- What is owed, said with no numbers: of a returned call, whenever control is in a call that was open when that one began. By `ToldApart` it is
  -- the same (proofs/WhenOpen).

  -- of the open calls cs, the innermost was open before move k
  abbrev pub WasOpen : ℕ → List Call → Type 0
  WasOpen k [] = ⊥
  WasOpen k (d ∷ ds) = Memᴰ d (state_after k).open_calls

  abbrev pub OwingWhenOpen : Type 0
  OwingWhenOpen =
      Each (λ r. (k : ℕ) → Begins k r.call → WasOpen k (run S m ms).open_calls → LiesInFuture S (run S m ms) r) (run S m ms).returned_calls
