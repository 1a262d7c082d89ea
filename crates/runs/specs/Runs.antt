-- Runs of a sheet, and what demand 3 asks of them: document 01, "Runs", and document 02: Ask 2, by which a call may fail, Ask 4, by
-- which a run may stop, and Ask 11, by which a call may be made on a channel.
use Rattle.std.specs.Prelude.{◌≡◌, ℕ, ◌+◌, Bool, true, false, cond, List, [], ◌∷◌, ◌++◌, map, length, drop, eqb}
use Rattle.std.proofs.Math.Option.{Option, none, some}
use Rattle.std.proofs.Math.ListN.{get_elem?}
use Rattle.condition.specs.Condition.{Word, Condition, Holds}
use Rattle.condition.specs.Exchange.{exchange}
use Rattle.condition.specs.Places.{accepts}
use Rattle.sheet.specs.Each.{Each}
use Rattle.sheet.specs.Sheet.{Outcome, Body, CallStep, Step, event_step, call_step, pass_step, stop_step, Sheet, pre, trace, future, on_channel, body, exit_in, target_for}

-- The state of a run ----------------------------------------------------------------------------------------------------

-- Which activation a call is, which only request 12 asks (specs/Owing).
pub record Activation : Type 0 where
  -- how many calls began before it
  pub number : ℕ
  -- the numbers of the activation that made it, of the one that made that, and so on
  pub callers : List ℕ

-- "A call has its method, its step (the outermost has none), the history at its beginning", and its channel, if its step names one
pub record Call : Type 0 where
  pub method : ℕ
  pub channel : Option ℕ
  pub step : Option ℕ
  pub began : Word
  pub activation : Activation

-- ".. and, once returned, the history at its return", and how it returned: "Failing is a way of returning"
pub record Returned : Type 0 where
  pub call : Call
  pub outcome : Outcome
  pub at : Word

-- "A run has a history (the events raised so far), open calls, of which the innermost is active, returned calls, and a point where control is."
pub record State : Type 0 where
  pub history : Word
  -- the innermost first
  pub open_calls : List Call
  -- the last to return first
  pub returned_calls : List Returned
  pub point : ℕ
  -- whether the outermost call has returned, or a stop was made
  pub ended : Bool

-- "every call so far"
abbrev pub calls : State → List Call
calls s = s.open_calls ++ map (λ r. r.call) s.returned_calls

-- a call's pre: what its method declares, read on the call's channel; "a call's trace and future are those of its outcome". "The mission's properties hold
-- with the exchanged conditions."
abbrev pub pre_of : Sheet → Call → Condition
pre_of S c = on_channel c.channel (pre S c.method)

abbrev pub trace_of : Sheet → Call → Outcome → Condition
trace_of S c o = on_channel c.channel (trace S c.method o)

abbrev pub future_of : Sheet → Call → Outcome → Condition
future_of S c o = on_channel c.channel (future S c.method o)

-- What a history adds to an earlier one, which it begins with: `Grown` says so of each that is asked of a state.
abbrev pub since : Word → Word → Word
since before after = drop (length before) after

-- "The word it raised is what the second adds to the first."
abbrev pub raised : Returned → Word
raised r = since r.call.began r.at

-- the history h is b, then what it adds to b
abbrev pub Extends : Word → Word → Type 0
Extends b h = h ≡ b ++ since b h

-- histories only grow: a call's beginning begins the history at its return, and that begins the present one (proofs/Grow)
pub record Grown (s : State) : Type 0 where
  pub since_beginning : Each (λ c. Extends c.began s.history) s.open_calls
  pub while_open : Each (λ r. Extends r.call.began r.at) s.returned_calls
  pub since_return : Each (λ r. Extends r.at s.history) s.returned_calls

-- "It starts at the entry of method 0 with no events, method 0 its one open call": here at the method m. The first method of a sheet that is read
-- whole has a body.
abbrev pub entry_of : Option Body → ℕ
entry_of none = 0
entry_of (some b) = b.entry

unfoldable pub start : Sheet → ℕ → State
start S m =
    record {
      history = [];
      open_calls = record { method = m; channel = none; step = none; began = []; activation = record { number = 0; callers = [] } } ∷ [];
      returned_calls = [];
      point = entry_of (body S m);
      ended = false;
    }

-- Moves -----------------------------------------------------------------------------------------------------------------

-- "A move is a return, or names a step, with a word if the step calls a primitive." Failing is "where the move says so". A word or an outcome given with
-- another step is not read. A step that calls a primitive always comes with a word here: [] is the empty word, not the lack of one.
pub data Move : Type 0 where
  return : Outcome → Move
  by_step : (step : ℕ) → Outcome → (word : Word) → Move

-- a word is raised, and control goes to the point q
abbrev pub raise : Word → ℕ → State → State
raise w q s =
    record { history = s.history ++ w; open_calls = s.open_calls; returned_calls = s.returned_calls; point = q; ended = s.ended }

-- the activation that makes a call now, the innermost open one, and that activation's callers
abbrev pub callers_now : List Call → List ℕ
callers_now [] = []
callers_now (c ∷ cs) = c.activation.number ∷ c.activation.callers

-- the call that step i, which is t, makes in the state s
abbrev pub new_call : State → ℕ → CallStep → Call
new_call s i t =
    record {
      method = t.method;
      channel = t.channel;
      step = some i;
      began = s.history;
      activation =
          record {
            number = length s.open_calls + length s.returned_calls;
            callers = callers_now s.open_calls;
          };
    }

-- "A call of a method with body opens it and goes to its entry."
abbrev pub open_call : Call → ℕ → State → State
open_call c entry s =
    record { history = s.history; open_calls = c ∷ s.open_calls; returned_calls = s.returned_calls; point = entry; ended = s.ended }

-- a call that was not opened returns now
abbrev pub returned_now : Call → Outcome → State → State
returned_now c o s =
    record {
      history = s.history;
      open_calls = s.open_calls;
      returned_calls = record { call = c; outcome = o; at = s.history } ∷ s.returned_calls;
      point = s.point;
      ended = s.ended;
    }

-- "A call of a primitive needs a word of the primitive's trace, whichever it is; it raises that word and returns to the step's target, all in
-- one move." "Failing leads, by a word of the failed trace .., to the failed target": a step without one cannot fail.
abbrev pub make_return : State → Call → Outcome → Word → Condition → Option ℕ → State
make_return s c o w trace none = s
make_return s c o w trace (some q) = cond (accepts trace w) (returned_now c o (raise w q s)) s

abbrev pub make_call : Sheet → State → Call → Outcome → Word → Option ℕ → Option Body → State
make_call S s c o w target none = make_return s c o w (trace_of S c o) target
make_call S s c o w target (some b) = open_call c b.entry s

-- kind 19 "ends the whole run"; what is open stays open: "calls still open owe their pre-condition only"
abbrev pub stop : State → State
stop s = record { history = s.history; open_calls = s.open_calls; returned_calls = s.returned_calls; point = s.point; ended = true }

-- "An event step raises its event; a pass raises none; both lead to their target." "For new sheets a stop is a move".
abbrev pub make_step : Sheet → State → ℕ → Outcome → Word → Step → State
make_step S s i o w (event_step p q a) = raise (a ∷ []) q s
make_step S s i o w (call_step t) = make_call S s (new_call s i t) o w (target_for o t) (body S t.method)
make_step S s i o w (pass_step p q) = raise [] q s
make_step S s i o w (stop_step p) = cond S.new (stop s) s

-- the points that a step leads from and, with an outcome, to; a stop leads nowhere
abbrev pub from_of : Step → ℕ
from_of (event_step p q a) = p
from_of (call_step t) = t.from
from_of (pass_step p q) = p
from_of (stop_step p) = p

abbrev pub to_of : Outcome → Step → Option ℕ
to_of o (event_step p q a) = some q
to_of o (call_step t) = target_for o t
to_of o (pass_step p q) = some q
to_of o (stop_step p) = none

-- "A step needs control at its from."
abbrev pub try_step : Sheet → State → ℕ → Outcome → Word → Option Step → State
try_step S s i o w none = s
try_step S s i o w (some t) = cond (eqb s.point (from_of t)) (make_step S s i o w t) s

-- the step that made a call, if one did, and where a return from it leads: "to the target of the call's step, if it has one", or "to the failed target";
-- the outermost call leads nowhere else
abbrev pub made_by : Sheet → Option ℕ → Option Step
made_by S none = none
made_by S (some i) = get_elem? S.steps i

abbrev pub target_or : ℕ → Outcome → Option Step → Option ℕ
target_or here o none = some here
target_or here o (some t) = to_of o t

-- no call is open
abbrev pub none_open : List Call → Bool
none_open [] = true
none_open (c ∷ cs) = false

-- "it closes that call and leads to the target of the call's step, if it has one. The run ends when the outermost method 0 returns": then no
-- call is open. "Failing is a way of returning, and ends the run where the outermost method 0 fails."
abbrev pub close : State → Outcome → Call → List Call → ℕ → State
close s o c callers q =
    record {
      history = s.history;
      open_calls = callers;
      returned_calls = record { call = c; outcome = o; at = s.history } ∷ s.returned_calls;
      point = q;
      ended = none_open callers;
    }

-- a call whose step has no failed target cannot fail
abbrev pub close_to : State → Outcome → Call → List Call → Option ℕ → State
close_to s o c callers none = s
close_to s o c callers (some q) = close s o c callers q

-- "A return needs control at the active method's exit point"; failing leads "from the failed exit"
abbrev pub is_at : Option ℕ → ℕ → Bool
is_at none p = false
is_at (some e) p = eqb p e

-- a return from the innermost open call, if there is one and control is there
abbrev pub try_return : Sheet → State → Outcome → List Call → State
try_return S s o [] = s
try_return S s o (c ∷ callers) =
    cond (is_at (exit_in o (body S c.method)) s.point) (close_to s o c callers (target_or s.point o (made_by S c.step))) s

-- a move before the end
abbrev pub try_move : Sheet → State → Move → State
try_move S s (return o) = try_return S s o s.open_calls
try_move S s (by_step i o w) = try_step S s i o w (get_elem? S.steps i)

-- "A move that cannot be made, and any move after the end, changes nothing."
unfoldable pub move : Sheet → State → Move → State
move S s m = cond s.ended s (try_move S s m)

-- "A call of a primitive needs a word of the primitive's trace, whichever it is", said with the language: in the state s the step i, which is t, calls a
-- primitive and leads to q with the outcome o, is made with exactly the words that the trace of that outcome holds (proofs/Moves).
pub record MadeByTrace (S : Sheet) (s : State) (i : ℕ) (t : CallStep) (o : Outcome) (q : ℕ) (w : Word) : Type 0 where
  pub made : Holds (trace_of S (new_call s i t) o) w → move S s (by_step i o w) ≡ returned_now (new_call s i t) o (raise w q s)
  pub not_made : (Holds (trace_of S (new_call s i t) o) w → ⊥) → move S s (by_step i o w) ≡ s

-- "Each move starts from what the last one left, and nothing else changes a run or its sheet."
unfoldable pub run_on : Sheet → State → List Move → State
run_on S s [] = s
run_on S s (m ∷ ms) = run_on S (move S s m) ms

-- the run of a list of moves, from a fresh start of the method m
unfoldable pub run : Sheet → ℕ → List Move → State
unfolding start move run_on accepts exchange
run S m ms = run_on S (start S m) ms

-- Demand 3 --------------------------------------------------------------------------------------------------------------

-- What is promised of a state of a run, said with the conditions' languages.
pub record Safe (S : Sheet) (s : State) : Type 0 where
  -- "every call so far began after a history in its pre"
  pub began_well : Each (λ c. Holds (pre_of S c) c.began) (calls s)
  -- "every returned call raised a word of its trace"
  pub raised_well : Each (λ r. Holds (trace_of S r.call r.outcome) (raised r)) s.returned_calls
  -- "if the run ends, what followed each return is in its future"; "'the run ends' includes" a stop, also while the call that made it is open
  pub ended_well : s.ended ≡ true
      → Each (λ r. Holds (future_of S r.call r.outcome) (since r.at s.history)) s.returned_calls
