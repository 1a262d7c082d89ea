-- Runs that are not safe, one for each thing that demand 3 asks: pre, trace and future, of the outermost call, of an inner one and of a primitive;
-- and of calls that fail, whose trace and future are those of their outcome. Each sheet differs in one condition of one method from a sheet whose same
-- runs are safe.
use mathlib.Core.Path.{◌≡◌, refl}
use mathlib.Core.Bool.{false, false≢true}
use mathlib.Core.List.{List, [], ◌∷◌, ◌++◌}
use Prim.Native.Nat.{ℕ}
use Rattle.condition.specs.Condition.{Condition, empty, join, event}
use Rattle.condition.proofs.Words.{words}
use Rattle.sheet.specs.Each.{nil, cons}
use Rattle.sheet.proofs.Each.{each-head, each_tail}
use Rattle.sheet.specs.Sheet.{normal, failed, Point, point_from, event_step, call_from, failing_call_from, Sheet}
use Rattle.runs.specs.Runs.{Move, return, by_step, run, Safe}
use Rattle.runs.proofs.Methods.{primitive, with_body, failing_primitive, failing_with_body}

-- The sheets --------------------------------------------------------------------------------------------------------------

-- runs don't look at a point's conditions
abbrev somewhere : Point
somewhere = point_from 0 0 0

abbrev all_three : Condition
all_three = join (event 0) (join (event 1) (event 2))

-- Method 0 goes from point 0 to 3: it raises 0, calls with_body 1 and raises 2. Method 1 goes from point 4 to 5 and raises 1. Each condition holds
-- one word: the empty word, 0, 1, 2, and 0 1 2. The methods' conditions are given by their numbers, the outer method's first.
abbrev sheet : ℕ → ℕ → ℕ → ℕ → ℕ → ℕ → Sheet
sheet pre0 trace0 future0 pre1 trace1 future1 = record {
  conditions = empty ∷ event 0 ∷ event 1 ∷ event 2 ∷ all_three ∷ [];
  points = somewhere ∷ somewhere ∷ somewhere ∷ somewhere ∷ somewhere ∷ somewhere ∷ [];
  methods = with_body pre0 trace0 future0 0 3 ∷ with_body pre1 trace1 future1 4 5 ∷ [];
  steps = event_step 0 1 0 ∷ call_from 1 2 1 ∷ event_step 4 5 1 ∷ event_step 2 3 2 ∷ [];
  certificates = [];
  new = false;
}

-- the moves to where with_body 1 is open, to where it has returned, and to the end
abbrev to_inner : List Move
to_inner = by_step 0 normal [] ∷ by_step 1 normal [] ∷ []

abbrev to_return : List Move
to_return = to_inner ++ (by_step 2 normal [] ∷ return normal ∷ [])

abbrev to_end : List Move
to_end = to_return ++ (by_step 3 normal [] ∷ return normal ∷ [])

-- Runs that are not safe --------------------------------------------------------------------------------------------------

-- Each sheet differs from `kept`, below, in one condition of one method; of `kept` the same runs are safe.

-- the pre of with_body 0 lacks the empty word: while it is open, and when it has returned
abbrev pre_outer : Sheet
pre_outer = sheet 1 4 0 1 2 3

pub pre-of-open-outermost : Safe pre_outer (run pre_outer 0 []) → ⊥
unfolding run
pre-of-open-outermost s = (words (event 0) []).1 (each-head s.began_well)

pub pre-of-returned-outermost : Safe pre_outer (run pre_outer 0 to_end) → ⊥
unfolding run
pre-of-returned-outermost s = (words (event 0) []).1 (each-head s.began_well)

-- the pre of with_body 1 lacks the word 0: while it is open, and when it has returned
abbrev pre_inner : Sheet
pre_inner = sheet 0 4 0 0 2 3

pub pre-of-open-inner : Safe pre_inner (run pre_inner 0 to_inner) → ⊥
unfolding run
pre-of-open-inner s = (words empty (0 ∷ [])).1 (each-head s.began_well)

pub pre-of-returned-inner : Safe pre_inner (run pre_inner 0 to_return) → ⊥
unfolding run
pre-of-returned-inner s = (words empty (0 ∷ [])).1 (each-head (each_tail s.began_well))

-- the trace of with_body 0 lacks the word 0 1 2
abbrev trace_outer : Sheet
trace_outer = sheet 0 0 0 1 2 3

pub trace-of-outermost : Safe trace_outer (run trace_outer 0 to_end) → ⊥
unfolding run
trace-of-outermost s = (words empty (0 ∷ 1 ∷ 2 ∷ [])).1 (each-head s.raised_well)

-- the trace of with_body 1 lacks the word 1
abbrev trace_inner : Sheet
trace_inner = sheet 0 4 0 1 0 3

pub trace-of-inner : Safe trace_inner (run trace_inner 0 to_return) → ⊥
unfolding run
trace-of-inner s = (words empty (1 ∷ [])).1 (each-head s.raised_well)

-- the future of with_body 0 lacks the empty word
abbrev future_outer : Sheet
future_outer = sheet 0 4 1 1 2 3

pub future-of-outermost : Safe future_outer (run future_outer 0 to_end) → ⊥
unfolding run
future-of-outermost s = (words (event 0) []).1 (each-head (s.ended_well refl))

-- the future of with_body 1 lacks the word 2
abbrev future_inner : Sheet
future_inner = sheet 0 4 0 1 2 0

pub future-of-inner : Safe future_inner (run future_inner 0 to_end) → ⊥
unfolding run
future-of-inner s = (words empty (2 ∷ [])).1 (each-head (each_tail (s.ended_well refl)))

-- The same runs, safe ------------------------------------------------------------------------------------------------------

-- with_body 0 begins with no events, raises 0 1 2, and nothing follows; with_body 1 begins after 0 and raises 1, and 2 follows
abbrev kept : Sheet
kept = sheet 0 4 0 1 2 3

-- the methods' conditions change nothing in these runs
pub same_runs : (a b c d e f : ℕ)
    → (run (sheet a b c d e f) 0 [] ≡ run kept 0 [])
    × (run (sheet a b c d e f) 0 to_inner ≡ run kept 0 to_inner)
    × (run (sheet a b c d e f) 0 to_return ≡ run kept 0 to_return)
    × (run (sheet a b c d e f) 0 to_end ≡ run kept 0 to_end)
unfolding run
same_runs a b c d e f = (refl, refl, refl, refl)

pub kept-at-start : Safe kept (run kept 0 [])
unfolding run
kept-at-start = record { began_well = cons refl nil; raised_well = nil; ended_well = λ e. absurd (false≢true e) }

pub kept-in-inner : Safe kept (run kept 0 to_inner)
unfolding run
kept-in-inner =
    record { began_well = cons ((words (event 0) (0 ∷ [])).0 tt) (cons refl nil); raised_well = nil; ended_well = λ e. absurd (false≢true e) }

pub kept-at-return : Safe kept (run kept 0 to_return)
unfolding run
kept-at-return =
    record {
      began_well = cons refl (cons ((words (event 0) (0 ∷ [])).0 tt) nil);
      raised_well = cons ((words (event 1) (1 ∷ [])).0 tt) nil;
      ended_well = λ e. absurd (false≢true e);
    }

pub kept-at-end : Safe kept (run kept 0 to_end)
unfolding run
kept-at-end =
    record {
      began_well = cons refl (cons ((words (event 0) (0 ∷ [])).0 tt) nil);
      raised_well = cons ((words all_three (0 ∷ 1 ∷ 2 ∷ [])).0 tt) (cons ((words (event 1) (1 ∷ [])).0 tt) nil);
      ended_well = λ e. cons refl (cons ((words (event 2) (2 ∷ [])).0 tt) nil);
    }

-- A primitive ---------------------------------------------------------------------------------------------------------------

-- As `kept`, but with_body 1 calls the primitive 2, whose pre, trace and future are given; its call has two callers. A primitive raises a word of its
-- trace or is not called, so pre and future are left to break.
abbrev calling : ℕ → ℕ → ℕ → Sheet
calling pre trace future = record {
  conditions = empty ∷ event 0 ∷ event 1 ∷ event 2 ∷ all_three ∷ [];
  points = somewhere ∷ somewhere ∷ somewhere ∷ somewhere ∷ somewhere ∷ somewhere ∷ [];
  methods = with_body 0 4 0 0 3 ∷ with_body 1 2 3 4 5 ∷ primitive pre trace future ∷ [];
  steps = event_step 0 1 0 ∷ call_from 1 2 1 ∷ call_from 4 5 2 ∷ event_step 2 3 2 ∷ [];
  certificates = [];
  new = false;
}

-- the moves to where the primitive has returned, to where its caller has, and to the end
abbrev to_primitive : List Move
to_primitive = to_inner ++ (by_step 2 normal (1 ∷ []) ∷ [])

abbrev past_caller : List Move
past_caller = to_primitive ++ (return normal ∷ [])

abbrev past_all : List Move
past_all = past_caller ++ (by_step 3 normal [] ∷ return normal ∷ [])

-- the pre of the primitive lacks the word 0
pub pre-of-primitive : Safe (calling 0 2 3) (run (calling 0 2 3) 0 to_primitive) → ⊥
unfolding run
pre-of-primitive s = (words empty (0 ∷ [])).1 (each-head (each_tail (each_tail s.began_well)))

-- its future lacks the word 2. Up to the return of its caller nothing followed, which that future allows; 2 follows behind it.
pub future-of-primitive : Safe (calling 1 2 0) (run (calling 1 2 0) 0 past_all) → ⊥
unfolding run
future-of-primitive s = (words empty (2 ∷ [])).1 (each-head (each_tail (each_tail (s.ended_well refl))))

-- and the same runs, safe
pub primitive-at-return : Safe (calling 1 2 3) (run (calling 1 2 3) 0 to_primitive)
unfolding run
primitive-at-return =
    record {
      began_well = cons ((words (event 0) (0 ∷ [])).0 tt) (cons refl (cons ((words (event 0) (0 ∷ [])).0 tt) nil));
      raised_well = cons ((words (event 1) (1 ∷ [])).0 tt) nil;
      ended_well = λ e. absurd (false≢true e);
    }

pub primitive-at-end : Safe (calling 1 2 3) (run (calling 1 2 3) 0 past_all)
unfolding run
primitive-at-end =
    record {
      began_well = cons refl (cons ((words (event 0) (0 ∷ [])).0 tt) (cons ((words (event 0) (0 ∷ [])).0 tt) nil));
      raised_well =
          cons ((words all_three (0 ∷ 1 ∷ 2 ∷ [])).0 tt) (cons ((words (event 1) (1 ∷ [])).0 tt) (cons ((words (event 1) (1 ∷ [])).0 tt) nil));
      ended_well = λ e. cons refl (cons ((words (event 2) (2 ∷ [])).0 tt) (cons ((words (event 2) (2 ∷ [])).0 tt) nil));
    }

-- Calls that fail -----------------------------------------------------------------------------------------------------------

-- As the first sheets, but both methods may fail where they return, and method 1 leads to the same point then. Their traces and futures are given: those
-- of the outer method, its failed ones, those of the inner method, its failed ones.
abbrev failing : ℕ → ℕ → ℕ → ℕ → ℕ → ℕ → ℕ → ℕ → Sheet
failing trace0 future0 failed-trace0 failed-future0 trace1 future1 failed-trace1 failed-future1 = record {
  conditions = empty ∷ event 0 ∷ event 1 ∷ event 2 ∷ all_three ∷ [];
  points = somewhere ∷ somewhere ∷ somewhere ∷ somewhere ∷ somewhere ∷ somewhere ∷ [];
  methods =
      failing_with_body 0 trace0 future0 0 3 failed-trace0 failed-future0 3
      ∷ failing_with_body 1 trace1 future1 4 5 failed-trace1 failed-future1 5
      ∷ [];
  steps = event_step 0 1 0 ∷ failing_call_from 1 2 2 1 ∷ event_step 4 5 1 ∷ event_step 2 3 2 ∷ [];
  certificates = [];
  new = false;
}

-- the moves to where method 1 has failed, and to the end, where method 0 fails
abbrev to_failure : List Move
to_failure = to_inner ++ (by_step 2 normal [] ∷ return failed ∷ [])

abbrev to_failed_end : List Move
to_failed_end = to_failure ++ (by_step 3 normal [] ∷ return failed ∷ [])

-- the failed trace of method 0 lacks the word 0 1 2, which its trace holds
pub trace-of-failed-outermost : Safe (failing 4 0 0 0 2 3 2 3) (run (failing 4 0 0 0 2 3 2 3) 0 to_failed_end) → ⊥
unfolding run
trace-of-failed-outermost s = (words empty (0 ∷ 1 ∷ 2 ∷ [])).1 (each-head s.raised_well)

-- the failed trace of method 1 lacks the word 1, which its trace holds
pub trace-of-failed-inner : Safe (failing 4 0 4 0 2 3 0 3) (run (failing 4 0 4 0 2 3 0 3) 0 to_failure) → ⊥
unfolding run
trace-of-failed-inner s = (words empty (1 ∷ [])).1 (each-head s.raised_well)

-- the failed future of method 0 lacks the empty word, which its future holds
pub future-of-failed-outermost : Safe (failing 4 0 4 1 2 3 2 3) (run (failing 4 0 4 1 2 3 2 3) 0 to_failed_end) → ⊥
unfolding run
future-of-failed-outermost s = (words (event 0) []).1 (each-head (s.ended_well refl))

-- the failed future of method 1 lacks the word 2, which its future holds
pub future-of-failed-inner : Safe (failing 4 0 4 0 2 3 2 0) (run (failing 4 0 4 0 2 3 2 0) 0 to_failed_end) → ⊥
unfolding run
future-of-failed-inner s = (words empty (2 ∷ [])).1 (each-head (each_tail (s.ended_well refl)))

-- The same runs, safe: the failed traces and futures hold these words, and the others lack them, each of the four.
abbrev failing_kept : Sheet
failing_kept = failing 0 1 4 0 0 0 2 3

pub failing-kept-at-failure : Safe failing_kept (run failing_kept 0 to_failure)
unfolding run
failing-kept-at-failure =
    record {
      began_well = cons refl (cons ((words (event 0) (0 ∷ [])).0 tt) nil);
      raised_well = cons ((words (event 1) (1 ∷ [])).0 tt) nil;
      ended_well = λ e. absurd (false≢true e);
    }

pub failing-kept-at-end : Safe failing_kept (run failing_kept 0 to_failed_end)
unfolding run
failing-kept-at-end =
    record {
      began_well = cons refl (cons ((words (event 0) (0 ∷ [])).0 tt) nil);
      raised_well = cons ((words all_three (0 ∷ 1 ∷ 2 ∷ [])).0 tt) (cons ((words (event 1) (1 ∷ [])).0 tt) nil);
      ended_well = λ e. cons refl (cons ((words (event 2) (2 ∷ [])).0 tt) nil);
    }

-- of this sheet the runs that return without failing are not safe
pub kept-of-failing-only : Safe failing_kept (run failing_kept 0 to_return) → ⊥
unfolding run
kept-of-failing-only s = (words empty (1 ∷ [])).1 (each-head s.raised_well)

-- A primitive that fails: as `calling`, where its call leads to the same point if it fails. Its future and its failed future are given.
abbrev calling_failing : ℕ → ℕ → Sheet
calling_failing future failed-future = record {
  conditions = empty ∷ event 0 ∷ event 1 ∷ event 2 ∷ all_three ∷ [];
  points = somewhere ∷ somewhere ∷ somewhere ∷ somewhere ∷ somewhere ∷ somewhere ∷ [];
  methods = with_body 0 4 0 0 3 ∷ with_body 1 2 3 4 5 ∷ failing_primitive 1 0 future 2 failed-future ∷ [];
  steps = event_step 0 1 0 ∷ call_from 1 2 1 ∷ failing_call_from 4 5 5 2 ∷ event_step 2 3 2 ∷ [];
  certificates = [];
  new = false;
}

abbrev past_all_failing : List Move
past_all_failing = to_inner ++ (by_step 2 failed (1 ∷ []) ∷ return normal ∷ by_step 3 normal [] ∷ return normal ∷ [])

-- its failed future lacks the word 2, which its future holds
pub future-of-failed-primitive : Safe (calling_failing 3 0) (run (calling_failing 3 0) 0 past_all_failing) → ⊥
unfolding run
future-of-failed-primitive s = (words empty (2 ∷ [])).1 (each-head (each_tail (each_tail (s.ended_well refl))))

-- and the same run, safe, where its future lacks that word
pub failing-primitive-at-end : Safe (calling_failing 0 3) (run (calling_failing 0 3) 0 past_all_failing)
unfolding run
failing-primitive-at-end =
    record {
      began_well = cons refl (cons ((words (event 0) (0 ∷ [])).0 tt) (cons ((words (event 0) (0 ∷ [])).0 tt) nil));
      raised_well =
          cons ((words all_three (0 ∷ 1 ∷ 2 ∷ [])).0 tt) (cons ((words (event 1) (1 ∷ [])).0 tt) (cons ((words (event 1) (1 ∷ [])).0 tt) nil));
      ended_well = λ e. cons refl (cons ((words (event 2) (2 ∷ [])).0 tt) (cons ((words (event 2) (2 ∷ [])).0 tt) nil));
    }
