-- Document 02, Ask 4, "Kind 19 .. ends the whole run": a sheet that stops inside a called method, its runs and what the promise says of them; a stop that
-- leaves open a call whose trace is not met; a sheet that meets the premises of the second half of demand 3; and sheets whose runs forbid to accept them
-- without 25 or without 26.
use mathlib.Core.Path.{◌≡◌, refl, subst}
use mathlib.Core.Bool.{true}
use mathlib.Core.List.Memᴰ
use mathlib.Core.List.{List, [], ◌∷◌, ◌++◌, map}
use Prim.Native.Nat.{ℕ}
use native.Mathlib.Omega.{arith}
use Rattle.condition.specs.Condition.{Word, leaf, empty, either, Holds}
use Rattle.condition.specs.Places.{accepts}
use Rattle.condition.proofs.Words.{words}
use Rattle.sheet.specs.Model.{large}
use Rattle.sheet.specs.Each.{nil, cons}
use Rattle.sheet.specs.Sheet.{normal, point_from, event_step, call_from, stop_step, Sheet}
use Rattle.sheet.specs.Decode.{sheet_of}
use Rattle.sheet.proofs.Each.{each-head, each_tail}
use Rattle.runs.specs.Rules.{rules, count}
use Rattle.runs.specs.Runs.{State, Move, return, by_step, run, Safe}
use Rattle.runs.specs.Owing.{Owing}
use Rattle.runs.proofs.Methods.{primitive, with_body}
use Rattle.verdict.specs.Verdict.{Report, accepted, certificates_needed, verdict_of}
use Rattle.verdict.specs.Line.{line}
use Rattle.verdict.specs.Promise.{done, bare, certified, Loads}
use Rattle.verdict.specs.Cases.{method0}
use Rattle.verdict.proofs.Parts.{Printed, printed, AsPrinted, record_of, one, two, ones, all_empty}
use Rattle.verdict.proofs.Bytes.{small, are-bytes}
use Rattle.verdict.proofs.Loads.{loads}
use Rattle.verdict.proofs.Witnesses.{Premises, in_itself, empty-is-exact}
use Rattle.judged_sheets.proofs.FailingRuns.{joined_in, joined-is-exact}
use Rattle.judged_sheets.proofs.Stopping.{new, stop_at, call}

-- The gate ----------------------------------------------------------------------------------------------------------------

-- EMPTY, 0 (close), and nothing or 0
abbrev conditions : List ℕ
conditions =
    0x02 ∷ 0x06
    ∷ 0x01 ∷ 0x01 ∷ 0 ∷ 0 ∷ 0 ∷ 0x06
    ∷ 0x02 ∷ 0x01 ∷ 0x01 ∷ 0 ∷ 0 ∷ 0 ∷ 0x04 ∷ 0x06
    ∷ []

-- 0: open, where closing is due; 1: closed; 2: open, in the called method, with a due of its own
abbrev points : ℕ → List ℕ
points due = record_of 7 (0 ∷ 0 ∷ 1 ∷ []) ++ (record_of 7 (1 ∷ 1 ∷ 0 ∷ []) ++ record_of 7 (0 ∷ 0 ∷ due ∷ []))

-- method 0 goes from point 0 to 1, and method 3 from 2 to 1; the primitive 1 asks for 0, and the primitive 2 for at most 0
abbrev methods : List ℕ
methods =
    record_of 9 (0 ∷ 1 ∷ 0 ∷ 0 ∷ 1 ∷ []) ++ (record_of 8 (0 ∷ 0 ∷ 1 ∷ []) ++ (record_of 8 (0 ∷ 0 ∷ 2 ∷ []) ++ record_of 9 (0 ∷ 1 ∷ 0 ∷ 2 ∷ 1 ∷ [])))

-- 0: the primitive 1, at point 0; 1: method 3, from 0 to 1; 2: the primitive 2, at point 2; 3: the event 0 from 2 to 1
abbrev steps : List ℕ
steps = call 1 ++ (record_of 11 (0 ∷ 1 ∷ 3 ∷ []) ++ (record_of 11 (2 ∷ 2 ∷ 2 ∷ []) ++ (0x0A ∷ 2 ∷ 0 ∷ 1 ∷ 0 ∷ 0 ∷ [])))

-- of the two methods with body, of the calls, of which the second has one for 26, and of the event
abbrev certificates : List ℕ → List ℕ
certificates of-26 =
    one ++ two ++ one
    ++ one ++ two ++ one
    ++ one ++ one ++ one ++ two ++ two
    ++ one ++ two ++ two ++ one ++ two ++ of-26
    ++ one ++ one ++ one ++ two ++ two
    ++ two ++ two ++ two

-- with the due of point 2, and a stop at a point as step 4
unfoldable gate : (due stop : ℕ) → List ℕ
gate due stop = new (conditions ++ points due ++ methods ++ steps ++ stop_at stop ++ certificates two)

-- 2 + 8 + 15 + 3, 1 for 25 and 1 for 26
is-accepted : verdict_of large (gate 1 1) ≡ accepted 30
unfolding gate verdict_of
is-accepted = refl

others : List Printed
others =
    -- a stop where closing is due
    printed (gate 1 2) "unproved rule 25 step 4 clause 5 pair 0 event 0 place 0"
    -- where it is not, but is where the method is called
    ∷ printed (gate 2 2) "unproved rule 26 step 1 clause 3 pair 0 event 0 place 0"
    -- in the old edition, without the stop
    ∷ printed (conditions ++ points 2 ++ methods ++ steps ++ certificates []) "accepted 28"
    ∷ []

others-print : AsPrinted large others
unfolding others gate verdict_of line
others-print = refl

-- the sheet that the bytes stand for; its runs do not ask what its certificates are
abbrev sheet : (due stop : ℕ) → Sheet
sheet due stop = record {
  conditions = empty ∷ leaf 1 ∷ either empty (leaf 1) ∷ [];
  points = point_from 0 0 1 ∷ point_from 1 1 0 ∷ point_from 0 0 due ∷ [];
  methods = with_body 0 1 0 0 1 ∷ primitive 0 0 1 ∷ primitive 0 0 2 ∷ with_body 0 1 0 2 1 ∷ [];
  steps = call_from 0 0 1 ∷ call_from 0 1 3 ∷ call_from 2 2 2 ∷ event_step 2 1 0 ∷ stop_step stop ∷ [];
  certificates = (sheet_of large (gate due stop)).certificates;
  new = true;
}

abbrev StandsFor : (due stop : ℕ) → Type 0
StandsFor due stop = sheet_of large (gate due stop) ≡ sheet due stop

all-stand-for : StandsFor 1 1 × StandsFor 1 2 × StandsFor 2 2
unfolding gate sheet_of
all-stand-for = (refl, refl, refl)

-- Runs that stop ------------------------------------------------------------------------------------------------------------

-- the state after a list of moves
abbrev after : List Move → State
after ms = run (sheet 1 1) 0 ms

-- a run that stops in method 3, and one that stops in method 0 after that has returned
abbrev to_closed : List Move
to_closed = by_step 0 normal [] ∷ by_step 1 normal [] ∷ by_step 2 normal [] ∷ by_step 3 normal [] ∷ []

abbrev inside : List Move
inside = to_closed ++ (by_step 4 normal [] ∷ [])

abbrev outside : List Move
outside = to_closed ++ (return normal ∷ by_step 4 normal [] ∷ [])

-- both end, at point 1; the methods of the calls that are open and of those that returned
record Ends (ms : List Move) (still_open returned : List ℕ) : Type 0 where
  ends : (after ms).ended ≡ true
  history : (after ms).history ≡ 0 ∷ []
  point : (after ms).point ≡ 1
  open_methods : map (λ c. c.method) (after ms).open_calls ≡ still_open
  returned_methods : map (λ r. r.call.method) (after ms).returned_calls ≡ returned

both_end : Ends inside (3 ∷ 0 ∷ []) (2 ∷ 1 ∷ []) × Ends outside (0 ∷ []) (3 ∷ 2 ∷ 1 ∷ [])
unfolding run
both_end = (
  record { ends = refl; history = refl; point = refl; open_methods = refl; returned_methods = refl },
  record { ends = refl; history = refl; point = refl; open_methods = refl; returned_methods = refl },
)

-- after it no move changes anything: a return, which could be made before the stop
nothing-after : after (inside ++ (return normal ∷ [])) ≡ after inside
unfolding run
nothing-after = refl

-- what the promise says after every list of moves
promised : Loads large (gate 1 1) (verdict_of large (gate 1 1))
unfolding gate small
promised = loads large (gate 1 1) (omega arith) (are-bytes (gate 1 1) tt)

is-safe : (ms : List Move) → Safe (sheet 1 1) (after ms)
is-safe ms = subst (λ (S : Sheet). Safe S (run S 0 ms)) all-stand-for.0 (promised.sound 30 is-accepted ms)

is-owed : (ms : List Move) → Owing (sheet 1 1) (after ms)
is-owed ms = subst (λ (S : Sheet). Owing S (run S 0 ms)) all-stand-for.0 (promised.owing 30 is-accepted ms)

-- At the stop in method 3, which is still open: what followed the call that its caller made is in that call's future,
closed-at-stop : Holds (leaf 1) (0 ∷ [])
unfolding run
closed-at-stop = each-head (each_tail ((is-safe inside).ended_well refl))

-- and of the call that it made itself request 12 says so with any word of the due there
owed-at-stop : (v : Word) → Holds empty v → Holds (either empty (leaf 1)) (0 ∷ v)
unfolding run
owed-at-stop = each-head (is-owed inside) (Memᴰ.head refl)

-- at the stop in method 0 it says so of the call that method 0 made
owed-outside : (v : Word) → Holds empty v → Holds (leaf 1) (0 ∷ v)
unfolding run
owed-outside = each-head (each_tail (each_tail (is-owed outside))) (Memᴰ.head refl)

-- "calls still open owe their pre-condition only" --------------------------------------------------------------------------------

-- method 0 has the trace 0, and may stop before that: due of its entry has the empty word
unfoldable early : List ℕ
early =
    new (conditions
    ++ record_of 7 (0 ∷ 0 ∷ 2 ∷ [])
    ++ record_of 7 (1 ∷ 1 ∷ 0 ∷ [])
    ++ record_of 9 (0 ∷ 1 ∷ 0 ∷ 0 ∷ 1 ∷ [])
    ++ (0x0A ∷ 0 ∷ 0 ∷ 1 ∷ 0 ∷ 0 ∷ [])
    ++ stop_at 0
    ++ one ++ two ++ one
    ++ two ++ two ++ two)

early-accepted : verdict_of large early ≡ accepted 10
unfolding early verdict_of
early-accepted = refl

-- it stops at once: the run has ended, with method 0 open, and what method 0 raised is no word of its trace
stops-early : ((run (sheet_of large early) 0 (by_step 1 normal [] ∷ [])).ended ≡ true)
    × (map (λ c. c.method) (run (sheet_of large early) 0 (by_step 1 normal [] ∷ [])).open_calls ≡ 0 ∷ [])
    × (Holds (leaf 1) (run (sheet_of large early) 0 (by_step 1 normal [] ∷ [])).history → ⊥)
unfolding early sheet_of run accepts
stops-early = (refl, refl, λ h. (words (leaf 1) []).1 h)

-- The second half of demand 3 --------------------------------------------------------------------------------------------------

-- a sheet of the new edition with a call of a method with body, and a stop
pub stop-premises : Premises large (new (all_empty (method0 0 ++ (call 0 ++ stop_at 0)) (ones 9)))
unfolding sheet_of rules certificates_needed
stop-premises =
    record {
      well_formed = record { reading = _; read = refl; enough = refl };
      true_rules =
          cons refl (cons refl (cons in_itself (cons refl (cons in_itself (cons in_itself
          (cons in_itself (cons joined_in (cons joined_in (cons in_itself (cons joined_in (cons in_itself
          (cons refl nil))))))))))));
      exact =
          bare tt (bare tt (certified empty-is-exact (bare tt (certified empty-is-exact (certified empty-is-exact
          (certified empty-is-exact (certified joined-is-exact (certified joined-is-exact (certified empty-is-exact (certified joined-is-exact
          (certified empty-is-exact (bare tt done))))))))))));
    }

-- so whatever keeps the promise accepts it, with the count
promised-stop : {answer : Report} → Loads large (new (all_empty (method0 0 ++ (call 0 ++ stop_at 0)) (ones 9))) answer → answer ≡ accepted 13
unfolding sheet_of count
promised-stop l = l.complete stop-premises.well_formed stop-premises.true_rules stop-premises.exact

-- Loaders that do not test 25 or 26 ----------------------------------------------------------------------------------------------

-- method 3 stops at its entry, and nothing followed the call that asks for 0: with the due 1 there 25 is false, with the due 2 there 26
abbrev at_entry : List Move
at_entry = by_step 0 normal [] ∷ by_step 1 normal [] ∷ by_step 4 normal [] ∷ []

not-safe : (due : ℕ) → Safe (sheet due 2) (run (sheet due 2) 0 at_entry) → ⊥
unfolding run accepts
not-safe due h = (words (leaf 1) []).1 (each-head (h.ended_well refl))

without-25 : (n : ℕ) → Loads large (gate 1 2) (accepted n) → ⊥
without-25 n l = not-safe 1 (subst (λ (S : Sheet). Safe S (run S 0 at_entry)) all-stand-for.1 (l.sound n refl at_entry))

without-26 : (n : ℕ) → Loads large (gate 2 2) (accepted n) → ⊥
without-26 n l = not-safe 2 (subst (λ (S : Sheet). Safe S (run S 0 at_entry)) all-stand-for.2 (l.sound n refl at_entry))
