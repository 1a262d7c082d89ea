-- Document 02, Ask 11, "The mission's properties hold with the exchanged conditions": the gate on channel 1 from its bytes, its runs and what the promise says
-- of them; a sheet with a call on a channel that meets the premises of the second half of demand 3; and sheets whose runs forbid to accept them with
-- conditions that are not exchanged.
use mathlib.Core.Path.{◌≡◌, refl}
use mathlib.Core.Bool.{true}
use mathlib.Core.Option.{none, some}
use mathlib.Core.List.Memᴰ
use mathlib.Core.List.{List, [], ◌∷◌, map}
use Prim.Native.Nat.{ℕ}
use native.Mathlib.Omega.{arith}
use Rattle.condition.specs.Condition.{Word, empty, join, event, Holds}
use Rattle.condition.specs.Exchange.{exchange}
use Rattle.condition.specs.Places.{accepts}
use Rattle.condition.proofs.Words.{words}
use Rattle.sheet.specs.Model.{four}
use Rattle.sheet.specs.Each.{nil, cons}
use Rattle.sheet.specs.Sheet.{normal}
use Rattle.sheet.specs.Decode.{sheet_of}
use Rattle.sheet.proofs.Each.{each-head, each_tail}
use Rattle.runs.specs.Rules.{rules, count}
use Rattle.runs.specs.Runs.{State, Move, return, by_step, run, Safe}
use Rattle.runs.specs.Owing.{Owing}
use Rattle.verdict.specs.Verdict.{Report, accepted, certificates_needed, verdict_of}
use Rattle.verdict.specs.Promise.{done, bare, certified, Loads}
use Rattle.verdict.proofs.Parts.{ones, all_empty}
use Rattle.verdict.proofs.Bytes.{small, are-bytes}
use Rattle.verdict.proofs.Loads.{loads}
use Rattle.verdict.proofs.Witnesses.{Premises, in_itself, empty-is-exact}
use Rattle.judged_sheets.proofs.FailingRuns.{joined_in, joined-is-exact}
use Rattle.judged_sheets.proofs.Channels.{of_0, of_1, gate, calling}

-- The gate on channel 1 -----------------------------------------------------------------------------------------------------

abbrev on_one : List ℕ
on_one = gate of_1 2 1 1

is-accepted : verdict_of four on_one ≡ accepted 16
unfolding gate verdict_of
is-accepted = refl

-- the state after a list of moves
abbrev after : List Move → State
after ms = run (sheet_of four on_one) 0 ms

-- opened and closed with the events of channel 1
abbrev through_one : List Move
through_one = by_step 0 normal (16 ∷ []) ∷ by_step 1 normal (17 ∷ []) ∷ return normal ∷ []

-- it ends; the methods and the channels of the calls that returned, the last first
it-ends : ((after through_one).ended ≡ true)
    × ((after through_one).history ≡ 16 ∷ 17 ∷ [])
    × (map (λ r. r.call.method) (after through_one).returned_calls ≡ 0 ∷ 2 ∷ 1 ∷ [])
    × (map (λ r. r.call.channel) (after through_one).returned_calls ≡ none ∷ some 1 ∷ some 1 ∷ [])
unfolding gate sheet_of run
it-ends = (refl, refl, refl, refl)

-- with those of channel 0, as the primitives declare them, no call is made
with-channel-0 : after (by_step 0 normal (0 ∷ []) ∷ by_step 1 normal (1 ∷ []) ∷ []) ≡ after []
unfolding gate sheet_of run
with-channel-0 = refl

-- what the promise says after every list of moves
promised : Loads four on_one (verdict_of four on_one)
unfolding gate small
promised = loads four on_one (omega arith) (are-bytes on_one tt)

is-safe : (ms : List Move) → Safe (sheet_of four on_one) (after ms)
is-safe = promised.sound 16 is-accepted

is-owed : (ms : List Move) → Owing (sheet_of four on_one) (after ms)
is-owed = promised.owing 16 is-accepted

-- of the opening: what it raised, and what followed it; of the closing: what it began after
opened-on-1 : Holds (event 16) (16 ∷ [])
unfolding gate sheet_of run
opened-on-1 = each-head (each_tail (each_tail (is-safe through_one).raised_well))

closed-on-1 : Holds (event 17) (17 ∷ [])
unfolding gate sheet_of run
closed-on-1 = each-head (each_tail (each_tail ((is-safe through_one).ended_well refl)))

after-opening : Holds (event 16) (16 ∷ [])
unfolding gate sheet_of run
after-opening = each-head (each_tail (is-safe through_one).began_well)

-- request 12 of the opening, where the gate is closed: closing and any word of the due there lie in what it asked
owed-on-1 : (v : Word) → Holds empty v → Holds (event 17) (17 ∷ v)
unfolding gate sheet_of run
owed-on-1 = each-head (each_tail (is-owed (by_step 0 normal (16 ∷ []) ∷ by_step 1 normal (17 ∷ []) ∷ []))) (Memᴰ.head refl)

-- The second half of demand 3 --------------------------------------------------------------------------------------------------

-- a sheet with a call on a channel
pub channel-premises : Premises four (all_empty (calling 1 2) (ones 8))
unfolding exchange sheet_of rules certificates_needed
channel-premises =
    record {
      well_formed = record { reading = _; read = refl; enough = refl };
      true_rules =
          cons refl (cons refl (cons in_itself (cons refl (cons in_itself (cons in_itself
          (cons in_itself (cons joined_in (cons joined_in (cons in_itself (cons joined_in nil))))))))));
      exact =
          bare tt (bare tt (certified empty-is-exact (bare tt (certified empty-is-exact (certified empty-is-exact
          (certified empty-is-exact (certified joined-is-exact (certified joined-is-exact (certified empty-is-exact (certified joined-is-exact done))))))))));
    }

-- so whatever keeps the promise accepts it, with the count
promised-channel : {answer : Report} → Loads four (all_empty (calling 1 2) (ones 8)) answer → answer ≡ accepted 11
unfolding sheet_of count
promised-channel l = l.complete channel-premises.well_formed channel-premises.true_rules channel-premises.exact

-- Loaders that do not exchange ---------------------------------------------------------------------------------------------------

-- the trace: method 0 says that the gate of channel 0 is opened and closed, and its calls open and close that of channel 1
trace-as-declared : (n : ℕ) → Loads four (gate of_0 2 1 1) (accepted n) → ⊥
unfolding gate sheet_of run accepts
trace-as-declared n l = (words (join (event 0) (event 1)) (16 ∷ 17 ∷ [])).1 (each-head (l.sound n refl through_one).raised_well)

-- the pre: the gate of channel 0 is closed, which was not opened
pre-as-declared : (n : ℕ) → Loads four (gate of_1 2 1 0) (accepted n) → ⊥
unfolding gate sheet_of run accepts
pre-as-declared n l =
    (words (event 0) (16 ∷ [])).1
    (each-head (each_tail (l.sound n refl (by_step 0 normal (16 ∷ []) ∷ by_step 1 normal (1 ∷ []) ∷ [])).began_well))

-- the future: it asks for a closing of channel 1 as it is declared, and so for one of channel 0
future-as-declared : (n : ℕ) → Loads four (gate of_1 4 1 1) (accepted n) → ⊥
unfolding gate sheet_of run accepts
future-as-declared n l = (words (event 1) (17 ∷ [])).1 (each-head (each_tail (each_tail ((l.sound n refl through_one).ended_well refl))))
