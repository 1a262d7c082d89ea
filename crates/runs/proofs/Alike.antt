-- Two activations that agree in method, step, history and callers. What a call that the first made still asks is owed in the first and in its
-- caller, and not in the second, where it would not be met. The sheet is that of examples/activations.
use mathlib.Core.Path.{◌≡◌, refl}
use mathlib.Core.Bool.{false}
use mathlib.Core.Option.{Option, none, some}
use mathlib.Core.List.Memᴰ
use mathlib.Core.List.{List, [], ◌∷◌, ◌++◌}
use mathlib.Core.Logic.{⊎_elim}
use Prim.Native.Nat.{ℕ, ◌-◌, ◌^◌}
use native.Mathlib.Omega.{arith}
use lib.ListN.{get_elem?}
use Rattle.condition.specs.Condition.{empty, star, event, any, globally}
use Rattle.condition.proofs.Words.{words}
use Rattle.sheet.specs.Sheet.{normal, point_from, event_step, call_from, pass_step, Sheet, condition}
use Rattle.runs.specs.Runs.{Call, Returned, Move, return, by_step, run}
use Rattle.runs.specs.Owing.{InCaller, LiesInFuture}
use Rattle.runs.proofs.Methods.{primitive, with_body}

-- Method 0 goes from point 0 to 2. It calls the primitive 1, which raises nothing and asks that 0 does not come; then any number of times itself,
-- by one step; then it passes or raises 2. At point 0 anything is due.
abbrev pub visits : Sheet
visits = record {
  conditions = empty ∷ star (any 32) ∷ star (event 2) ∷ globally (2 ^ 32 - 1 - 1) ∷ [];
  points = point_from 2 0 1 ∷ point_from 2 2 2 ∷ point_from 2 2 2 ∷ [];
  methods = with_body 2 2 2 0 2 ∷ primitive 1 0 3 ∷ [];
  steps = call_from 0 1 1 ∷ call_from 1 1 0 ∷ pass_step 1 2 ∷ event_step 1 2 2 ∷ [];
  certificates = [];
  new = false;
}

-- the primitive, method 0, the primitive again: now in the first of the two
abbrev pub to_first : List Move
to_first = by_step 0 normal [] ∷ by_step 1 normal [] ∷ by_step 0 normal [] ∷ []

-- it returns, to the outermost
abbrev to_outermost : List Move
to_outermost = to_first ++ (by_step 2 normal [] ∷ return normal ∷ [])

-- the same step again: in the second
abbrev to_second : List Move
to_second = to_outermost ++ (by_step 1 normal [] ∷ [])

-- in the run of the moves, the last call to return (n = 0), the last but one (n = 1) and so on, if there is one
abbrev returned_in : List Move → ℕ → Option Returned
returned_in ms n = get_elem? (run visits 0 ms).returned_calls n

abbrev OwedTo : List Call → Option Returned → Type 0
OwedTo cs none = ⊥
OwedTo cs (some r) = InCaller cs r.call

-- its future is owed in the state that the moves lead to
abbrev OwedAfter : List Move → ℕ → Type 0
OwedAfter ms n = OwedTo (run visits 0 ms).open_calls (returned_in ms n)

-- The call of the primitive that the first made is the last to return; once the first has returned too, it is the last but one.
pub owed-in-first : OwedAfter to_first 0
unfolding run
owed-in-first = Memᴰ.head refl

pub owed-in-outermost : OwedAfter to_outermost 1
unfolding run
owed-in-outermost = Memᴰ.tail (Memᴰ.head refl)

pub not-owed-in-second : OwedAfter to_second 1 → ⊥
unfolding run
not-owed-in-second m = ⊎_elim (λ e. omega arith) (λ k. ⊎_elim (λ e. omega arith) Memᴰ.not-nil (Memᴰ.cases_cons k)) (Memᴰ.cases_cons m)

-- The calls themselves --------------------------------------------------------------------------------------------------

abbrev outermost : Call
outermost = record { method = 0; channel = none; step = none; began = []; activation = record { number = 0; callers = [] } }

-- the first and the second, but for their numbers
abbrev visit : ℕ → Call
visit n = record { method = 0; channel = none; step = some 1; began = []; activation = record { number = n; callers = 0 ∷ [] } }

pub open-calls-are :
    ((run visits 0 to_first).open_calls ≡ visit 2 ∷ outermost ∷ [])
    × ((run visits 0 to_outermost).open_calls ≡ outermost ∷ [])
    × ((run visits 0 to_second).open_calls ≡ visit 4 ∷ outermost ∷ [])
unfolding run
open-calls-are = (refl, refl, refl)

-- the call of the primitive that the first made
abbrev probed : Returned
probed =
    record {
      call = record { method = 1; channel = none; step = some 0; began = []; activation = record { number = 3; callers = 2 ∷ 0 ∷ [] } };
      outcome = normal;
      at = [];
    }

pub is-probed : (returned_in to_first 0 ≡ some probed) × (returned_in to_outermost 1 ≡ some probed) × (returned_in to_second 1 ≡ some probed)
unfolding run
is-probed = (refl, refl, refl)

-- in the second it would not be met: 0 is due there
pub not-met-in-second : LiesInFuture visits (run visits 0 to_second) probed → ⊥
unfolding run
not-met-in-second f = (words (condition visits 3) (0 ∷ [])).1 (f (0 ∷ []) ((words (condition visits 1) (0 ∷ [])).0 tt))
