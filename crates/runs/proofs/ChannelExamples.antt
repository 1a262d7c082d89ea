-- A call on a channel: a sheet whose rules are true, on every channel, and its run by evaluation on channel 2. Two other sheets show that a pre and a
-- future that are not exchanged do not make runs safe, and one more that a call of a method with body on a channel does not.
use mathlib.Core.Path.{◌≡◌, refl, sym, ap, subst}
use Prim.Native.Nat.{ℕ, ◌≤◌}
use mathlib.Core.Bool.{true, false}
use mathlib.Core.Option.{some}
use mathlib.Core.List.Memᴰ
use mathlib.Core.List.{List, [], ◌∷◌, ◌++◌, map}
use Rattle.condition.specs.Condition.{Condition, empty, join, event, Holds, ◌⊆◌}
use Rattle.condition.specs.Exchange.{swap, exchange}
use Rattle.condition.proofs.Words.{words}
use Rattle.condition.proofs.Exchange.{exchange-event}
use Rattle.sheet.specs.Each.{Each, nil, cons}
use Rattle.sheet.proofs.Each.{each-head, each_tail}
use Rattle.sheet.specs.Sheet.{normal, point_from, event_step, channel_call_from, Sheet, past, due, pre, future}
use Rattle.sheet_laws.specs.Names.{StepOnChannel, ChannelsFit}
use Rattle.runs.specs.Rules.{◌is_in◌, Met, Rule, ◌of◌says◌, rules_from, AllMet}
use Rattle.runs.specs.Runs.{Returned, State, future_of, Move, return, by_step, run, Safe}
use Rattle.runs.specs.Owing.{Owing}
use Rattle.runs.proofs.Methods.{primitive, with_body}
use Rattle.runs.proofs.Examples.{of_0, ◌returned-at◌, midway, Row, ◌leaves◌, states}
use Rattle.runs.proofs.Failing.{same}
use Rattle.runs.proofs.Stopping.{MetBut}
use Rattle.runs.proofs.Safe.{runs-are-safe}
use Rattle.runs.proofs.Owing.{runs-owe}

-- The gate ---------------------------------------------------------------------------------------------------------------

-- 0 is open, 1 close and 2 advance. The primitive 1 closes the gate: it asks for an open before it, and for an advance behind it.
abbrev opened : Condition
opened = join empty (event 0)

abbrev to_advance : Condition
to_advance = join (event 2) empty

-- Method 0 goes from point 0 to 3: it raises the event `before`, calls the primitive on channel c and raises the event `after`. Conditions 1 to 3 are
-- the primitive's trace, pre and future, 4 to 6 the histories at points 1 to 3, and 7 to 9 what is due at points 2, 1 and 0.
abbrev gate : (c before after : ℕ) → Sheet
gate c before after = record {
  conditions =
      empty ∷ event 1 ∷ opened ∷ to_advance
      ∷ join empty (event before)
      ∷ join (join empty (event before)) (event (swap c 1))
      ∷ join (join (join empty (event before)) (event (swap c 1))) (event after)
      ∷ join (event after) empty
      ∷ join (event (swap c 1)) (join (event after) empty)
      ∷ join (event before) (join (event (swap c 1)) (join (event after) empty))
      ∷ [];
  points = point_from 0 0 9 ∷ point_from 4 4 8 ∷ point_from 5 5 7 ∷ point_from 6 6 0 ∷ [];
  methods = with_body 0 6 0 0 3 ∷ primitive 2 1 3 ∷ [];
  steps = event_step 0 1 before ∷ channel_call_from 1 2 1 c ∷ event_step 2 3 after ∷ [];
  certificates = [];
  new = false;
}

same-as : {a b : Condition} → a ≡ b → a ⊆ b
same-as e w = subst (λ r. Holds r w) e

-- All its rules are true but for 10 and 13 of the call: what follows for each true rule, and holds of these two, holds of all.
module _ (c before after : ℕ) (P : Rule → Type 0) (met : (x : Rule) → Met x.claim → P x)
    (rule_10 : P (10 of 1 says join empty (event before) is_in exchange c opened))
    (rule-13 : P (13 of 1 says join (event after) empty is_in exchange c to_advance)) where
  holds : {x : Rule} {xs : List Rule} → Met x.claim → Each P xs → Each P (x ∷ xs)
  holds {x} h t = cons (met x h) t

  abbrev history : Condition
  history = join empty (event before)

  abbrev later : Condition
  later = join (event after) empty

  -- 1 and 2; 3 to 6 of the method; 7 to 9 of the first event; 10 to 14 of the call; 7 to 9 of the second event
  gate-rules : Each P (rules_from (0 ∷ []) (gate c before after))
  unfolding rules_from
  gate-rules =
      let close = exchange-event c 1 in
      holds refl (holds refl
      (holds (same empty) (holds refl (holds (same (join (join history (event (swap c 1))) (event after))) (holds (same empty)
      (holds (same history) (holds (same history) (holds (same (join (event before) (join (event (swap c 1)) later)))
      (cons rule_10 (holds (same-as (ap (join history) close)) (holds (same-as (ap (join history) close))
      (cons rule-13 (holds (same-as (ap (λ (r : Condition). join r later) close))
      (holds (same (join (join history (event (swap c 1))) (event after))) (holds (same (join (join history (event (swap c 1))) (event after)))
      (holds (same later) nil))))))))))))))))

-- Every channel ----------------------------------------------------------------------------------------------------------

-- on channel c: the open and the advance are that channel's
abbrev on : ℕ → Sheet
on c = gate c (swap c 0) (swap c 2)

on-rules : (c : ℕ) → AllMet (rules_from (0 ∷ []) (on c))
unfolding exchange
on-rules c =
    gate-rules c (swap c 0) (swap c 2) (λ x. Met x.claim) (λ x h. h)
    (same-as (ap (join empty) (sym (exchange-event c 0))))
    (same-as (ap (λ (r : Condition). join r empty) (sym (exchange-event c 2))))

gate-fits : (c before after : ℕ) → c ≤ 3 → ChannelsFit (gate c before after)
gate-fits c before after l =
    let call : StepOnChannel (gate c before after) (channel_call_from 1 2 1 c) = (refl, refl, l) in
    cons tt (cons call (cons tt nil))

every-run : (c : ℕ) → c ≤ 3 → (ms : List Move) → Safe (on c) (run (on c) 0 ms) × Owing (on c) (run (on c) 0 ms)
every-run c l ms =
    let fits = gate-fits c (swap c 0) (swap c 2) l in (
      runs-are-safe (on c) fits (0 ∷ []) (on-rules c) 0 (Memᴰ.head refl) tt ms,
      runs-owe (on c) fits (0 ∷ []) (on-rules c) 0 (Memᴰ.head refl) tt ms,
    )

-- Channel 2, by evaluation -----------------------------------------------------------------------------------------------

-- 32 is that channel's open, 33 its close and 34 its advance
abbrev second : Sheet
second = gate 2 32 34

-- the call of the primitive
abbrev closing : Returned
closing =
    record { method = 1; channel = some 2; step = some 1; began = 32 ∷ []; activation = record { number = 1; callers = 0 ∷ [] } }
    returned-at (32 ∷ 33 ∷ [])

abbrev at-end : State
at-end = record {
  history = 32 ∷ 33 ∷ 34 ∷ [];
  open_calls = [];
  returned_calls = (of_0 returned-at (32 ∷ 33 ∷ 34 ∷ [])) ∷ closing ∷ [];
  point = 3;
  ended = true;
}

abbrev rows : List Row
rows =
    (by_step 0 normal [] leaves midway (32 ∷ []) 1 (of_0 ∷ []) [])
    -- a word of the trace as it is declared, and a word of it on channel 3
    ∷ (by_step 1 normal (1 ∷ []) leaves midway (32 ∷ []) 1 (of_0 ∷ []) [])
    ∷ (by_step 1 normal (49 ∷ []) leaves midway (32 ∷ []) 1 (of_0 ∷ []) [])
    -- the word of it on channel 2
    ∷ (by_step 1 normal (33 ∷ []) leaves midway (32 ∷ 33 ∷ []) 2 (of_0 ∷ []) (closing ∷ []))
    ∷ (by_step 2 normal [] leaves midway (32 ∷ 33 ∷ 34 ∷ []) 3 (of_0 ∷ []) (closing ∷ []))
    ∷ (return normal leaves at-end)
    ∷ []

rows-are-so : states second [] rows ≡ map (λ x. x.leaves) rows
unfolding run
rows-are-so = refl

-- the moves to where the primitive has returned, and to the end
abbrev to_return : List Move
to_return = by_step 0 normal [] ∷ by_step 1 normal (33 ∷ []) ∷ []

abbrev to_end : List Move
to_end = to_return ++ (by_step 2 normal [] ∷ return normal ∷ [])

is-safe : Safe second (run second 0 to_end)
unfolding run
is-safe =
    let whole = join (join (join empty (event 32)) (event 33)) (event 34) in
    record {
      began_well = cons refl (cons ((words (join empty (event 32)) (32 ∷ [])).0 tt) nil);
      raised_well = cons ((words whole (32 ∷ 33 ∷ 34 ∷ [])).0 tt) (cons ((words (event 33) (33 ∷ [])).0 tt) nil);
      ended_well = λ e. cons refl (cons ((words (join (event 34) empty) (34 ∷ [])).0 tt) nil);
    }

-- 34 is due, and is what the future asks for
is-owed : Owing second (run second 0 to_return) × (future_of second closing.call normal ≡ join (event 34) empty)
unfolding run
is-owed = (cons (λ i v h. h) nil, refl)

-- Conditions that are not exchanged --------------------------------------------------------------------------------------

-- Where the open before the call is that of channel 0, which is the pre as it is declared, only 10 is not true: the call begins after no open of its
-- own channel.
abbrev wrong_open : Sheet
wrong_open = gate 2 0 34

wrong-open-rules : MetBut 10 (rules_from (0 ∷ []) wrong_open)
unfolding exchange
wrong-open-rules =
    gate-rules 2 0 34 (λ x. (x.number ≡ 10 → ⊥) → Met x.claim) (λ x h n. h) (λ n. absurd (n refl)) (λ n. same (join (event 34) empty))

in-declared-pre : past wrong_open 1 ⊆ pre wrong_open 1
in-declared-pre = same opened

pre-unmet : Safe wrong_open (run wrong_open 0 to_return) → ⊥
unfolding run
pre-unmet s = (words (join empty (event 32)) (0 ∷ [])).1 (each-head (each_tail s.began_well))

-- Where the advance behind it is that of channel 0, which is the future as it is declared, only 13 is not true: its own channel's does not follow.
abbrev wrong_advance : Sheet
wrong_advance = gate 2 32 2

wrong-advance-rules : MetBut 13 (rules_from (0 ∷ []) wrong_advance)
unfolding exchange
wrong-advance-rules =
    gate-rules 2 32 2 (λ x. (x.number ≡ 13 → ⊥) → Met x.claim) (λ x h n. h) (λ n. same (join empty (event 32))) (λ n. absurd (n refl))

in-declared-future : due wrong_advance 2 ⊆ future wrong_advance 1 normal
in-declared-future = same to_advance

future-unmet : Safe wrong_advance (run wrong_advance 0 to_end) → ⊥
unfolding run
future-unmet s = (words (join (event 34) empty) (2 ∷ [])).1 (each-head (each_tail (s.ended_well refl)))

-- A method with body -----------------------------------------------------------------------------------------------------

-- Method 0 goes from point 0 to 1 and calls method 1 on channel 2. Method 1 goes from point 2 to 3 by the event 1. The rules of the call speak of the
-- trace on that channel, those of method 1 of the trace as it is declared.
abbrev through : Sheet
through = record {
  conditions =
      empty ∷ join empty (event 1) ∷ join (event 1) empty
      ∷ join empty (join empty (event 33)) ∷ join (join empty (event 33)) empty
      ∷ [];
  points = point_from 0 0 4 ∷ point_from 3 3 0 ∷ point_from 0 0 2 ∷ point_from 1 1 0 ∷ [];
  methods = with_body 0 3 0 0 1 ∷ with_body 0 1 0 2 3 ∷ [];
  steps = channel_call_from 0 1 1 2 ∷ event_step 2 3 1 ∷ [];
  certificates = [];
  new = false;
}

-- 1 and 2; 3 to 6 of both methods; 10 to 14 of the call; 7 to 9 of the event
through-rules : AllMet (rules_from (0 ∷ []) through)
unfolding rules_from exchange
through-rules =
    let raised = join empty (event 1) in
    let read = join empty (join empty (event 33)) in
    cons refl (cons refl
    (cons (same empty) (cons refl (cons (same read) (cons (same empty)
    (cons (same empty) (cons refl (cons (same raised) (cons (same empty)
    (cons (same empty) (cons (same read) (cons (same read) (cons (same empty) (cons (same (join (join empty (event 33)) empty))
    (cons (same raised) (cons (same raised) (cons (same (join (event 1) empty)) nil)))))))))))))))))

-- method 1 raises 1, which its trace lacks on channel 2
through-unsafe : Safe through (run through 0 (by_step 0 normal [] ∷ by_step 1 normal [] ∷ return normal ∷ [])) → ⊥
unfolding run
through-unsafe s = (words (join empty (event 33)) (1 ∷ [])).1 (each-head s.raised_well)

-- of all premises of safety, that channels fit is the one that does not hold of it
through-unfit : ChannelsFit through → ⊥
through-unfit fit = through-unsafe (runs-are-safe through fit (0 ∷ []) through-rules 0 (Memᴰ.head refl) tt _)
