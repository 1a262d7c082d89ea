-- Document 01's loop whose body starts with event 0 and calls "close" last: where some run that ends goes round twice, the rules are not all
-- true, whatever the points' conditions are.
use mathlib.Core.Path.{◌≡◌, refl, sym, ap, ◌∙◌, subst}
use Prim.Native.Nat.{ℕ}
use mathlib.Core.Bool.{Bool, true, false}
use mathlib.Core.Logic.{inl, inr}
use mathlib.Core.Option.{none, some}
use mathlib.Core.List.{List, [], ◌∷◌, ◌++◌, append_assoc, append-nil, Memᴰ}
use lib.ListN.{get_elem?}
use lib.Dec.{T}
use lib.Seq.{drop-append_seam}
use Rattle.bits.specs.Bits.{has}
use Rattle.condition.specs.Condition.{Word, Condition, empty, join, either, star, any, event, Holds}
use Rattle.condition.specs.Places.{accepts}
use Rattle.certificate.specs.Certificate.{Certificate}
use Rattle.sheet.specs.Sheet.{normal, Point, CallStep, event_step, call_step, pass_step, Sheet, body}
use Rattle.sheet.specs.Each.{nil, cons}
use Rattle.sheet.proofs.Each.{each_member}
use Rattle.sheet_laws.specs.Names.{HasBody, ChannelsFit}
use Rattle.runs.specs.Rules.{rules_from, AllMet}
use Rattle.runs.specs.Runs.{Returned, State, trace_of, future_of, since, Move, return, by_step, raise, new_call, returned_now, move, run_on, run}
use Rattle.runs.proofs.Moves.{Makes, event_made, pass_made, primitive_made, open_made, stop_made, return_made, run-on-append, run-append, run-on-keeps, step-made, by-trace}
use Rattle.runs.proofs.Safe.{runs-are-safe}

-- What stays ------------------------------------------------------------------------------------------------------------

-- a later state: the call r has returned, and the history goes on from h
record Later (r : Returned) (h : Word) (s : State) : Type 0 where
  returned : Memᴰ r s.returned_calls
  added : Word
  goes_on : s.history ≡ h ++ added

module _ (S : Sheet) (r : Returned) (h : Word) where
  raised-later : (s : State) (w : Word) (q : ℕ) → Later r h s → Later r h (raise w q s)
  raised-later s w q l =
      record {
        returned = l.returned;
        added = l.added ++ w;
        goes_on = ap (λ (x : Word). x ++ w) l.goes_on ∙ append_assoc h l.added w;
      }

  later-kept : (s t : State) → s.ended ≡ false → Makes S s t → Later r h s → Later r h t
  later-kept s t z (event_made {q = q} {a = a} i found) l = raised-later s (a ∷ []) q l
  later-kept s t z (pass_made {q = q} i found) l = raised-later s [] q l
  later-kept s t z (primitive_made {q = q} i o w found at is to held) l =
      let k = raised-later s w q l in
      record { returned = Memᴰ.tail k.returned; added = k.added; goes_on = k.goes_on }
  later-kept s t z (open_made i found at is) l = record { returned = l.returned; added = l.added; goes_on = l.goes_on }
  later-kept s t z (stop_made i found marked) l = record { returned = l.returned; added = l.added; goes_on = l.goes_on }
  later-kept s t z (return_made o opened is at to) l =
      record { returned = Memᴰ.tail l.returned; added = l.added; goes_on = l.goes_on }

  later : (s : State) (ms : List Move) → Later r h s → Later r h (run_on S s ms)
  later s ms l = run-on-keeps S (Later r h) later-kept s ms l

-- Going round twice -----------------------------------------------------------------------------------------------------

-- A run that ends, in which a call of a primitive by the step `close` returns normally and is followed, without an event between them, by an event
-- step that raises 0:
-- "called last in a loop whose body starts with event 0".
pub record TwiceRound (S : Sheet) (m : ℕ) (close : CallStep) : Type 0 where
  pub before : List Move
  pub between : List Move
  pub after : List Move
  -- the last step of the first round
  pub last : ℕ
  pub word : Word
  pub running : (run S m before).ended ≡ false
  pub last_is : get_elem? S.steps last ≡ some (call_step close)
  pub last_from : (run S m before).point ≡ close.from
  pub primitive : body S close.method ≡ none
  pub in_trace : accepts (trace_of S (new_call (run S m before) last close) normal) word ≡ true
  -- the way back, which raises nothing
  pub quiet : (run_on S (move S (run S m before) (by_step last normal word)) between).history ≡ (run S m before).history ++ word
  -- the first step of the second round
  pub first : ℕ
  pub first_to : ℕ
  pub still_running : (run_on S (move S (run S m before) (by_step last normal word)) between).ended ≡ false
  pub first_is : get_elem? S.steps first ≡ some (event_step (run_on S (move S (run S m before) (by_step last normal word)) between).point first_to 0)
  -- the run ends
  pub ends : (run S m (before ++ (by_step last normal word ∷ (between ++ (by_step first normal [] ∷ after))))).ended ≡ true

module _ (S : Sheet) (m : ℕ) (close : CallStep) (t : TwiceRound S m close) where
  abbrev s₁ : State
  s₁ = run S m t.before

  abbrev s₂ : State
  s₂ = move S s₁ (by_step t.last normal t.word)

  abbrev s₃ : State
  s₃ = run_on S s₂ t.between

  abbrev s₄ : State
  s₄ = move S s₃ (by_step t.first normal [])

  abbrev all_moves : List Move
  all_moves = t.before ++ (by_step t.last normal t.word ∷ (t.between ++ (by_step t.first normal [] ∷ t.after)))

  -- the call that ends the first round
  abbrev closed : Returned
  closed = record { call = new_call s₁ t.last close; outcome = normal; at = s₁.history ++ t.word }

  closes : s₂ ≡ returned_now (new_call s₁ t.last close) normal (raise t.word close.to s₁)
  closes = by-trace S s₁ t.last normal t.word t.running close t.last_is t.last_from t.primitive refl true t.in_trace

  opens : s₄ ≡ raise (0 ∷ []) t.first_to s₃
  opens = step-made S s₃ t.first normal [] t.still_running (event_step s₃.point t.first_to 0) t.first_is refl

  on-next : (s : State) (x : Move) (xs : List Move) → run_on S s (x ∷ xs) ≡ run_on S (move S s x) xs
  unfolding run_on
  on-next s x xs = refl

  whole_run : run S m all_moves ≡ run_on S s₄ t.after
  whole_run =
      run-append S m t.before _
      ∙ (on-next s₁ _ _
      ∙ (run-on-append S s₂ t.between _
      ∙ on-next s₃ _ _))

  -- at the end, the history goes on from the close by event 0
  closed-then-0 : Later closed (closed.at ++ (0 ∷ [])) (run S m all_moves)
  closed-then-0 = subst (Later closed (closed.at ++ (0 ∷ []))) (sym whole_run) (later S closed _ s₄ t.after at-s₄)
    where
      at-s₂ : Later closed closed.at s₂
      at-s₂ = subst (Later closed closed.at) (sym closes) (record { returned = Memᴰ.head refl; added = []; goes_on = sym (append-nil closed.at) })

      at-s₃ : Later closed closed.at s₃
      at-s₃ = later S closed closed.at s₂ t.between at-s₂

      at-s₄ : Later closed (closed.at ++ (0 ∷ [])) s₄
      at-s₄ =
          subst (Later closed (closed.at ++ (0 ∷ []))) (sym opens)
          (record { returned = at-s₃.returned; added = []; goes_on = ap (λ (x : Word). x ++ (0 ∷ [])) t.quiet ∙ sym (append-nil _) })

  since-close : since closed.at (run S m all_moves).history ≡ 0 ∷ closed-then-0.added
  since-close =
      ap (since closed.at) (closed-then-0.goes_on ∙ append_assoc closed.at (0 ∷ []) closed-then-0.added)
      ∙ drop-append_seam closed.at (0 ∷ closed-then-0.added)

  -- where no word of close's future starts with 0, the rules are not all true
  pub not-all-met : ChannelsFit S → HasBody (body S m) → ((v : Word) → Holds (future_of S closed.call normal) (0 ∷ v) → ⊥) → AllMet (rules_from (m ∷ []) S) → ⊥
  not-all-met fit b no-0 h =
      let ended = (runs-are-safe S fit (m ∷ []) h m (Memᴰ.head refl) b all_moves).ended_well t.ends in
      no-0 closed-then-0.added
      (subst (Holds (future_of S closed.call normal)) since-close
      (each_member (λ r. Holds (future_of S r.call r.outcome) (since r.at (run S m all_moves).history)) ended closed-then-0.returned))

-- The future of document 01: "With 0 open, 1 close, 2 advance" --------------------------------------------------------------

-- "the condition 02, 01 04 00 00 00, 01 FF FF FF FF, 05, 03, 04, 06": nothing more, or next an advance
abbrev pub advance_next : Condition
advance_next = either empty (join (event 2) (star (any 32)))

abbrev head_or4 : Word → ℕ
head_or4 [] = 4
head_or4 (e ∷ w) = e

pub no-0 : (v : Word) → Holds advance_next (0 ∷ v) → ⊥
unfolding has
no-0 v (inl e) = let z : ◌≡◌ {A = ℕ} 0 4 = ap head_or4 e in absurd (subst (λ (x : ℕ). T (has 1 x)) z tt)
no-0 v (inr h) =
    let (u, w, e, x, y) = h in
    let z : ◌≡◌ {A = ℕ} 0 x.0 = ap head_or4 (e ∙ ap (λ (u : Word). u ++ w) x.2) in
    subst (λ (k : ℕ). T (has 4 k)) (sym z) x.1

-- An example: point 0 is the start of the loop, event 0 leads to 1, "close" to 2, and from there a pass back to 0 or on to 3, the exit.
-- Condition 0 is close's trace and 1 its future; all else is free.
module _ (conditions : List Condition) (points : List Point) (pre trace future close-pre : ℕ) (certificates : List Certificate) (new : Bool) where
  -- the call of "close"
  abbrev closing : CallStep
  closing = record { from = 1; to = 2; failed_to = none; method = 1; channel = none }

  abbrev loop : Sheet
  loop = record {
    conditions = event 1 ∷ advance_next ∷ conditions;
    points = points;
    methods =
        record {
          pre = pre;
          normal = record { trace = trace; future = future };
          failing = none;
          body = some (record { entry = 0; exit = 3; failed_exit = none });
        }
        ∷ record { pre = close-pre; normal = record { trace = 0; future = 1 }; failing = none; body = none }
        ∷ [];
    steps = event_step 0 1 0 ∷ call_step closing ∷ pass_step 2 0 ∷ pass_step 2 3 ∷ [];
    certificates = certificates;
    new = new;
  }

  twice-round : TwiceRound loop 0 closing
  unfolding run
  twice-round = record {
    before = by_step 0 normal [] ∷ [];
    between = by_step 2 normal [] ∷ [];
    after = by_step 1 normal (1 ∷ []) ∷ by_step 3 normal [] ∷ return normal ∷ [];
    last = 1;
    word = 1 ∷ [];
    running = refl;
    last_is = refl;
    last_from = refl;
    primitive = refl;
    in_trace = refl;
    quiet = refl;
    first = 0;
    first_to = 1;
    still_running = refl;
    first_is = refl;
    ends = refl;
  }

  -- "no point conditions or certificates get the sheet accepted"
  loop-not-met : AllMet (rules_from (0 ∷ []) loop) → ⊥
  loop-not-met = not-all-met loop 0 closing twice-round (cons tt (cons tt (cons tt (cons tt nil)))) tt no-0
