-- The calls of a run are told apart: no two share a number, and the callers of each are the calls that were open when it began. So it is of
-- every sheet, whatever its rules.
use mathlib.Core.Path.{◌≡◌, refl, sym, ap, ◌∙◌, subst}
use mathlib.Core.Logic.{◌↔◌, ∥∥₁_elim}
use mathlib.Core.HLevel.{¬_prop, ⊥_prop}
use Prim.Native.Nat.{ℕ, zero, suc, ◌+◌, ◌≤◌, ◌<◌}
use native.Mathlib.Nat.{lt_of_not-le}
use native.Mathlib.Decide.{dec_le}
use native.Mathlib.Omega.{arith}
use mathlib.Core.List.Memᴰ
use mathlib.Core.List.{List, [], ◌∷◌, ◌++◌, map, map-append, Memᴰ, Nodup, Nodup-nil, Nodup-cons, Pairwise-middle}
use lib.ListN.{length, get_or, take, drop, take-append-drop}
use lib.Seq.{take-suc, take_all, take-length}
use Rattle.sheet.specs.Each.{Each, nil, cons}
use Rattle.sheet.proofs.Each.{each_map, each-zip, each-head, each_tail, each_append, each_left, each_right, each-is-member, each-mapped, each_member}
use Rattle.sheet.specs.Sheet.{normal, CallStep, Sheet}
use Rattle.runs.specs.Runs.{Call, Returned, State, calls, start, Move, return, callers_now, new_call, run_on, run}
use Rattle.runs.specs.Owing.{call_number, IsCaller, state_after, HowBegan, at_start, by_move, ToldApart}
use Rattle.runs.proofs.Moves.{Makes, event_made, pass_made, primitive_made, open_made, stop_made, return_made, move-case, run-append, run-on-keeps, run-keeps}
use Rattle.runs.proofs.Numbers.{NumbersAt, not-below, numbers-below, made-numbers, start-numbers}

-- Lists of calls --------------------------------------------------------------------------------------------------------

abbrev call_numbers : List Call → List ℕ
call_numbers = map call_number

abbrev returned : State → List Call
returned s = map (λ r. r.call) s.returned_calls

-- a call is moved behind those that stay open
module _ (c : Call) (cs ds : List Call) where
  each-moved : {P : Call → Type 0} → Each P (c ∷ (cs ++ ds)) ↔ Each P (cs ++ (c ∷ ds))
  each-moved = (
    λ h. each_append (each_left cs ds (each_tail h)) (cons (each-head h) (each_right cs (each_tail h))),
    λ h. cons (each-head (each_right cs h)) (each_append (each_left cs (c ∷ ds) h) (each_tail (each_right cs h))),
  )

  nodup-moved : Nodup (call_numbers (c ∷ (cs ++ ds))) → Nodup (call_numbers (cs ++ (c ∷ ds)))
  nodup-moved h =
      subst (λ (ns : List ℕ). Nodup ns) (sym (map-append call_number cs (c ∷ ds)))
      ((Pairwise-middle (λ a b. ¬_prop) (λ a b other e. other (sym e)) (call_numbers cs) (call_numbers ds)).1
      (subst (λ (ns : List ℕ). Nodup (call_number c ∷ ns)) (map-append call_number cs ds) h))

-- a number is that of one call only
same-call : {c d : Call} {cs : List Call} → Nodup (call_numbers cs) → Memᴰ c cs → Memᴰ d cs → call_number c ≡ call_number d → c ≡ d
same-call n (Memᴰ.head e) (Memᴰ.head f) k = e ∙ sym f
same-call n (Memᴰ.head e) (Memᴰ.tail j) k = absurd ((Nodup-cons.0 n).0 ∣ Memᴰ.cast (ap call_number (sym e) ∙ k) (Memᴰ.map call_number j) ∣₁)
same-call n (Memᴰ.tail i) (Memᴰ.head f) k = absurd ((Nodup-cons.0 n).0 ∣ Memᴰ.cast (ap call_number (sym f) ∙ sym k) (Memᴰ.map call_number i) ∣₁)
same-call n (Memᴰ.tail i) (Memᴰ.tail j) k = same-call (Nodup-cons.0 n).1 i j k

-- No two share a number, and open calls stand on their callers ------------------------------------------------------------

-- the callers of each are the calls that it stands on, the innermost first
data Stacked : List Call → Type 0 where
  bottom : Stacked []
  upon : {c : Call} {cs : List Call} → c.activation.callers ≡ call_numbers cs → Stacked cs → Stacked (c ∷ cs)

stacked-below : {c : Call} {cs : List Call} → Stacked (c ∷ cs) → Stacked cs
stacked-below (upon e k) = k

-- the callers of the next call are the open calls
callers-are : {cs : List Call} → Stacked cs → callers_now cs ≡ call_numbers cs
callers-are bottom = refl
callers-are (upon {c = c} e k) = ap (λ (ns : List ℕ). call_number c ∷ ns) e

record Told (cs : List Call) (rs : List Returned) : Type 0 where
  numbers : Nodup (call_numbers (cs ++ map (λ r. r.call) rs))
  stacked : Stacked cs

abbrev ToldAt : State → Type 0
ToldAt s = Told s.open_calls s.returned_calls

new-nodup : (s : State) (i : ℕ) (t : CallStep) → NumbersAt s → ToldAt s → Nodup (call_numbers (new_call s i t ∷ calls s))
new-nodup s i t n g = Nodup-cons.1 (λ k. ∥∥₁_elim k ⊥_prop (not-below (each-mapped (λ j. j < _) call_number (numbers-below s n))), g.numbers)

module _ (S : Sheet) where
  made_told : (s t : State) → Makes S s t → NumbersAt s → ToldAt s → ToldAt t
  made_told s t (event_made i found) n g = g
  made_told s t (pass_made i found) n g = g
  made_told s t (primitive_made {t = x} i o w found at is to h) n g =
      record { numbers = nodup-moved (new_call s i x) s.open_calls _ (new-nodup s i x n g); stacked = g.stacked }
  made_told s t (open_made {t = x} i found at is) n g = record { numbers = new-nodup s i x n g; stacked = upon (callers-are g.stacked) g.stacked }
  made_told s t (stop_made i found marked) n g = g
  made_told s t (return_made {c = c} {cs = cs} o opened is at to) n g =
      let k : Told (c ∷ cs) s.returned_calls = subst (λ x. Told x s.returned_calls) opened g in
      record { numbers = nodup-moved c cs (returned s) k.numbers; stacked = stacked-below k.stacked }

  start-told : (m : ℕ) → ToldAt (start S m)
  unfolding start
  start-told m = record { numbers = Nodup-cons.1 (λ k. ∥∥₁_elim k ⊥_prop Memᴰ.not-nil, Nodup-nil); stacked = upon refl bottom }

  runs-told : (m : ℕ) (ms : List Move) → NumbersAt (run S m ms) × ToldAt (run S m ms)
  runs-told m ms =
      run-keeps S (λ s. NumbersAt s × ToldAt s) (λ s t z made g. (made-numbers S s t made g.0, made_told s t made g.0 g.1)) m
      (start-numbers S m, start-told m) ms

-- A move adds at most one call, and no call is lost -----------------------------------------------------------------------

-- after a move from s: a call of s, or the call that the move began
data OldOrNew (s : State) (c : Call) : Type 0 where
  old : Memᴰ c (calls s) → OldOrNew s c
  new : call_number c ≡ length s.open_calls + length s.returned_calls → c.began ≡ s.history → c.activation.callers ≡ callers_now s.open_calls
      → OldOrNew s c

all_old : (s : State) → Each (OldOrNew s) (calls s)
all_old s = each_map (λ c. old) (each-is-member (calls s))

module _ (S : Sheet) where
  made-calls : (s t : State) → Makes S s t → Each (OldOrNew s) (calls t)
  made-calls s t (event_made i found) = all_old s
  made-calls s t (pass_made i found) = all_old s
  made-calls s t (primitive_made {t = x} i o w found at is to h) =
      (each-moved (new_call s i x) s.open_calls (returned s)).0 (cons (new refl refl refl) (all_old s))
  made-calls s t (open_made i found at is) = cons (new refl refl refl) (all_old s)
  made-calls s t (stop_made i found marked) = all_old s
  made-calls s t (return_made {c = c} {cs = cs} o opened is at to) =
      (each-moved c cs (returned s)).0
      (subst (λ (xs : List Call). Each (OldOrNew s) (xs ++ returned s)) opened (all_old s))

  made-stay : (s t : State) → Makes S s t → Each (λ c. Memᴰ c (calls t)) (calls s)
  made-stay s t (event_made i found) = each-is-member (calls s)
  made-stay s t (pass_made i found) = each-is-member (calls s)
  made-stay s t (primitive_made {t = x} i o w found at is to h) =
      each_tail ((each-moved (new_call s i x) s.open_calls (returned s)).1 (each-is-member _))
  made-stay s t (open_made i found at is) = each_tail (each-is-member _)
  made-stay s t (stop_made i found marked) = each-is-member (calls s)
  made-stay s t (return_made {c = c} {cs = cs} o opened is at to) =
      subst (λ (xs : List Call). Each (λ d. Memᴰ d (calls t)) (xs ++ returned s)) (sym opened)
      ((each-moved c cs (returned s)).1 (each-is-member _))

  module _ (m : ℕ) (ms : List Move) where
    abbrev at : ℕ → State
    at = state_after S m ms

    -- no call is lost
    pub stays : (k : ℕ) (c : Call) → Memᴰ c (calls (at k)) → Memᴰ c (calls (run S m ms))
    stays k c i =
        subst (λ (t : State). Memᴰ c (calls t)) (sym (run-append S m (take k ms) (drop k ms)) ∙ ap (run S m) (take-append-drop k ms))
        (run-on-keeps S (λ t. Memᴰ c (calls t)) (λ s t z made j. each_member (λ d. Memᴰ d (calls t)) (made-stay s t made) j) (at k) (drop k ms) i)

    made_one : (k : ℕ) (x : Move) → Each (OldOrNew (at k)) (calls (run_on S (at k) (x ∷ [])))
    unfolding run_on
    made_one k x = move-case S (λ t. Each (OldOrNew (at k)) (calls t)) (at k) (all_old (at k)) (λ t e made. made-calls (at k) t made) x

    -- move k is made, or there are no more than k moves
    one_more : (k : ℕ) → Each (OldOrNew (at k)) (calls (at (suc k)))
    one_more k = go (dec_le (length ms) k)
      where
        go : Dec (length ms ≤ k) → Each (OldOrNew (at k)) (calls (at (suc k)))
        go (yes l) =
            subst (λ (xs : List Move). Each (OldOrNew (at k)) (calls (run S m xs))) (take_all k ms l ∙ sym (take_all (suc k) ms (omega arith)))
            (all_old (at k))
        go (no n) =
            let x = get_or ms k (return normal) in
            subst (λ (t : State). Each (OldOrNew (at k)) (calls t))
            (sym (ap (run S m) (take-suc ms k (return normal) (lt_of_not-le n)) ∙ run-append S m (take k ms) (x ∷ [])))
            (made_one k x)

    -- How each call began ---------------------------------------------------------------------------------------------------

    callers : (k : ℕ) (c : Call) → c.activation.callers ≡ callers_now (at k).open_calls → (d : Call) → Memᴰ d (calls (run S m ms))
        → IsCaller d c ↔ Memᴰ d (at k).open_calls
    callers k c is d there = (
      λ i.
          let (e, j, n) = Memᴰ.of_map call_number (at k).open_calls (subst (λ (ns : List ℕ). Memᴰ (call_number d) ns) open-are i) in
          subst (λ (x : Call). Memᴰ x (at k).open_calls) (same-call (runs-told S m ms).1.numbers (stays k e (Memᴰ.append_left _ j)) there n) j,
      λ j. subst (λ (ns : List ℕ). Memᴰ (call_number d) ns) (sym open-are) (Memᴰ.map call_number j),
    )
      where
        open-are : c.activation.callers ≡ call_numbers (at k).open_calls
        open-are = is ∙ callers-are (runs-told S m (take k ms)).1.stacked

    began : (k : ℕ) → Each (HowBegan S m ms) (calls (at k)) → (c : Call) → Memᴰ c (calls (at (suc k))) → OldOrNew (at k) c → HowBegan S m ms c
    began k g c there (old i) = each_member (HowBegan S m ms) g i
    began k g c there (new n h o) =
        by_move k
        record {
          begins =
              record {
                not_before = λ i. let l = each_member (λ d. call_number d < _) (numbers-below (at k) (runs-told S m (take k ms)).0) i in omega arith;
                there_after = there;
              };
          history = h;
          callers = callers k c o;
        }

    all-began : (k : ℕ) → Each (HowBegan S m ms) (calls (at k))
    unfolding run start
    all-began zero = cons (at_start (Memᴰ.head refl) (λ d. Memᴰ.not-nil)) nil
    all-began (suc k) = each-zip (began k (all-began k)) (each-is-member (calls (at (suc k)))) (one_more k)

  -- of every list of moves
  pub told_apart : (m : ℕ) (ms : List Move) → ToldApart S m ms
  told_apart m ms =
      record {
        numbers = (runs-told S m ms).1.numbers;
        began = subst (λ (xs : List Move). Each (HowBegan S m ms) (calls (run S m xs))) (take-length ms) (all-began m ms (length ms));
      }
