-- The numbers of calls: a call's number and its callers' are below the count of calls so far, which is the next call's number.
use mathlib.Core.Path.{subst}
use mathlib.Core.Logic.{⊎_elim}
use Prim.Native.Nat.{ℕ, ◌+◌, ◌≤◌, ◌<◌, zero-le, suc-le-suc}
use native.Mathlib.Omega.{arith}
use mathlib.Core.List.Memᴰ
use mathlib.Core.List.{List, ◌∷◌, Memᴰ}
use lib.ListN.{length}
use Rattle.sheet.specs.Each.{Each, nil, cons}
use Rattle.sheet.proofs.Each.{each_map, each-head, each_tail, each_append, each-mapped}
use Rattle.sheet.specs.Sheet.{CallStep, Sheet}
use Rattle.runs.specs.Runs.{Call, Returned, State, calls, start, callers_now, new_call}
use Rattle.runs.specs.Owing.{call_number, IsCaller}
use Rattle.runs.proofs.Moves.{Makes, event_made, pass_made, primitive_made, open_made, stop_made, return_made}

-- of n calls so far, c is one
record Numbered (n : ℕ) (c : Call) : Type 0 where
  self : call_number c < n
  callers : Each (λ k. k < n) c.activation.callers

pub record Numbers (cs : List Call) (rs : List Returned) : Type 0 where
  opened : Each (Numbered (length cs + length rs)) cs
  returned : Each (λ r. Numbered (length cs + length rs) r.call) rs

abbrev pub NumbersAt : State → Type 0
NumbersAt s = Numbers s.open_calls s.returned_calls

more-calls : {n m : ℕ} → n ≤ m → (c : Call) → Numbered n c → Numbered m c
more-calls le c x = record { self = omega (arith, x.self); callers = each_map (λ k b. omega arith) x.callers }

pub not-below : {n : ℕ} {ks : List ℕ} → Each (λ k. k < n) ks → Memᴰ n ks → ⊥
not-below nil m = Memᴰ.not-nil m
not-below (cons b t) m = ⊎_elim (λ e. omega arith) (λ k. not-below t k) (Memᴰ.cases_cons m)

-- every number so far is below the next one
pub numbers-below : (s : State) → NumbersAt s → Each (λ c. call_number c < length s.open_calls + length s.returned_calls) (calls s)
numbers-below s g = each_map (λ c x. x.self) (each_append g.opened (each-mapped (Numbered n) (λ r. r.call) g.returned))
  where
    n : ℕ
    n = length s.open_calls + length s.returned_calls

-- the next call is not a caller of one that has returned
pub next-is-new : (s : State) (i : ℕ) (t : CallStep) → NumbersAt s → Each (λ r. IsCaller (new_call s i t) r.call → ⊥) s.returned_calls
next-is-new s i t g = each_map (λ r x. not-below x.callers) g.returned

-- the callers of the next call
callers-below : {n : ℕ} {cs : List Call} → Each (Numbered n) cs → Each (λ k. k < n) (callers_now cs)
callers-below nil = nil
callers-below (cons x t) = cons x.self x.callers

module _ (S : Sheet) where
  new-numbered : {n : ℕ} (s : State) (i : ℕ) (t : CallStep) → NumbersAt s → length s.open_calls + length s.returned_calls < n
      → Numbered n (new_call s i t)
  new-numbered s i t g b = record { self = b; callers = each_map (λ k x. omega arith) (callers-below g.opened) }

  pub made-numbers : (s t : State) → Makes S s t → NumbersAt s → NumbersAt t
  made-numbers s t (event_made i found) g = g
  made-numbers s t (pass_made i found) g = g
  made-numbers s t (primitive_made {t = x} i o w found at is to h) g =
      record {
        opened = each_map (more-calls (omega arith)) g.opened;
        returned = cons (new-numbered s i x g (omega arith)) (each_map (λ r. more-calls (omega arith) r.call) g.returned);
      }
  made-numbers s t (open_made {t = x} i found at is) g =
      record {
        opened = cons (new-numbered s i x g (omega arith)) (each_map (more-calls (omega arith)) g.opened);
        returned = each_map (λ r. more-calls (omega arith) r.call) g.returned;
      }
  made-numbers s t (stop_made i found marked) g = g
  made-numbers s t (return_made {c = c} {cs = cs} o opened is at to) g =
      let k : Numbers (c ∷ cs) s.returned_calls = subst (λ x. Numbers x s.returned_calls) opened g in
      record {
        opened = each_map (more-calls (omega arith)) (each_tail k.opened);
        returned =
            cons (more-calls (omega arith) c (each-head k.opened))
            (each_map (λ r. more-calls (omega arith) r.call) k.returned);
      }

  pub start-numbers : (m : ℕ) → NumbersAt (start S m)
  unfolding start
  start-numbers m = record { opened = cons (record { self = suc-le-suc zero-le; callers = nil }) nil; returned = nil }
