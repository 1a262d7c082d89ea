-- Where all points have owners, the point of a run belongs to the active method as long as a call is open, also at a stop. No rule is asked.
use mathlib.Core.Path.{◌≡◌, refl, sym, ap, ◌∙◌, subst}
use Prim.Native.Nat.{ℕ, zero, suc, ◌<◌}
use native.Mathlib.Nat.{le_of_suc-le-suc, not-suc-le-zero}
use mathlib.Core.Bool.{true, false, false≢true}
use mathlib.Core.Option.{Option, none, some, none-ne-some}
use mathlib.Core.List.{List, [], ◌∷◌}
use lib.ListN.{length, get_elem?}
use Rattle.sheet.specs.Each.{Each, nil, cons}
use Rattle.sheet.proofs.Each.{each_map, each-zip, each-get}
use Rattle.sheet.specs.Sheet.{Outcome, normal, failed, Point, Body, Step, event_step, call_step, pass_step, stop_step, Sheet, is_some, owner_in, owner, body_in, body, target_for}
use Rattle.sheet_laws.specs.Names.{NamedIfAny, BodyNamed, StepNamed, NamesExist, HasBody, SameIfAny, owner_if_any, BodyOwned, StepOwned, OwnersFit}
use Rattle.runs.specs.Runs.{Call, State, entry_of, start, Move, from_of, to_of, made_by, target_or, run}
use Rattle.runs.specs.Owners.{AllOwned, OfActive, Belongs}
use Rattle.runs.proofs.Moves.{Makes, event_made, pass_made, primitive_made, open_made, stop_made, return_made, run-keeps}

-- where both are there they are the same
both-there : (a b : Option ℕ) → is_some a ≡ true → is_some b ≡ true → SameIfAny a b → a ≡ b
both-there none b x y h = absurd (false≢true x)
both-there (some m) none x y h = absurd (false≢true y)
both-there (some m) (some n) x y h = ap some h

-- a point that exists has an owner
has-owner : {ps : List Point} → Each (λ (x : Point). is_some x.owner ≡ true) ps → (p : ℕ) → p < length ps → is_some (owner_in (get_elem? ps p)) ≡ true
has-owner nil p l = absurd (not-suc-le-zero l)
has-owner (cons x t) zero l = x
has-owner (cons x t) (suc p) l = has-owner t p (le_of_suc-le-suc l)

module _ (S : Sheet) (named : NamesExist S) (all : AllOwned S) (fit : OwnersFit S) where
  abbrev points : ℕ
  points = length S.points

  -- The sheet ------------------------------------------------------------------------------------------------------------

  -- wherever a step leads has the owner of its from
  abbrev Joins : Option Step → Type 0
  Joins none = Unit {0}
  Joins (some t) = (o : Outcome) (q : ℕ) → to_of o t ≡ some q → owner S (from_of t) ≡ owner S q

  -- where the names of both points exist, and their owners are compared; of a failed target, if there is one
  joins_any : (p : ℕ) (x : Option ℕ) → p < points → NamedIfAny points x → SameIfAny (owner S p) (owner_if_any S x)
      → (q : ℕ) → x ≡ some q → owner S p ≡ owner S q
  joins_any p x l n h q is =
      both-there (owner S p) (owner S q) (has-owner all p l) (has-owner all q (subst (NamedIfAny points) is n))
      (subst (λ y. SameIfAny (owner S p) (owner_if_any S y)) is h)

  step-joins : (t : Step) → StepNamed points (length S.methods) t → StepOwned S t → Joins (some t)
  step-joins (event_step p q a) n h = λ o. joins_any p (some q) n.0 n.1 h
  step-joins (call_step t) n h = go
    where
      go : (o : Outcome) (q : ℕ) → target_for o t ≡ some q → owner S t.from ≡ owner S q
      go normal = joins_any t.from (some t.to) n.0 n.1 h.0
      go failed = joins_any t.from t.failed_to n.0 n.2 h.1
  step-joins (pass_step p q) n h = λ o. joins_any p (some q) n.0 n.1 h
  step-joins (stop_step p) n h = λ o q is. absurd (none-ne-some q is)

  -- of the step i
  joins : (i : ℕ) {t : Step} → get_elem? S.steps i ≡ some t → Joins (some t)
  joins i found = subst Joins found (each-get Joins tt (each-zip step-joins named.steps_named fit.steps_owned) i)

  -- the entry of a method belongs to it
  abbrev EntryOwned : ℕ → Option Body → Type 0
  EntryOwned m none = Unit {0}
  EntryOwned m (some b) = owner S b.entry ≡ some m

  entry-owned : (m : ℕ) → EntryOwned m (body S m)
  entry-owned m =
      go (body S m) (each-get (λ x. BodyNamed points (body_in x)) tt (each_map (λ x n. n.body_named) named.methods_named) m) (fit.bodies_owned m)
    where
      go : (d : Option Body) → BodyNamed points d → BodyOwned S m d → EntryOwned m d
      go none n h = tt
      go (some b) n h = sym (both-there (some m) (owner S b.entry) refl (has-owner all b.entry n.0) h.0)

  -- Runs -----------------------------------------------------------------------------------------------------------------

  -- wherever a return from each open call leads belongs to the method of that call's caller
  abbrev ReturnsBelong : List Call → Type 0
  ReturnsBelong [] = Unit {0}
  ReturnsBelong (c ∷ callers) =
      ((here : ℕ) (o : Outcome) (q : ℕ) → target_or here o (made_by S c.step) ≡ some q → OfActive (owner S q) callers) × ReturnsBelong callers

  -- the invariant
  abbrev Owned : State → Type 0
  Owned s = Belongs S s × ReturnsBelong s.open_calls

  -- wherever a step from the point where control is leads belongs to the active method
  step-on : (s : State) {t : Step} (i : ℕ) → get_elem? S.steps i ≡ some t → s.point ≡ from_of t → (o : Outcome) (q : ℕ) → to_of o t ≡ some q
      → Belongs S s → OfActive (owner S q) s.open_calls
  step-on s i found at o q to = subst (λ x. OfActive x s.open_calls) (ap (owner S) at ∙ joins i found o q to)

  made-owned : (s t : State) → s.ended ≡ false → Makes S s t → Owned s → Owned t
  made-owned s t z (event_made {q = q} i found) (b, r) = (step-on s i found refl normal q refl b, r)
  made-owned s t z (pass_made {q = q} i found) (b, r) = (step-on s i found refl normal q refl b, r)
  made-owned s t z (primitive_made {q = q} i o w found at is to held) (b, r) = (step-on s i found at o q to b, r)
  made-owned s t z (open_made {t = x} i found at is) (b, r) = (
    subst (EntryOwned x.method) is (entry-owned x.method),
    ((λ here o q to. step-on s i found at o q (subst (λ y. target_or here o y ≡ some q) found to) b), r),
  )
  made-owned s t z (stop_made i found marked) h = h
  made-owned s t z (return_made {q = q} o opened is at to) (b, r) = let (back, rs) = subst ReturnsBelong opened r in (back s.point o q to, rs)

  start-owned : (m : ℕ) → HasBody (body S m) → Owned (start S m)
  unfolding start
  start-owned m h = (go (body S m) h (entry-owned m), ((λ here o q to. tt), tt))
    where
      go : (d : Option Body) → HasBody d → EntryOwned m d → owner S (entry_of d) ≡ some m
      go none h e = absurd h
      go (some b) h e = e

  -- request 9, of every list of moves from a method with body
  pub point-belongs : (m : ℕ) → HasBody (body S m) → (ms : List Move) → Belongs S (run S m ms)
  point-belongs m h ms = (run-keeps S Owned made-owned m (start-owned m h) ms).0
