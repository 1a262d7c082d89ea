-- Runs by evaluation of a sheet whose points have owners: the point belongs to the active method. Of each of three other sheets all premises of that but
-- one hold, and a run leads to a point that does not belong to the active method.
use mathlib.Core.Path.{◌≡◌, refl}
use Prim.Native.Nat.{ℕ, zero, suc, ◌<◌}
use native.Mathlib.Omega.{arith}
use mathlib.Core.Bool.{true}
use mathlib.Core.Option.{Option, none, some, some-injective, none-ne-some}
use mathlib.Core.List.{List, [], ◌∷◌, ◌++◌, map}
use Rattle.condition.specs.Condition.{star, any}
use Rattle.sheet.specs.Each.{Each, nil, cons}
use Rattle.sheet.specs.Sheet.{Outcome, normal, failed, Point, Declared, Body, Step, event_step, failing_call_from, pass_step, stop_step, Sheet, owner, declared_for, body}
use Rattle.sheet_laws.specs.Names.{PointNamed, NamedIfAny, BodyNamed, DeclaredNamed, MethodNamed, StepNamed, NamesExist, SameIfAny, BodyOwned, StepOwned, OwnersFit}
use Rattle.runs.specs.Runs.{State, Move, return, by_step, run}
use Rattle.runs.specs.Owing.{state_after}
use Rattle.runs.specs.Owners.{AllOwned, Belongs}
use Rattle.runs.proofs.Methods.{with_body, failing_with_body}
use Rattle.runs.proofs.Owners.{point-belongs}

-- The sheets -------------------------------------------------------------------------------------------------------------

abbrev point : Option ℕ → Point
point x = record { past = 0; own = 0; due = 0; owner = x }

-- Method 0 goes from point 0 to 1: it calls method 1, again and again, until that fails. Method 1 goes from point 2 to 3 by the event 5, and may stop
-- there; its failed exit is point 4. The owner of that point, and the steps from 3 on, are given.
abbrev sheet : Option ℕ → List Step → Sheet
sheet last more = record {
  conditions = star (any 32) ∷ [];
  points = point (some 0) ∷ point (some 0) ∷ point (some 1) ∷ point (some 1) ∷ point last ∷ [];
  methods = with_body 0 0 0 0 1 ∷ failing_with_body 0 0 0 2 3 0 0 4 ∷ [];
  steps = failing_call_from 0 0 1 1 ∷ event_step 2 3 5 ∷ stop_step 3 ∷ more;
  certificates = [];
  new = true;
}

-- step 3 leads to the failed exit
abbrev owned : Sheet
owned = sheet (some 1) (event_step 2 4 6 ∷ [])

-- step 3, of method 1, leads to a point of method 0, where there is a stop
abbrev pasted : Sheet
pasted = sheet (some 1) (event_step 2 0 6 ∷ stop_step 0 ∷ [])

-- the failed exit has no owner, and a pass leads from there to a point of method 0
abbrev unowned : Sheet
unowned = sheet none (event_step 2 4 6 ∷ pass_step 4 0 ∷ [])

-- step 3 leads to a point that does not exist
abbrev unnamed : Sheet
unnamed = sheet (some 1) (event_step 2 5 6 ∷ [])

-- Runs of the first ------------------------------------------------------------------------------------------------------

-- method 1 is called, raises 5 and returns; it is called again and fails, and method 0 returns
abbrev moves : List Move
moves =
    by_step 0 normal [] ∷ by_step 1 normal [] ∷ return normal ∷ by_step 0 normal [] ∷ by_step 3 normal [] ∷ return failed ∷ return normal ∷ []

-- after how many of them
abbrev counts : List ℕ
counts = 0 ∷ 1 ∷ 2 ∷ 3 ∷ 4 ∷ 5 ∷ 6 ∷ 7 ∷ []

-- the methods of the open calls, the innermost first, and the owner of the point
abbrev seen : Sheet → State → List ℕ × Option ℕ
seen S s = (map (λ c. c.method) s.open_calls, owner S s.point)

is_seen : map (λ k. seen owned (state_after owned 0 moves k)) counts
    ≡ (0 ∷ [], some 0)
    ∷ (1 ∷ 0 ∷ [], some 1)
    ∷ (1 ∷ 0 ∷ [], some 1)
    ∷ (0 ∷ [], some 0)
    ∷ (1 ∷ 0 ∷ [], some 1)
    ∷ (1 ∷ 0 ∷ [], some 1)
    ∷ (0 ∷ [], some 0)
    ∷ ([], some 0)
    ∷ []
unfolding run
is_seen = refl

belong : Each (λ k. Belongs owned (state_after owned 0 moves k)) counts
unfolding run
belong = cons refl (cons refl (cons refl (cons refl (cons refl (cons refl (cons refl (cons tt nil)))))))

-- method 1 stops, and stays open
abbrev stopped : State
stopped = run owned 0 (by_step 0 normal [] ∷ by_step 1 normal [] ∷ by_step 2 normal [] ∷ [])

belongs-at-stop : (stopped.ended ≡ true) × (seen owned stopped ≡ (1 ∷ 0 ∷ [], some 1)) × Belongs owned stopped
unfolding run
belongs-at-stop = (refl, refl, refl)

-- Runs that stray --------------------------------------------------------------------------------------------------------

-- method 1 is called and makes step 3
abbrev astray : List Move
astray = by_step 0 normal [] ∷ by_step 3 normal [] ∷ []

other : (n : ℕ) → ◌≡◌ {A = Option ℕ} (some 0) (some (suc n)) → ⊥
other n e = let same = some-injective 0 (suc n) e in omega (arith, same)

-- the point belongs to the caller
pasted-strays : Belongs pasted (run pasted 0 astray) → ⊥
unfolding run
pasted-strays = other 0

-- where the run stops, too
pasted-stops : Belongs pasted (run pasted 0 (astray ++ (by_step 4 normal [] ∷ []))) → ⊥
unfolding run
pasted-stops = other 0

-- the point belongs to none, and the next to the caller
unowned-strays : Belongs unowned (run unowned 0 astray) → ⊥
unfolding run
unowned-strays = none-ne-some 1

unowned-strays-on : Belongs unowned (run unowned 0 (astray ++ (by_step 4 normal [] ∷ []))) → ⊥
unfolding run
unowned-strays-on = other 0

unnamed-strays : Belongs unnamed (run unnamed 0 astray) → ⊥
unfolding run
unnamed-strays = none-ne-some 1

-- a run of the first sheet that starts at no method with body
strays-at-start : Belongs owned (run owned 2 []) → ⊥
unfolding run
strays-at-start = other 1

-- What is promised of the first, and its premises ------------------------------------------------------------------------

-- with any steps
all-owned : AllOwned (sheet (some 1) [])
all-owned = cons refl (cons refl (cons refl (cons refl (cons refl nil))))

owners_fit : (x : Option ℕ) (more : List Step) → SameIfAny (some 1) x → Each (StepOwned (sheet x more)) more → OwnersFit (sheet x more)
owners_fit x more h steps = record { bodies_owned = bodies; steps_owned = cons call (cons refl (cons tt steps)) }
  where
    bodies : (m : ℕ) → BodyOwned (sheet x more) m (body (sheet x more) m)
    bodies zero = (refl, refl, tt)
    bodies (suc zero) = (refl, refl, h)
    bodies (suc (suc m)) = tt

    call : StepOwned (sheet x more) (failing_call_from 0 0 1 1)
    call = (refl, refl, refl)

point-named : (x : Option ℕ) → PointNamed 1 (point x)
point-named x = omega arith

-- of one outcome or of two
method-named : (f : Option Declared) (b : Body) → DeclaredNamed 1 f → BodyNamed 5 (some b)
    → MethodNamed 1 5 (record { pre = 0; normal = record { trace = 0; future = 0 }; failing = f; body = some b })
method-named f b d n = record { pre_exists = omega arith; declared_named = go; body_named = n }
  where
    go : (o : Outcome) → DeclaredNamed 1 (declared_for o (record { pre = 0; normal = record { trace = 0; future = 0 }; failing = f; body = some b }))
    go normal = omega arith
    go failed = d

names_exist : (x : Option ℕ) (more : List Step) → NamedIfAny 2 x → Each (StepNamed 5 2) more → NamesExist (sheet x more)
names_exist x more h steps =
    let of_0 : 0 < 2 = omega arith in
    let of_1 : 1 < 2 = omega arith in
    let method-0 = method-named none (record { entry = 0; exit = 1; failed_exit = none }) tt (omega arith) in
    let method-1 = method-named (some (record { trace = 0; future = 0 })) (record { entry = 2; exit = 3; failed_exit = some 4 }) (omega arith) (omega arith) in
    let call : StepNamed 5 2 (failing_call_from 0 0 1 1) = omega arith in
    let event : StepNamed 5 2 (event_step 2 3 5) = omega arith in
    let stop : StepNamed 5 2 (stop_step 3) = omega arith in
    record {
      points_named =
          cons (point-named (some 0)) (cons (point-named (some 0)) (cons (point-named (some 1)) (cons (point-named (some 1)) (cons (point-named x) nil))));
      methods_named = cons method-0 (cons method-1 nil);
      steps_named = cons call (cons event (cons stop steps));
      owners_named = cons of_0 (cons of_0 (cons of_1 (cons of_1 (cons h nil))));
    }

-- all of them
every-run : (ms : List Move) → Belongs owned (run owned 0 ms)
every-run =
    let step : StepNamed 5 2 (event_step 2 4 6) = omega arith in
    point-belongs owned (names_exist (some 1) _ (omega arith) (cons step nil)) all-owned (owners_fit (some 1) _ refl (cons refl nil)) 0 tt

-- all but that owners fit
of-pasted : NamesExist pasted × AllOwned pasted
of-pasted =
    let step : StepNamed 5 2 (event_step 2 0 6) = omega arith in
    let stop : StepNamed 5 2 (stop_step 0) = omega arith in
    (names_exist (some 1) _ (omega arith) (cons step (cons stop nil)), all-owned)

-- all but that each point has an owner
of-unowned : NamesExist unowned × OwnersFit unowned
of-unowned =
    let step : StepNamed 5 2 (event_step 2 4 6) = omega arith in
    let pass : StepNamed 5 2 (pass_step 4 0) = omega arith in
    (names_exist none _ tt (cons step (cons pass nil)), owners_fit none _ tt (cons tt (cons tt nil)))

-- all but that names exist
of-unnamed : AllOwned unnamed × OwnersFit unnamed
of-unnamed = (all-owned, owners_fit (some 1) _ refl (cons tt nil))
