-- What the tables of an indexed sheet lead to: its points and methods with their conditions, its bodies and its steps.
use mathlib.Core.Path.{◌≡◌, refl, sym, ap, ◌∙◌, subst}
use mathlib.Core.Bool.{Bool, true, false, cond}
use mathlib.Core.Option.{Option, none, some}
use mathlib.Core.List.{List}
use Prim.Native.Nat.{ℕ, ◌<◌}
use native.Mathlib.Omega.{arith}
use lib.ListN.{length, get_or, get_elem?}
use lib.Dec.{T}
use Rattle.sheet.specs.Each.{Each}
use Rattle.sheet.specs.Sheet.{Outcome, normal, failed, Point, Declared, Body, Method, Step, Sheet, is_some, condition_named, declared_for, declared_in, body_in, body, entry_in}
use Rattle.sheet_laws.specs.AtOffset.{method_at, step_at}
use Rattle.sheet_laws.specs.Names.{PointNamed, BodyNamed, DeclaredNamed, MethodNamed, StepNamed, TargetsFit, StepOnChannel, EventBelow}
use Rattle.sheet.proofs.Each.{each-get}
use Rattle.runs.specs.Rules.{entry_asked}
use Rattle.index.specs.Indexed.{Indexes, ConditionIn, PointIn, DeclaredIn, MethodIn, FailedIn, CalledIn}

abbrev OrNone : {A : Type 0} → (A → Type 0) → Option A → Type 0
OrNone P none = Unit {0}
OrNone P (some x) = P x

-- a property of each element holds of the one with a number
each-some : {A : Type 0} (P : A → Type 0) {xs : List A} → Each P xs → (k : ℕ) (x : A) → get_elem? xs k ≡ some x → P x
each-some P all k x is = subst (OrNone P) is (each-get (OrNone P) tt all k)

the-some : {A : Type 0} (o : Option A) → true ≡ is_some o → (x : A) × (o ≡ some x)
the-some none e = absurd (subst T e tt)
the-some (some x) e = (x, refl)

asked-named : {n : ℕ} (new : Bool) (b : Option Body) → BodyNamed n b → (e : ℕ) → cond new (entry_in b) none ≡ some e → e < n
asked-named true none named e is = let z : ◌≡◌ {A = ℕ} 0 1 = cc in absurd (omega arith)
asked-named {n} true (some b) named e is = let same : b.entry ≡ e = cc in subst (λ (e : ℕ). e < n) same named.0
asked-named false b named e is = let z : ◌≡◌ {A = ℕ} 0 1 = cc in absurd (omega arith)

module _ {S : Sheet} {s conditions points methods steps : List ℕ} (x : Indexes S s conditions points methods steps) where
  -- a field that names a condition
  field-named : {A : Type 0} (name : A → ℕ) (o : Option A) (y : A) → o ≡ some y → name y < length S.conditions
      → ConditionIn s conditions (name y) (condition_named S name o)
  field-named name o y is l = rw is (x.conditions-in (name y) l)

  pub point-in : (p : ℕ) → p < length S.points → PointIn S s conditions points p
  point-in p l =
      let is = x.points_tabled.is p l in
      let n = each-some (PointNamed (length S.conditions)) x.names_exist.points_named p _ is in
      record {
        exists = omega (arith, x.points_tabled.few);
        inside = x.points_tabled.inside p l;
        past_named = field-named (λ (y : Point). y.past) _ _ is n.past_exists;
        own_named = field-named (λ (y : Point). y.own) _ _ is n.own_exists;
        due_named = field-named (λ (y : Point). y.due) _ _ is n.due_exists;
      }

  module _ (m : ℕ) (l : m < length S.methods) where
    pub method-is : get_elem? S.methods m ≡ some (method_at s (get_or methods m 0))
    method-is = x.methods_tabled.is m l

    named : MethodNamed (length S.conditions) (length S.points) (method_at s (get_or methods m 0))
    named = each-some (MethodNamed (length S.conditions) (length S.points)) x.names_exist.methods_named m _ method-is

    declared-in : (o : Outcome) (d : Declared) → declared_for o (method_at s (get_or methods m 0)) ≡ some d → DeclaredIn S s conditions d m o
    declared-in o d e =
        let is : declared_in o (get_elem? S.methods m) ≡ some d = ap (declared_in o) method-is ∙ e in
        let n = subst (DeclaredNamed (length S.conditions)) e (named.declared_named o) in
        record {
          trace_named = field-named (λ (y : Declared). y.trace) _ _ is n.0;
          future_named = field-named (λ (y : Declared). y.future) _ _ is n.1;
        }

    pub method-in : MethodIn S s conditions methods m
    method-in =
        record {
          exists = omega (arith, x.methods_tabled.few);
          inside = x.methods_tabled.inside m l;
          pre_named = field-named (λ (y : Method). y.pre) _ _ method-is named.pre_exists;
          normal_named = declared-in normal _ refl;
        }

    -- it has two outcomes
    pub failed-in : (d : Declared) → (method_at s (get_or methods m 0)).failing ≡ some d → FailedIn S s conditions methods m
    failed-in d e =
        record {
          exists = method-in.exists;
          inside = method-in.inside;
          declared = d;
          failing_is = e;
          failed_named = declared-in failed d e;
        }

    pub fails-in : true ≡ is_some (declared_in failed (get_elem? S.methods m)) → FailedIn S s conditions methods m
    fails-in two =
        let (d, e) = the-some (method_at s (get_or methods m 0)).failing (two ∙ ap (λ (y : Option Method). is_some (declared_in failed y)) method-is) in
        failed-in d e

    -- a call of it can be asked about
    pub called-in : CalledIn S s methods m
    called-in = record { exists = method-in.exists; inside = method-in.inside; is = method-is; edition_is = x.edition_is }

    -- its body, and that the points of the body exist
    pub body_is : body S m ≡ (method_at s (get_or methods m 0)).body
    body_is = ap body_in method-is

    pub body_named : (b : Option Body) → (method_at s (get_or methods m 0)).body ≡ b → BodyNamed (length S.points) b
    body_named b e = subst (BodyNamed (length S.points)) e named.body_named

    -- the entry that rule 26 asks about exists
    pub entry_named : (e : ℕ) → entry_asked S m ≡ some e → e < length S.points
    entry_named = asked-named S.new (body S m) (body_named (body S m) (sym body_is))

  module _ (i : ℕ) (l : i < length S.steps) where
    pub step_is : get_elem? S.steps i ≡ some (step_at s (get_or steps i 0))
    step_is = x.steps_tabled.is i l

    -- its names exist, its target, its channel and its event fit
    pub step-named : (t : Step) → step_at s (get_or steps i 0) ≡ t → StepNamed (length S.points) (length S.methods) t
    step-named t e = each-some (StepNamed (length S.points) (length S.methods)) x.names_exist.steps_named i t (step_is ∙ ap (λ (t : Step). some t) e)

    pub target_fits : (t : Step) → step_at s (get_or steps i 0) ≡ t → TargetsFit S t
    target_fits t e = each-some (TargetsFit S) x.outcomes_fit.targets_fit i t (step_is ∙ ap (λ (t : Step). some t) e)

    pub channel-fits : (t : Step) → step_at s (get_or steps i 0) ≡ t → StepOnChannel S t
    channel-fits t e = each-some (StepOnChannel S) x.channels_fit i t (step_is ∙ ap (λ (t : Step). some t) e)

    pub event-fits : (t : Step) → step_at s (get_or steps i 0) ≡ t → EventBelow 64 t
    event-fits t e = each-some (EventBelow 64) x.events_fit i t (step_is ∙ ap (λ (t : Step). some t) e)
