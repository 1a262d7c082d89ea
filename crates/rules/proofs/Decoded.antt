-- A method and a step of an indexed sheet, as they were read: their rules, and that what they name is there.
use mathlib.Core.Path.{◌≡◌, sym, ap, ◌∙◌}
use mathlib.Core.Option.{some}
use mathlib.Core.List.{List}
use Prim.Native.Nat.{ℕ, ◌<◌}
use lib.ListN.{length, get_or}
use Rattle.sheet.specs.Sheet as sheet
use Rattle.sheet.specs.Sheet.{Sheet, body}
use Rattle.sheet_laws.specs.AtOffset.{method_at, step_at}
use Rattle.sheet_laws.specs.Names.{BodyNamed, StepNamed, TargetsFit, StepOnChannel, EventBelow}
use Rattle.runs.specs.Rules.{method_rules, step_rules}
use Rattle.values.specs.declared.Method.{Method}
use Rattle.values.specs.declared.Step.{Step}
use Rattle.values.specs.Values.{method_value, step_value}
use Rattle.index.specs.Indexed.{Indexes, FailedIn}
use Rattle.index.proofs.Indexed.{failed-in, body_is, body_named, step-named, target_fits, channel-fits, event-fits}

module _ {S : Sheet} {s conditions points methods steps : List ℕ} (x : Indexes S s conditions points methods steps) where
  module _ {m : ℕ} (l : m < length S.methods) {v w : Method} (is : v ≡ w) (read : method_value v ≡ method_at s (get_or methods m 0)) where
    body-read : (method_at s (get_or methods m 0)).body ≡ (method_value w).body
    body-read = ap (λ (y : sheet.Method). y.body) (sym read ∙ ap method_value is)

    pub body-rules : (starts : List ℕ) → method_rules S starts m (body S m) ≡ method_rules S starts m (method_value w).body
    body-rules starts = ap (method_rules S starts m) (body_is x m l ∙ body-read)

    pub body-names : BodyNamed (length S.points) (method_value w).body
    body-names = body_named x m l _ body-read

    -- it has two outcomes
    pub fails : (d : sheet.Declared) → (method_value w).failing ≡ some d → FailedIn S s conditions methods m
    fails d e = failed-in x m l d (ap (λ (y : sheet.Method). y.failing) (sym read ∙ ap method_value is) ∙ e)

  module _ {i : ℕ} (l : i < length S.steps) {v w : Step} (is : v ≡ w) (read : step_value v ≡ step_at s (get_or steps i 0)) where
    step-read : step_at s (get_or steps i 0) ≡ step_value w
    step-read = sym read ∙ ap step_value is

    pub step-rules : step_rules S i (step_at s (get_or steps i 0)) ≡ step_rules S i (step_value w)
    step-rules = ap (step_rules S i) step-read

    pub named : StepNamed (length S.points) (length S.methods) (step_value w)
    named = step-named x i l _ step-read

    pub target : TargetsFit S (step_value w)
    target = target_fits x i l _ step-read

    pub on-channel : StepOnChannel S (step_value w)
    on-channel = channel-fits x i l _ step-read

    pub fits : EventBelow 64 (step_value w)
    fits = event-fits x i l _ step-read
