-- Document 01's last sheet to try, of bytes and the verdict: a primitive "close" whose future is nothing more, or next an advance, called last
-- in a loop whose body starts with event 0. If some run that ends goes round twice, the sheet is not accepted.
use mathlib.Core.Path.{◌≡◌, subst}
use mathlib.Core.List.{List, ◌∷◌}
use Prim.Native.Nat.{ℕ, ◌≤◌}
use Rattle.condition.specs.Condition.{Condition, Holds}
use Rattle.sheet.specs.Model.{Model, set_events}
use Rattle.sheet.specs.Record.{Bytes}
use Rattle.sheet.specs.Sheet.{normal, CallStep, future, on_channel}
use Rattle.sheet.specs.Decode.{sheet_of}
use Rattle.runs.proofs.Loop.{TwiceRound, not-all-met, advance_next, no-0}
use Rattle.verdict.specs.Verdict.{accepted, verdict_of}
use Rattle.verdict.proofs.Loads.{accepted-has-body, accepted-fits, accepted-met}

-- whatever conditions the points name, and whatever the certificates are
pub loop-not-accepted : (M : Model) (s : List ℕ) → set_events M ≤ M.events → Bytes s → (close : CallStep)
    → on_channel close.channel (future (sheet_of M s) close.method normal) ≡ advance_next → TwiceRound (sheet_of M s) 0 close → (n : ℕ) → verdict_of M s ≡ accepted n → ⊥
loop-not-accepted M s wide bytes close is t n h =
    not-all-met (sheet_of M s) 0 close t (accepted-fits M s n h) (accepted-has-body M s n h)
    (λ v x. no-0 v (subst (λ (c : Condition). Holds c (0 ∷ v)) is x))
    (accepted-met M s wide bytes n h)
