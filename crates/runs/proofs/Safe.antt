-- Every run of a sheet whose rules are true is safe.
use mathlib.Core.Path.{sym, ◌∙◌}
use Prim.Native.Nat.{ℕ}
use mathlib.Core.Bool.{false≢true}
use mathlib.Core.List.{List, map, Memᴰ}
use Rattle.condition.specs.Condition.{Holds}
use Rattle.sheet.specs.Each.{Each}
use Rattle.sheet.proofs.Each.{each_map, each_append, each-mapped}
use Rattle.sheet.specs.Sheet.{Sheet, body}
use Rattle.runs.specs.Rules.{rules_from, AllMet}
use Rattle.runs.specs.Runs.{Returned, State, trace_of, raised, Move, run, Safe}
use Rattle.sheet_laws.specs.Names.{HasBody, ChannelsFit}
use Rattle.runs.proofs.Rules.{by_number}
use Rattle.runs.proofs.Adds.{adds-since}
use Rattle.runs.proofs.Invariant.{Begun, Well, Good, running, over}
use Rattle.runs.proofs.Kept.{open-begun, runs-are-good}

module _ (S : Sheet) where
  returned-begun : {rs : List Returned} → Each (Well S) rs → Each (Begun S) (map (λ r. r.call) rs)
  returned-begun w = each-mapped (Begun S) (λ r. r.call) (each_map (λ r x. x.began) w)

  all-raised : {rs : List Returned} → Each (Well S) rs → Each (λ r. Holds (trace_of S r.call r.outcome) (raised r)) rs
  all-raised = each_map (λ r x. adds-since x.raised)

  good-is-safe : {s : State} → Good S s → Safe S s
  good-is-safe (running e g) =
      record {
        began_well = each_append (open-begun S g.frames) (returned-begun g.well);
        raised_well = all-raised g.well;
        ended_well = λ z. absurd (false≢true (sym e ∙ z));
      }
  good-is-safe (over e g) =
      record {
        began_well = each_append g.begun (returned-begun g.well);
        raised_well = all-raised g.well;
        ended_well = λ z. each_map (λ r x. adds-since x) g.met;
      }

-- demand 3, of every list of moves from any of the starts
pub runs-are-safe : (S : Sheet) → ChannelsFit S → (starts : List ℕ) → AllMet (rules_from starts S) → (m : ℕ) → Memᴰ m starts → HasBody (body S m)
    → (ms : List Move) → Safe S (run S m ms)
runs-are-safe S fit starts h m is b ms = good-is-safe S (runs-are-good S fit (by_number S starts is h) b ms)
