-- While a caller of a returned call has control, what followed the return and any word of the present due make a word of its future.
use Prim.Native.Nat.{ℕ}
use mathlib.Core.List.{List, Memᴰ}
use Rattle.sheet.proofs.Each.{each_map}
use Rattle.sheet.specs.Sheet.{Sheet, body}
use Rattle.runs.specs.Rules.{rules_from, AllMet}
use Rattle.runs.specs.Runs.{State, Move, run}
use Rattle.runs.specs.Owing.{Owing}
use Rattle.sheet_laws.specs.Names.{HasBody, ChannelsFit}
use Rattle.runs.proofs.Rules.{by_number}
use Rattle.runs.proofs.Adds.{adds-since}
use Rattle.runs.proofs.Invariant.{Good, running, over}
use Rattle.runs.proofs.Kept.{owed-due, runs-are-good}

module _ (S : Sheet) where
  good-is-owing : {s : State} → Good S s → Owing S s
  good-is-owing (running e g) = each_map (λ r o i. adds-since (owed-due S r o i)) g.owed
  good-is-owing (over e g) = each_map (λ r d i. adds-since (d i)) g.owing

-- request 12, of every list of moves from any of the starts
pub runs-owe : (S : Sheet) → ChannelsFit S → (starts : List ℕ) → AllMet (rules_from starts S) → (m : ℕ) → Memᴰ m starts → HasBody (body S m)
    → (ms : List Move) → Owing S (run S m ms)
runs-owe S fit starts h m is b ms = good-is-owing S (runs-are-good S fit (by_number S starts is h) b ms)
