-- The facts of the definitions hold.
use mathlib.Core.Path.{sym, subst}
use mathlib.Core.Bool.{Bool}
use mathlib.Core.Logic.{◌↔◌}
use Prim.Native.Nat.{ℕ}
use lib.Dec.{T}
use Rattle.condition.specs.Condition.{Condition, Word}
use Rattle.condition.specs.Places.{step, step_all, some_ends}
use Rattle.condition.proofs.Words.{step-lt, step_all-in, step_all-out, nullable-holds, words}
use Rattle.condition.proofs.Longest.{some_live-in, some_live-out, step-finishes, longest-meets}
use Rattle.condition.proofs.Exchange.{exchange-holds, exchange-any, exchange-zeroth}
use Rattle.sheet.specs.Model.{Model}
use Rattle.sheet.specs.Decode.{sheet_of}
use Rattle.sheet_laws.proofs.Standing.{conditions-in-postfix}
use Rattle.sheet_laws.proofs.Named.{names_exist, events_below}
use Rattle.sheet_laws.proofs.First.{first_has_body}
use Rattle.sheet_laws.proofs.Outcomes.{outcomes_fit}
use Rattle.sheet_laws.proofs.Editions.{edition, stops_fit}
use Rattle.sheet_laws.proofs.Owners.{owners_fit, no_owners, no_owner_refused}
use Rattle.sheet_laws.proofs.Channels.{channels_fit, no_channels, no_channel_refused}
use Rattle.runs.specs.Rules.{rules}
use Rattle.runs.proofs.Count.{counted}
use Rattle.runs.proofs.Moves.{made_by_trace}
use Rattle.runs.proofs.Grow.{histories_grow}
use Rattle.verdict.specs.Facts.{FactsHold}
use Rattle.verdict.proofs.Loads.{loads, promised-when-open}
use Rattle.verdict.proofs.Former.{old_edition, one_outcome}
use Rattle.verdict.proofs.Witnesses.{exact_exist}

-- whether a word can be finished after a step is whether a word leads on to a place that ends one
finishes : (r : Condition) (s e : ℕ) → T (step r s e).finishes ↔ ((v : Word) × T (some_ends r (step_all r (step r s e).set v)))
finishes r s e =
    subst (λ (b : Bool). T b ↔ ((v : Word) × T (some_ends r (step_all r (step r s e).set v)))) (sym (step-finishes r s e)) (
      λ h. let (v, k) = some_live-out r (step r s e).set h in (v, step_all-in r v (step r s e).set (step-lt r s e) k),
      λ x. some_live-in r (step r s e).set (step-lt r s e) x.0 (step_all-out r x.0 (step r s e).set x.1),
    )

pub facts : (M : Model) → FactsHold M
facts M wide s bytes =
    record {
      words = words;
      empty_word = nullable-holds;
      finishes = finishes;
      longest_beginning = longest-meets;
      exchanged = exchange-holds;
      any_stays = exchange-any;
      channel_0 = exchange-zeroth;
      in_postfix = conditions-in-postfix M s;
      names_exist = names_exist M s;
      events_below = events_below M s;
      first_has_body = first_has_body M s;
      outcomes_fit = outcomes_fit M s;
      owners_fit = owners_fit M s;
      channels_fit = channels_fit M s;
      edition = edition M s;
      stops_fit = stops_fit M s;
      no_channels = no_channels M s;
      no_channel_refused = no_channel_refused M s;
      no_owners = no_owners M s;
      no_owner_refused = no_owner_refused M s;
      old_edition = λ former r read. old_edition M s r read former;
      one_outcome = λ former r read. one_outcome M s r read former;
      counted = counted (sheet_of M s);
      made_by_trace = λ u i t o q w going found at primitive to. made_by_trace (sheet_of M s) u i o w going t found at primitive to;
      histories_grow = histories_grow (sheet_of M s) 0;
      exact_exist = exact_exist M.events (rules (sheet_of M s));
      owing_when_open = promised-when-open (loads M s wide bytes);
    }
