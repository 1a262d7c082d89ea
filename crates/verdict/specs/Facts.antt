-- Facts of the definitions. Each ties what is computed to what it stands for, so that a reader need not take it from the text of a definition alone.
use Rattle.std.specs.Prelude.{ℕ, suc, ◌+◌, ◌*◌, ◌≤◌, ◌<◌, ◌≡◌, true, false, ◌↔◌, List, [], map, length, T}
use Rattle.std.proofs.Math.Option.{none, some}
use Rattle.std.proofs.Math.ListN.{get_elem?}
use Rattle.condition.specs.Condition.{Condition, Word, Holds, Longest, any}
use Rattle.condition.specs.Exchange.{swap, exchange}
use Rattle.condition.specs.Places.{nullable, step, step_all, some_ends, accepts, longest}
use Rattle.certificate.specs.Certificate.{Certificate}
use Rattle.sheet.specs.Model.{Model, set_events}
use Rattle.sheet.specs.Each.{Each}
use Rattle.sheet.specs.Sheet.{Outcome, Point, Method, CallStep, Step, call_step, Sheet, body, target_for}
use Rattle.sheet.specs.Kind.{conditions}
use Rattle.sheet.specs.Record.{Bytes, byte_at}
use Rattle.sheet.specs.Reading.{Reading, whole, refusal, read_sheet}
use Rattle.sheet.specs.Decode.{sheet_of}
use Rattle.sheet_laws.specs.AtOffset.{InPostfix}
use Rattle.sheet_laws.specs.Names.{NamesExist, HasBody, OutcomesFit, OwnersFit, ChannelsFit, NoChannel, EventBelow, StopFits}
use Rattle.runs.specs.Rules.{Rule, rules, body_count, event_count, call_count, pass_count, failed_exit_count, failed_call_count, stop_count, total, count}
use Rattle.runs.specs.Runs.{State, Grown, Move, MadeByTrace, run}
use Rattle.runs.specs.Owing.{OwingWhenOpen}
use Rattle.verdict.specs.Verdict.{accepted, verdict_of}
use Rattle.verdict.specs.Promise.{EachCertified, ExactFor}

-- a sheet of the old edition: it is not marked as new and has no stop, and none of its rules is 25 or 26
pub record OldEdition (S : Sheet) : Type 0 where
  pub unmarked : S.new ≡ false
  pub no_stops : Each (λ (t : Step). stop_count t ≡ 0) S.steps
  pub twenty_four : Each (λ (x : Rule). x.number ≤ 24) (rules S)

-- a sheet of document 01: no method has a failed exit and no call a failed target; its rules are among the "Seventeen rules", and its count is
-- "2 + 4b + 3e + 5c + 3p for b methods with body, e event, c call and p pass steps"
pub record OneOutcome (S : Sheet) : Type 0 where
  pub exits : Each (λ (x : Method). failed_exit_count x ≡ 0) S.methods
  pub targets : Each (λ (t : Step). failed_call_count t ≡ 0) S.steps
  pub seventeen : Each (λ (x : Rule). x.number ≤ 17) (rules S)
  pub formula : count S ≡ 2 + 4 * total body_count S.methods + 3 * total event_count S.steps + 5 * total call_count S.steps + 3 * total pass_count S.steps

pub record Facts (M : Model) (s : List ℕ) : Type 0 where
  -- the word test by places, and the test of the empty word, are the language: of every condition and every word, however long
  pub words : (r : Condition) (w : Word) → T (accepts r w) ↔ Holds r w
  pub empty_word : (r : Condition) → T (nullable r) ↔ Holds r []
  -- Request 3: what stepping tells besides its set is "whether any word can still be finished", from whatever set; and the count of events by it is the length
  -- of the longest beginning
  pub finishes : (r : Condition) (s e : ℕ) → T (step r s e).finishes ↔ ((v : Word) × T (some_ends r (step_all r (step r s e).set v)))
  pub longest_beginning : (r : Condition) (w : Word) → Longest r w (longest r w)
  -- the exchange of a channel with channel 0 is that of the events of words; "so "any" remains "any"" where there are the events of that channel; channel 0
  -- exchanges nothing
  pub exchanged : (c : ℕ) (r : Condition) (w : Word) → Holds (exchange c r) w ↔ Holds r (map (swap c) w)
  pub any_stays : (c n : ℕ) → 16 * suc c ≤ n → exchange c (any n) ≡ any n
  pub channel_0 : (r : Condition) → exchange 0 r ≡ r
  -- of a sheet that is read whole: the records of each condition are the postfix form of the condition that they stand for,
  pub in_postfix : (r : Reading) → read_sheet M s ≡ whole r → Each (InPostfix s) (r.own conditions)
  -- every name exists, the event of each step is one of the instrument's, the first method has a body, a method with body has a failed exit exactly if
  -- it has two outcomes, a call a failed target exactly if its method has two, owners are the same where they are compared, and a call on a channel is
  -- one of a primitive of one outcome, on one of the channels 0 to 3
  pub names_exist : (r : Reading) → read_sheet M s ≡ whole r → NamesExist (sheet_of M s)
  pub events_below : (r : Reading) → read_sheet M s ≡ whole r → Each (EventBelow M.events) (sheet_of M s).steps
  pub first_has_body : (r : Reading) → read_sheet M s ≡ whole r → HasBody (body (sheet_of M s) 0)
  pub outcomes_fit : (r : Reading) → read_sheet M s ≡ whole r → OutcomesFit (sheet_of M s)
  pub owners_fit : (r : Reading) → read_sheet M s ≡ whole r → OwnersFit (sheet_of M s)
  pub channels_fit : (r : Reading) → read_sheet M s ≡ whole r → ChannelsFit (sheet_of M s)
  -- and it is of the new edition exactly if its first byte is 18, and else has no stop
  pub edition : (r : Reading) → read_sheet M s ≡ whole r → ((sheet_of M s).new ≡ true) ↔ (byte_at s 0 ≡ 18)
  pub stops_fit : (r : Reading) → read_sheet M s ≡ whole r → Each (StopFits (sheet_of M s).new) (sheet_of M s).steps
  -- on an instrument that takes no kind above 21 no call is on a channel, and no sheet is refused for one,
  pub no_channels : M.kinds < 22 → (r : Reading) → read_sheet M s ≡ whole r → Each NoChannel (sheet_of M s).steps
  pub no_channel_refused : M.kinds < 22 → (n at : ℕ) (r : Reading) → read_sheet M s ≡ refusal n at r → n ≡ 26 → ⊥
  -- on one that takes no kind above 19 no point has an owner, and no sheet is refused for one,
  pub no_owners : M.kinds < 20 → (r : Reading) → read_sheet M s ≡ whole r → Each (λ (x : Point). x.owner ≡ none) (sheet_of M s).points
  pub no_owner_refused : M.kinds < 20 → (n at : ℕ) (r : Reading) → read_sheet M s ≡ refusal n at r → (n ≡ 24 → ⊥) × (n ≡ 25 → ⊥)
  -- on one that takes no kind above 17 it is a sheet of the old edition,
  pub old_edition : M.kinds < 18 → (r : Reading) → read_sheet M s ≡ whole r → OldEdition (sheet_of M s)
  -- and on one that takes document 01's kinds alone a sheet of document 01: what `as_before` compares with is that document's
  pub one_outcome : M.kinds < 15 → (r : Reading) → read_sheet M s ≡ whole r → OneOutcome (sheet_of M s)
  -- the count of the formula is the number of rules
  pub counted : length (rules (sheet_of M s)) ≡ count (sheet_of M s)
  -- a call of a primitive is made with exactly the words of the trace of its outcome, read on its channel, where the step has a target for that outcome
  pub made_by_trace : (u : State) (i : ℕ) (t : CallStep) (o : Outcome) (q : ℕ) (w : Word) → u.ended ≡ false
      → get_elem? (sheet_of M s).steps i ≡ some (call_step t) → u.point ≡ t.from → body (sheet_of M s) t.method ≡ none → target_for o t ≡ some q
      → MadeByTrace (sheet_of M s) u i t o q w
  -- histories only grow, so that what a history adds to an earlier one is what was raised since
  pub histories_grow : (ms : List Move) → Grown (run (sheet_of M s) 0 ms)
  -- exact certificates exist for the rules of every sheet, so the second half of demand 3 asks nothing impossible of a certificate. That they fit
  -- in a sheet's bytes is not said.
  pub exact_exist : (cs : List Certificate) × EachCertified (ExactFor M.events) (rules (sheet_of M s)) cs
  -- request 12 of an accepted sheet, said with no numbers: what a returned call is owed binds wherever control is in a call that was open when it began
  pub owing_when_open : (n : ℕ) → verdict_of M s ≡ accepted n → (ms : List Move) → OwingWhenOpen (sheet_of M s) 0 ms

-- that they hold of all bytes, also refused ones, on an instrument with at least the events that a leaf's set can hold
abbrev pub FactsHold : Model → Type 0
FactsHold M = set_events M ≤ M.events → (s : List ℕ) → Bytes s → Facts M s
