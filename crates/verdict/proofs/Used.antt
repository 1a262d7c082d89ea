-- The facts of the definitions, used: what each of them alone says of document 01's sheet M, or of every sheet.
use mathlib.Core.Path.{◌≡◌, refl, sym, subst}
use mathlib.Core.Bool.{true, false}
use mathlib.Core.Logic.{⊎_elim}
use mathlib.Core.Option.{none, some}
use mathlib.Core.List.{List, [], ◌∷◌, Memᴰ}
use Prim.Native.Nat.{ℕ, ◌≤◌, ◌<◌}
use native.Mathlib.Omega.{arith}
use lib.Dec.{T}
use lib.ListN.{length, get_elem?}
use Rattle.condition.specs.Condition.{Condition, Word, empty, join, no_word, event, Holds, Begins, any}
use Rattle.condition.specs.Exchange.{swap_channel, swap, exchange}
use Rattle.condition.specs.Places.{nullable, step, some_ends, step_all, accepts, longest}
use Rattle.certificate.specs.Certificate.{Certificate, Exact}
use Rattle.sheet.specs.Model.{Model, large, four, with_kinds}
use Rattle.sheet.specs.Sheet.{Outcome, failed, Point, Body, Method, CallStep, Step, event_step, call_step, stop_step, is_some, owner, declared_in, on_channel, body, trace, target_for}
use Rattle.sheet.specs.Each.{Each}
use Rattle.sheet.specs.Record.{byte_at}
use Rattle.sheet.specs.Reading.{Reading, whole, refusal, read_sheet}
use Rattle.sheet_laws.specs.Names.{NamedIfAny, HasBody, ExitsFit, TargetsFit, EventBelow, StopFits, SameIfAny, BodyOwned, StepOwned, ChannelFits, StepOnChannel, NoChannel}
use Rattle.sheet.specs.Decode.{sheet_of}
use Rattle.sheet_laws.specs.AtOffset.{empty-symbol, symbols_at, postfix}
use Rattle.sheet.proofs.Each.{each-head, each_member}
use Rattle.runs.specs.Rules.{Rule, rules, stop_count, total, count}
use Rattle.runs.specs.Runs.{State, Grown, Move, by_step, new_call, raise, returned_now, move, run}
use Rattle.runs.specs.Owing.{OwingWhenOpen}
use Rattle.verdict.specs.Promise.{EachCertified, bare, certified, ExactFor}
use Rattle.verdict.specs.Facts.{Facts}
use Rattle.verdict.specs.Cases.{M}
use Rattle.verdict.proofs.Bytes.{small, are-bytes}
use Rattle.verdict.proofs.Facts.{facts}
use Rattle.verdict.proofs.Witnesses.{M-accepted}

-- they hold of M, on document 01's instrument
pub of-M : Facts large M
unfolding small
of-M = facts large (omega arith) M (are-bytes M tt)

module _ (f : Facts large M) where
  event-holds : Holds (event 0) (0 ∷ [])
  unfolding accepts
  event-holds = (f.words (event 0) (0 ∷ [])).0 tt

  event-lacks : Holds (event 0) [] → ⊥
  unfolding accepts
  event-lacks h = (f.words (event 0) []).1 h

  empty_holds : Holds empty []
  unfolding nullable
  empty_holds = (f.empty_word empty).0 tt

  event-not-empty : Holds (event 0) [] → ⊥
  unfolding nullable
  event-not-empty h = (f.empty_word (event 0)).1 h

  -- of the events 0 and 0, the first begins the word of event 0, and both do not
  event-begins : Begins (event 0) (0 ∷ [])
  unfolding longest
  event-begins = ⊎_elim (λ b. b) (λ x. absurd (omega (arith, x.0))) (f.longest_beginning (event 0) (0 ∷ 0 ∷ [])).begins

  event-begins-once : Begins (event 0) (0 ∷ 0 ∷ []) → ⊥
  unfolding longest
  event-begins-once b = (f.longest_beginning (event 0) (0 ∷ 0 ∷ [])).no_longer 2 (omega arith) (omega arith) b

  -- after event 0 a word of event 0 and event 1 can be finished, by event 1; none where a leaf with the set 0 comes next, though a place is left
  event-finishes : T (step (join (event 0) (event 1)) 1 0).finishes
  unfolding accepts
  event-finishes = (f.finishes (join (event 0) (event 1)) 1 0).1 (1 ∷ [], tt)

  none-finishes : (v : Word) → T (some_ends (join (event 0) no_word) (step_all (join (event 0) no_word) 0b10 v)) → ⊥
  unfolding longest
  none-finishes v h = (f.finishes (join (event 0) no_word) 1 0).1 (v, h)

  -- on channel 1 the event 0 is read as 16, and 0 is not
  exchanged-holds : Holds (exchange 1 (event 0)) (16 ∷ [])
  unfolding accepts swap_channel swap
  exchanged-holds = (f.exchanged 1 (event 0) (16 ∷ [])).1 ((f.words (event 0) (0 ∷ [])).0 tt)

  exchanged-lacks : Holds (exchange 1 (event 0)) (0 ∷ []) → ⊥
  unfolding accepts swap_channel swap
  exchanged-lacks h = (f.words (event 0) (16 ∷ [])).1 ((f.exchanged 1 (event 0) (0 ∷ [])).0 h)

  -- "any" of the four-channel instrument remains "any" on its last channel; that of the large one does not on channel 2, which it lacks
  any-of-four : exchange 3 (any four.events) ≡ any four.events
  any-of-four = f.any_stays 3 four.events (omega arith)

  any-of-large : exchange 2 (any 32) ≡ any 32 → ⊥
  unfolding accepts swap_channel swap
  any-of-large e =
      let held : Holds (exchange 2 (any 32)) (0 ∷ []) = subst (λ (r : Condition). Holds r (0 ∷ [])) (sym e) ((f.words (any 32) (0 ∷ [])).0 tt) in
      (f.words (any 32) (32 ∷ [])).1 ((f.exchanged 2 (any 32) (0 ∷ [])).0 held)

  as-on-channel-0 : exchange 0 (event 16) ≡ event 16
  as-on-channel-0 = f.channel_0 (event 16)

  its-records : symbols_at M 0 ≡ empty-symbol ∷ []
  unfolding sheet_of postfix
  its-records = each-head (f.in_postfix _ refl)

  its-names : (0 < length (sheet_of large M).conditions) × (0 < length (sheet_of large M).points)
  unfolding sheet_of
  its-names =
      let n = f.names_exist _ refl in
      ((each-head n.points_named).past_exists, (each-head n.methods_named).body_named.0)

  its-body : HasBody (body (sheet_of large M) 0)
  unfolding sheet_of
  its-body = f.first_has_body _ refl

  its-rules : length (rules (sheet_of large M)) ≡ 6
  unfolding sheet_of count
  its-rules = f.counted

  -- where document 01's kinds alone are taken: its count by the formula, and that none of its rules has a number above 17
  module _ (before : Facts (with_kinds 14 large) M) where
    its-formula : count (sheet_of (with_kinds 14 large) M) ≡ 6
    unfolding sheet_of total
    its-formula = (before.one_outcome (omega arith) _ refl).formula

    its-numbers : Each (λ (x : Rule). x.number ≤ 17) (rules (sheet_of (with_kinds 14 large) M))
    unfolding sheet_of
    its-numbers = (before.one_outcome (omega arith) _ refl).seventeen

  its-histories : (ms : List Move) → Grown (run (sheet_of large M) 0 ms)
  its-histories = f.histories_grow

  -- M's third rule, EMPTY in EMPTY, has an exact certificate
  its-certificate : (c : Certificate) × Exact 32 empty empty c
  unfolding sheet_of rules
  its-certificate = let (cs, h) = f.exact_exist in go h
    where
      go : {cs : List Certificate} → EachCertified (ExactFor 32) (rules (sheet_of large M)) cs → (c : Certificate) × Exact 32 empty empty c
      go (bare x (bare y (certified {c = c} e h))) = (c, e)

  its-owing : (ms : List Move) → OwingWhenOpen (sheet_of large M) 0 ms
  its-owing = f.owing_when_open 6 M-accepted

-- the events of the steps of a sheet that is read whole are below the instrument's number
its-events : (I : Model) (s : List ℕ) → Facts I s → (r : Reading) → read_sheet I s ≡ whole r → (p q e : ℕ)
    → Memᴰ (event_step p q e) (sheet_of I s).steps → e < I.events
its-events I s f r read p q e i = each_member (EventBelow I.events) (f.events_below r read) i

-- a call in such a sheet has a failed target exactly if its method has two outcomes, and a method with body a failed exit exactly if it has two
its-targets : (I : Model) (s : List ℕ) → Facts I s → (r : Reading) → read_sheet I s ≡ whole r → (t : CallStep)
    → Memᴰ (call_step t) (sheet_of I s).steps → is_some t.failed_to ≡ is_some (declared_in failed (get_elem? (sheet_of I s).methods t.method))
its-targets I s f r read t i = each_member (TargetsFit (sheet_of I s)) (f.outcomes_fit r read).targets_fit i

its-exits : (I : Model) (s : List ℕ) → Facts I s → (r : Reading) → read_sheet I s ≡ whole r → (x : Method)
    → Memᴰ x (sheet_of I s).methods → (b : Body) → x.body ≡ some b → is_some b.failed_exit ≡ is_some x.failing
its-exits I s f r read x i b e =
    subst (ExitsFit x.failing) e (each_member (λ (x : Method). ExitsFit x.failing x.body) (f.outcomes_fit r read).exits_fit i)

-- in such a sheet the points that an event step joins have the same owner, where both have one, and each owner is a method
its-owners : (I : Model) (s : List ℕ) → Facts I s → (r : Reading) → read_sheet I s ≡ whole r → (p q e : ℕ)
    → Memᴰ (event_step p q e) (sheet_of I s).steps → SameIfAny (owner (sheet_of I s) p) (owner (sheet_of I s) q)
its-owners I s f r read p q e i = each_member (StepOwned (sheet_of I s)) (f.owners_fit r read).steps_owned i

its-entries : (I : Model) (s : List ℕ) → Facts I s → (r : Reading) → read_sheet I s ≡ whole r → (m : ℕ) (b : Body) → body (sheet_of I s) m ≡ some b
    → SameIfAny (some m) (owner (sheet_of I s) b.entry)
its-entries I s f r read m b e = (subst (BodyOwned (sheet_of I s) m) e ((f.owners_fit r read).bodies_owned m)).0

owners-are-methods : (I : Model) (s : List ℕ) → Facts I s → (r : Reading) → read_sheet I s ≡ whole r → (x : Point)
    → Memᴰ x (sheet_of I s).points → NamedIfAny (length (sheet_of I s).methods) x.owner
owners-are-methods I s f r read x i =
    each_member (λ (x : Point). NamedIfAny (length (sheet_of I s).methods) x.owner) (f.names_exist r read).owners_named i

-- in such a sheet a call on a channel is one of a primitive of one outcome, and its channel one of 0 to 3
module _ (I : Model) (s : List ℕ) (f : Facts I s) (r : Reading) (read : read_sheet I s ≡ whole r) (t : CallStep)
    (i : Memᴰ (call_step t) (sheet_of I s).steps) (c : ℕ) (on : t.channel ≡ some c) where
  its-fit : ChannelFits (sheet_of I s) t.method (some c)
  its-fit = subst (ChannelFits (sheet_of I s) t.method) on (each_member (StepOnChannel (sheet_of I s)) (f.channels_fit r read) i)

  its-primitive : body (sheet_of I s) t.method ≡ none
  its-primitive = its-fit.0

  its-outcome : declared_in failed (get_elem? (sheet_of I s).methods t.method) ≡ none
  its-outcome = its-fit.1

  its-channel : c ≤ 3
  its-channel = its-fit.2

-- where no kind above 21 is taken no call is on a channel, and 26 is not given
module _ (I : Model) (s : List ℕ) (f : Facts I s) (former : I.kinds < 22) where
  its-former-calls : (r : Reading) → read_sheet I s ≡ whole r → (t : CallStep) → Memᴰ (call_step t) (sheet_of I s).steps → t.channel ≡ none
  its-former-calls r read t i = each_member NoChannel (f.no_channels former r read) i

  never-26 : (at : ℕ) (r : Reading) → read_sheet I s ≡ refusal 26 at r → ⊥
  never-26 at r read = f.no_channel_refused former 26 at r read refl

-- where no kind above 19 is taken no point has an owner, and neither 24 nor 25 is given
module _ (I : Model) (s : List ℕ) (f : Facts I s) (former : I.kinds < 20) where
  its-former-points : (r : Reading) → read_sheet I s ≡ whole r → (x : Point) → Memᴰ x (sheet_of I s).points → x.owner ≡ none
  its-former-points r read x i = each_member (λ (x : Point). x.owner ≡ none) (f.no_owners former r read) i

  never-24 : (at : ℕ) (r : Reading) → read_sheet I s ≡ refusal 24 at r → ⊥
  never-24 at r read = (f.no_owner_refused former 24 at r read).0 refl

  never-25 : (at : ℕ) (r : Reading) → read_sheet I s ≡ refusal 25 at r → ⊥
  never-25 at r read = (f.no_owner_refused former 25 at r read).1 refl

-- a sheet that is read whole is of the new edition if it begins with 18, and only a sheet that does has a stop
its-edition : (I : Model) (s : List ℕ) → Facts I s → (r : Reading) → read_sheet I s ≡ whole r → byte_at s 0 ≡ 18 → (sheet_of I s).new ≡ true
its-edition I s f r read e = (f.edition r read).1 e

its-stops : (I : Model) (s : List ℕ) → Facts I s → (r : Reading) → read_sheet I s ≡ whole r → (p : ℕ)
    → Memᴰ (stop_step p) (sheet_of I s).steps → byte_at s 0 ≡ 18
its-stops I s f r read p i = (f.edition r read).0 (each_member (StopFits (sheet_of I s).new) (f.stops_fit r read) i)

-- where no kind above 17 is taken it is not of the new edition, has no stop, and none of its rules has a number above 24
module _ (I : Model) (s : List ℕ) (f : Facts I s) (former : I.kinds < 18) (r : Reading) (read : read_sheet I s ≡ whole r) where
  its-former-edition : (sheet_of I s).new ≡ false
  its-former-edition = (f.old_edition former r read).unmarked

  its-former-steps : (p : ℕ) → Memᴰ (stop_step p) (sheet_of I s).steps → ⊥
  its-former-steps p i = omega (arith, each_member (λ (t : Step). stop_count t ≡ 0) (f.old_edition former r read).no_stops i)

  its-former-rules : (x : Rule) → Memᴰ x (rules (sheet_of I s)) → x.number ≤ 24
  its-former-rules x i = each_member (λ (x : Rule). x.number ≤ 24) (f.old_edition former r read).twenty_four i

-- a primitive's step with a word of its outcome's trace is made, and with another is not
module _ (I : Model) (s : List ℕ) (f : Facts I s) (u : State) (i : ℕ) (t : CallStep) (o : Outcome) (q : ℕ) (w : Word) (going : u.ended ≡ false)
    (found : get_elem? (sheet_of I s).steps i ≡ some (call_step t)) (at : u.point ≡ t.from) (primitive : body (sheet_of I s) t.method ≡ none)
    (to : target_for o t ≡ some q) where
  of-trace : Holds (on_channel t.channel (trace (sheet_of I s) t.method o)) w → move (sheet_of I s) u (by_step i o w) ≡ returned_now (new_call u i t) o (raise w q u)
  of-trace h = (f.made_by_trace u i t o q w going found at primitive to).made h

  not-of-trace : (Holds (on_channel t.channel (trace (sheet_of I s) t.method o)) w → ⊥) → move (sheet_of I s) u (by_step i o w) ≡ u
  not-of-trace n = (f.made_by_trace u i t o q w going found at primitive to).not_made n
