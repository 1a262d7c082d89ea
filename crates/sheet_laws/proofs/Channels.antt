-- Channels fit in a sheet that is read whole: a call on a channel is one of a primitive of one outcome, on one of the channels 0 to 3, which is what 26
-- leaves. On an instrument that takes no kind above 21 no call is on a channel, and no sheet is refused for one.
use mathlib.Core.Path.{◌≡◌, refl, sym, ap, ◌∙◌, subst}
use mathlib.Core.Bool.{Bool, true, false, not, cond, ◌&&◌}
use mathlib.Core.Option.{Option, none, some}
use mathlib.Core.List.{List}
use Prim.Native.Nat.{ℕ, ◌<◌}
use native.Mathlib.Omega.{arith}
use lib.ListN.{get_elem?}
use lib.Dec.{T, eqb, ltb, ltb→lt}
use borrow.Author.Tests.{lt-ltb, ltb-false, eqb-true, not-false}
use Rattle.sheet.specs.Model.{Model}
use Rattle.sheet.specs.Each.{Each}
use Rattle.sheet.specs.Sheet.{failed, Declared, Body, Method, Sheet, is_some, declared_in, body_in}
use Rattle.sheet.specs.Kind.{points, methods, steps}
use Rattle.sheet.specs.Record.{Record, byte_at, record_at, value}
use Rattle.sheet.specs.Reading.{Counted, Reading, is_new, is_primitive, has_two_outcomes, record_named, plain_primitive_in, last_channel, refusal_of, ReadResult, whole, refusal, read_sheet}
use Rattle.sheet.specs.Decode.{method_of, step_of, sheet_read, sheet_of}
use Rattle.sheet_laws.specs.Names.{ChannelFits, StepOnChannel, ChannelsFit, NoChannel}
use Rattle.sheet.proofs.Each.{each-mapped}
use Rattle.sheet_laws.proofs.Take.{or-false, and-false, Took}
use Rattle.sheet_laws.proofs.Order.{two, test-holds}
use Rattle.sheet_laws.proofs.ReadOn.{Ends, too_long, at_record, at_the_end, read-ends, number_of, end-number, owners-number}
use Rattle.sheet_laws.proofs.Own.{each-own}
use Rattle.sheet_laws.proofs.States.{Later, each-later, named-then}
use Rattle.sheet_laws.proofs.Kind.{step-cases}
use Rattle.sheet_laws.proofs.SheetOf.{sheet-is}
use Rattle.sheet_laws.proofs.Named.{taken-exists}

-- The method that a call on a channel names ---------------------------------------------------------------------------------

-- a primitive of one outcome
abbrev plain_in : Option Method → Bool
plain_in none = false
plain_in (some x) = not (is_some x.body) && not (is_some x.failing)

none_of : {A : Type 0} (x : Option A) → not (is_some x) ≡ true → x ≡ none
none_of none e = refl
none_of (some x) e = absurd (subst T (sym e) tt)

and-true : (a b : Bool) → (a && b) ≡ true → (a ≡ true) × (b ≡ true)
and-true true b e = (refl, e)
and-true false b e = absurd (subst T (sym e) tt)

has-neither : (o : Option Method) → plain_in o ≡ true → (body_in o ≡ none) × (declared_in failed o ≡ none)
has-neither none e = (refl, refl)
has-neither (some x) e =
    let (no_body, one_outcome) = and-true (not (is_some x.body)) (not (is_some x.failing)) e in
    (none_of x.body no_body, none_of x.failing one_outcome)

-- a record of a method as what it stands for
plain-as : (x : Record) → plain_primitive_in (some x) ≡ plain_in (some (method_of x))
plain-as x = go (is_primitive x) (has_two_outcomes x) _ _
  where
    go : (primitive two : Bool) (b : Body) (d : Declared)
        → (primitive && not two) ≡ (not (is_some (cond primitive none (some b))) && not (is_some (cond two (some d) none)))
    go true true b d = refl
    go true false b d = refl
    go false two b d = refl

module _ (M : Model) (s : List ℕ) (r : Reading) (h : read_sheet M s ≡ whole r) where
  abbrev S : Sheet
  S = sheet_read (is_new s) r.own

  -- what 26 and 7 leave of a call of kind 22
  pub named-plain : (at : ℕ) (u : Reading) → Took M s at u → Later u r → eqb (byte_at s at) 22 ≡ true
      → ChannelFits S (value (record_at s at) 2) (some (value (record_at s at) 3))
  unfolding record_at
  named-plain at u w later e =
      let m = value (record_at s at) 2 in
      let c = value (record_at s at) 3 in
      let (plain, within) = or-false (not (plain_primitive_in (record_named u methods m))) (ltb last_channel c)
      (and-false (eqb (byte_at s at) 22) _ w.channels e) in
      let is = named-then M s r h plain_primitive_in plain_in method_of refl plain-as later methods m
      (ltb→lt _ _ (taken-exists M s at u w 22 e 2 (omega arith))) in
      let (no_body, one_outcome) = has-neither (get_elem? S.methods m) (sym is ∙ not-false _ plain) in
      (no_body, one_outcome, ltb-false last_channel c within)

  fits-channel : (at : ℕ) (u : Reading) → Took M s at u → Later u r → StepOnChannel S (step_of (record_at s at))
  unfolding record_at
  fits-channel at u w later = step-cases (StepOnChannel S) (record_at s at) tt (λ e. tt) (λ e. tt) (named-plain at u w later) (λ e. tt) tt

  pub channels_fit : ChannelsFit (sheet_of M s)
  channels_fit =
      subst ChannelsFit (sym (sheet-is M s r h))
      (each-mapped (StepOnChannel S) (λ (c : Counted). step_of c.last) (each-later M s r h (λ x. StepOnChannel S (step_of x)) fits-channel steps))

-- Without kind 22 -----------------------------------------------------------------------------------------------------------

module _ (M : Model) (s : List ℕ) (before-22 : M.kinds < 22) where
  -- a record that is taken is not of kind 22: what 2 leaves
  none_here : (at : ℕ) (r : Reading) → Took M s at r → NoChannel (step_of (record_at s at))
  unfolding record_at
  none_here at r w =
      let (not0, within) = or-false (eqb (byte_at s at) 0) (ltb M.kinds (byte_at s at)) w.known in
      step-cases NoChannel (record_at s at) tt (λ e. refl) (λ e. refl)
      (λ e. absurd (omega (arith, before-22, ltb-false M.kinds (byte_at s at) within, eqb-true (byte_at s at) 22 e))) (λ e. tt) tt

  -- no call of a sheet that is read whole is on a channel
  pub no_channels : (r : Reading) → read_sheet M s ≡ whole r → Each NoChannel (sheet_of M s).steps
  no_channels r h =
      subst (λ (S : Sheet). Each NoChannel S.steps) (sym (sheet-is M s r h))
      (each-mapped NoChannel (λ (c : Counted). step_of c.last)
      (each-own M s (λ at r. Unit {0}) (λ k (c : Counted). NoChannel (step_of c.last)) (λ at r w q. tt) (λ at r w q e. none_here at r w) r h tt steps))

  -- a record of kind 22 is refused with 2
  not-26 : (at : ℕ) (r : Reading) → refusal_of M s at r ≡ 26 → ⊥
  unfolding record_at
  not-26 at r e =
      let (kind, wrong) = and-true (eqb (byte_at s at) 22) _ (test-holds M s at r 25 e) in
      let is-22 = eqb-true (byte_at s at) 22 kind in
      omega (arith, e, two M s at r (rw (is-22, lt-ltb M.kinds 22 before-22)))

  -- no sheet is refused for a channel
  pub no_channel_refused : (n at : ℕ) (r : Reading) → read_sheet M s ≡ refusal n at r → n ≡ 26 → ⊥
  no_channel_refused n at r h e = go (read-ends M s (λ at r. Unit {0}) (λ at r w q. tt) tt) (ap number_of h ∙ e)
    where
      Other : ℕ → Type 0
      Other n = n ≡ 26 → ⊥

      go : {o : ReadResult} → Ends M s (λ at r. Unit {0}) o → Other (number_of o)
      go too_long = λ e. omega (arith, e)
      go (at_record {at} {r} q) = not-26 at r
      go (at_the_end {at} {r} q) =
          end-number s r Other (λ e. omega (arith, e)) (λ e. omega (arith, e)) (owners-number r Other (λ e. omega (arith, e)) (λ e. omega (arith, e)) (r.own points))
