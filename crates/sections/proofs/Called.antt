-- 18 and 26 by the table of methods: where every name exists, and the table leads to the records of the methods, the code's tests are the definition's.
use mathlib.Core.Path.{◌≡◌, refl, sym, ap, ap₂, ◌∙◌, subst}
use mathlib.Core.Bool.{Bool, true, false, not, cond, ◌&&◌, ◌||◌}
use mathlib.Core.Option.{Option, some}
use mathlib.Core.List.{List, [], ◌∷◌}
use Prim.Native.Nat.{ℕ, ◌+◌}
use native.Mathlib.Omega.{arith}
use lib.ListN.{length, get_or}
use lib.Dec.{T, eqb, ltb, ltb→lt}
use borrow.Author.Tests.{eqb-true, lt-ltb}
use Rattle.sheet.specs.Kind.{methods, steps, a-channel, kind_of, section_of}
use Rattle.sheet.specs.Record.{Record, byte_at, values_at, record_at, value}
use Rattle.sheet_laws.specs.AtOffset.{short_at}
use Rattle.sheet.specs.Reading.{Reading, tally, all_exist, record_named, two_outcomes_in, wrong_outcomes, plain_primitive_in, last_channel, wrong_channel}
use Rattle.sheet_laws.proofs.Fields.{channel-value, names-then, names-alone}
use Rattle.sheet_laws.proofs.Named.{FieldsExist, at-exists}
use Rattle.sheet_laws.proofs.Outcomes.{never-wrong}
use Rattle.kinds.specs.Kinds.{two_outcome_kind}
use Rattle.format.proofs.Laws.{kind-there}
use Rattle.names.specs.Outcomes.{kind_listed, wrong_outcomes_at}
use Rattle.names.specs.Channels.{plain_kind, wrong_channel_at}
use Rattle.sections.specs.Sections.{Listed}

-- 26 applies to no record but a call on a channel
pub never-stray : (s : List ℕ) (at : ℕ) (r : Reading) → eqb (byte_at s at) 22 ≡ false → wrong_channel r (record_at s at) ≡ false
unfolding record_at
never-stray s at r e = rw e

module _ (events : ℕ) (s : List ℕ) (at : ℕ) (u : Reading) (names : T (all_exist events (tally u) (kind_of (byte_at s at)).fields (record_at s at).values))
    (table : List ℕ)
    (listed : section_of (byte_at s at) ≡ steps → Listed s table methods u) where
  abbrev x : Record
  x = record_at s at

  -- the fields of a record of the kind k exist; its values
  exist : (k : ℕ) → byte_at s at ≡ k → FieldsExist events (tally u) (kind_of k).fields x
  unfolding record_at
  exist k e = subst (λ (k : ℕ). FieldsExist events (tally u) (kind_of k).fields x) e (at-exists events (tally u) s at names)

  value-is : (k i : ℕ) {vs : List ℕ} → byte_at s at ≡ k → values_at s (at + 1) (kind_of k).fields ≡ vs → value x i ≡ get_or vs i 0
  unfolding record_at
  value-is k i e is = ap (λ (k : ℕ). get_or (values_at s (at + 1) (kind_of k).fields) i 0) e ∙ ap (λ (vs : List ℕ). get_or vs i 0) is

  -- what is asked of the method m, which the record of a step names: its kind answers
  called : (asked : Option Record → Bool) (of-kind : ℕ → Bool) → ((y : Record) → asked (some y) ≡ of-kind y.kind)
      → section_of (byte_at s at) ≡ steps → (m n : ℕ) → T (ltb m (tally u methods)) → m ≡ n
      → asked (record_named u methods m) ≡ of-kind (kind_listed s table n)
  called asked of-kind by_kind e m n named is =
      let (inside, there) = listed e m (ltb→lt _ _ named) in
      ap asked there ∙ by_kind (record_at s (get_or table m 0))
      ∙ ap of-kind (kind-there s (get_or table m 0) ∙ sym (ap (λ (b : Bool). cond b (byte_at s (get_or table m 0)) 0) (lt-ltb m (length table) inside)))
      ∙ ap (λ (m : ℕ). of-kind (kind_listed s table m)) is

  -- 18 ------------------------------------------------------------------------------------------------------------------

  two-outcomes : section_of (byte_at s at) ≡ steps → (m n : ℕ) → T (ltb m (tally u methods)) → m ≡ n
      → two_outcomes_in (record_named u methods m) ≡ two_outcome_kind (kind_listed s table n)
  two-outcomes = called two_outcomes_in two_outcome_kind (λ y. refl)

  -- the definition's test, by the kind
  abbrev wrong : ℕ → Bool
  wrong k = (eqb k 11 && two_outcomes_in (record_named u methods (value x 2))) || (eqb k 17 && not (two_outcomes_in (record_named u methods (value x 3))))

  wrong-11 : byte_at s at ≡ 11 → wrong_outcomes u x ≡ wrong_outcomes_at s at 11 table
  unfolding record_at
  wrong-11 e =
      ap wrong e
      ∙ ap (λ (b : Bool). b || false)
      (two-outcomes (ap section_of e) (value x 2) (short_at s (at + 5)) (exist 11 e 2 (omega arith))
      (value-is 11 2 e (names-alone s at (2 ∷ 2 ∷ 3 ∷ []))))

  wrong-17 : byte_at s at ≡ 17 → wrong_outcomes u x ≡ wrong_outcomes_at s at 17 table
  unfolding record_at
  wrong-17 e =
      ap wrong e
      ∙ ap not
      (two-outcomes (ap section_of e) (value x 3) (short_at s (at + 7)) (exist 17 e 3 (omega arith))
      (value-is 17 3 e (names-alone s at (2 ∷ 2 ∷ 2 ∷ 3 ∷ []))))

  wrong-here : wrong_outcomes u x ≡ wrong_outcomes_at s at (byte_at s at) table
  wrong-here = go (eqb (byte_at s at) 11) (eqb (byte_at s at) 17) refl refl
    where
      go : (a b : Bool) → eqb (byte_at s at) 11 ≡ a → eqb (byte_at s at) 17 ≡ b → wrong_outcomes u x ≡ wrong_outcomes_at s at (byte_at s at) table
      go true b e f = let is = eqb-true (byte_at s at) 11 e in wrong-11 is ∙ ap (λ (k : ℕ). wrong_outcomes_at s at k table) (sym is)
      go false true e f = let is = eqb-true (byte_at s at) 17 f in wrong-17 is ∙ ap (λ (k : ℕ). wrong_outcomes_at s at k table) (sym is)
      go false false e f = never-wrong s at u e f ∙ simp (e, f)

  pub outcomes-are : {kind : ℕ} → byte_at s at ≡ kind → wrong_outcomes u (record_at s at) ≡ wrong_outcomes_at s at kind table
  outcomes-are e = wrong-here ∙ ap (λ (k : ℕ). wrong_outcomes_at s at k table) e

  -- 26 ------------------------------------------------------------------------------------------------------------------

  -- the definition's test, by the kind
  abbrev stray : ℕ → Bool
  stray k = eqb k 22 && (not (plain_primitive_in (record_named u methods (value x 2))) || ltb last_channel (value x 3))

  stray-22 : byte_at s at ≡ 22 → wrong_channel u x ≡ wrong_channel_at s at 22 table
  unfolding record_at
  stray-22 e =
      let values = names-then s at 1 (2 ∷ 2 ∷ 3 ∷ []) (a-channel ∷ []) (channel-value s (at + 7)) in
      ap stray e
      ∙ ap₂ (λ (plain : Bool) (c : ℕ). not plain || ltb last_channel c)
      (called plain_primitive_in plain_kind (λ y. refl) (ap section_of e) (value x 2) (short_at s (at + 5)) (exist 22 e 2 (omega arith)) (value-is 22 2 e values))
      (value-is 22 3 e values)

  stray-here : wrong_channel u x ≡ wrong_channel_at s at (byte_at s at) table
  stray-here = go (eqb (byte_at s at) 22) refl
    where
      go : (b : Bool) → eqb (byte_at s at) 22 ≡ b → wrong_channel u x ≡ wrong_channel_at s at (byte_at s at) table
      go true e = let is = eqb-true (byte_at s at) 22 e in stray-22 is ∙ ap (λ (k : ℕ). wrong_channel_at s at k table) (sym is)
      go false e = never-stray s at u e ∙ simp e

  pub channels-are : {kind : ℕ} → byte_at s at ≡ kind → wrong_channel u (record_at s at) ≡ wrong_channel_at s at kind table
  channels-are e = stray-here ∙ ap (λ (k : ℕ). wrong_channel_at s at k table) e
