-- In a sheet that is read whole every name exists, owners too, and the event of each step is one of the model's.
use mathlib.Core.Path.{◌≡◌, sym, subst}
use mathlib.Core.Bool.{true, false}
use mathlib.Core.Option.{Option, none, some}
use mathlib.Core.List.{List, [], ◌∷◌}
use Prim.Native.Nat.{ℕ, zero, suc, ◌+◌, ◌<◌}
use native.Mathlib.Nat.{not-suc-le-zero, le_of_suc-le-suc}
use native.Mathlib.Omega.{arith}
use lib.ListN.{length, get_or, length-map}
use lib.Dec.{T, eqb, ltb→lt}
use borrow.Author.Tests.{leb-false, eqb-true}
use Rattle.bits.proofs.Tests.{and-out}
use Rattle.sheet.specs.Model.{Model}
use Rattle.sheet.specs.Each.{Each}
use Rattle.sheet.specs.Sheet.{Outcome, normal, failed, Point, Method, Sheet, declared_for}
use Rattle.sheet.specs.Kind.{Field, a-set, an-owner, a_name, Kind, a_kind, conditions, points, counts, kinds, kind_of, width}
use Rattle.sheet.specs.Record.{Record, byte_at, values_at, record_at, value}
use Rattle.sheet.specs.Reading.{Counted, Reading, tally, is_new, exists, all_exist, owner_of, item, whole, no_method, read_sheet}
use Rattle.sheet.specs.Decode.{point_of, method_of, step_of, sheet_read, sheet_of}
use Rattle.sheet_laws.specs.Names.{PointNamed, NamedIfAny, DeclaredNamed, MethodNamed, StepNamed, NamesExist, EventBelow}
use Rattle.sheet.proofs.Each.{each_map, each-zip, each-mapped}
use Rattle.sheet.proofs.Kind.{◌and◌, numbered}
use Rattle.sheet_laws.proofs.Take.{Took}
use Rattle.sheet_laws.proofs.ReadOn.{OwnerExists, read_keeps}
use Rattle.sheet_laws.proofs.Laws.{Recorded, all-recorded, Named, all_named, own-tally}
use Rattle.sheet_laws.proofs.SheetOf.{sheet-is}

-- what a method declares of each outcome
outcomes : (n : ℕ) (x : Method) (o : Outcome) → DeclaredNamed n (some x.normal) → DeclaredNamed n x.failing → DeclaredNamed n (declared_for o x)
outcomes n x normal y z = y
outcomes n x failed y z = z

module _ (events : ℕ) (counted : ℕ → ℕ) where
  -- each field of a record exists
  abbrev pub FieldsExist : List Field → Record → Type 0
  FieldsExist fs x = (i : ℕ) → i < length fs → T (exists events counted (get_or fs i a-set) (value x i))

  each-exists : (s : List ℕ) (fs : List Field) (at : ℕ) → T (all_exist events counted fs (values_at s at fs))
      → (i : ℕ) → i < length fs → T (exists events counted (get_or fs i a-set) (get_or (values_at s at fs) i 0))
  unfolding values_at
  each-exists s [] at h i l = absurd (not-suc-le-zero l)
  each-exists s (f ∷ fs) at h zero l = (and-out (exists events counted f _) (all_exist events counted fs _) h).0
  each-exists s (f ∷ fs) at h (suc i) l =
      each-exists s fs (at + width f) (and-out (exists events counted f _) (all_exist events counted fs _) h).1 i (le_of_suc-le-suc l)

  pub at-exists : (s : List ℕ) (at : ℕ) → T (all_exist events counted (kind_of (record_at s at).kind).fields (record_at s at).values)
      → FieldsExist (kind_of (record_at s at).kind).fields (record_at s at)
  unfolding record_at
  at-exists s at h = each-exists s (kind_of (byte_at s at)).fields (at + 1) h

  -- what that says of what counts in a section
  abbrev NamedIn : ℕ → Record → Type 0
  NamedIn zero x = Unit {0}
  NamedIn (suc zero) x = Unit {0}
  NamedIn (suc (suc zero)) x = PointNamed (counted 1) (point_of x)
  NamedIn (suc (suc (suc zero))) x = MethodNamed (counted 1) (counted 2) (method_of x)
  NamedIn (suc (suc (suc (suc zero)))) x = StepNamed (counted 2) (counted 3) (step_of x) × EventBelow events (step_of x)
  NamedIn (suc (suc (suc (suc (suc k))))) x = Unit {0}

  abbrev Row : ℕ → Kind → Type 0
  Row k row = (at : ℕ) (vs : List ℕ) → FieldsExist row.fields (record { at = at; kind = k; values = vs })
      → NamedIn row.section (record { at = at; kind = k; values = vs })

  named-row : (k : ℕ) → Row k (kind_of k)
  named-row =
      numbered Row kinds (a_kind 0 counts [])
      ((λ at vs n. tt)
      and (λ at vs n. tt)
      and (λ at vs n. tt)
      and (λ at vs n. tt)
      and (λ at vs n. tt)
      and (λ at vs n. tt)
      and (λ at vs n. tt)
      and point-row 7 []
      and primitive-row
      and method-row
      and event-row
      and call-row
      and pass-row
      and (λ at vs n. tt)
      and (λ at vs n. tt)
      and failing-primitive-row
      and failing-method-row
      and failing-call-row
      and (λ at vs n. tt)
      and stop-row
      and point-row 20 (an-owner ∷ [])
      and (λ at vs n. tt)
      and channel-call-row
      and (λ i at vs n. tt))
    where
      -- of kinds 7 and 20, which has a field more
      point-row : (k : ℕ) (fs : List Field) → Row k (a_kind points counts (a_name conditions ∷ a_name conditions ∷ a_name conditions ∷ fs))
      point-row k fs at vs n =
          record {
            past_exists = ltb→lt _ _ (n 0 (omega arith));
            own_exists = ltb→lt _ _ (n 1 (omega arith));
            due_exists = ltb→lt _ _ (n 2 (omega arith));
          }

      primitive-row : Row 8 (kind_of 8)
      primitive-row at vs n =
          record {
            pre_exists = ltb→lt _ _ (n 0 (omega arith));
            declared_named = λ o. outcomes _ _ o (ltb→lt _ _ (n 1 (omega arith)), ltb→lt _ _ (n 2 (omega arith))) tt;
            body_named = tt;
          }

      method-row : Row 9 (kind_of 9)
      method-row at vs n =
          record {
            pre_exists = ltb→lt _ _ (n 0 (omega arith));
            declared_named = λ o. outcomes _ _ o (ltb→lt _ _ (n 1 (omega arith)), ltb→lt _ _ (n 2 (omega arith))) tt;
            body_named = (ltb→lt _ _ (n 3 (omega arith)), ltb→lt _ _ (n 4 (omega arith)), tt);
          }

      event-row : Row 10 (kind_of 10)
      event-row at vs n = ((ltb→lt _ _ (n 0 (omega arith)), ltb→lt _ _ (n 1 (omega arith))), ltb→lt _ _ (n 2 (omega arith)))

      call-row : Row 11 (kind_of 11)
      call-row at vs n = ((ltb→lt _ _ (n 0 (omega arith)), ltb→lt _ _ (n 1 (omega arith)), tt, ltb→lt _ _ (n 2 (omega arith))), tt)

      pass-row : Row 12 (kind_of 12)
      pass-row at vs n = ((ltb→lt _ _ (n 0 (omega arith)), ltb→lt _ _ (n 1 (omega arith))), tt)

      failing-primitive-row : Row 15 (kind_of 15)
      failing-primitive-row at vs n =
          record {
            pre_exists = ltb→lt _ _ (n 0 (omega arith));
            declared_named =
                λ o.
                outcomes _ _ o (ltb→lt _ _ (n 1 (omega arith)), ltb→lt _ _ (n 2 (omega arith))) (ltb→lt _ _ (n 3 (omega arith)), ltb→lt _ _ (n 4 (omega arith)));
            body_named = tt;
          }

      failing-method-row : Row 16 (kind_of 16)
      failing-method-row at vs n =
          record {
            pre_exists = ltb→lt _ _ (n 0 (omega arith));
            declared_named =
                λ o.
                outcomes _ _ o (ltb→lt _ _ (n 1 (omega arith)), ltb→lt _ _ (n 2 (omega arith))) (ltb→lt _ _ (n 5 (omega arith)), ltb→lt _ _ (n 6 (omega arith)));
            body_named = (ltb→lt _ _ (n 3 (omega arith)), ltb→lt _ _ (n 4 (omega arith)), ltb→lt _ _ (n 7 (omega arith)));
          }

      failing-call-row : Row 17 (kind_of 17)
      failing-call-row at vs n = (
        (ltb→lt _ _ (n 0 (omega arith)), ltb→lt _ _ (n 1 (omega arith)), ltb→lt _ _ (n 2 (omega arith)), ltb→lt _ _ (n 3 (omega arith))),
        tt,
      )

      channel-call-row : Row 22 (kind_of 22)
      channel-call-row at vs n = ((ltb→lt _ _ (n 0 (omega arith)), ltb→lt _ _ (n 1 (omega arith)), tt, ltb→lt _ _ (n 2 (omega arith))), tt)

      stop-row : Row 19 (kind_of 19)
      stop-row at vs n = (ltb→lt _ _ (n 0 (omega arith)), tt)

-- the fields of a record of the kind k that is taken exist: what 7 leaves
pub taken-exists : (M : Model) (s : List ℕ) (at : ℕ) (r : Reading) → Took M s at r → (k : ℕ) → eqb (byte_at s at) k ≡ true
    → FieldsExist M.events (tally r) (kind_of k).fields (record_at s at)
unfolding record_at
taken-exists M s at r w k e =
    subst (λ (k : ℕ). FieldsExist M.events (tally r) (kind_of k).fields (record_at s at)) (eqb-true (byte_at s at) k e)
    (at-exists M.events (tally r) s at w.names)

-- Of the sheet --------------------------------------------------------------------------------------------------------------

module _ (M : Model) (s : List ℕ) (r : Reading) (h : read_sheet M s ≡ whole r) where
  abbrev pub NamedHere : ℕ → Counted → Type 0
  NamedHere k c = NamedIn M.events (λ j. length (r.own j)) k c.last

  named : (k : ℕ) → Each (NamedHere k) (r.own k)
  named k = each-zip each (all_named M s r h k) (all-recorded M s r h k)
    where
      each : (c : Counted) → Named M r c → Recorded s k c → NamedHere k c
      each c name x =
          let exist = subst (λ (y : Record). T (all_exist M.events (tally r) (kind_of y.kind).fields y.values) → FieldsExist M.events (tally r) (kind_of y.kind).fields y)
          x.is (at-exists M.events (tally r) s c.last.at) name in
          let here = named-row M.events (tally r) c.last.kind c.last.at c.last.values exist in
          subst (λ (counted : ℕ → ℕ). NamedIn M.events counted k c.last) (λ i j. own-tally M s r h j i)
          (subst (λ (j : ℕ). NamedIn M.events (tally r) j c.last) x.section here)

  -- what 25 leaves
  owners_named : Each (λ (c : Counted). NamedIfAny (length (r.own 3)) (owner_of c.last)) (r.own 2)
  owners_named = each_map each (read_keeps M s (λ at r. Unit {0}) (λ at r w q. tt) r h tt).owners_exist
    where
      below : (n : ℕ) (o : Option ℕ) → no_method n o ≡ false → NamedIfAny n o
      below n none e = tt
      below n (some m) e = leb-false n m e

      each : (c : Counted) → OwnerExists (tally r 3) c → NamedIfAny (length (r.own 3)) (owner_of c.last)
      each c e = subst (λ (n : ℕ). NamedIfAny n (owner_of c.last)) (own-tally M s r h 3) (below (tally r 3) (owner_of c.last) e)

  names-read : NamesExist (sheet_read (is_new s) r.own)
  names-read =
      let conditions = length-map (r.own 1) (λ (c : Counted). item c.opened 0) in
      let points = length-map (r.own 2) (λ (c : Counted). point_of c.last) in
      let methods = length-map (r.own 3) (λ (c : Counted). method_of c.last) in
      record {
        points_named = rw conditions (each-mapped (PointNamed _) (λ (c : Counted). point_of c.last) (named 2));
        methods_named = rw (conditions, points) (each-mapped (MethodNamed _ _) (λ (c : Counted). method_of c.last) (named 3));
        steps_named =
            rw (points, methods) (each-mapped (StepNamed _ _) (λ (c : Counted). step_of c.last) (each_map (λ c (n : NamedHere 4 c). n.0) (named 4)));
        owners_named = rw methods (each-mapped (λ (x : Point). NamedIfAny _ x.owner) (λ (c : Counted). point_of c.last) owners_named);
      }

  pub names_exist : NamesExist (sheet_of M s)
  names_exist = subst NamesExist (sym (sheet-is M s r h)) names-read

  pub events_below : Each (EventBelow M.events) (sheet_of M s).steps
  events_below =
      subst (λ (S : Sheet). Each (EventBelow M.events) S.steps) (sym (sheet-is M s r h))
      (each-mapped (EventBelow M.events) (λ (c : Counted). step_of c.last) (each_map (λ c (n : NamedHere 4 c). n.1) (named 4)))
