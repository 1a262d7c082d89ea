-- All that an index of a sheet needs: how many conditions, points, methods and steps there are, what stands at their offsets, that names
-- exist, that outcomes fit, and that the bytes tell the edition.
use mathlib.Core.Path.{◌≡◌, refl, sym, ap, ap₂, ◌∙◌, subst}
use mathlib.Core.Option.{some}
use mathlib.Core.List.{List, ◌∷◌, map}
use Prim.Native.Nat.{ℕ, zero, suc, ◌≤◌, ◌<◌}
use native.Mathlib.Nat.{not-suc-le-zero, le_of_suc-le-suc}
use lib.ListN.{length, get_or, get_elem?, length-map}
use Rattle.condition.specs.Condition.{no_word}
use Rattle.certificate.specs.Certificate.{Certificate}
use Rattle.sheet.specs.Model.{Model, condition_limit, method_limit, step_limit}
use Rattle.sheet.specs.Each.{Each, nil, cons}
use Rattle.sheet.specs.Sheet.{Sheet, condition, body}
use Rattle.sheet.specs.Kind.{conditions, points, methods, steps}
use Rattle.sheet.specs.Reading.{Counted, Reading, start_of, starts_of, is_new, item, whole, read_sheet}
use Rattle.sheet.specs.Decode.{point_of, method_of, step_of, sheet_of}
use Rattle.sheet_laws.specs.AtOffset.{point_at, method_at, step_at, certificate_at}
use Rattle.sheet_laws.specs.Names.{NamesExist, HasBody, OutcomesFit, EventBelow}
use Rattle.sheet_laws.proofs.Laws.{Within, own-tally, none_over}
use Rattle.sheet_laws.proofs.Symbols.{Stands}
use Rattle.sheet_laws.proofs.Standing.{IsAt, ReadAt, read_at}
use Rattle.sheet_laws.proofs.SheetOf.{sheet-is}
use Rattle.sheet_laws.proofs.Named.{names_exist, events_below}
use Rattle.sheet_laws.proofs.First.{first_has_body}
use Rattle.sheet_laws.proofs.Outcomes.{outcomes_fit}

-- the element with a number is what stands at the offset with that number, inside the sheet
pub record Found {A : Type 0} (s : List ℕ) (at : ℕ → A) (xs : List A) (os : List ℕ) (i : ℕ) : Type 0 where
  pub is : get_elem? xs i ≡ some (at (get_or os i 0))
  pub inside : get_or os i 0 < length s

-- the bytes s have the conditions, points, methods and steps of the sheet S at these offsets, by section
pub record Located (M : Model) (S : Sheet) (s : List ℕ) (offsets : ℕ → List ℕ) : Type 0 where
  pub conditions_counted : length S.conditions ≡ length (offsets conditions)
  pub points_counted : length S.points ≡ length (offsets points)
  pub methods_counted : length S.methods ≡ length (offsets methods)
  pub steps_counted : length S.steps ≡ length (offsets steps)
  pub few_conditions : length S.conditions ≤ condition_limit
  pub few_points : length S.points ≤ M.points
  pub few_methods : length S.methods ≤ method_limit
  pub few_steps : length S.steps ≤ step_limit
  pub condition_stands : (c : ℕ) → c < length S.conditions → Stands s (get_or (offsets conditions) c 0) (condition S c)
  pub point_found : (p : ℕ) → p < length S.points → Found s (point_at s) S.points (offsets points) p
  pub method_found : (m : ℕ) → m < length S.methods → Found s (method_at s) S.methods (offsets methods) m
  pub step_found : (i : ℕ) → i < length S.steps → Found s (step_at s) S.steps (offsets steps) i
  pub names : NamesExist S
  pub events : Each (EventBelow M.events) S.steps
  pub first : HasBody (body S 0)
  pub outcomes : OutcomesFit S
  pub edition : S.new ≡ is_new s

module _ {A : Type 0} (s : List ℕ) (f : Counted → A) where
  as_many : (cs : List Counted) → length (map f cs) ≡ length (starts_of cs)
  as_many cs = length-map cs f ∙ sym (length-map cs (λ (c : Counted). start_of c.opened c.last.at))

  found : (at : ℕ → A) {cs : List Counted} → Each (λ c. IsAt s at (start_of c.opened c.last.at) (f c)) cs
      → (i : ℕ) → i < length (map f cs) → Found s at (map f cs) (starts_of cs) i
  found at nil i l = absurd (not-suc-le-zero l)
  found at (cons h t) zero l = record { is = ap (λ (a : A). some a) (sym h.is); inside = h.inside }
  found at (cons h t) (suc i) l =
      let more = found at t i (le_of_suc-le-suc l) in record { is = more.is; inside = more.inside }

stand : (s : List ℕ) {cs : List Counted} → Each (ReadAt s 1) cs → (i : ℕ) → i < length (map (λ (c : Counted). item c.opened 0) cs)
    → Stands s (get_or (starts_of cs) i 0) (get_or (map (λ (c : Counted). item c.opened 0) cs) i no_word)
stand s nil i l = absurd (not-suc-le-zero l)
stand s (cons h t) zero l = h
stand s (cons h t) (suc i) l = stand s t i (le_of_suc-le-suc l)

module _ (M : Model) (s : List ℕ) (r : Reading) (h : read_sheet M s ≡ whole r) where
  -- no more than a limit
  few : {A : Type 0} (k : ℕ) (f : Counted → A) → Within M k (length (map f (r.own k)))
  few k f = subst (Within M k) (own-tally M s r h k ∙ sym (length-map (r.own k) f)) (none_over M s r h k)

  pub located : Located M (sheet_of M s) s (λ k. starts_of (r.own k))
  located =
      let same = sym (sheet-is M s r h) in
      subst (λ (S : Sheet). Located M S s (λ k. starts_of (r.own k))) same (record {
        conditions_counted = as_many s (λ (c : Counted). item c.opened 0) (r.own 1);
        points_counted = as_many s (λ (c : Counted). point_of c.last) (r.own 2);
        methods_counted = as_many s (λ (c : Counted). method_of c.last) (r.own 3);
        steps_counted = as_many s (λ (c : Counted). step_of c.last) (r.own 4);
        few_conditions = few 1 (λ (c : Counted). item c.opened 0);
        few_points = few 2 (λ (c : Counted). point_of c.last);
        few_methods = few 3 (λ (c : Counted). method_of c.last);
        few_steps = few 4 (λ (c : Counted). step_of c.last);
        condition_stands = stand s (read_at M s r h 1);
        point_found = found s (λ (c : Counted). point_of c.last) (point_at s) (read_at M s r h 2);
        method_found = found s (λ (c : Counted). method_of c.last) (method_at s) (read_at M s r h 3);
        step_found = found s (λ (c : Counted). step_of c.last) (step_at s) (read_at M s r h 4);
        names = subst NamesExist (sheet-is M s r h) (names_exist M s r h);
        events = subst (λ (S : Sheet). Each (EventBelow M.events) S.steps) (sheet-is M s r h) (events_below M s r h);
        first = subst (λ (S : Sheet). HasBody (body S 0)) (sheet-is M s r h) (first_has_body M s r h);
        outcomes = subst OutcomesFit (sheet-is M s r h) (outcomes_fit M s r h);
        edition = refl;
      })

  -- the certificates are those that stand at their offsets
  pub certificates_are : (sheet_of M s).certificates ≡ map (certificate_at s) (starts_of (r.own 5))
  certificates_are = ap (λ (S : Sheet). S.certificates) (sheet-is M s r h) ∙ go (read_at M s r h 5)
    where
      go : {cs : List Counted} → Each (ReadAt s 5) cs → map (λ (c : Counted). c.opened.pairs) cs ≡ map (certificate_at s) (starts_of cs)
      go nil = refl
      go (cons e t) = ap₂ (λ (c : Certificate) (cs : List Certificate). c ∷ cs) (sym e) (go t)

  pub certificates-counted : length (sheet_of M s).certificates ≡ length (starts_of (r.own 5))
  certificates-counted = ap (λ (cs : List Certificate). length cs) certificates_are ∙ length-map (starts_of (r.own 5)) (certificate_at s)
