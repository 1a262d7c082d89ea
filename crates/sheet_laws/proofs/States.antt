-- The states that reading comes to. What was counted stays: the records that a record named when it was read are those that it names at the end.
use mathlib.Core.Path.{◌≡◌, refl, sym, ap, ◌∙◌, subst}
use mathlib.Core.Logic.{◌⊎◌, inl, inr}
use mathlib.Core.Option.{Option, none, some}
use mathlib.Core.List.{List, [], ◌∷◌, ◌++◌, map, append_assoc}
use Prim.Native.Nat.{ℕ, zero, suc, ◌≤◌, ◌<◌}
use native.Mathlib.Nat.{le_trans, lt_of_lt_of_le, le_of_suc-le-suc, not-suc-le-zero}
use lib.ListN.{length, get_elem?}
use lib.Dec.{T}
use Rattle.sheet.specs.Model.{Model}
use Rattle.sheet.specs.Each.{Each}
use Rattle.sheet.specs.Sheet.{is_some}
use Rattle.sheet.specs.Kind.{section_of}
use Rattle.sheet.specs.Record.{Record, byte_at, record_at, next_at}
use Rattle.sheet.specs.Reading.{Counted, Reading, fresh, tally, record_named, past_at, whole, read_sheet}
use Rattle.sheet.proofs.Each.{each-listed}
use Rattle.sheet_laws.proofs.Take.{Took}
use Rattle.sheet_laws.proofs.ReadOn.{read_keeps}
use Rattle.sheet_laws.proofs.Own.{counted, own-cases}
use Rattle.sheet_laws.proofs.Laws.{none_before, grows}

-- reading of a sheet that stands alone comes to an offset in a state: at the start, and past each record that is taken
pub data Reached (M : Model) (s : List ℕ) : ℕ → Reading → Type 0 where
  at_start : Reached M s 0 fresh
  past : {at : ℕ} {r : Reading} → Reached M s at r → Took M s at r → Reached M s (next_at s at) (past_at s at r)

-- Elements by number ------------------------------------------------------------------------------------------------------

-- with more behind them
get-front : (cs ds : List Counted) (n : ℕ) → n < length cs
    → get_elem? (map (λ (c : Counted). c.last) (cs ++ ds)) n ≡ get_elem? (map (λ (c : Counted). c.last) cs) n
get-front [] ds n l = absurd (not-suc-le-zero l)
get-front (c ∷ cs) ds zero l = refl
get-front (c ∷ cs) ds (suc n) l = get-front cs ds n (le_of_suc-le-suc l)

abbrev or_else : {A : Type 0} → A → Option A → A
or_else y none = y
or_else y (some x) = x

-- with one more: it is one of the first, or that one
get-more : {A : Type 0} (xs : List A) (x y : A) (i : ℕ) → get_elem? (xs ++ (x ∷ [])) i ≡ some y → (get_elem? xs i ≡ some y) ⊎ ((i ≡ length xs) × (x ≡ y))
get-more [] x y zero g = inr (refl, ap (or_else x) g)
get-more [] x y (suc i) g = absurd (subst (λ (x : Option _). T (is_some x)) (sym g) tt)
get-more (z ∷ xs) x y zero g = inl g
get-more (z ∷ xs) x y (suc i) g = next (get-more xs x y i g)
  where
    next : (get_elem? xs i ≡ some y) ⊎ ((i ≡ length xs) × (x ≡ y)) → (get_elem? xs i ≡ some y) ⊎ ((suc i ≡ suc (length xs)) × (x ≡ y))
    next (inl g) = inl g
    next (inr (e, is)) = inr (ap suc e, is)

-- From a state to a later one ---------------------------------------------------------------------------------------------

-- what has a number in the state r has it in the state u
pub record Later (r u : Reading) : Type 0 where
  pub more : (k : ℕ) → tally r k ≤ tally u k
  pub same : (k n : ℕ) → n < tally r k → record_named u k n ≡ record_named r k n

later-past : (s : List ℕ) (at : ℕ) (r : Reading) → Later r (past_at s at r)
later-past s at r =
    record {
      more = grows s at r;
      same =
          λ k n l.
          own-cases (λ own. get_elem? (map (λ (c : Counted). c.last) (r.before k ++ own)) n ≡ record_named r k n) s at r k refl
          (λ e same.
          subst (λ (cs : List Counted). get_elem? (map (λ (c : Counted). c.last) cs) n ≡ record_named r k n)
          (append_assoc (r.before k) (r.own k) (counted s at r ∷ [])) (get-front (r.before k ++ r.own k) (counted s at r ∷ []) n l));
    }

later-still : {r u v : Reading} → Later r u → Later u v → Later r v
later-still a b =
    record {
      more = λ k. le_trans (a.more k) (b.more k);
      same = λ k n l. b.same k n (lt_of_lt_of_le l (a.more k)) ∙ a.same k n l;
    }

-- What counts, by its number ----------------------------------------------------------------------------------------------

-- it counts at a record that was taken in a state before u, when as many had been counted in its section as its number says
record CountedAt (M : Model) (s : List ℕ) (u : Reading) (k i : ℕ) (c : Counted) : Type 0 where
  at : ℕ
  state : Reading
  taken : Took M s at state
  is : counted s at state ≡ c
  section : section_of (byte_at s at) ≡ k
  number : tally state k ≡ i
  later : Later state u

module _ (M : Model) (s : List ℕ) where
  abbrev Inv : ℕ → Reading → Type 0
  Inv at r = (r.before ≡ fresh.before) × ((k i : ℕ) (c : Counted) → get_elem? (r.own k) i ≡ some c → CountedAt M s r k i c)

  inv-past : (at : ℕ) (r : Reading) → Took M s at r → Inv at r → Inv (next_at s at) (past_at s at r)
  inv-past at r w (before, all) = (
    before,
    λ k i c.
        own-cases (λ own. get_elem? own i ≡ some c → CountedAt M s u k i c) s at r k (λ g. old (all k i c g))
        (λ e same g. new k i c same (get-more (r.own k) (counted s at r) c i g)),
  )
    where
      u : Reading
      u = past_at s at r

      old : {k i : ℕ} {c : Counted} → CountedAt M s r k i c → CountedAt M s u k i c
      old x =
          record {
            at = x.at;
            state = x.state;
            taken = x.taken;
            is = x.is;
            section = x.section;
            number = x.number;
            later = later-still x.later (later-past s at r);
          }

      new : (k i : ℕ) (c : Counted) → k ≡ section_of (byte_at s at) → (get_elem? (r.own k) i ≡ some c) ⊎ ((i ≡ length (r.own k)) × (counted s at r ≡ c))
          → CountedAt M s u k i c
      new k i c same (inl g) = old (all k i c g)
      new k i c same (inr (number, is)) =
          record {
            at = at;
            state = r;
            taken = w;
            is = is;
            section = sym same;
            number = ap (λ (before : ℕ → List Counted). length (before k ++ r.own k)) before ∙ sym number;
            later = later-past s at r;
          }

  -- it is enough to show it at the record at which it counts, with the number that it gets there, and in view of the end
  pub each-numbered : (r : Reading) → read_sheet M s ≡ whole r → (P : ℕ → ℕ → Record → Type 0)
      → ((at : ℕ) (u : Reading) → Took M s at u → Later u r → P (section_of (byte_at s at)) (tally u (section_of (byte_at s at))) (record_at s at))
      → (k i : ℕ) (c : Counted) → get_elem? (r.own k) i ≡ some c → P k i c.last
  each-numbered r h P holds k i c g =
      let x = (read_keeps M s Inv inv-past r h (refl, λ k i c g. absurd (subst (λ (x : Option _). T (is_some x)) (sym g) tt))).holds.1 k i c g in
      subst (λ (c : Counted). P k i c.last) x.is
      (subst (λ (i : ℕ). P k i (record_at s x.at)) x.number
      (subst (λ (k : ℕ). P k (tally x.state k) (record_at s x.at)) x.section (holds x.at x.state x.taken x.later)))

  pub each-later : (r : Reading) → read_sheet M s ≡ whole r → (P : Record → Type 0)
      → ((at : ℕ) (u : Reading) → Took M s at u → Later u r → P (record_at s at)) → (k : ℕ) → Each (λ (c : Counted). P c.last) (r.own k)
  each-later r h P holds k = each-listed (λ (c : Counted). P c.last) (r.own k) (each-numbered r h (λ k i x. P x) holds k)

  -- what a record named: what the record that had a number in an earlier state tells, what it stands for in the sheet tells
  pub named-then : (r : Reading) → read_sheet M s ≡ whole r → {A B : Type 0} (of-record : Option Record → B) (of : Option A → B) (to : Record → A)
      → of-record none ≡ of none → ((x : Record) → of-record (some x) ≡ of (some (to x))) → {u : Reading} → Later u r
      → (k n : ℕ) → n < tally u k → of-record (record_named u k n) ≡ of (get_elem? (map (λ (c : Counted). to c.last) (r.own k)) n)
  named-then r h of-record of to for-none for_some later k n l =
      ap of-record (sym (later.same k n l))
      ∙ ap (λ (before : ℕ → List Counted). of-record (get_elem? (map (λ (c : Counted). c.last) (before k ++ r.own k)) n)) (none_before M s r h)
      ∙ go (r.own k) n
    where
      go : (cs : List Counted) (n : ℕ)
          → of-record (get_elem? (map (λ (c : Counted). c.last) cs) n) ≡ of (get_elem? (map (λ (c : Counted). to c.last) cs) n)
      go [] n = for-none
      go (c ∷ cs) zero = for_some c.last
      go (c ∷ cs) (suc n) = go cs n
