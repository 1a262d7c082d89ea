-- What `found_at` says to a reader of sections: the record that stands at an offset, or that it is refused there.
use mathlib.Core.Path.{◌≡◌, refl, sym, ap, ◌∙◌, subst}
use mathlib.Core.Bool.{Bool, true, false, cond, ◌&&◌, ◌||◌}
use mathlib.Core.Option.{some}
use Rattle.std.specs.Prelude.{Option, Some, None}
use mathlib.Core.List.{List}
use Prim.Native.Nat.{ℕ, ◌+◌, ◌≤◌, ◌<◌}
use native.Mathlib.Omega.{arith}
use lib.ListN.{length}
use lib.Dec.{T, ltb, leb, eqb}
use borrow.Author.Tests.{ltb-true, ltb-false, leb-true, leb-false, lt-ltb, le-ltb, lt-leb, ne_eqb, eq-eqb}
use Rattle.sheet.specs.Model.{Model}
use Rattle.sheet.specs.Kind.{body_length}
use Rattle.sheet.specs.Record.{byte_at, record_at, next_at}
use Rattle.sheet.specs.Reading.{Reading, refusal_of}
use Rattle.sheet_laws.proofs.Take.{next_is}
use Rattle.sheet_laws.proofs.Order.{two, three}
use Rattle.kinds.specs.declared.Kind.{Kind}
use Rattle.kinds.specs.Kinds.{last_kind, is_known}
use Rattle.kinds.specs.Numbers.{kind_number}
use Rattle.kinds.proofs.Numbers.{other-kind, kind-is}
use Rattle.std.specs.Option.{unwrap_or}
use Rattle.kinds.specs.Lengths.{length_of}
use Rattle.kinds.proofs.Table.{body-le}
use Rattle.kinds.proofs.EachByte.{known_out, known_in, length-out, nothing-out}
use Rattle.fields.proofs.Laws.{byte_past}
use Rattle.format.specs.declared.Refusal.{Refusal}
use Rattle.format.specs.declared.Refusal.TheVariants.{UnknownKind, BodyPastEnd}
use Rattle.format.specs.Refusal.{number_of, place_of}
use Rattle.format.specs.Found.{IsKindAt, Numbered, found_at, refusal_at}

-- a record of a kind, with the offset after it
abbrev pub a_record : (kind next : ℕ) → Numbered
a_record kind next = record { kind = kind; next = next }

pub cond-by : {A : Type 0} (P : A → Type 0) (b : Bool) {x y : A} → (b ≡ true → P x) → (b ≡ false → P y) → P (cond b x y)
cond-by P true f g = f refl
cond-by P false f g = g refl

-- a byte that is not 0 stands inside the sheet
pub inside : (s : List ℕ) (at : ℕ) → 1 ≤ byte_at s at → at < length s
inside s at h = go (leb (length s) at) refl
  where
    go : (b : Bool) → leb (length s) at ≡ b → at < length s
    go true e = absurd (omega (arith, byte_past s at (leb-true (length s) at e)))
    go false e = leb-false (length s) at e

-- Kinds 1 to `kinds` --------------------------------------------------------------------------------------------------

-- known is what refusal 2 tests
known-not-2 : (kinds k : ℕ) → is_known kinds k ≡ true → (eqb k 0 || ltb kinds k) ≡ false
known-not-2 kinds k e =
    let (low, high) = known_out kinds k e in
    simp (ne_eqb k 0 (λ e. omega arith), le-ltb kinds k high)

unknown-2 : (kinds k : ℕ) → is_known kinds k ≡ false → (eqb k 0 || ltb kinds k) ≡ true
unknown-2 kinds k e = go (ltb 0 k) refl e
  where
    or-true : (b : Bool) → (b || true) ≡ true
    or-true true = refl
    or-true false = refl

    go : (b : Bool) → ltb 0 k ≡ b → (b && leb k kinds) ≡ false → (eqb k 0 || ltb kinds k) ≡ true
    go true low high = ap (λ (b : Bool). eqb k 0 || b) (lt-ltb kinds k (leb-false k kinds high)) ∙ or-true (eqb k 0)
    go false low high = simp (eq-eqb k 0 (omega (arith, ltb-false 0 k low)))

-- By the tests -------------------------------------------------------------------------------------------------------

module _ (kinds : ℕ) (s : List ℕ) (at : ℕ) where
  found-is : found_at kinds s at
      ≡ cond (is_known kinds (byte_at s at)) (cond (ltb (length s) (next_at s at)) None (Some (a_record (byte_at s at) (next_at s at)))) None
  unfolding found_at
  found-is = refl

  -- what the code has: the byte of kind
  module _ {k : ℕ} (is : k ≡ byte_at s at) where
    unknown : is_known kinds k ≡ false → None ≡ found_at kinds s at
    unknown e = sym (found-is ∙ simp (ap (is_known kinds) (sym is) ∙ e))

    pub above-kinds : kinds < k → None ≡ found_at kinds s at
    above-kinds h = unknown (simp (lt-leb k kinds h, lt-ltb 0 k (omega arith)))

    module _ (high : k ≤ kinds) where
      pub no_length : kinds ≤ last_kind → length_of k ≡ None → None ≡ found_at kinds s at
      no_length all e = unknown (ap (is_known kinds) (nothing-out k e (omega arith)))

      -- .. and its length
      module _ {n : ℕ} (has : length_of k ≡ Some n) where
        known : is_known kinds (byte_at s at) ≡ true
        known = ap (is_known kinds) (sym is) ∙ known_in kinds k (length-out k n has).0 high

        pub room : (n ≤ 16) × (at < length s)
        room =
            let (low, last, body) = length-out k n has in
            (omega (arith, body-le k), inside s at (omega arith))

        next-found : at + 1 + n ≡ next_at s at
        next-found = ap (λ (n : ℕ). at + 1 + n) ((length-out k n has).2 ∙ ap body_length is) ∙ sym (next_is s at)

        pub body-past-end : length s < at + 1 + n → None ≡ found_at kinds s at
        body-past-end h = sym (found-is ∙ simp (known, lt-ltb (length s) (next_at s at) (omega (arith, next-found))))

        pub whole-record : at + 1 + n ≤ length s → Some (a_record k (at + 1 + n)) ≡ found_at kinds s at
        whole-record h =
            ap (λ (k : ℕ). Some (a_record k (at + 1 + n))) is ∙ ap (λ (q : ℕ). Some (a_record (byte_at s at) q)) next-found
            ∙ sym (found-is ∙ simp (known, le-ltb (length s) (next_at s at) (omega (arith, next-found))))

-- To a reader of sections ---------------------------------------------------------------------------------------------

pub kind-there : (s : List ℕ) (at : ℕ) → (record_at s at).kind ≡ byte_at s at
unfolding record_at
kind-there s at = refl

module _ (M : Model) (s : List ℕ) (at : ℕ) where
  -- a record of the kind k stands at the offset: neither 2 nor 3; q is the offset after it
  pub record Stood (k q : ℕ) : Type 0 where
    pub kind : byte_at s at ≡ k
    pub next : next_at s at ≡ q
    pub low : 1 ≤ k
    pub high : k ≤ M.kinds
    pub inside : next_at s at ≤ length s
    pub not_2 : (eqb (byte_at s at) 0 || ltb M.kinds (byte_at s at)) ≡ false

  -- by the tests that `found_at` makes
  by_tests : (P : Option Numbered → Type 0) → (is_known M.kinds (byte_at s at) ≡ false → P None)
      → (is_known M.kinds (byte_at s at) ≡ true → length s < next_at s at → P None)
      → (Stood (byte_at s at) (next_at s at) → P (Some (a_record (byte_at s at) (next_at s at)))) → P (found_at M.kinds s at)
  by_tests P unknown past_end stands =
      subst P (sym (found-is M.kinds s at))
      (cond-by P (is_known M.kinds (byte_at s at))
      (λ a. cond-by P (ltb (length s) (next_at s at)) (λ b. past_end a (ltb-true (length s) (next_at s at) b))
      (λ b. stands
      (record {
        kind = refl;
        next = refl;
        low = (known_out M.kinds (byte_at s at) a).0;
        high = (known_out M.kinds (byte_at s at) a).1;
        inside = ltb-false (length s) (next_at s at) b;
        not_2 = known-not-2 M.kinds (byte_at s at) a;
      })))
      unknown)

  pub stood : {k q : ℕ} → found_at M.kinds s at ≡ Some (a_record k q) → Stood k q
  stood {k} {q} e =
      by_tests (λ (f : Option Numbered). f ≡ Some (a_record k q) → Stood k q)
      (λ a e. let z : ◌≡◌ {A = ℕ} 0 1 = cc in absurd (omega arith))
      (λ a b e. let z : ◌≡◌ {A = ℕ} 0 1 = cc in absurd (omega arith))
      (λ w e.
      let same : a_record (byte_at s at) (next_at s at) ≡ a_record k q = cc in
      let kind : byte_at s at ≡ k = ap (λ (r : Numbered). r.kind) same in
      let next : next_at s at ≡ q = ap (λ (r : Numbered). r.next) same in
      record { kind = kind; next = next; low = omega (arith, w.low); high = omega (arith, w.high); inside = w.inside; not_2 = w.not_2 })
      e

  -- the record there is refused in the state r, with the number and the place of y
  abbrev pub Refuses : Reading → Refusal → Type 0
  Refuses r y = (refusal_of M s at r ≡ number_of y) × (place_of y ≡ some at)

  -- no record stands there
  pub refused : (r : Reading) → found_at M.kinds s at ≡ None → Refuses r (refusal_at M.kinds s at)
  refused r e =
      by_tests (λ (f : Option Numbered). f ≡ None → Refuses r (refusal_at M.kinds s at))
      (λ a e. subst (Refuses r) (sym (ap why a)) (two M s at r (unknown-2 M.kinds (byte_at s at) a), refl))
      (λ a b e. subst (Refuses r) (sym (ap why a))
      (three M s at r (known-not-2 M.kinds (byte_at s at) a) (lt-ltb (length s) (next_at s at) b), refl))
      (λ w e. let z : ◌≡◌ {A = ℕ} 0 1 = cc in absurd (omega arith))
      e
    where
      why : Bool → Refusal
      why b = cond b (BodyPastEnd at) (UnknownKind at)

-- The kind at an offset, or another where there is none -----------------------------------------------------------------

module _ (s : List ℕ) (at : ℕ) (d : Kind) (o : Option Kind) (is : IsKindAt s at o) {x : Kind} (chosen : x ≡ unwrap_or o d) where
  pub not-kind : (k : Kind) → (x ≡ k → ⊥) → byte_at s at ≡ kind_number k → ⊥
  not-kind k other =
      other-kind d (λ e. subst (IsKindAt s at) e is) (λ j e. subst (IsKindAt s at) e is) k (λ e. other (chosen ∙ e))

  pub byte-of : (k : Kind) → x ≡ k → eqb (kind_number d) (kind_number k) ≡ false → byte_at s at ≡ kind_number k
  byte-of k e other =
      kind-is d (λ e. subst (IsKindAt s at) e is) (λ j e. subst (IsKindAt s at) e is) k (sym chosen ∙ e)
      (λ same. absurd (subst T (sym (eq-eqb (kind_number d) (kind_number k) (ap kind_number same)) ∙ other) tt))
