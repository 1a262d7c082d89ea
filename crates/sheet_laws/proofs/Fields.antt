-- The fields of a record: what its bytes, shorts and sets are, and below which number; and the fields of each kind's body, one after the other.
use mathlib.Core.Path.{◌≡◌, refl, ap, ◌∙◌}
use mathlib.Core.List.{List, [], ◌∷◌}
use Prim.Native.Nat.{ℕ, ◌+◌, ◌*◌, ◌^◌, ◌<◌}
use native.Mathlib.Omega.{arith}
use lib.ListN.{get_or}
use Rattle.sheet.specs.Kind.{Field, a-set, a-long-set, an-event, a-place, an-owner, a-channel, a_name, width}
use Rattle.sheet.specs.Record.{Bytes, byte_at, number_at, values_at}
use Rattle.sheet_laws.specs.AtOffset.{short_at, set_at, long_set_at}

-- checked before the proofs

-- how many bits the first field of a body has, if there is one
abbrev pub first_bits : List Field → ℕ
first_bits [] = 0
first_bits (f ∷ fs) = 8 * width f

module _ (s : List ℕ) where
  pub byte-is : (i : ℕ) → byte_at s i ≡ get_or s i 0
  unfolding byte_at
  byte-is i = refl

  pub short-is : (i : ℕ) → short_at s i ≡ byte_at s i + 256 * byte_at s (i + 1)
  unfolding short_at
  short-is i = refl

  pub set_is : (i : ℕ) → set_at s i ≡ short_at s i + 65536 * short_at s (i + 2)
  unfolding set_at
  set_is i = refl

  pub long-set-is : (i : ℕ) → long_set_at s i ≡ set_at s i + 4294967296 * set_at s (i + 4)
  unfolding long_set_at
  long-set-is i = refl

  -- the same as numbers of so many bytes

  pub byte-value : (at : ℕ) → number_at s 1 at ≡ byte_at s at
  unfolding number_at
  byte-value at = omega arith

  pub short-value : (at : ℕ) → number_at s 2 at ≡ short_at s at
  unfolding number_at
  short-value at = omega (arith, short-is at)

  pub set_value : (at : ℕ) → number_at s 4 at ≡ set_at s at
  unfolding number_at
  set_value at =
      let two : at + 1 + 1 ≡ at + 2 = omega arith in
      let three : at + 1 + 1 + 1 ≡ at + 2 + 1 = omega arith in
      omega (arith, set_is at, short-is at, short-is (at + 2), ap (byte_at s) two, ap (byte_at s) three)

  -- a number of n bytes and four more behind them
  pub long-set-value : (at : ℕ) → number_at s 8 at ≡ long_set_at s at
  unfolding number_at
  long-set-value at =
      let here = set_value at in
      let there = set_value (at + 4) in
      let four : at + 1 + 1 + 1 + 1 ≡ at + 4 = omega arith in
      omega (arith, long-set-is at, here, there, ap (λ (i : ℕ). number_at s 4 i) four)

  -- Values --------------------------------------------------------------------------------------------------------------

  pub value-is : (f : Field) (fs : List Field) (at to : ℕ) → at + width f ≡ to → values_at s at (f ∷ fs) ≡ number_at s (width f) at ∷ values_at s to fs
  unfolding values_at
  value-is f fs at to e = ap (λ (to : ℕ). number_at s (width f) at ∷ values_at s to fs) e

  pub no_value : (at : ℕ) → values_at s at [] ≡ []
  unfolding values_at
  no_value at = refl

  -- a field whose number is v, and the fields behind it
  field-first : (f : Field) (fs : List Field) (at to v : ℕ) {vs : List ℕ} → at + width f ≡ to → number_at s (width f) at ≡ v → values_at s to fs ≡ vs
      → values_at s at (f ∷ fs) ≡ v ∷ vs
  field-first f fs at to v e is h = value-is f fs at to e ∙ ap (λ (v : ℕ). v ∷ values_at s to fs) is ∙ ap (λ (vs : List ℕ). v ∷ vs) h

  pub name-first : (k : ℕ) (fs : List Field) (at to : ℕ) {vs : List ℕ} → at + 2 ≡ to → values_at s to fs ≡ vs
      → values_at s at (a_name k ∷ fs) ≡ short_at s at ∷ vs
  name-first k fs at to e h = field-first (a_name k) fs at to (short_at s at) e (short-value at) h

  pub event-value : (at : ℕ) → values_at s at (an-event ∷ []) ≡ byte_at s at ∷ []
  event-value at = field-first an-event [] at (at + 1) (byte_at s at) refl (byte-value at) (no_value (at + 1))

  pub owner-value : (at : ℕ) → values_at s at (an-owner ∷ []) ≡ short_at s at ∷ []
  owner-value at = field-first an-owner [] at (at + 2) (short_at s at) refl (short-value at) (no_value (at + 2))

  pub set-value-alone : (at : ℕ) → values_at s at (a-set ∷ []) ≡ set_at s at ∷ []
  set-value-alone at = field-first a-set [] at (at + 4) (set_at s at) refl (set_value at) (no_value (at + 4))

  pub channel-value : (at : ℕ) → values_at s at (a-channel ∷ []) ≡ byte_at s at ∷ []
  channel-value at = field-first a-channel [] at (at + 1) (byte_at s at) refl (byte-value at) (no_value (at + 1))

  pub long-set-value-alone : (at : ℕ) → values_at s at (a-long-set ∷ []) ≡ long_set_at s at ∷ []
  long-set-value-alone at = field-first a-long-set [] at (at + 8) (long_set_at s at) refl (long-set-value at) (no_value (at + 8))

  module _ (at : ℕ) where
    -- names in a row, the first at the offset at + j: the fields, where those behind them start, and the values
    abbrev pub names_then : List ℕ → List Field → List Field
    names_then [] fs = fs
    names_then (k ∷ ks) fs = a_name k ∷ names_then ks fs

    abbrev pub past_names : ℕ → List ℕ → ℕ
    past_names j [] = j
    past_names j (k ∷ ks) = past_names (j + 2) ks

    abbrev pub shorts_then : ℕ → List ℕ → List ℕ → List ℕ
    shorts_then j [] vs = vs
    shorts_then j (k ∷ ks) vs = short_at s (at + j) ∷ shorts_then (j + 2) ks vs

    pub names-then : (j : ℕ) (ks : List ℕ) (fs : List Field) {vs : List ℕ} → values_at s (at + past_names j ks) fs ≡ vs
        → values_at s (at + j) (names_then ks fs) ≡ shorts_then j ks vs
    names-then j [] fs h = h
    names-then j (k ∷ ks) fs h = name-first k (names_then ks fs) (at + j) (at + (j + 2)) (omega arith) (names-then (j + 2) ks fs h)

    -- a body of names alone
    pub names-alone : (ks : List ℕ) → values_at s (at + 1) (names_then ks []) ≡ shorts_then 1 ks []
    names-alone ks = names-then 1 ks [] (no_value (at + past_names 1 ks))

    pub pair_values : values_at s (at + 1) (a-place ∷ a-set ∷ []) ≡ byte_at s (at + 1) ∷ set_at s (at + 2) ∷ []
    pair_values = field-first a-place (a-set ∷ []) (at + 1) (at + 2) (byte_at s (at + 1)) (omega arith) (byte-value (at + 1)) (set-value-alone (at + 2))

  -- Bounds --------------------------------------------------------------------------------------------------------------

  module _ (bytes : Bytes s) where
    pub byte-lt : (i : ℕ) → byte_at s i < 256
    byte-lt i = omega (arith, byte-is i, bytes i)

    pub short-lt : (i : ℕ) → short_at s i < 65536
    short-lt i = omega (arith, short-is i, byte-lt i, byte-lt (i + 1))

    pub set-lt : (i : ℕ) → set_at s i < 2 ^ 32
    set-lt i = omega (arith, set_is i, short-lt i, short-lt (i + 2))

    pub long-set-lt : (i : ℕ) → long_set_at s i < 2 ^ 64
    long-set-lt i = omega (arith, long-set-is i, set-lt i, set-lt (i + 4))

    -- a field has eight bits a byte
    number_lt : (f : Field) (at : ℕ) → number_at s (width f) at < 2 ^ (8 * width f)
    number_lt a-set at = omega (arith, set_value at, set-lt at)
    number_lt a-long-set at = omega (arith, long-set-value at, long-set-lt at)
    number_lt an-event at = omega (arith, byte-value at, byte-lt at)
    number_lt a-place at = omega (arith, byte-value at, byte-lt at)
    number_lt an-owner at = omega (arith, short-value at, short-lt at)
    number_lt a-channel at = omega (arith, byte-value at, byte-lt at)
    number_lt (a_name k) at = omega (arith, short-value at, short-lt at)

    pub first-lt : (fs : List Field) (at : ℕ) → get_or (values_at s at fs) 0 0 < 2 ^ first_bits fs
    unfolding values_at
    first-lt [] at = omega arith
    first-lt (f ∷ fs) at = number_lt f at
