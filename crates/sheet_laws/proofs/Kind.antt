-- What the record of a kind at an offset stands for, by the table of kinds, row by row.
use mathlib.Core.Path.{◌≡◌, refl, sym, ap, ap₂, ◌∙◌}
use mathlib.Core.Bool.{Bool, true, false, cond}
use mathlib.Core.Option.{Option, none, some}
use mathlib.Core.List.{List, [], ◌∷◌, ◌++◌, append_assoc}
use Prim.Native.Nat.{ℕ, zero, suc, ◌+◌, ◌≤◌}
use native.Mathlib.Omega.{arith}
use lib.ListN.{length, get_or, drop}
use lib.Dec.{eqb}
use Rattle.condition.specs.Condition.{Condition, join, either, star, no_word}
use Rattle.certificate.specs.Certificate.{pair}
use Rattle.sheet.specs.Kind.{a-set, a-long-set, Role, symbol, a_pair, counts, edition, Kind, a_kind, kinds, kind_of, section_of}
use Rattle.sheet.specs.Record.{Record, byte_at, values_at, record_at, value}
use Rattle.sheet.specs.Sheet.{Declared, Method, Step, event_step, call_from, failing_call_from, channel_call_from, pass_step, stop_step}
use Rattle.sheet.specs.Reading.{is_leaf, is_primitive, has_two_outcomes}
use Rattle.sheet.specs.Decode.{point_of, declared_from, method_of, step_of}
use Rattle.sheet.proofs.Kind.{◌and◌, numbered}
use Rattle.sheet_laws.specs.AtOffset.{point_as, point_at, declared_at, method_as, method_at, step_as, step_at, pair_at, Symbol, leaf_symbol, empty-symbol, join-symbol, either-symbol, star-symbol, short_at, set_at, long_set_at, symbols_by_kind, symbol_at, postfix}
use Rattle.sheet_laws.proofs.Fields.{event-value, owner-value, channel-value, set-value-alone, long-set-value-alone, shorts_then, names-then, names-alone, pair_values}
use Rattle.sheet_laws.proofs.Symbols.{symbols_in, leaf_count}

-- What a record stands for ------------------------------------------------------------------------------------------------

-- a symbol y that takes items and makes one of them: its postfix form is theirs and y
pub record IsSymbol (s : List ℕ) (at : ℕ) (x : Record) (takes : ℕ) (make : ℕ → Condition → Condition → Condition) : Type 0 where
  pub y : Symbol
  pub is : symbol_at s at ≡ some y
  pub made : (items : List Condition) → takes ≤ length items
      → symbols_in (make (value x 0) (get_or items 1 no_word) (get_or items 0 no_word) ∷ drop takes items) ≡ symbols_in items ++ (y ∷ [])
  pub leaf : cond (is_leaf x) 1 0 ≡ leaf_count y

-- what counts in a section
abbrev pub Counts : List ℕ → ℕ → Record → ℕ → Type 0
Counts s at x zero = Unit {0}
Counts s at x (suc zero) = symbol_at s at ≡ none
Counts s at x (suc (suc zero)) = point_at s at ≡ point_of x
Counts s at x (suc (suc (suc zero))) = method_at s at ≡ method_of x
Counts s at x (suc (suc (suc (suc zero)))) = step_at s at ≡ step_of x
Counts s at x (suc (suc (suc (suc (suc zero))))) = byte_at s at ≡ 14
Counts s at x (suc (suc (suc (suc (suc (suc k)))))) = ⊥

-- the record x of a section, by its role
abbrev pub Fits : List ℕ → ℕ → Record → ℕ → Role → Type 0
Fits s at x section (symbol takes make) = (section ≡ 1) × IsSymbol s at x takes make
Fits s at x section a_pair = (section ≡ 5) × (byte_at s at ≡ 13) × (pair (value x 0) (value x 1) ≡ pair_at s at)
Fits s at x section counts = Counts s at x section
Fits s at x section edition = section ≡ 1

-- the step of a record, by its kind
pub step-cases : (P : Step → Type 0) (x : Record) → P (event_step (value x 0) (value x 1) (value x 2))
    → (eqb x.kind 11 ≡ true → P (call_from (value x 0) (value x 1) (value x 2)))
    → (eqb x.kind 17 ≡ true → P (failing_call_from (value x 0) (value x 1) (value x 2) (value x 3)))
    → (eqb x.kind 22 ≡ true → P (channel_call_from (value x 0) (value x 1) (value x 2) (value x 3)))
    → (eqb x.kind 19 ≡ true → P (stop_step (value x 0))) → P (pass_step (value x 0) (value x 1)) → P (step_of x)
step-cases P x event = go (eqb x.kind 10) (eqb x.kind 11) (eqb x.kind 17) (eqb x.kind 22) (eqb x.kind 19)
  where
    go : (b10 b11 b17 b22 b19 : Bool) → (b11 ≡ true → P (call_from (value x 0) (value x 1) (value x 2)))
        → (b17 ≡ true → P (failing_call_from (value x 0) (value x 1) (value x 2) (value x 3)))
        → (b22 ≡ true → P (channel_call_from (value x 0) (value x 1) (value x 2) (value x 3))) → (b19 ≡ true → P (stop_step (value x 0)))
        → P (pass_step (value x 0) (value x 1))
        → P
        (cond b10 (event_step (value x 0) (value x 1) (value x 2))
        (cond b11 (call_from (value x 0) (value x 1) (value x 2))
        (cond b17 (failing_call_from (value x 0) (value x 1) (value x 2) (value x 3))
        (cond b22 (channel_call_from (value x 0) (value x 1) (value x 2) (value x 3))
        (cond b19 (stop_step (value x 0)) (pass_step (value x 0) (value x 1)))))))
    go true b11 b17 b22 b19 call failing channel stop pass = event
    go false true b17 b22 b19 call failing channel stop pass = call refl
    go false false true b22 b19 call failing channel stop pass = failing refl
    go false false false true b19 call failing channel stop pass = channel refl
    go false false false false true call failing channel stop pass = stop refl
    go false false false false false call failing channel stop pass = pass

-- Row by row ----------------------------------------------------------------------------------------------------------------

join-made : (items : List Condition) → 2 ≤ length items
    → symbols_in (join (get_or items 1 no_word) (get_or items 0 no_word) ∷ drop 2 items) ≡ symbols_in items ++ (join-symbol ∷ [])
unfolding symbols_in postfix
join-made [] h = absurd (omega arith)
join-made (b ∷ []) h = absurd (omega arith)
join-made (b ∷ a ∷ items) h = simp append_assoc

either-made : (items : List Condition) → 2 ≤ length items
    → symbols_in (either (get_or items 1 no_word) (get_or items 0 no_word) ∷ drop 2 items) ≡ symbols_in items ++ (either-symbol ∷ [])
unfolding symbols_in postfix
either-made [] h = absurd (omega arith)
either-made (b ∷ []) h = absurd (omega arith)
either-made (b ∷ a ∷ items) h = simp append_assoc

star-made : (items : List Condition) → 1 ≤ length items → symbols_in (star (get_or items 0 no_word) ∷ drop 1 items) ≡ symbols_in items ++ (star-symbol ∷ [])
unfolding symbols_in postfix
star-made [] h = absurd (omega arith)
star-made (a ∷ items) h = simp append_assoc

module _ (s : List ℕ) (at : ℕ) where
  -- the record of a kind with these fields
  abbrev with : ℕ → List ℕ → Record
  with k vs = record { at = at; kind = k; values = vs }

  -- a symbol by its kind, and a long leaf
  abbrev symbol_as : ℕ → Option Symbol
  symbol_as k = cond (eqb k 21) (some (leaf_symbol (long_set_at s (at + 1)))) (get_or (symbols_by_kind s at) k none)

  pub symbol_is : (k : ℕ) → eqb k 21 ≡ false → byte_at s at ≡ k → symbol_at s at ≡ get_or (symbols_by_kind s at) k none
  unfolding symbol_at
  symbol_is k n e = ap symbol_as e ∙ rw n

  pub long-leaf-is : byte_at s at ≡ 21 → symbol_at s at ≡ some (leaf_symbol (long_set_at s (at + 1)))
  unfolding symbol_at
  long-leaf-is e = ap symbol_as e

  -- eight shorts one after the other; a record that has fewer names does not read the others
  abbrev shorts : List ℕ
  shorts = shorts_then s at 1 (1 ∷ 1 ∷ 1 ∷ 1 ∷ 1 ∷ 1 ∷ 1 ∷ 1 ∷ []) []

  point_is : (k : ℕ) → byte_at s at ≡ k → point_at s at ≡ point_of (with k shorts)
  unfolding point_at
  point_is k e = ap (λ (k : ℕ). point_as k s at) e

  abbrev declared : ℕ → ℕ → Declared
  declared trace future = record { trace = trace; future = future }

  declared_is : (i to : ℕ) → i + 2 ≡ to → declared_at s i ≡ declared (short_at s i) (short_at s to)
  unfolding declared_at
  declared_is i to e = ap (λ (to : ℕ). declared (short_at s i) (short_at s to)) e

  failing_is : (primitive two : Bool)
      → cond two (some (declared_at s (cond primitive (at + 7) (at + 11)))) none ≡ cond two (some (declared_from (with 0 shorts) (cond primitive 3 5))) none
  failing_is primitive false = refl
  failing_is true true = ap (λ (d : Declared). some d) (declared_is (at + 7) (at + 9) (omega arith))
  failing_is false true = ap (λ (d : Declared). some d) (declared_is (at + 11) (at + 13) (omega arith))

  method-is : (k : ℕ) → byte_at s at ≡ k → method_at s at ≡ method_of (with k shorts)
  unfolding method_at
  method-is k e =
      ap (λ (k : ℕ). method_as k s at) e
      ∙ ap₂ declares (declared_is (at + 3) (at + 5) (omega arith)) (failing_is (is_primitive (with k shorts)) (has_two_outcomes (with k shorts)))
    where
      declares : Declared → Option Declared → Method
      declares normal failing = record { pre = short_at s (at + 1); normal = normal; failing = failing; body = (method_of (with k shorts)).body }

  event-is : byte_at s at ≡ 10 → step_at s at ≡ step_of (with 10 (shorts_then s at 1 (2 ∷ 2 ∷ []) (byte_at s (at + 5) ∷ [])))
  unfolding step_at
  event-is e = ap (λ (k : ℕ). step_as k s at) e

  channel-call-is : byte_at s at ≡ 22 → step_at s at ≡ step_of (with 22 (shorts_then s at 1 (2 ∷ 2 ∷ 3 ∷ []) (byte_at s (at + 7) ∷ [])))
  unfolding step_at
  channel-call-is e = ap (λ (k : ℕ). step_as k s at) e

  -- of the kinds of steps whose fields are all names
  step_is : (k : ℕ) → eqb k 10 ≡ false → eqb k 22 ≡ false → byte_at s at ≡ k → step_at s at ≡ step_of (with k shorts)
  unfolding step_at
  step_is k n m e = ap (λ (k : ℕ). step_as k s at) e ∙ rw (n, m)

  pair_is : pair_at s at ≡ pair (byte_at s (at + 1)) (set_at s (at + 2))
  unfolding pair_at
  pair_is = refl

  abbrev Row : ℕ → Kind → Type 0
  Row k row = byte_at s at ≡ k → Fits s at (with k (values_at s (at + 1) row.fields)) row.section row.role

  leaf-row : Row 1 (kind_of 1)
  unfolding symbols_in postfix
  leaf-row e = (
    refl,
    record {
      y = leaf_symbol (get_or (values_at s (at + 1) (a-set ∷ [])) 0 0);
      is = symbol_is 1 refl e ∙ ap (λ (vs : List ℕ). some (leaf_symbol (get_or vs 0 0))) (sym (set-value-alone s (at + 1)));
      made = λ items h. refl;
      leaf = refl;
    },
  )

  long-leaf-row : Row 21 (kind_of 21)
  unfolding symbols_in postfix
  long-leaf-row e = (
    refl,
    record {
      y = leaf_symbol (get_or (values_at s (at + 1) (a-long-set ∷ [])) 0 0);
      is = long-leaf-is e ∙ ap (λ (vs : List ℕ). some (leaf_symbol (get_or vs 0 0))) (sym (long-set-value-alone s (at + 1)));
      made = λ items h. refl;
      leaf = refl;
    },
  )

  empty-row : Row 2 (kind_of 2)
  unfolding symbols_in postfix
  empty-row e = (refl, record { y = empty-symbol; is = symbol_is 2 refl e; made = λ items h. refl; leaf = refl })

  fits-row : (k : ℕ) → Row k (kind_of k)
  fits-row =
      numbered Row kinds (a_kind 0 counts [])
      ((λ e. tt)
      and leaf-row
      and empty-row
      and (λ e. (refl, record { y = join-symbol; is = symbol_is 3 refl e; made = join-made; leaf = refl }))
      and (λ e. (refl, record { y = either-symbol; is = symbol_is 4 refl e; made = either-made; leaf = refl }))
      and (λ e. (refl, record { y = star-symbol; is = symbol_is 5 refl e; made = star-made; leaf = refl }))
      and symbol_is 6 refl
      and (λ e. point_is 7 e ∙ ap (λ (vs : List ℕ). point_of (with 7 vs)) (sym (names-alone s at (1 ∷ 1 ∷ 1 ∷ []))))
      and (λ e. method-is 8 e ∙ ap (λ (vs : List ℕ). method_of (with 8 vs)) (sym (names-alone s at (1 ∷ 1 ∷ 1 ∷ []))))
      and (λ e. method-is 9 e ∙ ap (λ (vs : List ℕ). method_of (with 9 vs)) (sym (names-alone s at (1 ∷ 1 ∷ 1 ∷ 2 ∷ 2 ∷ []))))
      and (λ e. event-is e ∙ ap (λ (vs : List ℕ). step_of (with 10 vs)) (sym (names-then s at 1 (2 ∷ 2 ∷ []) _ (event-value s (at + 5)))))
      and (λ e. step_is 11 refl refl e ∙ ap (λ (vs : List ℕ). step_of (with 11 vs)) (sym (names-alone s at (2 ∷ 2 ∷ 3 ∷ []))))
      and (λ e. step_is 12 refl refl e ∙ ap (λ (vs : List ℕ). step_of (with 12 vs)) (sym (names-alone s at (2 ∷ 2 ∷ []))))
      and (λ e. (refl, e, ap (λ (vs : List ℕ). pair (get_or vs 0 0) (get_or vs 1 0)) (pair_values s at) ∙ sym pair_is))
      and (λ e. e)
      and (λ e. method-is 15 e ∙ ap (λ (vs : List ℕ). method_of (with 15 vs)) (sym (names-alone s at (1 ∷ 1 ∷ 1 ∷ 1 ∷ 1 ∷ []))))
      and (λ e. method-is 16 e ∙ ap (λ (vs : List ℕ). method_of (with 16 vs)) (sym (names-alone s at (1 ∷ 1 ∷ 1 ∷ 2 ∷ 2 ∷ 1 ∷ 1 ∷ 2 ∷ []))))
      and (λ e. step_is 17 refl refl e ∙ ap (λ (vs : List ℕ). step_of (with 17 vs)) (sym (names-alone s at (2 ∷ 2 ∷ 2 ∷ 3 ∷ []))))
      and (λ e. refl)
      and (λ e. step_is 19 refl refl e ∙ ap (λ (vs : List ℕ). step_of (with 19 vs)) (sym (names-alone s at (2 ∷ []))))
      and (λ e. point_is 20 e ∙ ap (λ (vs : List ℕ). point_of (with 20 vs)) (sym (names-then s at 1 (1 ∷ 1 ∷ 1 ∷ []) _ (owner-value s (at + 7)))))
      and long-leaf-row
      and (λ e. channel-call-is e ∙ ap (λ (vs : List ℕ). step_of (with 22 vs)) (sym (names-then s at 1 (2 ∷ 2 ∷ 3 ∷ []) _ (channel-value s (at + 7)))))
      and (λ i e. tt))

  -- the record at an offset fits there
  pub fits : Fits s at (record_at s at) (section_of (byte_at s at)) (kind_of (byte_at s at)).role
  unfolding record_at
  fits = fits-row (byte_at s at) refl
