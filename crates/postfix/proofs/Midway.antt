-- Reading a condition from its records: the items so far, and the symbols to come.
use mathlib.Core.Path.{◌≡◌, refl, sym, ap, ◌∙◌, subst}
use mathlib.Core.Bool.{true≢false, false≢true}
use mathlib.Core.Option.{Option, none, some}
use mathlib.Core.List.{List, [], ◌∷◌, ◌++◌}
use Prim.Native.Nat.{ℕ, ◌+◌, ◌-◌, ◌≤◌, ◌<◌}
use native.Mathlib.Omega.{arith}
use lib.ListN.{length}
use Rattle.std.specs.Prelude as std
use Rattle.std.specs.Prelude.{is_some}
use Rattle.std.specs.Option.{unwrap_or}
use Rattle.condition.specs.Condition.{Condition}
use Rattle.sheet.specs.Record.{next_at}
use Rattle.sheet_laws.specs.AtOffset.{Symbol, symbol_at, symbols_on, symbols_at, postfix}
use Rattle.format.specs.declared.symbols.Symbol as value
use Rattle.format.specs.Symbols.{symbol_of, value_of, items_taken, leaves_in, IsSymbolAt, IsBehind}
use Rattle.items.specs.declared.Stack.{Stack}
use Rattle.items.specs.declared.Places.{Places}
use Rattle.items.specs.Stack.{Stacked, Makes, a_leaf, an_empty, a_join, an_either, a_star, Turned}
use Rattle.postfix.specs.Parts.{StandsAt, Pushed}
use Rattle.postfix.proofs.Reducing.{total, made, Reduces, reduces-postfix, reduces-leaves, reduces-items, first_taken, done-taken, symbol-first, no-symbols}

-- The symbols to come from an offset on, at most 96 with the n before them, leave r from the items on -----------------------

pub record ToCome (s : List ℕ) (r : Condition) (items : List Condition) (at n : ℕ) : Type 0 where
  pub fuel : ℕ
  pub reduces : Reduces (symbols_on s fuel at) items r
  pub enough : length s ≤ at + fuel
  pub steps : n + length (symbols_on s fuel at) ≤ 96

-- the first of them is y, and then the others
record First (s : List ℕ) (r : Condition) (items : List Condition) (y : value.Symbol) (at n : ℕ) : Type 0 where
  past : List Condition
  makes : Makes y items past
  others : ToCome s r past (next_at s at) (n + 1)

-- what is found at the offset
module _ {s : List ℕ} {r : Condition} {items : List Condition} {at n : ℕ} {o : std.Option value.Symbol} (here : IsSymbolAt s at o) where
  -- where no symbol is there, none is left
  none-left : o ≡ std.None → ToCome s r items at n → items ≡ r ∷ []
  none-left e g = go (symbol_at s at) refl
    where
      go : (z : Option Symbol) → symbol_at s at ≡ z → items ≡ r ∷ []
      go none h = done-taken (subst (λ (ys : List Symbol). Reduces ys items r) (no-symbols s at g.fuel h) g.reduces)
      go (some z) h =
          let no : std.None ≡ std.Some (symbol_of z) = sym e ∙ here.symbol_is ∙ ap (λ (z : Option Symbol). value_of z) h in
          absurd (false≢true (ap is_some no))

  -- and else the symbol comes first
  look : {y : value.Symbol} → o ≡ std.Some y → ToCome s r items at n → First s r items y at n
  look {y} e g = go (symbol_at s at) refl
    where
      go : (z : Option Symbol) → symbol_at s at ≡ z → First s r items y at n
      go none h =
          let no : std.Some y ≡ std.None = sym e ∙ here.symbol_is ∙ ap (λ (z : Option Symbol). value_of z) h in
          absurd (true≢false (ap is_some no))
      go (some z) h =
          let is : std.Some y ≡ std.Some (symbol_of z) = sym e ∙ here.symbol_is ∙ ap (λ (z : Option Symbol). value_of z) h in
          let is : y ≡ symbol_of z = ap (λ (o : std.Option value.Symbol). unwrap_or o y) is in
          let on = symbol-first s at g.fuel h (here.inside (ap is_some e)) g.enough in
          let long = ap length on.symbols_are in
          let few = g.steps in
          let taken = first_taken (subst (λ (ys : List Symbol). Reduces ys items r) on.symbols_are g.reduces) in
          record {
            past = taken.items;
            makes = subst (λ (y : value.Symbol). Makes y items taken.items) (sym is) taken.makes;
            others = record { fuel = on.fuel; reduces = taken.reduced; enough = on.enough; steps = omega arith };
          }

-- items that lie below stay
makes-above : {y : value.Symbol} {rs rs' : List Condition} (below : List Condition) → Makes y rs rs' → Makes y (rs ++ below) (rs' ++ below)
makes-above below a_leaf = a_leaf
makes-above below an_empty = an_empty
makes-above below a_join = a_join
makes-above below an_either = an_either
makes-above below a_star = a_star

-- The loop's invariant: d items with m leaves, of which the items of r stand on what stood there at entry ---------------------

pub record Midway (s : List ℕ) (r : Condition) (Entry : List Condition → Type 0) (x : Stack) (p : Places) (floor base d m at n : ℕ) : Type 0 where
  pub items : List Condition
  pub to_come : ToCome s r items at n
  pub items_are : d ≡ floor + length items
  pub leaves_are : m ≡ base + total items
  pub stacked : (rs : List Condition) → Entry rs → Stacked x p d m (items ++ rs)

pub record Going (s : List ℕ) (from : ℕ) (Entry : List Condition → Type 0) (x : Stack) (p : Places) (floor base d m at n : ℕ) : Type 0 where
  pub above_floor : floor ≤ d
  pub deep : d ≤ floor + n
  pub high : d ≤ floor + 48
  pub few : m ≤ base + 31
  pub midway : (r : Condition) → StandsAt s from r → Midway s r Entry x p floor base d m at n

pub going_start : (s : List ℕ) (from : ℕ) (x : Stack) (p : Places) (floor base : ℕ)
    → Going s from (λ rs. Stacked x p floor base rs) x p floor base floor base from 0
unfolding symbols_at
going_start s from x p floor base = record {
  above_floor = omega arith;
  deep = omega arith;
  high = omega arith;
  few = omega arith;
  midway = λ r h.
      let all : symbols_on s (length s) from ≡ postfix r = h.in_postfix in
      let few = h.few_symbols in
      record {
        items = [];
        to_come = record {
          fuel = length s;
          reduces = subst (λ (ys : List Symbol). Reduces ys [] r) (sym all) (reduces-postfix r);
          enough = omega arith;
          steps = let long = ap length all in omega arith;
        };
        items_are = omega arith;
        leaves_are = omega arith;
        stacked = λ rs t. t;
      };
}

-- a symbol fits: its items are there, and neither its leaf nor its item is one too many
abbrev pub Fit : value.Symbol → ℕ → ℕ → ℕ → ℕ → Type 0
Fit y floor d m most = (floor + items_taken y ≤ d) × (m + leaves_in y ≤ most) × (d < floor + 48 + items_taken y)

module _ {s : List ℕ} {from : ℕ} {Entry : List Condition → Type 0} {x : Stack} {p : Places} {floor base d m at n : ℕ}
    (g : Going s from Entry x p floor base d m at n) {o : std.Option value.Symbol} {y : value.Symbol} (here : IsSymbolAt s at o) (is : o ≡ std.Some y)
    (fit : Fit y floor d m (base + 31)) where
  -- the symbol at the offset, pushed
  on : {x' : Stack} {p' : Places} → Turned y x p x' p' d m
      → Going s from Entry x' p' floor base (d + 1 - items_taken y) (m + leaves_in y) (next_at s at) (n + 1)
  on t =
      let (taken, few, high) = fit in
      let deep = g.deep in
      record {
        above_floor = omega arith;
        deep = omega arith;
        high = omega arith;
        few = few;
        midway = λ r h.
            let v = g.midway r h in
            let first = look here is v.to_come in
            let m = made first.makes in
            let taken = m.taken in
            let h = v.items_are in
            let k = v.leaves_are in
            record {
              items = first.past;
              to_come = first.others;
              items_are = omega (arith, m.height);
              leaves_are = omega (arith, m.count);
              stacked = λ rs x. t.turned (v.items ++ rs) (first.past ++ rs) (makes-above rs first.makes) (v.stacked rs x);
            };
      }

  pub going_on : {x' : Stack} {p' : Places} {d' m' b : ℕ} → d' ≡ d + 1 - items_taken y → m' ≡ m + leaves_in y → IsBehind s at b
      → Turned y x p x' p' d m → Going s from Entry x' p' floor base d' m' (at + b) (n + 1)
  going_on {x'} {p'} {d'} {m'} height more behind t =
      subst (λ (next : ℕ). Going s from Entry x' p' floor base d' m' next (n + 1))
      (behind.next_is (ap is_some (sym here.symbol_is ∙ is)))
      (rw (height, more) (on t))

-- Ways out: at the end of the records, and where no condition can stand -------------------------------------------------

module _ {s : List ℕ} {from : ℕ} {x₀ : Stack} {p₀ : Places} {x : Stack} {p : Places} {floor base d m at n : ℕ}
    (g : Going s from (λ rs. Stacked x₀ p₀ floor base rs) x p floor base d m at n) where
  abbrev Done : Type 0
  Done = Pushed (StandsAt s from) x₀ p₀ x p floor base m

  -- where no symbol is left, r stands on what stood there at entry
  out : ((r : Condition) (h : StandsAt s from r) → (g.midway r h).items ≡ r ∷ []) → Done
  out alone = record {
    few = g.few;
    pushed = λ r h rs t.
        let v = g.midway r h in
        let e : d ≡ floor + 1 = omega (arith, v.items_are, ap length (alone r h)) in
        subst (λ (k : ℕ). Stacked x p k m (r ∷ rs)) e
        (subst (λ (items : List Condition). Stacked x p d m (items ++ rs)) (alone r h) (v.stacked rs t));
  }

  module _ {o : std.Option value.Symbol} (here : IsSymbolAt s at o) where
    -- no symbol
    pub out_none : o ≡ std.None → Done
    out_none e = out (λ r h. none-left here e (g.midway r h).to_come)

    -- its items are not there, or it is one leaf or one item too many
    pub out-unfit : {y : value.Symbol} → o ≡ std.Some y → (Fit y floor d m (base + 31) → ⊥) → Done
    out-unfit e unfit = out (λ r h.
        let v = g.midway r h in
        let first = look here e v.to_come in
        let made = made first.makes in
        let k = v.items_are in
        let i = v.leaves_are in
        let most = reduces-leaves first.others.reduces in
        absurd (unfit (
          omega (arith, made.taken),
          omega (arith, made.count, h.few_leaves),
          omega (arith, made.height, made.taken, reduces-items first.others.reduces, first.others.steps, g.deep),
        )))
