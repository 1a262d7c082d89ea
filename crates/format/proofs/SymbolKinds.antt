-- The symbol at an offset, and where the next one stands, by the byte of its kind.
use mathlib.Core.Path.{◌≡◌, refl, sym, ap, ◌∙◌}
use mathlib.Core.Bool.{false, true, false≢true}
use mathlib.Core.Option.{Option, none}
use Rattle.std.specs.Prelude as std
use Rattle.std.specs.Prelude.{is_some}
use mathlib.Core.List.{List}
use Prim.Native.Nat.{ℕ, suc, ◌+◌, ◌≤◌}
use native.Mathlib.Omega.{arith}
use lib.Dec.{eqb}
use lib.ListN.{get_or}
use borrow.Author.Tests.{ne_eqb}
use Rattle.sheet.specs.Kind.{body_length}
use Rattle.sheet.specs.Record.{byte_at}
use Rattle.sheet_laws.specs.AtOffset.{long_set_at, symbols_by_kind, symbol_at}
use Rattle.sheet_laws.specs.AtOffset as sheet
use Rattle.sheet.proofs.Kind.{◌and◌, numbered}
use Rattle.sheet_laws.proofs.Kind.{symbol_is, long-leaf-is}
use Rattle.sheet_laws.proofs.Take.{next_is}
use Rattle.format.specs.declared.symbols.Symbol.{Symbol}
use Rattle.format.specs.declared.symbols.Symbol.TheVariants.{Leaf}
use Rattle.format.specs.Symbols.{value_of, IsSymbolAt, IsBehind}
use Rattle.format.proofs.Laws.{inside}

module _ (s : List ℕ) (at : ℕ) where
  -- The symbol ----------------------------------------------------------------------------------------------------------

  here : (k : ℕ) {y : std.Option Symbol} → byte_at s at ≡ suc k → y ≡ value_of (symbol_at s at) → IsSymbolAt s at y
  here k e i = record { symbol_is = i; inside = λ _. inside s at (omega arith) }

  -- a kind that a symbol has, and the kind of a long leaf
  pub symbol-here : {b : ℕ} (k : ℕ) (y : std.Option Symbol) → b ≡ suc k → b ≡ byte_at s at → eqb (suc k) 21 ≡ false
      → y ≡ value_of (get_or (symbols_by_kind s at) (suc k) none) → IsSymbolAt s at y
  symbol-here k y h e n i = here k (sym e ∙ h) (i ∙ ap value_of (sym (symbol_is s at (suc k) n (sym e ∙ h))))

  pub long-leaf-here : {b set : ℕ} → b ≡ 21 → b ≡ byte_at s at → set ≡ long_set_at s (at + 1) → IsSymbolAt s at (std.Some (Leaf set))
  long-leaf-here h e i = here 20 (sym e ∙ h) (ap (λ (x : ℕ). std.Some (Leaf x)) i ∙ ap value_of (sym (long-leaf-is s at (sym e ∙ h))))

  -- a record of another kind, and a byte that is no kind
  abbrev Other : ℕ → Option sheet.Symbol → Type 0
  Other k x = (k ≡ 1 → ⊥) → (k ≡ 2 → ⊥) → (k ≡ 3 → ⊥) → (k ≡ 4 → ⊥) → (k ≡ 5 → ⊥) → x ≡ none

  other-kind : (k : ℕ) → Other k (get_or (symbols_by_kind s at) k none)
  other-kind =
      numbered Other (symbols_by_kind s at) none
      ((λ _ _ _ _ _. refl)
      and (λ n _ _ _ _. absurd (n refl))
      and (λ _ n _ _ _. absurd (n refl))
      and (λ _ _ n _ _. absurd (n refl))
      and (λ _ _ _ n _. absurd (n refl))
      and (λ _ _ _ _ n. absurd (n refl))
      and (λ i _ _ _ _ _. refl))

  pub no_symbol : {k : ℕ} → (k ≡ 1 → ⊥) → (k ≡ 2 → ⊥) → (k ≡ 3 → ⊥) → (k ≡ 4 → ⊥) → (k ≡ 5 → ⊥) → (k ≡ 21 → ⊥) → k ≡ byte_at s at → IsSymbolAt s at std.None
  no_symbol {k} a b c d e f h = record {
    symbol_is = sym (ap value_of (symbol_is s at k (ne_eqb k 21 f) (sym h)) ∙ ap value_of (other-kind k a b c d e));
    inside = λ t. absurd (false≢true t);
  }

  -- The next one --------------------------------------------------------------------------------------------------------

  -- a record of a kind is as long as its body and one byte
  pub behind-kind : {b n : ℕ} (k : ℕ) → b ≡ k → b ≡ byte_at s at → n ≡ 1 + body_length k → n ≤ 9 → IsBehind s at n
  behind-kind k h e is few = record { next_is = λ _. omega (arith, next_is s at, ap body_length (sym e ∙ h), is); few = few }

  -- the symbols that are no leaves have no body
  no_body : (k : ℕ) → (k ≡ 1 → ⊥) → is_some (value_of (get_or (symbols_by_kind s at) k none)) ≡ true → body_length k ≡ 0
  no_body =
      numbered (λ k x. (k ≡ 1 → ⊥) → is_some (value_of x) ≡ true → body_length k ≡ 0) (symbols_by_kind s at) none
      ((λ _ t. absurd (false≢true t))
      and (λ n _. absurd (n refl))
      and (λ _ _. refl)
      and (λ _ _. refl)
      and (λ _ _. refl)
      and (λ _ _. refl)
      and (λ i _ t. absurd (false≢true t)))

  pub behind-other : {k : ℕ} → (k ≡ 1 → ⊥) → (k ≡ 21 → ⊥) → k ≡ byte_at s at → IsBehind s at 1
  behind-other {k} leaf long e = record {
    next_is = λ t.
        let is : is_some (value_of (get_or (symbols_by_kind s at) k none)) ≡ true =
        sym (ap (λ (x : Option sheet.Symbol). is_some (value_of x)) (symbol_is s at k (ne_eqb k 21 long) (sym e))) ∙ t in
        omega (arith, next_is s at, ap body_length (sym e), no_body k leaf is);
    few = omega arith;
  }
