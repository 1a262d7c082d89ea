-- `symbols::symbol_at` meets its contract, kind by kind.
use mathlib.Core.Path.{refl, sym, ap, subst}
use Prim.Native.Nat.{ℕ}
use native.Mathlib.Omega.{arith}
use Rattle.std.specs.Prelude.{Some}
use Rattle.kinds.specs.declared.Kind.TheVariants as kind
use Rattle.kinds.proofs.Numbers.{is-byte, other-byte}
use Rattle.format.specs.declared.symbols.Symbol.TheVariants.{Leaf, Empty, Join, Either, Star}
use Rattle.format.specs.Symbols.{IsSymbolAt}
use Rattle.format.proofs.Laws.{inside}
use Rattle.format.proofs.SymbolKinds.{symbol-here, long-leaf-here, no_symbol}
use borrow.Author.Rules.{rules}
use Rattle.format.proofs.symbols.symbol_at.Goals as goal

pub overflow_add-at : goal.overflow_add-at
overflow_add-at c =
    let h = inside c.args.s.now c.args.at (omega (arith, is-byte c.in_ok-kind_at.ensures c.in-Leaf.is)) in
    search rules

pub overflow_add-at-in-LongLeaf : goal.overflow_add-at-in-LongLeaf
overflow_add-at-in-LongLeaf c =
    let h = inside c.args.s.now c.args.at (omega (arith, is-byte c.in_ok-kind_at.ensures c.in-LongLeaf.is)) in
    search rules

pub returns-in_err-kind_at : goal.returns-in_err-kind_at
returns-in_err-kind_at c =
    let none = c.in_err-kind_at.ensures in
    subst (IsSymbolAt c.args.s.now c.args.at) (sym c.from_residual.ensures)
    (no_symbol _ _ (λ e. none kind.Leaf (sym e)) (λ e. none kind.Empty (sym e)) (λ e. none kind.Join (sym e)) (λ e. none kind.Either (sym e))
    (λ e. none kind.Star (sym e)) (λ e. none kind.LongLeaf (sym e)) refl)

pub returns-in-Leaf : goal.returns-in-Leaf
returns-in-Leaf c =
    symbol-here c.args.s.now c.args.at 0 (Some (Leaf c.set_at.result)) refl (is-byte c.in_ok-kind_at.ensures c.in-Leaf.is)
    refl (ap (λ (x : ℕ). Some (Leaf x)) c.set_at.ensures)

pub returns-in-Empty : goal.returns-in-Empty
returns-in-Empty c = symbol-here _ _ 1 (Some Empty) refl (is-byte c.in_ok-kind_at.ensures c.in-Empty.is) refl refl

pub returns-in-Join : goal.returns-in-Join
returns-in-Join c = symbol-here _ _ 2 (Some Join) refl (is-byte c.in_ok-kind_at.ensures c.in-Join.is) refl refl

pub returns-in-Either : goal.returns-in-Either
returns-in-Either c = symbol-here _ _ 3 (Some Either) refl (is-byte c.in_ok-kind_at.ensures c.in-Either.is) refl refl

pub returns-in-Star : goal.returns-in-Star
returns-in-Star c = symbol-here _ _ 4 (Some Star) refl (is-byte c.in_ok-kind_at.ensures c.in-Star.is) refl refl

pub returns-in-LongLeaf : goal.returns-in-LongLeaf
returns-in-LongLeaf c = long-leaf-here c.args.s.now c.args.at refl (is-byte c.in_ok-kind_at.ensures c.in-LongLeaf.is) c.long_set_at.ensures

pub returns-in_default : goal.returns-in_default
returns-in_default c =
    let byte = c.in_ok-kind_at.ensures in
    let o = c.in_default in
    no_symbol _ _ (other-byte kind.Leaf byte o.not-Leaf) (other-byte kind.Empty byte o.not-Empty) (other-byte kind.Join byte o.not-Join)
    (other-byte kind.Either byte o.not-Either) (other-byte kind.Star byte o.not-Star) (other-byte kind.LongLeaf byte o.not-LongLeaf) refl
