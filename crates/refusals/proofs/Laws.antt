-- What the code needs of a step for its own numbers.
use mathlib.Core.Path.{◌≡◌, sym, ◌∙◌, subst}
use mathlib.Core.Bool.{true, ◌&&◌}
use Prim.Native.Nat.{ℕ, ◌≤◌, ◌<◌}
use native.Mathlib.Omega.{arith}
use lib.Dec.{T, ltb, leb, eqb, lit≤}
use borrow.Author.Tests.{ltb-false, leb-false}
use Rattle.std.specs.Prelude.{Result, Ok, Err}
use Rattle.sheet.specs.Model.{condition_limit, symbol_limit, leaf_limit}
use Rattle.kinds.specs.Kinds.{leaf_kind}
use Rattle.format.specs.declared.Refusal.{Refusal}
use Rattle.format.proofs.Laws.{cond-by}
use Rattle.refusals.specs.declared.Begun.{Begun}
use Rattle.refusals.specs.Step.{Modest, items_of_kind, leaves_of_kind, ends_one, condition_step}

pub leaves-le : (kind : ℕ) → leaves_of_kind kind ≤ 1
leaves-le kind = cond-by (λ n. n ≤ 1) (leaf_kind kind) (λ e. lit≤ tt) (λ e. lit≤ tt)

-- past a step that is no refusal: what is begun stays modest, and the end of a condition has room for it
abbrev Modestly : ℕ → ℕ → Result Begun Refusal → Type 0
Modestly kind n (Ok b) = Modest b × (ends_one kind ≡ true → n < condition_limit)
Modestly kind n (Err y) = Unit {0}

stays-modest : (b : Begun) (kind n at : ℕ) → Modest b → Modestly kind n (condition_step b kind n at)
stays-modest b kind n at h =
    let P = Modestly kind n in
    cond-by P (ends_one kind)
    (λ ends. cond-by P (eqb b.items 1)
    (λ e. cond-by P (leb condition_limit n) (λ e. tt) (λ less. (record { items = lit≤ tt; leaves = lit≤ tt }, λ ends. leb-false condition_limit n less)))
    (λ e. tt))
    (λ goes_on. cond-by P (ltb b.items (items_of_kind kind)) (λ e. tt)
    (λ items. cond-by P (leb symbol_limit b.symbols) (λ e. tt)
    (λ e. cond-by P (leaf_kind kind && leb leaf_limit b.leaves) (λ e. tt)
    (λ e.
    let enough = ltb-false b.items (items_of_kind kind) items in
    (record { items = omega (arith, h.items); leaves = omega (arith, h.leaves, leaves-le kind) }, λ ends. absurd (subst T (sym ends ∙ goes_on) tt))))))

pub modest-past : {b b' : Begun} {g : Result Begun Refusal} (kind n at : ℕ) → Modest b → g ≡ condition_step b kind n at → g ≡ Ok b'
    → Modest b' × (ends_one kind ≡ true → n < condition_limit)
modest-past {b} kind n at h is e = subst (Modestly kind n) (sym is ∙ e) (stays-modest b kind n at h)
