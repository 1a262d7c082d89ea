-- Two channels exchanged: in the sets of leaves, one after the other, and so in the topmost condition of a stack.
use mathlib.Core.Path.{◌≡◌, refl, sym, ap, ◌∙◌, subst}
use mathlib.Core.List.{List, ◌∷◌}
use Prim.Native.Nat.{ℕ, suc, ◌+◌, ◌≤◌, ◌<◌}
use native.Mathlib.Omega.{arith}
use lib.ListN.{get_or}
use Rattle.condition.specs.Condition.{Condition}
use Rattle.condition.specs.Places.{leaves, first, last, follow}
use Rattle.condition.specs.Exchange.{exchange_set, exchange}
use Rattle.condition.proofs.Exchange.{exchange-leaves, exchange-nullable, exchange-leaf_set, exchange-first, exchange-last, exchange-follow}
use Rattle.items.specs.declared.Item.{Item}
use Rattle.items.specs.declared.Stack.{Stack}
use Rattle.items.specs.declared.Places.{Places}
use Rattle.items.specs.Stack.{ItemIs, RowsAre, Stacked, bottom, above}
use Rattle.items.specs.Channels.{SetsExchanged}
use Rattle.items.proofs.Behind.{behind-cong}
use Rattle.items.proofs.Turns.{agree}

-- The sets, one after the other -----------------------------------------------------------------------------------------

-- those behind the first b are exchanged up to leaf q, and the others are as they were
pub record Exchanging (b q c : ℕ) (S₀ S : List ℕ) : Type 0 where
  pub on : b ≤ q
  pub so_far : SetsExchanged b q c S₀ S
  pub others : (p : ℕ) → q < p → get_or S p 0 ≡ get_or S₀ p 0

-- The topmost condition -------------------------------------------------------------------------------------------------

module _ (c : ℕ) (r : Condition) {b : ℕ} where
  -- the places of the exchanged condition are the same
  item-exchanged : {i : Item} → ItemIs r b i → ItemIs (exchange c r) b i
  item-exchanged i = record {
    null_is = i.null_is ∙ sym (exchange-nullable c r);
    first_is = λ k. i.first_is k ∙ behind-cong b (λ i. first r i) (λ i. first (exchange c r) i) (λ j. sym (exchange-first c r (suc j))) k;
    last_is = λ k. i.last_is k ∙ behind-cong b (λ i. last r i) (λ i. last (exchange c r) i) (λ j. sym (exchange-last c r (suc j))) k;
  }

  -- and their sets are exchanged
  rows-exchanged : {F S S' : List ℕ} → SetsExchanged b (b + leaves r) c S S' → RowsAre r b F S → RowsAre (exchange c r) b F S'
  rows-exchanged x w =
      let e = exchange-leaves c r in
      record {
        follow_is = λ j q h.
            w.follow_is j q (omega arith)
            ∙ behind-cong b (λ i. follow r (suc j) i) (λ i. follow (exchange c r) (suc j) i) (λ i. sym (exchange-follow c r (suc j) (suc i))) q;
        sets_is = λ j h.
            x.exchanged_is (suc (b + j)) (omega arith) (omega arith)
            ∙ ap (λ (y : ℕ). exchange_set c y) (w.sets_is j (omega arith))
            ∙ sym (exchange-leaf_set c r (suc j));
      }

-- stacks of the same conditions have as many leaves
same-leaves : {x x' : Stack} {p p' : Places} {d d' m m' : ℕ} {rs : List Condition} → Stacked x p d m rs → Stacked x' p' d' m' rs → m ≡ m'
same-leaves (bottom x y) (bottom x' y') = y ∙ sym y'
same-leaves (above {r = r} t x y i w) (above t' x' y' i' w') = y ∙ ap (λ (k : ℕ). k + leaves r) (same-leaves t t') ∙ sym y'

-- where the sets of the leaves of r, which stands on rs, are exchanged, the stack has r exchanged on rs
pub stacked-exchanged : {x x₀ : Stack} {p p₀ p' : Places} {c d d₀ b m : ℕ} {r : Condition} {rs : List Condition}
    → SetsExchanged b m c p.sets p'.sets → p'.follow ≡ p.follow → Stacked x₀ p₀ d₀ b rs → Stacked x p d m (r ∷ rs)
    → Stacked x p' d m (exchange c r ∷ rs)
stacked-exchanged {p = p} {p' = p'} {c = c} {m = m} {r = r} y same below (above {m = m₀} t e f i w) =
    let z : SetsExchanged m₀ m c p.sets p'.sets = subst (λ (k : ℕ). SetsExchanged k m c p.sets p'.sets) (same-leaves below t) y in
    above
    (agree (record { items = λ k l. refl; rows = λ k l. ap (λ (F : List ℕ). get_or F k 0) same; sets = z.first_stay }) t)
    e
    (f ∙ ap (λ (n : ℕ). m₀ + n) (sym (exchange-leaves c r)))
    (item-exchanged c r i)
    (rw same (rows-exchanged c r (subst (λ (k : ℕ). SetsExchanged m₀ k c p.sets p'.sets) f z) w))
