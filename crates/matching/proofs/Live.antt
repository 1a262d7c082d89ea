-- The live places of a side from its tables, from right to left.
use mathlib.Core.Path.{◌≡◌, refl, sym, ap, ap₂, ◌∙◌, subst}
use mathlib.Core.Bool.{Bool, false, cond, not, ◌&&◌, ◌||◌, or-false, and-false, and-true}
use mathlib.Core.List.{List}
use Prim.Native.Nat.{ℕ, suc, ◌+◌, ◌^◌, ◌≤◌, ◌<◌}
use native.Mathlib.Omega.{arith}
use native.Mathlib.Decide.{dec_le, ℕ_discrete}
use lib.Dec.{eqb, leb, leb→le}
use lib.ListN.{get_or}
use lib.Bits.{bit_and, bit_or}
use borrow.Author.Tests.{le-leb, lt-leb, eq-eqb, ne_eqb}
use Rattle.bits.specs.Bits.{has}
use Rattle.bits.proofs.Tests.{and-out, T_false}
use Rattle.bits.proofs.Sets.{has-none}
use Rattle.bits.proofs.Masks.{has-and, has-or, has-cond, has_one}
use Rattle.condition.specs.Condition.{Condition}
use Rattle.condition.specs.Places.{leaves, places, ends, live}
use Rattle.condition.proofs.Steps.{ends-place}
use Rattle.condition.proofs.Live.{live-place, live-by-right}
use Rattle.places.specs.declared.Side.{Side}
use Rattle.places.specs.Tables.{Tables}

-- leaf k holds some event, and is live
abbrev enters : Condition → List ℕ → ℕ → Bool
enters r S k = not (eqb (get_or S k 0) 0) && live r k

-- the places from p on are found: x has those that are live, and below p those that end a word; of those found, y has the ones that are entered
pub record Found (r : Condition) (S : List ℕ) (p x y : ℕ) : Type 0 where
  pub at_most : p ≤ leaves r + 1
  pub found : (k : ℕ) → p ≤ k → has x k ≡ live r k
  pub not_yet : (k : ℕ) → k < p → has x k ≡ ends r k
  pub entered : (k : ℕ) → has y k ≡ (leb p k && enters r S k)

module _ {r : Condition} {side : Side} {F S : List ℕ} (t : Tables r side F S) where
  -- no place is above the last leaf
  pub none_found : Found r S (side.leaves + 1) side.ends 0
  unfolding places
  none_found =
      let n = t.leaves_is in
      let none-live : (k : ℕ) → side.leaves + 1 ≤ k → live r k ≡ false =
      λ k l. T_false (live r k) (λ h. let i = live-place r k h in omega arith) in
      record {
        at_most = omega arith;
        found = λ k l. t.ends_is k ∙ T_false (ends r k) (λ h. let i = ends-place r k h in omega arith) ∙ sym (none-live k l);
        not_yet = λ k l. t.ends_is k;
        entered = λ k.
            has-none k
            ∙ sym (T_false (leb (side.leaves + 1) k && enters r S k)
            (λ h. let (a, b) = and-out (leb (side.leaves + 1) k) (enters r S k) h in
            let i = live-place r k (and-out (not (eqb (get_or S k 0) 0)) (live r k) b).1 in
            let j = leb→le (side.leaves + 1) k a in
            absurd (omega arith)));
      }

  module _ {p x y : ℕ} (f : Found r S (suc p) x y) where
    -- one of the followers of p that are found is entered
    abbrev pub onward : Bool
    onward = not (eqb (bit_and (get_or F p 0) y) 0)

    abbrev pub with_here : ℕ
    with_here = bit_or x (cond onward (2 ^ p) 0)

    here-or : (k : ℕ) → has with_here k ≡ (has x k || (onward && eqb k p))
    here-or k =
        has-or x (cond onward (2 ^ p) 0) k
        ∙ ap (λ (b : Bool). has x k || b) (has-cond onward (2 ^ p) k ∙ ap (λ (b : Bool). onward && b) (has_one p k))

    here-live : has with_here p ≡ live r p
    here-live =
        here-or p
        ∙ ap₂ (λ (a b : Bool). a || (onward && b)) (f.not_yet p (omega arith)) (eq-eqb p p refl)
        ∙ ap (λ (b : Bool). ends r p || b) (and-true onward)
        ∙ live-by-right r p (get_or F p 0) y (omega (arith, f.at_most)) (λ q. t.follow_is p q (omega (arith, f.at_most)))
        (λ q less l.
        f.entered q
        ∙ ap₂ (λ (a : Bool) (s : ℕ). a && (not (eqb s 0) && live r q)) (le-leb (suc p) q less) (t.sets_is q (omega arith) l))
        (λ q h. leb→le (suc p) q (and-out (leb (suc p) q) (enters r S q) (rw (f.entered q) at h)).0)

    elsewhere : (k : ℕ) → (k ≡ p → ⊥) → has with_here k ≡ has x k
    elsewhere k other =
        here-or k
        ∙ ap (λ (b : Bool). has x k || (onward && b)) (ne_eqb k p other)
        ∙ ap (λ (b : Bool). has x k || b) (and-false onward)
        ∙ or-false (has x k)

    abbrev pub with_entered : ℕ
    with_entered = bit_or y (cond (not (eqb (get_or S p 0) 0)) (bit_and with_here (2 ^ p)) 0)

    entered-or : (k : ℕ) → has with_entered k ≡ ((leb (suc p) k && enters r S k) || (not (eqb (get_or S p 0) 0) && (has with_here k && eqb k p)))
    entered-or k =
        has-or y (cond (not (eqb (get_or S p 0) 0)) (bit_and with_here (2 ^ p)) 0) k
        ∙ ap₂ (λ (a b : Bool). a || b) (f.entered k)
        (has-cond (not (eqb (get_or S p 0) 0)) (bit_and with_here (2 ^ p)) k
        ∙ ap (λ (b : Bool). not (eqb (get_or S p 0) 0) && b) (has-and with_here (2 ^ p) k ∙ ap (λ (b : Bool). has with_here k && b) (has_one p k)))

    enters-here : (k : ℕ) → Dec (k ≡ p) → has with_entered k ≡ (leb p k && enters r S k)
    enters-here k (yes e) =
        ap (λ (k : ℕ). has with_entered k) e
        ∙ entered-or p
        ∙ ap₂ (λ (a b : Bool). (a && enters r S p) || (not (eqb (get_or S p 0) 0) && b)) (lt-leb (suc p) p (omega arith))
        (ap₂ (λ (a b : Bool). a && b) here-live (eq-eqb p p refl) ∙ and-true (live r p))
        ∙ sym (ap (λ (a : Bool). a && enters r S p) (le-leb p p (omega arith)))
        ∙ ap (λ (k : ℕ). leb p k && enters r S k) (sym e)
    enters-here k (no other) =
        entered-or k
        ∙ ap (λ (b : Bool). (leb (suc p) k && enters r S k) || (not (eqb (get_or S p 0) 0) && (has with_here k && b))) (ne_eqb k p other)
        ∙ ap (λ (b : Bool). (leb (suc p) k && enters r S k) || (not (eqb (get_or S p 0) 0) && b)) (and-false (has with_here k))
        ∙ ap (λ (b : Bool). (leb (suc p) k && enters r S k) || b) (and-false (not (eqb (get_or S p 0) 0)))
        ∙ or-false (leb (suc p) k && enters r S k)
        ∙ ap (λ (a : Bool). a && enters r S k) (same (dec_le (suc p) k))
      where
        same : Dec (suc p ≤ k) → leb (suc p) k ≡ leb p k
        same (yes l) = le-leb (suc p) k l ∙ sym (le-leb p k (omega arith))
        same (no l) = lt-leb (suc p) k (omega arith) ∙ sym (lt-leb p k (omega arith))

    -- place p is found
    pub one_found : Found r S p with_here with_entered
    one_found = record {
      at_most = omega (arith, f.at_most);
      found = λ k l. go k l (ℕ_discrete k p);
      not_yet = λ k l. elsewhere k (λ (e : k ≡ p). omega arith) ∙ f.not_yet k (omega arith);
      entered = λ k. enters-here k (ℕ_discrete k p);
    }
      where
        go : (k : ℕ) → p ≤ k → Dec (k ≡ p) → has with_here k ≡ live r k
        go k l (yes e) = ap (λ (k : ℕ). has with_here k) e ∙ here-live ∙ ap (live r) (sym e)
        go k l (no other) = elsewhere k other ∙ f.found k (omega arith)

  -- the same with the numbers by name
  pub next-found : {n p x y here a b : ℕ} → n ≡ suc p → Found r S n x y → here ≡ 2 ^ p → a ≡ cond (not (eqb (bit_and (get_or F p 0) y) 0)) here 0
      → b ≡ cond (not (eqb (get_or S p 0) 0)) (bit_and (bit_or x a) here) 0 → Found r S p (bit_or x a) (bit_or y b)
  next-found {x = x} {y = y} e f here-is a-is b-is = rw (b-is, a-is, here-is) (one_found (subst (λ (k : ℕ). Found r S k x y) e f))
