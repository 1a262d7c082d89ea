-- The events that each place of a set holds, the lowest place first.
use mathlib.Core.Path.{◌≡◌, refl, sym, ap, ◌∙◌, subst}
use mathlib.Core.Bool.{Bool, true, false, ◌&&◌, and-true}
use mathlib.Core.List.{List}
use Prim.Native.Nat.{ℕ, ◌-◌, ◌^◌, ◌<◌}
use lib.ListN.{get_or}
use lib.Dec.{T, ltb, ltb→lt}
use lib.Bits.{bit_and}
use borrow.Author.Tests.{lt-ltb}
use Rattle.bits.specs.Bits.{◌⇒◌, has}
use Rattle.std.specs.Prelude.{Some, None}
use Rattle.bits.specs.Rows.{row_has, TakesLowest}
use Rattle.bits.proofs.Tests.{and-out, all-cong}
use Rattle.bits.proofs.Sets.{has-none}
use Rattle.bits.proofs.Masks.{has-and}
use Rattle.bits.proofs.Bitwise.{has-below}
use Rattle.bits.proofs.Least.{of-rest, all_none, all_split}
use Rattle.meets.specs.Meets.{all_hold}

and-next : (a b d : Bool) → (a && (b && d)) ≡ ((a && b) && d)
and-next true b d = refl
and-next false b d = refl

module _ (sets : List ℕ) (m x : ℕ) where
  -- what each place of x below m holds are those of `events` that the places of the rest hold
  pub record Meeting (events rest : ℕ) : Type 0 where
    pub few : (k : ℕ) → T (has rest k) → k < m
    pub whole : (e : ℕ) → e < 64 → all_hold m sets x e ≡ (has events e && all_hold m sets rest e)

  -- all is left: the places of x below m, by the mask of the numbers below m
  pub meeting-none : (mask : ℕ) → ((k : ℕ) → has mask k ≡ ltb k m) → Meeting (2 ^ 64 - 1) (bit_and x mask)
  meeting-none mask mask_is =
      record {
        few = λ k t. ltb→lt k m (subst T (mask_is k) (and-out (has x k) (has mask k) (subst T (has-and x mask k) t)).1);
        whole = λ e l.
            all-cong m _ _ (λ k h. ap (λ (b : Bool). b ⇒ row_has sets k e) (sym (same k h)))
            ∙ ap (λ (b : Bool). b && all_hold m sets (bit_and x mask) e) (sym (has-below 64 e ∙ lt-ltb e 64 l));
      }
    where
      same : (k : ℕ) → k < m → has (bit_and x mask) k ≡ has x k
      same k l = has-and x mask k ∙ ap (λ (b : Bool). has x k && b) (mask_is k ∙ lt-ltb k m l) ∙ and-true (has x k)

  module _ {events rest : ℕ} (g : Meeting events rest) where
    -- the lowest place of the rest
    pub meeting-more : {p rest' : ℕ} → TakesLowest rest (Some p) rest' → Meeting (bit_and events (get_or sets p 0)) rest'
    meeting-more {p} {rest'} (_, taken) =
        let row = get_or sets p 0 in
        record {
          few = λ k t. g.few k (of-rest taken k t);
          whole = λ e l.
              let less = all_hold m sets rest' e in
              g.whole e l
              ∙ ap (λ (b : Bool). has events e && b) (all_split taken m (λ k. row_has sets k e) (g.few p taken.here))
              ∙ and-next (has events e) (has row e) less
              ∙ sym (ap (λ (b : Bool). b && less) (has-and events row e));
        }

    -- no place is left
    pub meeting-all : {rest' : ℕ} → TakesLowest rest None rest' → (e : ℕ) → e < 64 → has events e ≡ all_hold m sets x e
    meeting-all (z, _) e l =
        sym
        (g.whole e l
        ∙ ap (λ (b : Bool). has events e && b) (all_none m rest (λ k. row_has sets k e) (λ k _. ap (λ (y : ℕ). has y k) z ∙ has-none k))
        ∙ and-true (has events e))
