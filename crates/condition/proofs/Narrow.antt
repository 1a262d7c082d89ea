-- A condition whose leaves have only events below n holds only words of such events.
use mathlib.Core.Bool.{Bool, true, false}
use mathlib.Core.Logic.{⊎_elim}
use mathlib.Core.List.{[], ◌∷◌, ◌++◌}
use Prim.Native.Nat.{ℕ, ◌-◌, ◌^◌, ◌<◌}
use lib.Dec.{leb}
use lib.Pow.{pow_pos}
use Rattle.bits.proofs.Sets.{has-lt}
use Rattle.condition.specs.Condition.{Condition, leaf, empty, join, either, star, Word, Holds, Repeated, never, once_more}
use Rattle.condition.specs.Places.{leaves, beside, leaf_set}

-- every leaf has only events below n
abbrev pub EventsBelow : ℕ → Condition → Type 0
EventsBelow n (leaf s) = s < 2 ^ n
EventsBelow n empty = Unit {0}
EventsBelow n (join a b) = EventsBelow n a × EventsBelow n b
EventsBelow n (either a b) = EventsBelow n a × EventsBelow n b
EventsBelow n (star a) = EventsBelow n a

-- every event of the word is below n
abbrev pub Over : ℕ → Word → Type 0
Over n [] = Unit {0}
Over n (e ∷ w) = (e < n) × Over n w

module _ (n : ℕ) where
  over-append : (u v : Word) → Over n u → Over n v → Over n (u ++ v)
  over-append [] v h k = k
  over-append (e ∷ u) v h k = (h.0, over-append u v h.1 k)

  over-repeated : (P : Word → Type 0) → ((w : Word) → P w → Over n w) → {w : Word} → Repeated P w → Over n w
  over-repeated P all never = tt
  over-repeated P all (once_more {u = u} {v = v} x y) = over-append u v (all u x) (over-repeated P all y)

  pub holds-over : (r : Condition) → EventsBelow n r → (w : Word) → Holds r w → Over n w
  holds-over (leaf s) l w h = rw h.2 (has-lt n s h.0 l h.1, tt)
  holds-over empty l w h = rw h tt
  holds-over (join a b) l w h =
      let (u, v, f, x, y) = h in
      rw f (over-append u v (holds-over a l.0 u x) (holds-over b l.1 v y))
  holds-over (either a b) l w h = ⊎_elim (λ x. holds-over a l.0 w x) (λ x. holds-over b l.1 w x) h
  holds-over (star a) l w h = over-repeated (λ u. Holds a u) (holds-over a l) h

  -- the set of each leaf, by its number, has only events below n
  beside-lt : (m b : ℕ) (f g : ℕ → ℕ) → ((k : ℕ) → f k < b) → ((k : ℕ) → g k < b) → (k : ℕ) → beside m f g k < b
  unfolding beside
  beside-lt m b f g x y k = go (leb k m)
    where
      go : (t : Bool) → elim t [ true ↦ f k | false ↦ g (k - m) ] < b
      go true = x k
      go false = y (k - m)

  pub leaf-below : (r : Condition) → EventsBelow n r → (q : ℕ) → leaf_set r q < 2 ^ n
  unfolding leaf_set
  leaf-below (leaf s) l q = l
  leaf-below empty l q = pow_pos n
  leaf-below (join a b) l q = beside-lt (leaves a) (2 ^ n) (λ i. leaf_set a i) (λ i. leaf_set b i) (leaf-below a l.0) (leaf-below b l.1) q
  leaf-below (either a b) l q = beside-lt (leaves a) (2 ^ n) (λ i. leaf_set a i) (λ i. leaf_set b i) (leaf-below a l.0) (leaf-below b l.1) q
  leaf-below (star a) l q = leaf-below a l q
