-- The exchange of two channels in a condition, for every channel c: it holds the words exchanged, and its places are the same.
use mathlib.Core.Path.{◌≡◌, refl, sym, ap, ap₂, ◌∙◌, subst}
use mathlib.Core.Bool.{Bool, true, false, ◌&&◌, ◌||◌}
use mathlib.Core.Logic.{inl, inr, ⊎_elim, ◌↔◌}
use mathlib.Core.List.{[], ◌∷◌, ◌++◌, map}
use Prim.Native.Nat.{ℕ, zero, suc, ◌+◌, ◌-◌, ◌*◌, ◌^◌, ◌≤◌}
use lib.Dec.{T, ltb, leb, ltb→lt, lt→ltb}
use Rattle.bits.specs.Bits.{has}
use Rattle.bits.proofs.Tests.{T-ext}
use Rattle.bits.proofs.Sets.{single-has, has-single}
use Rattle.bits.proofs.Masks.{bits-ext}
use Rattle.bits.proofs.Bitwise.{has-below}
use Rattle.condition.specs.Condition.{Condition, leaf, empty, join, either, star, Word, Holds, Repeated, never, once_more, ◌⊆◌, no_word, event, any}
use Rattle.condition.specs.Places.{leaves, places, beside, leaf_set, leaf_holds, nullable, first, last, follow, follows, ends, accepts}
use Rattle.condition.specs.Exchange.{swap, exchange_set, exchange}
use Rattle.condition.proofs.Words.{words}
use Rattle.condition.proofs.Narrow.{EventsBelow}
use Rattle.condition.proofs.Swap.{swap-swap, swap-lt, lt-swap, exchange-has, exchange-twice, exchange-none, exchange-lt, exchange-zero}

-- Words -----------------------------------------------------------------------------------------------------------------

-- the word with the events of channel 0 and channel c exchanged
abbrev pub swap_word : ℕ → Word → Word
swap_word c w = map (swap c) w

module _ (c : ℕ) where
  swap-append : (u v : Word) → swap_word c (u ++ v) ≡ swap_word c u ++ swap_word c v
  swap-append [] v = refl
  swap-append (e ∷ u) v = ap (λ (w : Word). swap c e ∷ w) (swap-append u v)

  pub swap-word : (w : Word) → swap_word c (swap_word c w) ≡ w
  swap-word [] = refl
  swap-word (e ∷ w) = ap₂ (λ (x : ℕ) (y : Word). x ∷ y) (swap-swap c e) (swap-word w)

  -- the exchange is its own inverse
  pub exchange-exchange : (r : Condition) → exchange c (exchange c r) ≡ r
  unfolding exchange
  exchange-exchange (leaf s) = ap leaf (exchange-twice c s)
  exchange-exchange empty = refl
  exchange-exchange (join a b) = ap₂ join (exchange-exchange a) (exchange-exchange b)
  exchange-exchange (either a b) = ap₂ either (exchange-exchange a) (exchange-exchange b)
  exchange-exchange (star a) = ap star (exchange-exchange a)

  repeated-map : (P Q : Word → Type 0) → ((w : Word) → P w → Q (swap_word c w)) → {w : Word} → Repeated P w → Repeated Q (swap_word c w)
  repeated-map P Q f never = never
  repeated-map P Q f (once_more {u = u} {v = v} x y) = rw (swap-append u v) (once_more (f u x) (repeated-map P Q f y))

  holds-out : (r : Condition) (w : Word) → Holds (exchange c r) w → Holds r (swap_word c w)
  unfolding exchange
  holds-out (leaf s) w h =
      let (e, t, f) = h in
      (swap c e, rw (exchange-has c s e) at t, ap (λ (w : Word). swap_word c w) f)
  holds-out empty w h = ap (λ (w : Word). swap_word c w) h
  holds-out (join a b) w h =
      let (u, v, f, x, y) = h in
      (swap_word c u, swap_word c v, ap (λ (w : Word). swap_word c w) f ∙ swap-append u v, holds-out a u x, holds-out b v y)
  holds-out (either a b) w h = ⊎_elim (λ x. inl (holds-out a w x)) (λ x. inr (holds-out b w x)) h
  holds-out (star a) w h = repeated-map (λ u. Holds (exchange c a) u) (λ u. Holds a u) (holds-out a) h

  -- the exchanged condition holds a word where the condition holds the word exchanged
  pub exchange-holds : (r : Condition) (w : Word) → Holds (exchange c r) w ↔ Holds r (swap_word c w)
  exchange-holds r w = (
    holds-out r w,
    λ h.
        subst (λ (v : Word). Holds (exchange c r) v) (swap-word w)
        (holds-out (exchange c r) (swap_word c w) (subst (λ (q : Condition). Holds q (swap_word c w)) (sym (exchange-exchange r)) h)),
  )

  -- and the word test says so
  pub exchange-accepts : (r : Condition) (w : Word) → accepts (exchange c r) w ≡ accepts r (swap_word c w)
  exchange-accepts r w =
      T-ext (accepts (exchange c r) w) (accepts r (swap_word c w))
      (λ t. (words r (swap_word c w)).1 ((exchange-holds r w).0 ((words (exchange c r) w).0 t)))
      (λ t. (words (exchange c r) w).1 ((exchange-holds r w).1 ((words r (swap_word c w)).0 t)))

  -- inclusions stay
  pub exchange-in : (a b : Condition) → a ⊆ b → exchange c a ⊆ exchange c b
  exchange-in a b h w x = (exchange-holds b w).1 (h (swap_word c w) ((exchange-holds a w).0 x))

  -- events below n stay below n, where the n events have channel c
  pub exchange-below : (n : ℕ) → 16 * suc c ≤ n → (r : Condition) → EventsBelow n r → EventsBelow n (exchange c r)
  unfolding exchange
  exchange-below n l (leaf s) h = exchange-lt c n s l h
  exchange-below n l empty h = tt
  exchange-below n l (join a b) h = (exchange-below n l a h.0, exchange-below n l b h.1)
  exchange-below n l (either a b) h = (exchange-below n l a h.0, exchange-below n l b h.1)
  exchange-below n l (star a) h = exchange-below n l a h

  -- "so "any" remains "any"", likewise
  pub exchange-any : (n : ℕ) → 16 * suc c ≤ n → exchange c (any n) ≡ any n
  unfolding exchange
  exchange-any n l =
      ap leaf
      (bits-ext (exchange_set c (2 ^ n - 1)) (2 ^ n - 1)
      (λ e.
      exchange-has c (2 ^ n - 1) e
      ∙ has-below n (swap c e)
      ∙ T-ext (ltb (swap c e) n) (ltb e n)
      (λ t. lt→ltb e n (lt-swap c n e l (ltb→lt (swap c e) n t)))
      (λ t. lt→ltb (swap c e) n (swap-lt c n e l (ltb→lt e n t)))
      ∙ sym (has-below n e)))

  -- no word stays no word, and one event becomes the event exchanged
  pub exchange-no_word : exchange c no_word ≡ no_word
  unfolding exchange
  exchange-no_word = ap leaf (exchange-none c)

  pub exchange-event : (e : ℕ) → exchange c (event e) ≡ event (swap c e)
  unfolding exchange
  exchange-event e =
      ap leaf
      (bits-ext (exchange_set c (2 ^ e)) (2 ^ swap c e)
      (λ k.
      exchange-has c (2 ^ e) k
      ∙ T-ext (has (2 ^ e) (swap c k)) (has (2 ^ swap c e) k)
      (λ t.
      let z = has-single e (swap c k) t in
      subst (λ (x : ℕ). T (has (2 ^ swap c e) x)) (ap (λ (x : ℕ). swap c x) (sym z) ∙ swap-swap c k) (single-has (swap c e)))
      (λ t.
      let z = has-single (swap c e) k t in
      subst (λ (x : ℕ). T (has (2 ^ e) x)) (sym (ap (λ (x : ℕ). swap c x) z ∙ swap-swap c e)) (single-has e))))

-- channel 0 exchanged with itself changes nothing
pub exchange-zeroth : (r : Condition) → exchange 0 r ≡ r
unfolding exchange
exchange-zeroth (leaf s) = ap leaf (exchange-zero s)
exchange-zeroth empty = refl
exchange-zeroth (join a b) = ap₂ join (exchange-zeroth a) (exchange-zeroth b)
exchange-zeroth (either a b) = ap₂ either (exchange-zeroth a) (exchange-zeroth b)
exchange-zeroth (star a) = ap star (exchange-zeroth a)

-- Places ----------------------------------------------------------------------------------------------------------------

beside_same : {A : Type 0} {m n : ℕ} (f g f' g' : ℕ → A) → m ≡ n → ((k : ℕ) → f k ≡ f' k) → ((k : ℕ) → g k ≡ g' k) → (k : ℕ)
    → beside m f g k ≡ beside n f' g' k
unfolding beside
beside_same {A} {m} {n} f g f' g' e x y k = ap (λ (i : ℕ). beside i f g k) e ∙ go (leb k n)
  where
    go : (b : Bool) → ◌≡◌ {A = A} (elim b [ true ↦ f k | false ↦ g (k - n) ]) (elim b [ true ↦ f' k | false ↦ g' (k - n) ])
    go true = x k
    go false = y (k - n)

beside-map : (m : ℕ) (h : ℕ → ℕ) (f g : ℕ → ℕ) (k : ℕ) → beside m (λ i. h (f i)) (λ i. h (g i)) k ≡ h (beside m f g k)
unfolding beside
beside-map m h f g k = go (leb k m)
  where
    go : (b : Bool) → elim b [ true ↦ h (f k) | false ↦ h (g (k - m)) ] ≡ h (elim b [ true ↦ f k | false ↦ g (k - m) ])
    go true = refl
    go false = refl

module _ (c : ℕ) where
  pub exchange-leaves : (r : Condition) → leaves (exchange c r) ≡ leaves r
  unfolding exchange leaves
  exchange-leaves (leaf s) = refl
  exchange-leaves empty = refl
  exchange-leaves (join a b) = ap₂ (λ (m n : ℕ). m + n) (exchange-leaves a) (exchange-leaves b)
  exchange-leaves (either a b) = ap₂ (λ (m n : ℕ). m + n) (exchange-leaves a) (exchange-leaves b)
  exchange-leaves (star a) = exchange-leaves a

  pub exchange-places : (r : Condition) → places (exchange c r) ≡ places r
  unfolding places
  exchange-places r = ap suc (exchange-leaves r)

  pub exchange-nullable : (r : Condition) → nullable (exchange c r) ≡ nullable r
  unfolding exchange nullable
  exchange-nullable (leaf s) = refl
  exchange-nullable empty = refl
  exchange-nullable (join a b) = ap₂ (λ (x y : Bool). x && y) (exchange-nullable a) (exchange-nullable b)
  exchange-nullable (either a b) = ap₂ (λ (x y : Bool). x || y) (exchange-nullable a) (exchange-nullable b)
  exchange-nullable (star a) = refl

  -- the sides of a join and of an either, exchanged
  sides : {A : Type 0} (a : Condition) (f g f' g' : ℕ → A) → ((k : ℕ) → f k ≡ f' k) → ((k : ℕ) → g k ≡ g' k) → (k : ℕ)
      → beside (leaves (exchange c a)) f g k ≡ beside (leaves a) f' g' k
  sides a f g f' g' x y k = beside_same f g f' g' (exchange-leaves a) x y k

  -- the leaf of the exchanged condition has the set exchanged
  pub exchange-leaf_set : (r : Condition) (q : ℕ) → leaf_set (exchange c r) q ≡ exchange_set c (leaf_set r q)
  unfolding exchange leaf_set
  exchange-leaf_set (leaf s) q = refl
  exchange-leaf_set empty q = sym (exchange-none c)
  exchange-leaf_set (join a b) q =
      sides a _ _ (λ i. exchange_set c (leaf_set a i)) (λ i. exchange_set c (leaf_set b i)) (exchange-leaf_set a) (exchange-leaf_set b) q
      ∙ beside-map (leaves a) (exchange_set c) (leaf_set a) (leaf_set b) q
  exchange-leaf_set (either a b) q =
      sides a _ _ (λ i. exchange_set c (leaf_set a i)) (λ i. exchange_set c (leaf_set b i)) (exchange-leaf_set a) (exchange-leaf_set b) q
      ∙ beside-map (leaves a) (exchange_set c) (leaf_set a) (leaf_set b) q
  exchange-leaf_set (star a) q = exchange-leaf_set a q

  pub exchange-leaf_holds : (r : Condition) (q e : ℕ) → leaf_holds (exchange c r) q e ≡ leaf_holds r q (swap c e)
  unfolding leaf_holds
  exchange-leaf_holds r q e = ap (λ (s : ℕ). has s e) (exchange-leaf_set r q) ∙ exchange-has c (leaf_set r q) e

  pub exchange-first : (r : Condition) (k : ℕ) → first (exchange c r) k ≡ first r k
  unfolding exchange first
  exchange-first (leaf s) k = refl
  exchange-first empty k = refl
  exchange-first (join a b) k =
      sides a _ _ (λ i. first a i) (λ i. nullable a && first b i) (exchange-first a)
      (λ i. ap₂ (λ (x y : Bool). x && y) (exchange-nullable a) (exchange-first b i))
      k
  exchange-first (either a b) k = sides a _ _ (λ i. first a i) (λ i. first b i) (exchange-first a) (exchange-first b) k
  exchange-first (star a) k = exchange-first a k

  pub exchange-last : (r : Condition) (k : ℕ) → last (exchange c r) k ≡ last r k
  unfolding exchange last
  exchange-last (leaf s) k = refl
  exchange-last empty k = refl
  exchange-last (join a b) k =
      sides a _ _ (λ i. last a i && nullable b) (λ i. last b i)
      (λ i. ap₂ (λ (x y : Bool). x && y) (exchange-last a i) (exchange-nullable b))
      (exchange-last b)
      k
  exchange-last (either a b) k = sides a _ _ (λ i. last a i) (λ i. last b i) (exchange-last a) (exchange-last b) k
  exchange-last (star a) k = exchange-last a k

  pub exchange-follow : (r : Condition) (p q : ℕ) → follow (exchange c r) p q ≡ follow r p q
  unfolding exchange follow
  exchange-follow (leaf s) p q = refl
  exchange-follow empty p q = refl
  exchange-follow (join a b) p q =
      sides a _ _ _ _
      (λ i. sides a _ _ (λ j. follow a i j) (λ j. last a i && first b j) (exchange-follow a i)
      (λ j. ap₂ (λ (x y : Bool). x && y) (exchange-last a i) (exchange-first b j))
      q)
      (λ i. sides a _ _ (λ j. false) (λ j. follow b i j) (λ j. refl) (exchange-follow b i) q)
      p
  exchange-follow (either a b) p q =
      sides a _ _ _ _
      (λ i. sides a _ _ (λ j. follow a i j) (λ j. false) (exchange-follow a i) (λ j. refl) q)
      (λ i. sides a _ _ (λ j. false) (λ j. follow b i j) (λ j. refl) (exchange-follow b i) q)
      p
  exchange-follow (star a) p q =
      ap₂ (λ (x y : Bool). x || y) (exchange-follow a p q) (ap₂ (λ (x y : Bool). x && y) (exchange-last a p) (exchange-first a q))

  pub exchange-follows : (r : Condition) (p q : ℕ) → follows (exchange c r) p q ≡ follows r p q
  unfolding follows
  exchange-follows r zero q = exchange-first r q
  exchange-follows r (suc p) q = exchange-follow r (suc p) q

  pub exchange-ends : (r : Condition) (p : ℕ) → ends (exchange c r) p ≡ ends r p
  unfolding ends
  exchange-ends r zero = exchange-nullable r
  exchange-ends r (suc p) = exchange-last r (suc p)
