-- The exchange of two channels, for every channel c: of events, of sets of events, and of such a set as a machine word.
use mathlib.Core.Path.{◌≡◌, refl, sym, ap, ap₂, ◌∙◌, subst}
use mathlib.Core.Bool.{Bool, true, false, xor}
use mathlib.Core.Logic.{◌≢◌}
use Prim.Native.Nat.{ℕ, zero, suc, ◌+◌, ◌-◌, ◌*◌, ◌/◌, ◌%◌, ◌^◌, ◌≤◌, ◌<◌}
use native.Mathlib.Nat.{mod-lt, zero-mod, div-one}
use native.Mathlib.Omega.{arith}
use native.Mathlib.Decide.{dec_le, ℕ_discrete}
use lib.Bits.{bit_xor, xor_self, xor_zero_r}
use lib.Pow.{pow_pos, shl_exact}
use borrow.Author.Tests.{eq-eqb, ne_eqb}
use Rattle.bits.specs.Bits.{has, set_of}
use Rattle.bits.proofs.Tests.{T-ext}
use Rattle.bits.proofs.Sets.{has-none, has-lt, set-in, set-lt}
use Rattle.bits.proofs.Masks.{has-xor, bits-ext}
use Rattle.bits.proofs.Bitwise.{lt-has}
use Rattle.bits.proofs.Shifts.{has-shr, has-mod, has-high, has-low-part, has-shl-low, has-shl-high}
use Rattle.condition.specs.Exchange.{swap_channel, swap, exchange_set}

-- Events ----------------------------------------------------------------------------------------------------------------

-- the event f is e with channel 0 and channel c exchanged
pub data Swapped (c e f : ℕ) : Type 0 where
  to_channel : e < 16 → f ≡ 16 * c + e → Swapped c e f
  from_channel : e / 16 ≡ c → f ≡ e % 16 → Swapped c e f
  unmoved : 16 ≤ e → e / 16 ≢ c → f ≡ e → Swapped c e f

-- what becomes of channel 0, of channel c, and of the others
first-channel : (c k : ℕ) → k ≡ 0 → swap_channel c k ≡ c
unfolding swap_channel
first-channel c k e = simp (eq-eqb k 0 e)

own-channel : (c k : ℕ) → k ≢ 0 → k ≡ c → swap_channel c k ≡ 0
unfolding swap_channel
own-channel c k d e = simp (ne_eqb k 0 d, eq-eqb k c e)

other-channel : (c k : ℕ) → k ≢ 0 → k ≢ c → swap_channel c k ≡ k
unfolding swap_channel
other-channel c k d e = simp (ne_eqb k 0 d, ne_eqb k c e)

-- an event that goes to channel k keeps its number there
swap-to : (c e k : ℕ) → swap_channel c (e / 16) ≡ k → swap c e ≡ 16 * k + e % 16
unfolding swap
swap-to c e k h = omega (arith, h)

pub swapped : (c e : ℕ) → Swapped c e (swap c e)
swapped c e = go (ℕ_discrete (e / 16) 0) (ℕ_discrete (e / 16) c)
  where
    go : Dec (e / 16 ≡ 0) → Dec (e / 16 ≡ c) → Swapped c e (swap c e)
    go (yes x) b = let f = swap-to c e c (first-channel c (e / 16) x) in to_channel (omega arith) (omega arith)
    go (no x) (yes y) = let f = swap-to c e 0 (own-channel c (e / 16) x y) in from_channel y (omega arith)
    go (no x) (no y) = let f = swap-to c e (e / 16) (other-channel c (e / 16) x y) in unmoved (omega arith) y (omega arith)

module _ {c e f : ℕ} where
  twice : {g : ℕ} → Swapped c e f → Swapped c f g → g ≡ e
  twice (to_channel a b) (to_channel x y) = omega arith
  twice (to_channel a b) (from_channel x y) = omega arith
  twice (to_channel a b) (unmoved x z y) = omega arith
  twice (from_channel a b) (to_channel x y) = omega arith
  twice (from_channel a b) (from_channel x y) = omega arith
  twice (from_channel a b) (unmoved x z y) = omega arith
  twice (unmoved a d b) (to_channel x y) = omega arith
  twice (unmoved a d b) (from_channel x y) = omega arith
  twice (unmoved a d b) (unmoved x z y) = omega arith

  -- events above channel c stay, and those up to it stay up to it
  above : Swapped c e f → 16 * suc c ≤ e → f ≡ e
  above (to_channel a b) l = omega arith
  above (from_channel a b) l = omega arith
  above (unmoved a d b) l = b

  stays-below : {n : ℕ} → Swapped c e f → 16 * suc c ≤ n → e < n → f < n
  stays-below (to_channel a b) l h = omega arith
  stays-below (from_channel a b) l h = omega arith
  stays-below (unmoved a d b) l h = omega arith

pub swap-swap : (c e : ℕ) → swap c (swap c e) ≡ e
swap-swap c e = twice (swapped c e) (swapped c (swap c e))

-- channel 0 exchanged with itself changes nothing
pub swap-zero : (e : ℕ) → swap 0 e ≡ e
swap-zero e = go (swapped 0 e)
  where
    go : Swapped 0 e (swap 0 e) → swap 0 e ≡ e
    go (to_channel a b) = omega arith
    go (from_channel a b) = omega arith
    go (unmoved a d b) = b

-- an event is below n exactly where its exchanged one is
pub swap-lt : (c n e : ℕ) → 16 * suc c ≤ n → e < n → swap c e < n
swap-lt c n e l h = stays-below (swapped c e) l h

pub lt-swap : (c n e : ℕ) → 16 * suc c ≤ n → swap c e < n → e < n
lt-swap c n e l h = subst (λ (x : ℕ). x < n) (swap-swap c e) (swap-lt c n (swap c e) l h)

-- Sets ------------------------------------------------------------------------------------------------------------------

module _ (c s : ℕ) where
  -- the events up to channel c, and the exchanged set's part of them
  abbrev bound : ℕ
  bound = 16 * suc c

  abbrev lower : ℕ
  lower = set_of bound (λ e. has s (swap c e))

  lower-lt : lower < 2 ^ bound
  lower-lt = set-lt bound (λ e. has s (swap c e))

  has_above : (j : ℕ) → has (exchange_set c s) (bound + j) ≡ has s (bound + j)
  unfolding exchange_set
  has_above j = has-high _ bound lower lower-lt j ∙ has-shr s bound j

  has-up-to : (e : ℕ) → e < bound → has (exchange_set c s) e ≡ has s (swap c e)
  unfolding exchange_set
  has-up-to e l = has-low-part _ bound lower lower-lt e l ∙ set-in bound (λ e. has s (swap c e)) e l

  -- the set exchanged has the event e where the set has the event exchanged
  pub exchange-has : (e : ℕ) → has (exchange_set c s) e ≡ has s (swap c e)
  exchange-has e = go (dec_le bound e)
    where
      go : Dec (bound ≤ e) → has (exchange_set c s) e ≡ has s (swap c e)
      go (yes l) =
          let j = e - bound in
          let k : e ≡ bound + j = omega arith in
          ap (λ (x : ℕ). has (exchange_set c s) x) k ∙ has_above j ∙ ap (λ (x : ℕ). has s x) (sym k ∙ sym (above (swapped c e) l))
      go (no l) = has-up-to e (omega arith)

pub exchange-twice : (c s : ℕ) → exchange_set c (exchange_set c s) ≡ s
exchange-twice c s =
    bits-ext (exchange_set c (exchange_set c s)) s
    (λ e. exchange-has c (exchange_set c s) e ∙ exchange-has c s (swap c e) ∙ ap (λ (x : ℕ). has s x) (swap-swap c e))

pub exchange-none : (c : ℕ) → exchange_set c 0 ≡ 0
exchange-none c = bits-ext (exchange_set c 0) 0 (λ e. exchange-has c 0 e ∙ has-none (swap c e) ∙ sym (has-none e))

pub exchange-lt : (c n s : ℕ) → 16 * suc c ≤ n → s < 2 ^ n → exchange_set c s < 2 ^ n
exchange-lt c n s l b = lt-has n (exchange_set c s) (λ e t. lt-swap c n e l (has-lt n s (swap c e) b (rw (exchange-has c s e) at t)))

-- The machine's exchange ------------------------------------------------------------------------------------------------

-- where channel 0 and channel c differ, as a set of channel 0: `(s ^ s >> 16 * c) % 65536`
abbrev pub difference : ℕ → ℕ → ℕ
difference c s = bit_xor s (s / 2 ^ (16 * c)) % 65536

-- the two channels exchanged by their difference d, in words of n bits: `s ^ d ^ d << 16 * c`
abbrev pub exchanged_word : ℕ → ℕ → ℕ → ℕ
exchanged_word n c s = bit_xor (bit_xor s (difference c s)) (difference c s * 2 ^ (16 * c) % 2 ^ n)

xor-cancel-left : (a b : Bool) → xor (xor a (xor a b)) false ≡ b
unfolding xor
xor-cancel-left true true = refl
xor-cancel-left true false = refl
xor-cancel-left false true = refl
xor-cancel-left false false = refl

xor-cancel-right : (a b : Bool) → xor (xor a false) (xor b a) ≡ b
unfolding xor
xor-cancel-right true true = refl
xor-cancel-right true false = refl
xor-cancel-right false true = refl
xor-cancel-right false false = refl

xor_nothing : (a : Bool) → xor (xor a false) false ≡ a
unfolding xor
xor_nothing true = refl
xor_nothing false = refl

module _ (c s : ℕ) where
  difference_low : (e : ℕ) → e < 16 → has (difference c s) e ≡ xor (has s e) (has s (16 * c + e))
  difference_low e l =
      has-mod (bit_xor s (s / 2 ^ (16 * c))) 16 e l
      ∙ has-xor s (s / 2 ^ (16 * c)) e
      ∙ ap (λ (b : Bool). xor (has s e) b) (has-shr s (16 * c) e)

  difference-lt : difference c s < 2 ^ 16
  difference-lt = mod-lt (bit_xor s (s / 2 ^ (16 * c))) (pow_pos 16)

  difference-high : (e : ℕ) → 16 ≤ e → has (difference c s) e ≡ false
  difference-high e l =
      T-ext (has (difference c s) e) false (λ t. let h = has-lt 16 (difference c s) e difference-lt t in absurd (omega arith)) (λ t. absurd t)

  -- the difference shifted up
  abbrev shifted : ℕ
  shifted = difference c s * 2 ^ (16 * c)

  shifted-high : (j e : ℕ) → e ≡ 16 * c + j → has shifted e ≡ has (difference c s) j
  shifted-high j e k = ap (λ (x : ℕ). has shifted x) k ∙ has-shl-high (difference c s) (16 * c) j

  abbrev Moved : ℕ → ℕ → Type 0
  Moved e f = xor (xor (has s e) (has (difference c s) e)) (has shifted e) ≡ has s f

  moved : (e f : ℕ) → Swapped c e f → 0 < c → Moved e f
  moved e f (to_channel a b) l =
      ap₂ (λ (x y : Bool). xor (xor (has s e) x) y) (difference_low e a) (has-shl-low (difference c s) (16 * c) e (omega arith))
      ∙ xor-cancel-left (has s e) (has s (16 * c + e))
      ∙ ap (λ (x : ℕ). has s x) (sym b)
  moved e f (from_channel a b) l =
      let k : e ≡ 16 * c + f = omega arith in
      ap₂ (λ (x y : Bool). xor (xor (has s e) x) y) (difference-high e (omega arith)) (shifted-high f e k ∙ difference_low f (omega arith))
      ∙ ap (λ (x : ℕ). xor (xor (has s e) false) (xor (has s f) (has s x))) (sym k)
      ∙ xor-cancel-right (has s e) (has s f)
  moved e f (unmoved a d b) l = go (dec_le (16 * c) e)
    where
      go : Dec (16 * c ≤ e) → Moved e f
      go (yes m) =
          let j = e - 16 * c in
          let k : e ≡ 16 * c + j = omega arith in
          ap₂ (λ (x y : Bool). xor (xor (has s e) x) y) (difference-high e a) (shifted-high j e k ∙ difference-high j (omega arith))
          ∙ xor_nothing (has s e)
          ∙ ap (λ (x : ℕ). has s x) (sym b)
      go (no m) =
          ap₂ (λ (x y : Bool). xor (xor (has s e) x) y) (difference-high e a) (has-shl-low (difference c s) (16 * c) e (omega arith))
          ∙ xor_nothing (has s e)
          ∙ ap (λ (x : ℕ). has s x) (sym b)

  word-is : (n : ℕ) → 16 + 16 * c ≤ n → exchanged_word n c s ≡ bit_xor (bit_xor s (difference c s)) shifted
  word-is n l = ap (λ (x : ℕ). bit_xor (bit_xor s (difference c s)) x) (shl_exact 16 (16 * c) n difference-lt l)

  word-has : (n : ℕ) → 16 + 16 * c ≤ n → 0 < c → (e : ℕ) → has (exchanged_word n c s) e ≡ has s (swap c e)
  word-has n l h e =
      ap (λ (x : ℕ). has x e) (word-is n l)
      ∙ has-xor (bit_xor s (difference c s)) shifted e
      ∙ ap (λ (b : Bool). xor b (has shifted e)) (has-xor s (difference c s) e)
      ∙ moved e (swap c e) (swapped c e) h

-- channel 0 does not differ from itself
difference-zero : (s : ℕ) → difference 0 s ≡ 0
difference-zero s = ap (λ (x : ℕ). bit_xor s x % 65536) (div-one s) ∙ ap (λ (x : ℕ). x % 65536) (xor_self s)

pub exchange-zero : (s : ℕ) → exchange_set 0 s ≡ s
exchange-zero s = bits-ext (exchange_set 0 s) s (λ e. exchange-has 0 s e ∙ ap (λ (x : ℕ). has s x) (swap-zero e))

-- the machine's exchange is the exchange, where the words have channel c
pub exchange-word : (n c s : ℕ) → 16 * suc c ≤ n → exchanged_word n c s ≡ exchange_set c s
exchange-word n zero s l =
    ap (λ (d : ℕ). bit_xor (bit_xor s d) (d * 1 % 2 ^ n)) (difference-zero s)
    ∙ ap (λ (x : ℕ). bit_xor (bit_xor s 0) x) (zero-mod (2 ^ n))
    ∙ xor_zero_r (bit_xor s 0)
    ∙ xor_zero_r s
    ∙ sym (exchange-zero s)
exchange-word n (suc c) s l =
    bits-ext (exchanged_word n (suc c) s) (exchange_set (suc c) s)
    (λ e. word-has (suc c) s n (omega arith) (omega arith) e ∙ sym (exchange-has (suc c) s e))

pub exchanged-has : (n c s : ℕ) → 16 * suc c ≤ n → (e : ℕ) → has (exchanged_word n c s) e ≡ has s (swap c e)
exchanged-has n c s l e = ap (λ (x : ℕ). has x e) (exchange-word n c s l) ∙ exchange-has c s e
