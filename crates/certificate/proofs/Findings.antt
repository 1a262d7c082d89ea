-- When tests in order find nothing wrong, and which fault they find first.
use mathlib.Core.Path.{◌≡◌, refl, ap₂}
use mathlib.Core.Bool.{Bool, true, false}
use mathlib.Core.Logic.{⊎_elim}
use Prim.Native.Nat.{ℕ, zero, suc, ◌<◌}
use native.Mathlib.Nat.{not-suc-le-zero, le_of_suc-le-suc, le_refl, eq-or-lt_of_le}
use native.Mathlib.Omega.{arith}
use lib.Dec.{T}
use Rattle.certificate.specs.Certificate.{Fault, Finding, fine, found, ◌then◌, in_order, unless}

-- the finding is no fault
abbrev pub Fine : Finding → Type 0
Fine fine = Unit {0}
Fine (found x) = ⊥

pub fine-is : (v : Finding) → Fine v → v ≡ fine
fine-is fine h = refl
fine-is (found x) h = absurd h

pub is-fine : (v : Finding) → v ≡ fine → Fine v
is-fine v h = rw h tt

pub then-out : (u v : Finding) → Fine (u then v) → Fine u × Fine v
then-out fine v h = (tt, h)
then-out (found x) v h = absurd h

pub then-in : (u v : Finding) → Fine u → Fine v → Fine (u then v)
then-in fine v h k = k
then-in (found x) v h k = absurd h

pub unless-out : (b : Bool) (x : Fault) → Fine (unless b (found x)) → T b
unless-out true x h = tt
unless-out false x h = absurd h

pub unless-in : (b : Bool) (v : Finding) → T b → Fine (unless b v)
unless-in true v h = tt
unless-in false v h = absurd h

pub in_order-out : (n : ℕ) (f : ℕ → Finding) → Fine (in_order n f) → (k : ℕ) → k < n → Fine (f k)
unfolding in_order
in_order-out zero f h k l = absurd (not-suc-le-zero l)
in_order-out (suc n) f h k l =
    let r = then-out (in_order n f) (f n) h in
    ⊎_elim (λ (e : k ≡ n). rw e r.1) (λ l. in_order-out n f r.0 k l) (eq-or-lt_of_le (le_of_suc-le-suc l))

pub in_order-in : (n : ℕ) (f : ℕ → Finding) → ((k : ℕ) → k < n → Fine (f k)) → Fine (in_order n f)
unfolding in_order
in_order-in zero f h = tt
in_order-in (suc n) f h = then-in (in_order n f) (f n) (in_order-in n f (λ k l. h k (omega arith))) (h n (le_refl (suc n)))

-- tests that find the same find the same first
pub in_order-cong : (n : ℕ) (f g : ℕ → Finding) → ((k : ℕ) → k < n → f k ≡ g k) → in_order n f ≡ in_order n g
unfolding in_order
in_order-cong zero f g h = refl
in_order-cong (suc n) f g h =
    ap₂ (λ (u v : Finding). u then v) (in_order-cong n f g (λ k l. h k (omega arith))) (h n (le_refl (suc n)))

-- where the tests before k find nothing wrong and test k finds a fault, that fault is the first of all n
pub in_order-stops : (n : ℕ) (f : ℕ → Finding) (k : ℕ) → k < n → Fine (in_order k f)
    → (x : Fault) → f k ≡ found x → in_order n f ≡ found x
unfolding in_order
in_order-stops zero f k h o v g = absurd (not-suc-le-zero h)
in_order-stops (suc n) f k h o v g =
    ⊎_elim
    (λ (x : k ≡ n). let p : in_order n f ≡ fine = rw x at (fine-is (in_order k f) o) in rw (p, (rw x at g)))
    (λ (x : k < n). rw (in_order-stops n f k x o v g))
    (eq-or-lt_of_le (le_of_suc-le-suc h))
