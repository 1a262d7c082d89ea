-- A list of numbers is bytes, and has no byte above a kind, by evaluation.
use mathlib.Core.Bool.{Bool, true, ◌&&◌}
use mathlib.Core.List.{List, [], ◌∷◌}
use Prim.Native.Nat.{ℕ, suc, ◌<◌}
use native.Mathlib.Omega.{arith}
use lib.ListN.{get_or}
use lib.Dec.{T, ltb, ltb→lt}
use Rattle.bits.proofs.Tests.{and-out}
use Rattle.sheet.specs.Each.{Each, nil, cons}
use Rattle.sheet.specs.Record.{Bytes}
use Rattle.sheet.proofs.Each.{each-get_or}

unfoldable pub all_below : ℕ → List ℕ → Bool
all_below n [] = true
all_below n (b ∷ s) = ltb b n && all_below n s

each_below : (n : ℕ) (s : List ℕ) → T (all_below n s) → Each (λ b. b < n) s
unfolding all_below
each_below n [] h = nil
each_below n (b ∷ s) h = let (x, y) = and-out (ltb b n) (all_below n s) h in cons (ltb→lt b n x) (each_below n s y)

pub none_above : (n : ℕ) (s : List ℕ) → T (all_below (suc n) s) → (i : ℕ) → get_or s i 0 < suc n
none_above n s h = each-get_or (λ b. b < suc n) (each_below (suc n) s h) 0 (omega arith)

unfoldable pub small : List ℕ → Bool
unfolding all_below
small s = all_below 256 s

pub are-bytes : (s : List ℕ) → T (small s) → Bytes s
unfolding small
are-bytes s h = none_above 255 s h
