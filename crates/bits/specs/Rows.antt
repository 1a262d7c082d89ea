-- Tables of sets, whose rows are sets, and the lowest number that passes a test.
use Rattle.std.specs.Prelude.{◌≡◌, Bool, true, false, cond, not, ◌&&◌, T, Option, Some, None, List, ℕ, ◌≤◌, ◌<◌, eqb, length, get_or}
use Rattle.std.specs.Int.Bits.{bit_or}
use Rattle.bits.specs.Bits.{has, any_below}

-- row q has the number k
abbrev pub row_has : List ℕ → ℕ → ℕ → Bool
row_has rows q k = has (get_or rows q 0) k

-- one of the rows below n whose numbers the set s has, has the number k
abbrev pub in_rows : List ℕ → ℕ → ℕ → ℕ → Bool
in_rows rows n s k = any_below n (λ p. has s p && row_has rows p k)

-- the rows whose numbers the set s has got the numbers of `more`
pub record Linked (s more : ℕ) (rows rows' : List ℕ) : Type 0 where
  pub linked_rows : length rows' ≡ 64
  pub linked_is : (p : ℕ) → p < 64 → get_or rows' p 0 ≡ bit_or (get_or rows p 0) (cond (has s p) more 0)

-- row k of `holding` has those of the rows from 1 to n that have the number k, for each k below m
pub record Holding (rows : List ℕ) (n m : ℕ) (holding : List ℕ) : Type 0 where
  pub holding_rows : length holding ≡ 64
  pub holding_is : (k q : ℕ) → k < m → 0 < q → q ≤ n → row_has holding k q ≡ row_has rows q k

-- row p of `unions` is the union of the rows below n whose numbers row p of `sets` has
pub record Unions (rows : List ℕ) (n : ℕ) (sets unions : List ℕ) : Type 0 where
  pub sets_long : length sets ≡ 64
  pub unions_long : length unions ≡ 64
  pub united : (p k : ℕ) → p < 64 → row_has unions p k ≡ in_rows rows n (get_or sets p 0) k

-- r is the lowest number below n that passes the test f
pub record LowestIs (n : ℕ) (f : ℕ → Bool) (r : ℕ) : Type 0 where
  pub bound : r < n
  pub before : (k : ℕ) → k < r → f k ≡ false
  pub stops : f r ≡ true

-- the lowest number below n that passes the test f, where one does
abbrev pub IsLowest : ℕ → (ℕ → Bool) → Option ℕ → Type 0
IsLowest n f None = (k : ℕ) → k < n → f k ≡ false
IsLowest n f (Some r) = LowestIs n f r

-- p is the lowest number of the set x, and y is x without it
pub record Taken (x p y : ℕ) : Type 0 where
  pub here : T (has x p)
  pub below : (i : ℕ) → i < p → has x i ≡ false
  pub without : (i : ℕ) → has y i ≡ (has x i && not (eqb i p))

-- from the set x its lowest number is taken, and y is left; none is taken from the empty set
abbrev pub TakesLowest : ℕ → Option ℕ → ℕ → Type 0
TakesLowest x None y = (x ≡ 0) × (y ≡ 0)
TakesLowest x (Some p) y = (p < 64) × Taken x p y
