-- The pairs that a search has seen: first those from `start` to the last, then those from the first to `start`. It stands at number i, on the way to `to`.
use mathlib.Core.Path.{◌≡◌, refl}
use mathlib.Core.Bool.{Bool, true, false, cond}
use mathlib.Core.Logic.{◌⊎◌, inl, inr, ⊎_elim}
use Prim.Native.Nat.{ℕ, suc, ◌+◌, ◌-◌, ◌≤◌, ◌<◌}
use native.Mathlib.Omega.{arith}
use lib.Dec.{eqb, ltb}
use borrow.Author.Tests.{ltb-true, ltb-false}

-- where a search stands: on the way to the last pair, or to the one at which it started
pub record Stands (start count i to : ℕ) : Type 0 where
  pub inside : start ≤ count
  pub reached : i ≤ to
  pub way : ((to ≡ count) × (start ≤ i)) ⊎ (to ≡ start)

-- what holds of the pairs that are seen
pub record Seen (P : ℕ → Type 0) (start count i to : ℕ) : Type 0 where
  pub ahead : (j : ℕ) → start ≤ j → j < i → P j
  pub turned : to ≡ start → (j : ℕ) → start ≤ j → j < count → P j
  pub behind : to ≡ start → (j : ℕ) → j < i → P j

module _ {start count : ℕ} where
  module _ {i to : ℕ} (s : Stands start count i to) where
    pub stands-within : to ≤ count
    stands-within = let l = s.inside in ⊎_elim (λ u. let e = u.0 in omega arith) (λ e. omega arith) s.way

    pub stands_on : {k : ℕ} → i ≤ k → k ≤ to → Stands start count k to
    stands_on {k} h l = record { inside = s.inside; reached = l; way = ⊎_elim (λ u. inl (u.0, let b = u.1 in omega arith)) (λ e. inr e) s.way }

module _ {P : ℕ → Type 0} {start count : ℕ} where
  module _ {i to : ℕ} (s : Seen P start count i to) where
    -- the pairs from i on, below k
    pub seen-on : {k : ℕ} → ((j : ℕ) → i ≤ j → j < k → P j) → Seen P start count k to
    seen-on {k} more = record {
      ahead = λ j h l. go j (s.ahead j h) l;
      turned = s.turned;
      behind = λ e j l. go j (s.behind e j) l;
    }
      where
        go : (j : ℕ) → (j < i → P j) → j < k → P j
        go j known l = by (ltb j i) refl
          where
            by : (b : Bool) → ltb j i ≡ b → P j
            by true y = known (ltb-true j i y)
            by false y = more j (ltb-false j i y) l

    -- the pair at which it started is reached again
    pub seen_all : to ≡ start → to ≤ i → (j : ℕ) → j < count → P j
    seen_all e l j h = by (ltb j start) refl
      where
        by : (b : Bool) → ltb j start ≡ b → P j
        by true y = let k = ltb-true j start y in s.behind e j (omega arith)
        by false y = s.turned e j (ltb-false j start y) h

-- how many steps of the search are left: the pairs on the way, and, where it has not turned, those before `start` and the turn
abbrev pub to_see : ℕ → ℕ → ℕ → ℕ
to_see start i to = to - i + cond (eqb to start) 0 (suc start)
