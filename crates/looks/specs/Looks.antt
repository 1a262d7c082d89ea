-- What a look at a pair says: the events that the pair serves, and what it leaves of those that are missing.
use Rattle.std.specs.Prelude.{◌≡◌, Bool, false, not, ◌&&◌, List, ℕ, ◌^◌, ◌≤◌, ◌<◌, length, T, eqb}
use Rattle.std.specs.Int.Bits.{bit_and}
use Rattle.bits.specs.Bits.{has}
use Rattle.bits.specs.Rows.{row_has}
use Rattle.certificate.specs.Certificate.{Pair, Certificate, pair_of}
use Rattle.sheet_laws.specs.AtOffset.{certificate_at}
use Rattle.meets.specs.Meets.{all_hold, Surveyed}
use Rattle.looks.specs.declared.Scope.{Scope}
use Rattle.looks.specs.declared.Search.{Search}

-- a set lies within the stepped set where it lies within the followers `onward`, and each of its places holds the event e
abbrev pub serving : ℕ → ℕ → List ℕ → ℕ → ℕ → Bool
serving m onward sets t e = eqb (bit_and t onward) t && all_hold m sets t e

-- a pair is one of place q with such a set
abbrev pub serves : ℕ → ℕ → List ℕ → ℕ → ℕ → Pair → Bool
serves m onward sets q e p = eqb p.place q && serving m onward sets p.set e

-- what a search goes by: how many pairs c has, and the rows that are kept of c
pub record Searched (c : Certificate) (x : Scope) (rsets rows : List ℕ) : Type 0 where
  pub count_is : x.count ≡ length c
  pub few_right : x.m ≤ 64
  pub kept_is : Surveyed c x.m rsets rows

-- the certificate that a search goes through
abbrev pub certificate_of : Search → Certificate
certificate_of x = certificate_at x.pairs.now 0

-- a search is made ready
abbrev pub IsReady : Search → Type 0
IsReady x = Searched (certificate_of x) x.scope x.sets.now x.rows.now

-- place q misses the event e: it is one of the places `missers`, and its row has e. Rows of other places say nothing.
abbrev pub misses : ℕ → List ℕ → ℕ → ℕ → Bool
misses missers rows q e = has missers q && row_has rows q e

-- the pairs from `from` on, below `to`, serve no event that the row of their place has
pub record Passed (c : Certificate) (m onward : ℕ) (sets rows : List ℕ) (from to : ℕ) : Type 0 where
  pub ahead : from ≤ to
  pub none : (j q e : ℕ) → from ≤ j → j < to → T (row_has rows q e) → serves m onward sets q e (pair_of c j) ≡ false

-- a pair of one of the places `missers`, whose set lies within the followers `onward`
pub record Takes (onward missers : ℕ) (p : Pair) : Type 0 where
  pub wants : T (has missers p.place)
  pub lies : bit_and p.set onward ≡ p.set

-- what the pair p leaves: the events that are missing still are those that it does not serve
pub record Left (m onward : ℕ) (sets : List ℕ) (p : Pair) (missers : ℕ) (rows : List ℕ) (missers' : ℕ) (rows' : List ℕ) : Type 0 where
  pub rows_long : length rows' ≡ 64
  pub missers_small : missers' < 2 ^ 64
  pub missers_among : (q : ℕ) → T (has missers' q) → T (has missers q)
  pub left_is : (q e : ℕ) → misses missers' rows' q e ≡ (misses missers rows q e && not (serves m onward sets q e p))
