-- Clause 4 as it is tested with the tables of two sides: the events that the followers of a pair's place hold, and the pairs that serve them.
use Rattle.std.specs.Prelude.{◌≡◌, Bool, false, not, ◌&&◌, List, ◌⊎◌, ℕ, ◌≤◌, ◌<◌, length, get_or, T}
use Rattle.std.specs.Int.Bits.{bit_and}
use Rattle.bits.specs.Bits.{◌⇒◌, has, any_below}
use Rattle.certificate.specs.Certificate.{Certificate, pair_of, Finding, fault, in_order, unless}
use Rattle.bits.specs.Rows.{row_has}
use Rattle.looks.specs.declared.Search.{Search}
use Rattle.looks.specs.Looks.{IsReady, serves, misses}

-- Pairs that serve ------------------------------------------------------------------------------------------------------

-- one of the first j pairs serves the event e at place q
abbrev pub served_by : Certificate → ℕ → ℕ → List ℕ → ℕ → ℕ → ℕ → Bool
served_by c m onward sets j q e = any_below j (λ i. serves m onward sets q e (pair_of c i))

-- clause 4 of pair i at the event e: each follower that holds e, of n places, has a pair that serves it
abbrev pub clause4_by_tables : Certificate → ℕ → ℕ → ℕ → List ℕ → ℕ → ℕ → List ℕ → ℕ → Finding
clause4_by_tables c n i followers lsets m onward rsets e =
    in_order n (λ l. unless ((has followers l && row_has lsets l e) ⇒ served_by c m onward rsets (length c) l e) (fault 4 i e l))

-- What the search keeps -------------------------------------------------------------------------------------------------

-- the set has the places below n whose leaf holds one of the first events
pub record Active (sets : List ℕ) (n events set : ℕ) : Type 0 where
  pub is : (q : ℕ) → T (has set q) → q < n
  pub holds : (q e : ℕ) → q < n → e < events → T (row_has sets q e) → T (has set q)

-- a search is made ready for all pairs of a certificate, with the sets of the left side
pub record Scoped (x : Search) (lsets : List ℕ) : Type 0 where
  pub searched : IsReady x
  pub few_events : x.scope.events ≤ 64
  pub few_left : x.scope.n ≤ 64
  pub alive_is : Active lsets x.scope.n x.scope.events x.scope.alive

-- the rows of the places `missers` are the events of the mask that each holds
pub record Wanted (missers : ℕ) (sets : List ℕ) (mask : ℕ) (rows : List ℕ) : Type 0 where
  pub long : length rows ≡ 64
  pub row : (q : ℕ) → T (has missers q) → get_or rows q 0 ≡ bit_and (get_or sets q 0) mask

-- what the pairs leave: an event that is missing still was missing, and none of the pairs serves it; an event that was missing is missing
-- still, or one of the pairs serves it
pub record Served (c : Certificate) (m onward : ℕ) (sets : List ℕ) (missers : ℕ) (rows : List ℕ) (missers' : ℕ) (rows' : List ℕ) : Type 0 where
  pub long : length rows' ≡ 64
  pub was : (q e : ℕ) → T (misses missers' rows' q e) → T (misses missers rows q e)
  pub unmet : (q e : ℕ) → T (misses missers' rows' q e) → served_by c m onward sets (length c) q e ≡ false
  pub met : (q e : ℕ) → T (misses missers rows q e) → T (misses missers' rows' q e) ⊎ T (served_by c m onward sets (length c) q e)

-- A pair at which the next search may start: one of a place of the set `wanted`, whose set lies within the followers `onward`. Where none is
-- known it is the number of pairs.
pub record Hint (c : Certificate) (onward wanted k : ℕ) : Type 0 where
  pub bound : k ≤ length c
  pub wants : k < length c → T (has wanted (pair_of c k).place)
  pub lies : k < length c → bit_and (pair_of c k).set onward ≡ (pair_of c k).set

-- the fault of the lowest place below n that misses the event e
abbrev pub missing_at : ℕ → ℕ → ℕ → List ℕ → ℕ → Finding
missing_at n i missers rows e = in_order n (λ l. unless (not (misses missers rows l e)) (fault 4 i e l))
