-- The events that each place of a set holds, by the sets of the leaves, and a table of such events.
use Rattle.std.specs.Prelude.{◌≡◌, Bool, List, ℕ, ◌*◌, ◌/◌, ◌%◌, ◌^◌, ◌≤◌, ◌<◌, length}
use Rattle.bits.specs.Bits.{◌⇒◌, has, all_below}
use Rattle.bits.specs.Rows.{row_has}
use Rattle.certificate.specs.Certificate.{Certificate, pair_of}

-- each place of the set t below m holds the event e
abbrev pub all_hold : ℕ → List ℕ → ℕ → ℕ → Bool
all_hold m sets t e = all_below m (λ k. has t k ⇒ row_has sets k e)

-- how many rows the table has
abbrev pub table_rows : ℕ
table_rows = 384

-- the places that row j of a table for groups is for: of group g = j / 64, the places 6 g + b for each bit b of j % 64
abbrev pub group_set : ℕ → ℕ
group_set j = j % 64 * 2 ^ (6 * (j / 64))

-- of the rows, those below `count` are written: row i has the events e for which the test f i e passes
pub record Written (f : ℕ → ℕ → Bool) (count : ℕ) (rows : List ℕ) : Type 0 where
  pub long : length rows ≡ table_rows
  pub row : (i e : ℕ) → i < table_rows → i < count → e < 64 → row_has rows i e ≡ f i e

-- row i has the events that each place of pair i's set holds
abbrev pub PairRows : Certificate → ℕ → List ℕ → ℕ → List ℕ → Type 0
PairRows c m sets count rows = Written (λ i e. all_hold m sets (pair_of c i).set e) count rows

-- row j has the events that each place of its group's subset holds
abbrev pub GroupRows : ℕ → List ℕ → ℕ → List ℕ → Type 0
GroupRows m sets count rows = Written (λ j e. all_hold m sets (group_set j) e) count rows

-- what the rows are: by pairs where each pair has a row, else by groups
pub record Surveyed (c : Certificate) (m : ℕ) (sets rows : List ℕ) : Type 0 where
  pub long : length rows ≡ table_rows
  pub few : (i e : ℕ) → length c ≤ table_rows → i < length c → e < 64 → row_has rows i e ≡ all_hold m sets (pair_of c i).set e
  pub many : (j e : ℕ) → table_rows < length c → j < table_rows → e < 64 → row_has rows j e ≡ all_hold m sets (group_set j) e
