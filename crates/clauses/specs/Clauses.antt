-- The clauses of a certificate as they are tested with the tables of two sides.
use Rattle.std.specs.Prelude.{◌≡◌, List, ℕ, suc, ◌+◌, ◌*◌, ◌≤◌, ◌<◌, length}
use Rattle.condition.specs.Condition.{Condition}
use Rattle.certificate.specs.Certificate.{Certificate, pair_of, Finding, pair_finding}
use Rattle.sheet_laws.specs.AtOffset.{certificate_at}
use Rattle.places.specs.Tables.{Tables}
use Rattle.clause4.specs.Clause4.{Scoped}
use Rattle.clauses.specs.declared.Task.{Task}

-- The bytes of a certificate that passes, with its end: a pair is six, the end one. It has a pair, so it starts inside its part; all its pairs stand
-- there, and its end may be the end of the part.
pub record Spans (part : List ℕ) (bytes : ℕ) : Type 0 where
  pub bytes_are : bytes ≡ 6 * length (certificate_at part 0) + 1
  pub begins : 0 < length part
  pub ends : bytes ≤ length part + 1

-- clauses 2 to 4, pair by pair
abbrev pub each_pair : ℕ → Condition → Condition → Certificate → ℕ → Finding
each_pair events l g c i = pair_finding events l g c i (pair_of c i)

-- r is the number of places of a side with so many leaves, where these are as few as tables have, and else 63
pub record PlacesOf (leaves r : ℕ) : Type 0 where
  pub few : r < 64
  pub places_is : leaves ≤ 62 → r ≡ suc leaves
  pub most : 62 < leaves → r ≡ 63

-- l and g are the two sides of a task
pub record SidesAre (x : Task) (l g : Condition) : Type 0 where
  pub left_is : Tables l x.left_side x.left.now.follow x.left.now.sets
  pub right_is : Tables g x.right_side x.right.now.follow x.search.sets.now

-- the search of a task is made ready: its scope is that of the certificate and of the two sides
pub record Ready (x : Task) : Type 0 where
  pub scoped : Scoped x.search x.left.now.sets
  pub lefts : PlacesOf x.left_side.leaves x.search.scope.n
  pub rights : PlacesOf x.right_side.leaves x.search.scope.m
