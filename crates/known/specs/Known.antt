-- What a search says of other pairs: clause 4 holds with these followers of a place and of a set.
use Rattle.std.specs.Prelude.{◌&&◌, List, ℕ, ◌≤◌, ◌<◌, length, T}
use Rattle.bits.specs.Bits.{◌⇒◌, has}
use Rattle.bits.specs.Rows.{row_has}
use Rattle.looks.specs.declared.Search.{Search}
use Rattle.looks.specs.Looks.{certificate_of}
use Rattle.clause4.specs.Clause4.{served_by}
use Rattle.known.specs.declared.Onward.{Onward}

-- clause 4 with these followers of a place and of a set: each event that a follower holds, of n places, is served
abbrev pub AllServed : Search → List ℕ → ℕ → ℕ → Type 0
AllServed x lsets followers onward =
    (e q : ℕ) → e < x.scope.events → q < x.scope.n
    → T ((has followers q && row_has lsets q e) ⇒ served_by (certificate_of x) x.scope.m onward x.sets.now (length (certificate_of x)) q e)

-- what a pair leaves for the next one: a number of a pair, or how many there are; and followers that are served
pub record Next (x : Search) (lsets : List ℕ) (o : Onward) : Type 0 where
  pub bound : o.start ≤ x.scope.count
  pub served : AllServed x lsets o.known.followers o.known.onward
