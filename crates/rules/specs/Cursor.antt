-- Where a walk through the claims of a sheet is, and where it goes next.
use Rattle.std.specs.Prelude.{ℕ, suc, ◌+◌, ◌-◌, ◌*◌, ◌≤◌, ◌≡◌, List, [], ◌∷◌, ◌++◌, length, drop, Option, Some, None}
use Rattle.sheet.specs.Sheet.{Sheet}
use Rattle.runs.specs.Rules.{Rule}
use Rattle.claims.specs.declared.Claim.{Claim}
use Rattle.index.specs.declared.Counts.{Counts}
use Rattle.rules.specs.declared.cursor.Cursor.{Cursor}
use Rattle.claims.specs.Claims.{NthIs, Says}
use Rattle.rules.specs.Subjects.{ListedIs}
use Rattle.rules.specs.Order.{groups, most_rules, together}

-- xs are the rules whose claims come next: those that are left of the cursor's subject, and those of the subjects behind it
pub record LeftAt (s : List ℕ) (S : Sheet) (c : Cursor) (xs : List Rule) : Type 0 where
  pub own : List Rule
  pub subject_is : ListedIs s S c.subject own
  pub own_is : NthIs (groups S) c.number own
  pub within : c.k ≤ length own
  pub left_are : xs ≡ drop c.k own ++ together (drop (suc c.number) (groups S))

-- the claim is that of the first of the rules xs, and the others come next
pub record GoesOn (s : List ℕ) (S : Sheet) (xs : List Rule) (claim : Claim) (after : Cursor) : Type 0 where
  pub first : Rule
  pub others : List Rule
  pub says : Says s claim first
  pub rules_are : xs ≡ first ∷ others
  pub others_left : LeftAt s S after others

-- what comes next of the rules xs: the first one's claim, or none where there are no more
abbrev pub NextIs : List ℕ → Sheet → List Rule → Cursor → Option Claim → Type 0
NextIs s S xs after (Some claim) = GoesOn s S xs claim after
NextIs s S xs after None = (xs ≡ []) × LeftAt s S after xs

-- at most so many claims come next
abbrev pub weight : Counts → Cursor → ℕ
weight n c = most_rules * (n.methods + n.steps - c.number) + (most_rules - c.k)
