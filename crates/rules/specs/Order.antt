-- The rules of a sheet, subject after subject in the order of testing.
use Rattle.std.specs.Prelude.{ℕ, suc, ◌≡◌, length}
use mathlib.Core.List.{List, [], ◌∷◌, ◌++◌, map}
use Rattle.sheet.specs.Sheet.{Method, Step, Sheet}
use Rattle.runs.specs.Rules.{Rule, first_rules, method_rules, step_rules}
use Rattle.index.specs.Indexed.{Indexes}
use Rattle.index.specs.declared.Counts.{Counts}
use Rattle.index.specs.declared.Index.{Index}

module _ (S : Sheet) where
  -- from the number k on
  unfoldable pub method_groups : List ℕ → ℕ → List Method → List (List Rule)
  method_groups starts k [] = []
  method_groups starts k (m ∷ ms) = method_rules S starts k m.body ∷ method_groups starts (suc k) ms

  -- the same of steps
  unfoldable pub step_groups : ℕ → List Step → List (List Rule)
  step_groups k [] = []
  step_groups k (t ∷ ts) = step_rules S k t ∷ step_groups (suc k) ts

  -- "They are tested in this order: 1, 2, methods ascending, steps ascending": the rules of each subject, where runs start at the methods of a list
  unfoldable pub groups_from : List ℕ → List (List Rule)
  unfolding method_groups step_groups
  groups_from starts = map (first_rules S) starts ++ (method_groups starts 0 S.methods ++ step_groups 0 S.steps)

  -- document 01's runs start at method 0
  unfoldable pub groups : List (List Rule)
  unfolding groups_from
  groups = groups_from (0 ∷ [])

-- no subject has more rules
abbrev pub most_rules : ℕ
most_rules = 10

-- all elements of the lists, one list after the other
unfoldable pub together : {A : Type 0} → List (List A) → List A
together [] = []
together (xs ∷ xss) = xs ++ together xss

-- the tables lead to the sheet S, which has so many methods and steps
pub record SheetIn (S : Sheet) (s conditions points methods steps : List ℕ) (n : Counts) : Type 0 where
  pub indexes : Indexes S s conditions points methods steps
  pub methods_are : n.methods ≡ length S.methods
  pub steps_are : n.steps ≡ length S.steps

-- the index of the code is one of the sheet S
abbrev pub IndexOf : Sheet → Index → Type 0
IndexOf S x = SheetIn S x.sheet.now x.offsets.now.conditions x.points.now x.offsets.now.methods x.offsets.now.steps x.counts
