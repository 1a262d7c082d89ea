-- The rule that a claim of the code stands for, and the claims of a list of rules by their numbers.
use Rattle.std.specs.Prelude.{ℕ, suc, ◌≤◌, ◌≡◌, List, [], ◌∷◌, drop, Option, Some, None}
use Rattle.std.proofs.Math.Option as math
use Rattle.condition.specs.Condition.{Condition, join}
use Rattle.sheet.specs.Reading.{last_channel}
use Rattle.runs.specs.Rules as runs
use Rattle.runs.specs.Rules.{◌is_in◌, holds_empty}
use Rattle.postfix.specs.declared.Part.{Part}
use Rattle.postfix.specs.Parts.{PartIs}
use Rattle.answers.specs.declared.Rule.{Rule}
use Rattle.answers.specs.Answers.{rule_number, rule_subject}
use Rattle.claims.specs.declared.Left.{Left}
use Rattle.claims.specs.declared.Left.TheVariants.{One, Two}
use Rattle.claims.specs.declared.Claim.{Claim}
use Rattle.claims.specs.declared.Claim.TheVariants.{Inclusion, HoldsEmpty}

-- the name is that of rule n about the method or step k
pub record RuleIs (x : Rule) (n k : ℕ) : Type 0 where
  pub number_is : rule_number x ≡ n
  pub subject_is : rule_subject x ≡ k

-- the rule that a name and a claim make
infix 20 ◌says◌
abbrev pub ◌says◌ : Rule → runs.Claim → runs.Rule
r says x = record { number = rule_number r; subject = rule_subject r; claim = x }

pub record JoinIs (s : List ℕ) (first second : Part) (c : Condition) : Type 0 where
  pub first_one : Condition
  pub second_one : Condition
  pub first_is : PartIs s first first_one
  pub second_is : PartIs s second second_one
  pub join_is : c ≡ join first_one second_one

-- the left of an inclusion is the condition c
abbrev pub LeftIs : List ℕ → Left → Condition → Type 0
LeftIs s (One part) c = PartIs s part c
LeftIs s (Two first second) c = JoinIs s first second c

pub record SaysInclusion (s : List ℕ) (r : Rule) (left : Left) (right : Part) (x : runs.Rule) : Type 0 where
  pub left_one : Condition
  pub right_one : Condition
  pub left_is : LeftIs s left left_one
  pub right_is : PartIs s right right_one
  pub rule_is : x ≡ (r says left_one is_in right_one)

pub record SaysEmpty (s : List ℕ) (r : Rule) (part : Part) (x : runs.Rule) : Type 0 where
  pub part_one : Condition
  pub part_is : PartIs s part part_one
  pub rule_is : x ≡ (r says holds_empty part_one)

-- the claim stands for the rule x, of the conditions that stand in the sheet's bytes
abbrev pub Says : List ℕ → Claim → runs.Rule → Type 0
Says s (Inclusion r left right) x = SaysInclusion s r left right x
Says s (HoldsEmpty r part) x = SaysEmpty s r part x

-- what is asked is a claim that stands for the rule x
abbrev pub Asks : List ℕ → Option Claim → runs.Rule → Type 0
Asks s (Some c) x = Says s c x
Asks s None x = ⊥

-- element n is x
abbrev pub NthIs : {A : Type 0} → List A → ℕ → A → Type 0
NthIs xs n x = drop n xs ≡ x ∷ drop (suc n) xs

-- what is asked by the number k of a list of rules: rule k, or nothing where there is none
pub data Kth (s : List ℕ) (xs : List runs.Rule) (k : ℕ) (a : Option Claim) : Type 0 where
  rule : (x : runs.Rule) → Asks s a x → NthIs xs k x → Kth s xs k a
  none_left : a ≡ None → drop k xs ≡ [] → Kth s xs k a

-- What a step raises: nothing, or a word of a condition t ---------------------------------------------------------------

pub record WordOf (s : List ℕ) (part : Part) (t : math.Option Condition) : Type 0 where
  pub raised_one : Condition
  pub raised_is : PartIs s part raised_one
  pub some_one : t ≡ math.some raised_one

abbrev pub RaisedIs : List ℕ → Option Part → math.Option Condition → Type 0
RaisedIs s None t = t ≡ math.none
RaisedIs s (Some part) t = WordOf s part t

-- the words of a, then what is raised; and what is raised, then the words of a
abbrev pub then_raised : Condition → math.Option Condition → Condition
then_raised a math.none = a
then_raised a (math.some t) = join a t

abbrev pub raised_then : math.Option Condition → Condition → Condition
raised_then math.none a = a
raised_then (math.some t) a = join t a

-- the channel on which a call reads what its method declares, as the code has it: 0 where the call names none
abbrev pub ChannelIs : math.Option ℕ → ℕ → Type 0
ChannelIs math.none k = k ≡ 0
ChannelIs (math.some c) k = (k ≡ c) × (c ≤ last_channel)
