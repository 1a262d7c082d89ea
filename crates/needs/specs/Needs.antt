-- How many rules there are, and how many certificates they need: "Rules 3, 5, 6 and 7 to 17 have a certificate each", and 18 to 23
-- and 26.
use Rattle.std.specs.Prelude.{◌≡◌, List, ℕ, length}
use Rattle.sheet.specs.Sheet.{Step, event_step, call_step, pass_step, stop_step, Sheet}
use Rattle.runs.specs.Rules.{Rule}
use Rattle.index.specs.declared.Index.{Index}
use Rattle.index.specs.Indexed.{CalledIn}
use Rattle.rules.specs.Order.{SheetIn}
use Rattle.verdict.specs.Verdict.{certificates_needed}
use Rattle.needs.specs.declared.Needs.{Needs}

-- the needs are those of the rules xs
pub record Needed (xs : List Rule) (n : Needs) : Type 0 where
  pub rules_are : n.rules ≡ length xs
  pub certificates_are : n.certificates ≡ certificates_needed xs

-- so many rules, each with a certificate
abbrev pub one_each : ℕ → Needs
one_each n = record { rules = n; certificates = n }

-- the method of a step that is a call is the one where the table says
abbrev pub CallIn : Sheet → (s methods : List ℕ) → Step → Type 0
CallIn S s methods (event_step p q a) = Unit {0}
CallIn S s methods (call_step t) = CalledIn S s methods t.method
CallIn S s methods (pass_step p q) = Unit {0}
CallIn S s methods (stop_step p) = Unit {0}

-- the index is one of the sheet S as far as methods and steps go, whatever its tables of conditions and of points have: these are not read
abbrev pub SubjectsOf : Sheet → Index → Type 0
SubjectsOf S x = (conditions : List ℕ) × (points : List ℕ) × SheetIn S x.sheet.now conditions points x.offsets.now.methods x.offsets.now.steps x.counts
