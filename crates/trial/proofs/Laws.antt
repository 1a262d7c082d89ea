-- What the test of one rule comes to.
use mathlib.Core.Path.{◌≡◌, sym, ap, ◌∙◌, subst}
use mathlib.Core.Bool.{Bool}
use mathlib.Core.List.{List, [], ◌∷◌}
use Prim.Native.Nat.{ℕ}
use Rattle.std.specs.Prelude.{Result}
use Rattle.bits.specs.Bits.{has}
use Rattle.condition.specs.Condition.{Condition}
use Rattle.condition.specs.Places.{nullable, ends}
use Rattle.certificate.specs.Certificate.{Finding, fault, unless}
use Rattle.sheet_laws.specs.AtOffset.{certificate_at}
use Rattle.runs.specs.Rules as runs
use Rattle.verdict.specs.Verdict.{test_of}
use Rattle.items.specs.declared.Places.{Places}
use Rattle.places.specs.declared.Side.{Side}
use Rattle.places.specs.Tables.{Tables}
use Rattle.answers.specs.declared.Rule.{Rule}
use Rattle.index.specs.Trial.{passed, after_certificate, after_test, try_rules}
use Rattle.index.proofs.Trial.{trial-one}
use Rattle.sides.specs.declared.Question.{Question}
use Rattle.sides.specs.declared.Question.TheVariants.{Inclusion, HoldsEmpty}
use Rattle.sides.specs.Questions.{AsksInclusion, AsksEmpty, QuestionIs}
use Rattle.trial.specs.declared.Failure.{Failure}
use Rattle.trial.specs.Tested.{Tries}

-- a question by its variants
module _ (p p' : Places) (x : runs.Rule) {q : Question} {r : Rule} where
  pub asks-inclusion : {left right : Side} → q ≡ Inclusion r left right → QuestionIs p p' q x → AsksInclusion p p' r left right x
  asks-inclusion e h = subst (λ (q : Question). QuestionIs p p' q x) e h

  pub asks-empty : {side : Side} → q ≡ HoldsEmpty r side → QuestionIs p p' q x → AsksEmpty p r side x
  asks-empty e h = subst (λ (q : Question). QuestionIs p p' q x) e h

-- the trial of one rule, by what its test finds
pub trial-finds : (events : ℕ) (s : List ℕ) (x : runs.Rule) (from : ℕ) (f : Finding) → f ≡ test_of events x.claim (certificate_at s from)
    → after_test x f (passed (after_certificate s x.claim from)) ≡ try_rules events s (x ∷ []) from
trial-finds events s x from f e = ap (λ (f : Finding). after_test x f (passed (after_certificate s x.claim from))) e ∙ sym (trial-one events s x from)

-- the empty word, by place 0
pub ends-empty : (a : Condition) (side : Side) (follow sets : List ℕ) → Tables a side follow sets → (b : Bool) → has side.ends 0 ≡ b
    → unless b (fault 5 0 0 0) ≡ unless (nullable a) (fault 5 0 0 0)
unfolding ends
ends-empty a side follow sets t b e = ap (λ (b : Bool). unless b (fault 5 0 0 0)) (sym e ∙ t.ends_is 0)

-- the answer for a rule, by what the rule is
pub tries-as : {events : ℕ} {s : List ℕ} {x y : runs.Rule} {from : ℕ} {answer : Result ℕ Failure} → x ≡ y → Tries events s (y ∷ []) from answer → Tries events s (x ∷ []) from answer
tries-as {events} {s} {from = from} {answer} e h = subst (λ (r : runs.Rule). Tries events s (r ∷ []) from answer) (sym e) h
