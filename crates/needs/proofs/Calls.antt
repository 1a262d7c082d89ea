-- The needs of a call: those of its rules before 26, and of 26 where it is asked. The method that it calls is where the table says.
use mathlib.Core.Path.{◌≡◌, refl, ap, subst}
use mathlib.Core.Option.{Option}
use mathlib.Core.List.{List, ◌∷◌, ◌++◌}
use Prim.Native.Nat.{ℕ, ◌+◌, ◌<◌}
use native.Mathlib.Omega.{arith}
use lib.ListN.{length, length-append, get_or}
use Rattle.sheet.specs.Sheet as sheet
use Rattle.sheet.specs.Sheet.{normal, failed, CallStep, event_step, call_step, pass_step, stop_step, Sheet, past, pre, on_channel}
use Rattle.sheet_laws.specs.AtOffset.{step_at}
use Rattle.sheet_laws.specs.Names.{StepNamed}
use Rattle.runs.specs.Rules.{Rule, ◌of◌says◌, ◌is_in◌, if_any, return_rules, entry_asked, entry_rules, step_rules, how_many, total}
use Rattle.verdict.specs.Verdict.{certificates_needed}
use Rattle.values.specs.declared.Step.{Step}
use Rattle.values.specs.Values.{step_value}
use Rattle.std.specs.Prelude as code
use Rattle.format.specs.Options.{option_of}
use Rattle.index.proofs.Indexed.{called-in}
use Rattle.index.specs.declared.Counts.{Counts}
use Rattle.rules.specs.Order.{SheetIn}
use Rattle.rules.proofs.Decoded.{named}
use Rattle.needs.specs.declared.Needs.{Needs}
use Rattle.needs.specs.Needs.{Needed, one_each, CallIn}
use Rattle.needs.proofs.Summed.{append-needed, needed-as}

module _ (S : Sheet) (i : ℕ) (t : CallStep) where
  -- 26, where it is asked
  entry-needed : (v : code.Option ℕ) → Needed (if_any (option_of v) (entry_rules S i t)) (one_each (how_many (option_of v)))
  unfolding certificates_needed total
  entry-needed code.None = record { rules_are = refl; certificates_are = refl }
  entry-needed (code.Some e) = record { rules_are = refl; certificates_are = refl }

  -- the rules xs, n with a certificate each, and then 26
  pub with-entry : {xs : List Rule} {n k : ℕ} {v w : code.Option ℕ} → v ≡ w → Needed xs (one_each n) → k ≡ n + how_many (option_of w)
      → Needed (xs ++ if_any (option_of v) (entry_rules S i t)) (one_each k)
  with-entry {xs} {w = w} is h sum =
      let more = entry-needed w in
      let last : List Rule = if_any (option_of w) (entry_rules S i t) in
      needed-as (ap (λ (v : code.Option ℕ). xs ++ if_any (option_of v) (entry_rules S i t)) is)
      (record {
        rules_are = omega (arith, h.rules_are, more.rules_are, length-append xs last);
        certificates_are = omega (arith, h.certificates_are, more.certificates_are, append-needed xs last);
      })

  -- 10 to 14, and 18 to 21 if there is a failed target
  abbrev pub others : List Rule
  others =
      (10 of i says past S t.from is_in on_channel t.channel (pre S t.method))
      ∷ (return_rules S 11 i t normal t.to ++ if_any t.failed_to (return_rules S 18 i t failed))

  -- all rules of the call
  pub call-needed : {e : Option ℕ} {n : Needs} → e ≡ entry_asked S t.method → Needed (others ++ if_any e (entry_rules S i t)) n
      → Needed (step_rules S i (call_step t)) n
  call-needed {n = n} is h = subst (λ (e : Option ℕ). Needed (others ++ if_any e (entry_rules S i t)) n) is h

-- a step by its variant: its needs, and the method that it calls, if it is a call
pub step-needed : (S : Sheet) (i : ℕ) {v w : Step} {n : Needs} → v ≡ w → Needed (step_rules S i (step_value w)) n → Needed (step_rules S i (step_value v)) n
step-needed S i is h = needed-as (ap (λ (v : Step). step_rules S i (step_value v)) is) h

pub call-told : (S : Sheet) (s methods : List ℕ) {v w : Step} → v ≡ w → CallIn S s methods (step_value v) → CallIn S s methods (step_value w)
call-told S s methods is h = subst (λ (v : Step). CallIn S s methods (step_value v)) is h

-- a step of an indexed sheet, as it was read
module _ {S : Sheet} {s conditions points methods steps : List ℕ} {n : Counts} (x : SheetIn S s conditions points methods steps n) where
  call-in : (t : sheet.Step) → StepNamed (length S.points) (length S.methods) t → CallIn S s methods t
  call-in (event_step p q a) there = tt
  call-in (call_step t) there = called-in x.indexes t.method there.3
  call-in (pass_step p q) there = tt
  call-in (stop_step p) there = tt

  pub step-called : {i : ℕ} → i < length S.steps → (v : Step) → step_value v ≡ step_at s (get_or steps i 0) → CallIn S s methods (step_value v)
  step-called l v read = call-in (step_value v) (named x.indexes l {v = v} refl read)
