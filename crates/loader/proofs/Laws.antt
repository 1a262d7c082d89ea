-- From a whole reading and the trial of its rules, or from a refusal, to the verdict.
use mathlib.Core.Path.{◌≡◌, sym, ap, ◌∙◌, subst}
use mathlib.Core.Option.{some}
use mathlib.Core.List.{List}
use Prim.Native.Nat.{ℕ, ◌≤◌}
use lib.ListN.{length}
use Rattle.std.specs.Prelude.{Result, Ok, Err}
use Rattle.offsets.specs.declared.Offsets.{Offsets}
use Rattle.sheet.specs.Model.{Model}
use Rattle.sheet.specs.Record.{Bytes}
use Rattle.sheet.specs.Sheet.{Sheet}
use Rattle.sheet.specs.Decode.{sheet_of}
use Rattle.sheet_laws.proofs.Certified.{certificates-chained}
use Rattle.runs.specs.Rules as runs
use Rattle.runs.specs.Rules.{rules, count}
use Rattle.runs.proofs.Count.{counted}
use Rattle.verdict.specs.Verdict.{Report, accepted, refused, unproved, certificates_needed, verdict_of}
use Rattle.verdict.specs.Promise.{Loads}
use Rattle.verdict.proofs.Loads.{loads}
use Rattle.faults.specs.Fault.{fault_of}
use Rattle.instrument.specs.declared.Instrument.{Instrument}
use Rattle.instrument.specs.declared.Limits.{Limits}
use Rattle.instrument.specs.Model.{model_of, limits_of}
use Rattle.instrument.proofs.Fits.{instrument-fits}
use Rattle.format.specs.declared.Refusal.{Refusal}
use Rattle.format.specs.Refusal.{number_of, place_of}
use Rattle.answers.specs.Answers.{rule_number, rule_subject}
use Rattle.sections.specs.declared.Contents.{Contents}
use Rattle.reader.specs.Contract.{last_state, Refuses, ReadWhole, TablesFilled}
use Rattle.index.specs.Trial.{try_rules, report_on}
use Rattle.index.specs.Indexed.{Indexes}
use Rattle.index.proofs.Verdict.{verdict-refused, verdict-miscounted, verdict-tried, chained-from}
use Rattle.read_tables.proofs.Filled.{methods_are, steps_are, certificates_are, indexed}
use Rattle.rules.specs.Order.{SheetIn}
use Rattle.trial.specs.Tested.{Tries, trial_of}
use Rattle.trial.specs.declared.Failure.{Failure}

module _ {M : Model} {s : List ℕ} {c : Contents} (t : ReadWhole M s c) where
  abbrev S : Sheet
  S = sheet_of M s

  pub sheet-in : {cs ps ms ts : List ℕ} → Indexes S s cs ps ms ts → SheetIn S s cs ps ms ts (record { methods = c.tally.methods; steps = c.tally.steps })
  sheet-in x = record { indexes = x; methods_are = methods_are t; steps_are = steps_are t }

  -- 10
  pub miscounted : (c.tally.certificates ≡ certificates_needed (rules S) → ⊥) → refused 10 (some (length s)) ≡ verdict_of M s
  miscounted n = sym (verdict-miscounted M s _ t.result (λ e. n (certificates_are t ∙ e)))

  module _ (enough : c.tally.certificates ≡ certificates_needed (rules S)) {got : Result ℕ Failure} (tries : Tries M.events s (rules S) c.certificates got) where
    -- what the trial of the rules comes to
    judged-by : (x : Result ℕ Failure) → got ≡ x → report_on (accepted (count S)) (trial_of x) ≡ verdict_of M s
    judged-by x is =
        let (from, end, chain) = certificates-chained M s _ t.result in
        let (end, chain) = chained-from chain (length s) in
        sym (ap (λ (x : Result ℕ Failure). report_on (accepted (count S)) (trial_of x)) is)
        ∙ ap (report_on (accepted (count S))) tries.comes_to
        ∙ ap (λ (q : ℕ). report_on (accepted (count S)) (try_rules M.events s (rules S) q)) t.certificates
        ∙ sym (verdict-tried M s _ t.result end _ chain (sym (certificates_are t) ∙ enough))

    pub accepted-by : {at : ℕ} → got ≡ Ok at → (n : ℕ) → n ≡ length (rules S) → accepted n ≡ verdict_of M s
    accepted-by is n e = ap (λ (n : ℕ). accepted n) (e ∙ counted S) ∙ judged-by (Ok _) is

    pub unproved-by : {f : Failure} → got ≡ Err f → unproved (rule_number f.rule) (rule_subject f.rule) (fault_of f.fault) ≡ verdict_of M s
    unproved-by is = judged-by (Err _) is

-- 1 to 9
pub refused-by : (M : Model) (s : List ℕ) {x : Refusal} → Refuses M s x → refused (number_of x) (place_of x) ≡ verdict_of M s
refused-by M s {x} h = ap (refused (number_of x)) h.placed ∙ sym (verdict-refused M s _ _ _ h.result)

module _ (i : Instrument) {s : List ℕ} where
  -- events by an instrument's limits are those of its model
  pub tries-on : {l : Limits} → l ≡ limits_of i → {xs : List runs.Rule} {from : ℕ} {r : Result ℕ Failure} → Tries l.events s xs from r → Tries (model_of i).events s xs from r
  tries-on is {xs} {from} {r} h = subst (λ (l : Limits). Tries l.events s xs from r) is h

  -- the tables of an instrument's reading
  pub indexed-on : {c : Contents} → ReadWhole (model_of i) s c → {os os' : Offsets} {ps ps' : List ℕ} → TablesFilled os os' ps ps' (last_state (model_of i) s).own
      → length os.conditions ≡ 256 → (model_of i).points ≤ length ps → length os.methods ≡ 64 → length os.steps ≡ 512
      → Indexes (sheet_of (model_of i) s) s os'.conditions ps' os'.methods os'.steps
  indexed-on t w a b d e = indexed t w a b d e (instrument-fits i).few_events

  -- the definition's answer keeps the promise
  pub keeps : Bytes s → {r : Report} → r ≡ verdict_of (model_of i) s → Loads (model_of i) s r
  keeps bytes e = subst (Loads (model_of i) s) (sym e) (loads (model_of i) s (instrument-fits i).wide bytes)
