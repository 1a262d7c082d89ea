-- What a door does, from what it calls: an answer with its promise, the answer's numbers, and that they are stored.
use mathlib.Core.Path.{◌≡◌, sym, ap, subst, ◌∙◌}
use mathlib.Core.List.{List}
use Prim.Native.Nat.{ℕ}
use Rattle.sheet.specs.Model.{Model}
use Rattle.verdict.specs.Verdict.{Report}
use Rattle.verdict.specs.WordTest.{Answer}
use Rattle.verdict.specs.Promise.{Loads, TestsWord}
use Rattle.format.specs.declared.Refusal.{Refusal}
use Rattle.sections.specs.declared.Contents.{Contents}
use Rattle.reader.specs.Contract.{Answered}
use Rattle.instrument.specs.declared.Instrument.{Instrument}
use Rattle.std.specs.Prelude.{Option, Some, None, Result}
use Rattle.instrument.specs.Model.{model_of, instrument_of}
use Rattle.numbers.specs.Numbers.{report_numbers, answer_numbers, unknown_numbers}
use Rattle.numbers.specs.Stores.{Stores}
use Rattle.sheet_loader.specs.Doors.{LoadsInto, TestsWordInto, ReadsInto, UnknownInto, OnNamed, LoadsOn, TestsWordOn, ReadsOn}
use Rattle.sheet_loader.specs.Reading.{numbers_read}
use Rattle.sheet_loader.proofs.Reading.{read-numbers}

-- numbers that are equal are stored alike
alike : {xs ys before after : List ℕ} {result : ℕ} → xs ≡ ys → Stores xs before after result → Stores ys before after result
alike {before} {after} {result} e x = subst (λ (ns : List ℕ). Stores ns before after result) e x

-- On an instrument ------------------------------------------------------------------------------------------------------

module _ (M : Model) (s : List ℕ) {numbers before after : List ℕ} {result : ℕ} (x : Stores numbers before after result) where
  pub loads-into : {v : Report} → Loads M s v → numbers ≡ report_numbers v → LoadsInto M s before after result
  loads-into p e =
      let y = alike (e ∙ ap report_numbers p.stated) x in
      record { promised = subst (λ (v : Report). Loads M s v) p.stated p; written = y.written; status = y.status }

  tests-word-into : (condition : ℕ) (word : List ℕ) {a : Answer} → TestsWord M s condition word a → numbers ≡ answer_numbers a
      → TestsWordInto M s condition word before after result
  tests-word-into condition word p e =
      let y = alike (e ∙ ap answer_numbers p.stated) x in
      record { promised = subst (λ (a : Answer). TestsWord M s condition word a) p.stated p; written = y.written; status = y.status }

  reads-into : (r : Result Contents Refusal) → Answered M s r → numbers ≡ numbers_read r → ReadsInto M s before after result
  reads-into r a e =
      let y = alike (e ∙ read-numbers M s r a) x in
      record { written = y.written; status = y.status }

-- On the instrument of a number -----------------------------------------------------------------------------------------

on-known : (P : Model → Type 0) (Q : Type 0) (n : ℕ) {i : Instrument} → instrument_of n ≡ Some i → P (model_of i) → OnNamed (instrument_of n) P Q
on-known P Q n k p = subst (λ (x : Option Instrument). OnNamed x P Q) (sym k) p

on-unknown : (P : Model → Type 0) (n : ℕ) {numbers before after : List ℕ} {result : ℕ} → Stores numbers before after result → instrument_of n ≡ None
    → numbers ≡ unknown_numbers → OnNamed (instrument_of n) P (UnknownInto before after result)
on-unknown P n {before} {after} {result} x k same =
    let y = alike same x in
    subst (λ (z : Option Instrument). OnNamed z P (UnknownInto before after result)) (sym k) (record { written = y.written; status = y.status })

module _ (n : ℕ) (s : List ℕ) {numbers before after : List ℕ} {result : ℕ} (x : Stores numbers before after result) where
  pub loads-on : {i : Instrument} {v : Report} → instrument_of n ≡ Some i → Loads (model_of i) s v → numbers ≡ report_numbers v → LoadsOn n s before after result
  loads-on {i} k p e = on-known (λ M. LoadsInto M s before after result) _ n k (loads-into (model_of i) s x p e)

  pub loads-on-none : instrument_of n ≡ None → numbers ≡ unknown_numbers → LoadsOn n s before after result
  loads-on-none k e = on-unknown (λ M. LoadsInto M s before after result) n x k e

  pub reads_on : {i : Instrument} (r : Result Contents Refusal) → instrument_of n ≡ Some i → Answered (model_of i) s r → numbers ≡ numbers_read r → ReadsOn n s before after result
  reads_on {i} r k a e = on-known (λ M. ReadsInto M s before after result) _ n k (reads-into (model_of i) s x r a e)

  pub reads-on-none : instrument_of n ≡ None → numbers ≡ unknown_numbers → ReadsOn n s before after result
  reads-on-none k e = on-unknown (λ M. ReadsInto M s before after result) n x k e

  pub tests-word-on : (c : ℕ) (word : List ℕ) {i : Instrument} {a : Answer} → instrument_of n ≡ Some i → TestsWord (model_of i) s c word a
      → numbers ≡ answer_numbers a → TestsWordOn n s c word before after result
  tests-word-on c word {i} k p e = on-known (λ M. TestsWordInto M s c word before after result) _ n k (tests-word-into (model_of i) s x c word p e)

  pub tests-word-on-none : (c : ℕ) (word : List ℕ) → instrument_of n ≡ None → numbers ≡ unknown_numbers → TestsWordOn n s c word before after result
  tests-word-on-none c word k e = on-unknown (λ M. TestsWordInto M s c word before after result) n x k e
