-- What the doors return, and what they write into a lent slice.
use Rattle.std.specs.Prelude.{ℕ, ◌≡◌, List, Option, Some, None}
use Rattle.sheet.specs.Model.{Model}
use Rattle.sheet.specs.Reading.{read_sheet}
use Rattle.verdict.specs.Verdict.{verdict_of}
use Rattle.verdict.specs.WordTest.{word_test}
use Rattle.verdict.specs.Promise.{Loads, TestsWord}
use Rattle.instrument.specs.declared.Instrument.{Instrument}
use Rattle.instrument.specs.Model.{model_of, instrument_of}
use Rattle.numbers.specs.Numbers.{report_status, answer_status, read_status, unknown_status, report_numbers, answer_numbers, read_numbers, unknown_numbers, stored, returned}

-- On an instrument ------------------------------------------------------------------------------------------------------

-- the loader's answer to the sheet s
pub record LoadsInto (M : Model) (s before after : List ℕ) (result : ℕ) : Type 0 where
  pub promised : Loads M s (verdict_of M s)
  pub written : after ≡ stored (report_numbers (verdict_of M s)) before
  pub status : result ≡ returned (report_status (verdict_of M s)) before

-- the word test's answer
pub record TestsWordInto (M : Model) (s : List ℕ) (condition : ℕ) (word before after : List ℕ) (result : ℕ) : Type 0 where
  pub promised : TestsWord M s condition word (word_test M s condition word)
  pub written : after ≡ stored (answer_numbers (word_test M s condition word)) before
  pub status : result ≡ returned (answer_status (word_test M s condition word)) before

-- the reader's answer: refusals 1 to 9 alone
pub record ReadsInto (M : Model) (s before after : List ℕ) (result : ℕ) : Type 0 where
  pub written : after ≡ stored (read_numbers (read_sheet M s)) before
  pub status : result ≡ returned (read_status (read_sheet M s)) before

-- On the instrument of a number -----------------------------------------------------------------------------------------

-- the number is no instrument's: no answer of any door, whatever the sheet
pub record UnknownInto (before after : List ℕ) (result : ℕ) : Type 0 where
  pub written : after ≡ stored unknown_numbers before
  pub status : result ≡ returned unknown_status before

-- P of the model of the instrument that is named, and else Q
abbrev pub OnNamed : Option Instrument → (Model → Type 0) → Type 0 → Type 0
OnNamed (Some i) P Q = P (model_of i)
OnNamed None P Q = Q

-- the loader's door
abbrev pub LoadsOn : ℕ → (s before after : List ℕ) → ℕ → Type 0
LoadsOn n s before after result = OnNamed (instrument_of n) (λ M. LoadsInto M s before after result) (UnknownInto before after result)

-- the word test's
abbrev pub TestsWordOn : ℕ → List ℕ → ℕ → (word before after : List ℕ) → ℕ → Type 0
TestsWordOn n s c word before after result = OnNamed (instrument_of n) (λ M. TestsWordInto M s c word before after result) (UnknownInto before after result)

-- the reader's
abbrev pub ReadsOn : ℕ → (s before after : List ℕ) → ℕ → Type 0
ReadsOn n s before after result = OnNamed (instrument_of n) (λ M. ReadsInto M s before after result) (UnknownInto before after result)
