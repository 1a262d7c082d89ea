-- What reading a sheet answers, and what it leaves in the tables.
use Rattle.std.specs.Prelude.{ℕ, ◌≡◌, Result, Ok, Err, List, length, get_or}
use Rattle.sheet.specs.Model.{Model}
use Rattle.sheet.specs.Kind.{conditions, points, methods, steps, certificates}
use Rattle.sheet.specs.Reading.{Counted, Reading, starts_of, whole, state_of, read_sheet}
use Rattle.format.specs.declared.Refusal.{Refusal}
use Rattle.offsets.specs.declared.Offsets.{Offsets}
use Rattle.sections.specs.declared.Contents.{Contents}
use Rattle.sections.specs.Sections.{Counts, Ends, overwritten}

-- the state in which reading ends: before the record at fault, or at the end of the sheet
abbrev pub last_state : Model → List ℕ → Reading
last_state M s = state_of (read_sheet M s)

-- reading refuses the sheet
abbrev pub Refuses : Model → List ℕ → Refusal → Type 0
Refuses M s x = Ends (read_sheet M s) (last_state M s) x

-- reading takes the whole sheet; c has the tally at the end, and where the first certificate starts: at the length, if there is none
pub record ReadWhole (M : Model) (s : List ℕ) (c : Contents) : Type 0 where
  pub result : read_sheet M s ≡ whole (last_state M s)
  pub tally : Counts (last_state M s) c.tally
  pub certificates : c.certificates ≡ get_or (starts_of ((last_state M s).own certificates)) 0 (length s)

abbrev pub Answered : Model → List ℕ → Result Contents Refusal → Type 0
Answered M s (Ok c) = ReadWhole M s c
Answered M s (Err x) = Refuses M s x

-- each of the four tables, before and after: where what was counted starts, is written over its front
pub record TablesFilled (offsets₀ offsets₁ : Offsets) (points₀ points₁ : List ℕ) (own : ℕ → List Counted) : Type 0 where
  pub conditions : offsets₁.conditions ≡ overwritten (starts_of (own conditions)) offsets₀.conditions
  pub points : points₁ ≡ overwritten (starts_of (own points)) points₀
  pub methods : offsets₁.methods ≡ overwritten (starts_of (own methods)) offsets₀.methods
  pub steps : offsets₁.steps ≡ overwritten (starts_of (own steps)) offsets₀.steps

-- the answer r, and the tables as reading leaves them, also where it refuses the sheet
pub record Reads (M : Model) (s : List ℕ) (r : Result Contents Refusal) (offsets₀ offsets₁ : Offsets) (points₀ points₁ : List ℕ) : Type 0 where
  pub answer : Answered M s r
  pub tables : TablesFilled offsets₀ offsets₁ points₀ points₁ (last_state M s).own
