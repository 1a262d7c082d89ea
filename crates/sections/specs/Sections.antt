-- What the section readers keep from record to record, and tell each other: reading has come to where the code stands, in a state that agrees
-- with the code's values, or has ended. The result is o, whatever state reading started in.
use Rattle.std.specs.Prelude.{Result, Ok, Err, ℕ, zero, suc, ◌+◌, ◌≤◌, ◌<◌, ◌≡◌, Bool, cond, List, [], ◌∷◌, length, get_or, take, eqb, leb}
use Rattle.std.proofs.Math.Option.{Option, none, some}
use Rattle.sheet.specs.Model.{Model}
use Rattle.sheet.specs.Kind.{points, methods, steps, certificates, section_of}
use Rattle.sheet.specs.Record.{byte_at, record_at}
use Rattle.sheet.specs.Reading.{nothing, Reading, tally, starts_of, full, record_named, ReadResult, whole, refusal, read_on}
use Rattle.format.specs.declared.Refusal.{Refusal}
use Rattle.format.specs.declared.Refusal.TheVariants.{Unfinished, NoFirstBody, UnknownOwner}
use Rattle.kinds.specs.Kinds.{last_kind}
use Rattle.format.specs.Refusal.{number_of, place_of}
use Rattle.instrument.specs.declared.Limits.{Limits}
use Rattle.instrument.specs.Model.{model_with}
use Rattle.tally.specs.declared.Tally.{Tally}
use Rattle.tally.specs.Tally.{count_of}
use Rattle.owners.specs.Owners.{stray_in}
use Rattle.sections.specs.declared.Contents.{Contents}
use Rattle.sections.specs.declared.Reached.{Reached}

-- a sheet with at most so many bytes has offsets that fit the four bytes of a table's element
abbrev pub addressable : ℕ
addressable = 4294967296

-- the code's counts are those of the state
abbrev pub Counts : Reading → Tally → Type 0
Counts r t = (k : ℕ) → tally r k ≡ count_of t k

-- the result is a refusal in the state r, with the number and the place of x
pub record Ends (o : ReadResult) (r : Reading) (x : Refusal) : Type 0 where
  pub place : ℕ
  pub placed : place_of x ≡ some place
  pub result : o ≡ refusal (number_of x) place r

-- reading has come to the offset `at` in the state r: reading on from there gives the result
pub record Comes (M : Model) (s : List ℕ) (o : ReadResult) (at : ℕ) (r : Reading) : Type 0 where
  pub inside : at ≤ length s
  pub fuel : ℕ
  pub enough : length s ≤ fuel + at
  pub rest : read_on M s fuel at r ≡ o

-- .. with nothing open, past no record of a section after k; before the first record of section k, what comes is of no earlier section
pub record Between (M : Model) (s : List ℕ) (o : ReadResult) (k at : ℕ) (r : Reading) : Type 0 where
  pub comes : Comes M s o at r
  pub section : r.section ≤ k
  pub closed : r.opened ≡ nothing
  pub begun : at < length s → r.section < k → k ≤ section_of (byte_at s at)

-- section k comes next, in the state r, or reading has ended in it
abbrev pub Told : Model → List ℕ → ReadResult → ℕ → Result Reached Refusal → Reading → Type 0
Told M s o k (Ok p) r = Between M s o k p.at r × Counts r p.tally
Told M s o k (Err x) r = Ends o r x

-- .. at an offset, with a tally
abbrev pub done : ℕ → Tally → Result Reached Refusal
done at t = Ok (record { at = at; tally = t })

-- a table with these offsets written over its front
abbrev pub overwritten : List ℕ → List ℕ → List ℕ
overwritten [] table = table
overwritten (o ∷ offsets) [] = []
overwritten (o ∷ offsets) (x ∷ table) = o ∷ overwritten offsets table

-- .. from an index on
abbrev pub overwritten_from : ℕ → List ℕ → List ℕ → List ℕ
overwritten_from zero offsets table = overwritten offsets table
overwritten_from (suc n) offsets [] = []
overwritten_from (suc n) offsets (x ∷ table) = x ∷ overwritten_from n offsets table

-- from the state r to the state u only section k has grown, and the table holds its offsets, behind those from before this sheet
pub record Extended (k : ℕ) (r u : Reading) (before after : List ℕ) : Type 0 where
  pub same : u.before ≡ r.before
  pub others : (j : ℕ) → (j ≡ k → ⊥) → u.own j ≡ r.own j
  pub table : after ≡ overwritten_from (length (u.before k)) (starts_of (u.own k)) before

-- the table leads to the records of section k that were counted
abbrev pub Listed : (s table : List ℕ) → ℕ → Reading → Type 0
Listed s table k r = (n : ℕ) → n < tally r k → (n < length table) × (record_named r k n ≡ some (record_at s (get_or table n 0)))

-- what the reader of section k, which began in the state r, has told when section `next` comes next; where each record counts by itself, the table leads to
-- those that it has counted, too
pub record Filled (M : Model) (s : List ℕ) (o : ReadResult) (next : ℕ) (a : Result Reached Refusal) (k : ℕ) (r : Reading) (before after : List ℕ) : Type 0 where
  pub state : Reading
  pub told : Told M s o next a state
  pub grown : Extended k r state before after
  pub listed : points ≤ k → Listed s before k r → Listed s after k state

-- the answer is the result of reading, which ends in the state u
abbrev pub Answers : List ℕ → ReadResult → Result Contents Refusal → Reading → Type 0
Answers s o (Ok c) u = (o ≡ whole u) × Counts u c.tally × (c.certificates ≡ get_or (starts_of (u.own certificates)) 0 (length s))
Answers s o (Err x) u = Ends o u x

-- the end of the sheet, as the code tests it: 8, 9 and 25, where the points stand at the offsets of a table
abbrev pub whole_unless : Contents → Option ℕ → Result Contents Refusal
whole_unless c none = Ok c
whole_unless c (some at) = Err (UnknownOwner at)

abbrev pub end_of : List ℕ → (inside : Bool) → Contents → (table : List ℕ) → Result Contents Refusal
end_of s inside c table =
    cond inside (Err (Unfinished (length s)))
    (cond (eqb c.tally.methods 0) (Err (NoFirstBody (length s)))
    (whole_unless c (stray_in s c.tally.methods (take c.tally.points table))))

-- what the reader of certificates, which began in the state r, tells: the result, and that only certificates were counted
pub record Concluded (s : List ℕ) (o : ReadResult) (r : Reading) (a : Result Contents Refusal) : Type 0 where
  pub state : Reading
  pub answers : Answers s o a state
  pub others : (j : ℕ) → (j ≡ certificates → ⊥) → state.own j ≡ r.own j

-- what the end of a sheet asks: nothing was counted before the sheet, and the table leads to its points
pub record FirstSheet (s points-table : List ℕ) (r : Reading) : Type 0 where
  pub none_before : r.before ≡ (λ k. [])
  pub points_listed : Listed s points-table points r

-- what the records of section k name is listed: those of methods and steps name points, those of steps methods
pub record NamedListed (s points-table methods-table : List ℕ) (k : ℕ) (r : Reading) : Type 0 where
  pub points_listed : points < k → Listed s points-table points r
  pub methods_listed : k ≡ steps → Listed s methods-table methods r

-- section k, of points, methods or steps: it has `limit` at most, and the table has room for them
pub record Alone (l : Limits) (k limit : ℕ) (table : List ℕ) : Type 0 where
  pub low : points ≤ k
  pub high : k ≤ steps
  pub kinds : l.kinds ≤ last_kind
  pub room : limit ≤ length table
  pub limited : (n : ℕ) → full (model_with l) k n ≡ leb limit n
