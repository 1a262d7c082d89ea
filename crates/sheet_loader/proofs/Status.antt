-- What a status says, from the contracts of the doors alone. 1: the number is an instrument's, and on it every run of the sheet is safe; the word is
-- one of the condition. 3, of the word test: it is none, and the third number is the length of its longest beginning that begins one. And that the
-- status of an unknown instrument is no answer's.
use mathlib.Core.Path.{◌≡◌, refl, sym, ap, subst, ◌∙◌}
use mathlib.Core.Bool.{Bool, true, false, cond}
use mathlib.Core.List.{List, ◌++◌}
use Prim.Native.Nat.{ℕ, suc}
use native.Mathlib.Omega.{arith}
use lib.ListN.{length, drop, get_or}
use lib.Dec.{leb}
use Rattle.condition.specs.Condition.{Holds, Longest}
use Rattle.sheet.specs.Model.{Model}
use Rattle.sheet.specs.Sheet.{condition}
use Rattle.sheet.specs.Reading.{ReadResult, whole, refusal}
use Rattle.sheet.specs.Decode.{sheet_of}
use Rattle.runs.specs.Runs.{Move, run, Safe}
use Rattle.verdict.specs.Verdict.{Report, accepted, refused, unproved}
use Rattle.verdict.specs.WordTest.{Answer, held, not_held, untested}
use Rattle.instrument.specs.declared.Instrument.{Instrument}
use Rattle.std.specs.Prelude.{Option, Some, None}
use Rattle.instrument.specs.Model.{model_of, instrument_of}
use Rattle.numbers.specs.Numbers.{room, unwritten, report_status, answer_status, read_status, unknown_status, answer_numbers, stored, returned}
use Rattle.sheet_loader.specs.Doors.{LoadsInto, TestsWordInto, UnknownInto, OnNamed, LoadsOn, TestsWordOn}

-- a status that is returned and is not that of a slice without room is the answer's, and the slice has room
answered : (k status : ℕ) (before : List ℕ) → suc k ≡ returned status before → (status ≡ suc k) × (leb room (length before) ≡ true)
answered k status before = go (leb room (length before))
  where
    go : (b : Bool) → suc k ≡ cond b status unwritten → (status ≡ suc k) × (b ≡ true)
    go true e = (sym e, refl)
    go false e = absurd (omega (arith, e))

is-accepted : (v : Report) → report_status v ≡ 1 → (n : ℕ) × (v ≡ accepted n)
is-accepted (accepted n) e = (n, refl)
is-accepted (refused n at) e = absurd (omega arith)
is-accepted (unproved r k f) e = absurd (omega arith)

is-yes : (a : Answer) → answer_status a ≡ 1 → a ≡ held
is-yes held e = refl
is-yes (not_held n) e = absurd (omega arith)
is-yes (untested n at) e = absurd (omega arith)

is-no : (a : Answer) → answer_status a ≡ 3 → (n : ℕ) × (a ≡ not_held n)
is-no held e = absurd (omega arith)
is-no (not_held n) e = (n, refl)
is-no (untested n at) e = absurd (omega arith)

-- the third number of a no that is written
third : (n : ℕ) (before : List ℕ) {after : List ℕ} → leb room (length before) ≡ true → after ≡ stored (answer_numbers (not_held n)) before → get_or after 2 0 ≡ n
third n before roomy e =
    ap (λ (xs : List ℕ). get_or xs 2 0) (e ∙ ap (λ (b : Bool). cond b (answer_numbers (not_held n) ++ drop room before) before) roomy)

-- On an instrument
module _ {M : Model} {s before after : List ℕ} where
  pub every-run-is-safe : LoadsInto M s before after 1 → (ms : List Move) → Safe (sheet_of M s) (run (sheet_of M s) 0 ms)
  every-run-is-safe x ms = let (n, e) = is-accepted _ (answered 0 _ before x.status).0 in x.promised.sound n e ms

  pub the-word-is-held : {c : ℕ} {w : List ℕ} → TestsWordInto M s c w before after 1 → Holds (condition (sheet_of M s) c) w
  the-word-is-held x = (x.promised.yes_iff.0 (is-yes _ (answered 0 _ before x.status).0)).1

  pub the-word-is-not-held : {c : ℕ} {w : List ℕ} → TestsWordInto M s c w before after 3
      → (Holds (condition (sheet_of M s) c) w → ⊥) × Longest (condition (sheet_of M s) c) w (get_or after 2 0)
  the-word-is-not-held {c} {w} x =
      let (three, roomy) = answered 2 _ before x.status in
      let (n, e) = is-no _ three in
      let (taken, lacks, most) = (x.promised.no_iff n).0 e in
      let same = third n before roomy (x.written ∙ ap (λ (a : Answer). stored (answer_numbers a) before) e) in
      (lacks, subst (Longest (condition (sheet_of M s) c) w) (sym same) most)

-- The status of an unknown instrument is no answer's
of-no-report : (v : Report) → report_status v ≡ unknown_status → ⊥
of-no-report (accepted n) e = omega (arith, e)
of-no-report (refused n at) e = omega (arith, e)
of-no-report (unproved r k f) e = omega (arith, e)

of-no-word : (a : Answer) → answer_status a ≡ unknown_status → ⊥
of-no-word held e = omega (arith, e)
of-no-word (not_held n) e = omega (arith, e)
of-no-word (untested n at) e = omega (arith, e)

of-no-reading : (o : ReadResult) → read_status o ≡ unknown_status → ⊥
of-no-reading (whole r) e = omega (arith, e)
of-no-reading (refusal n at r) e = omega (arith, e)

-- On the instrument of a number: an unknown one has the status of a slice without room or its own
module _ (n : ℕ) (s before after : List ℕ) where
  on_one : (k : ℕ) → (unknown_status ≡ suc k → ⊥) → (P : Model → Type 0) → OnNamed (instrument_of n) P (UnknownInto before after (suc k))
      → (i : Instrument) × (instrument_of n ≡ Some i) × P (model_of i)
  on_one k other P = go (instrument_of n) refl
    where
      go : (x : Option Instrument) → instrument_of n ≡ x → OnNamed x P (UnknownInto before after (suc k)) → (i : Instrument) × (instrument_of n ≡ Some i) × P (model_of i)
      go (Some i) e p = (i, e, p)
      go None e y = absurd (other (answered k unknown_status before y.status).0)

  pub every-run-on-it-is-safe : LoadsOn n s before after 1
      → (i : Instrument) × (instrument_of n ≡ Some i) × ((ms : List Move) → Safe (sheet_of (model_of i) s) (run (sheet_of (model_of i) s) 0 ms))
  every-run-on-it-is-safe x = let (i, e, p) = on_one 0 (λ h. omega (arith, h)) (λ M. LoadsInto M s before after 1) x in (i, e, every-run-is-safe p)

  module _ (c : ℕ) (w : List ℕ) where
    pub the-word-is-held-on-it : TestsWordOn n s c w before after 1 → (i : Instrument) × (instrument_of n ≡ Some i) × Holds (condition (sheet_of (model_of i) s) c) w
    the-word-is-held-on-it x = let (i, e, p) = on_one 0 (λ h. omega (arith, h)) (λ M. TestsWordInto M s c w before after 1) x in (i, e, the-word-is-held p)

    pub the-word-is-not-held-on-it : TestsWordOn n s c w before after 3
        → (i : Instrument)
        × (instrument_of n ≡ Some i)
        × (Holds (condition (sheet_of (model_of i) s) c) w → ⊥)
        × Longest (condition (sheet_of (model_of i) s) c) w (get_or after 2 0)
    the-word-is-not-held-on-it x =
        let (i, e, p) = on_one 2 (λ h. omega (arith, h)) (λ M. TestsWordInto M s c w before after 3) x in
        let (lacks, most) = the-word-is-not-held p in
        (i, e, lacks, most)
