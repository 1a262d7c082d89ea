-- What a reader leaves of a sheet that it reads whole: its tally counts the sheet, and its tables index it.
use mathlib.Core.Path.{◌≡◌, sym, ap, ◌∙◌, subst}
use mathlib.Core.List.{List}
use Prim.Native.Nat.{ℕ, ◌≤◌}
use native.Mathlib.Omega.{arith}
use lib.ListN.{length, length-map}
use Rattle.sheet.specs.Model.{Model}
use Rattle.sheet.specs.Sheet.{Sheet}
use Rattle.sheet.specs.Kind.{conditions, points, methods, steps, certificates}
use Rattle.sheet.specs.Reading.{Counted, start_of, starts_of}
use Rattle.sheet.specs.Decode.{sheet_of}
use Rattle.sheet_laws.proofs.Laws.{own-tally}
use Rattle.sheet_laws.proofs.Located.{Located, located}
use Rattle.tally.specs.Tally.{count_of}
use Rattle.sections.specs.declared.Contents.{Contents}
use Rattle.sections.specs.Sections.{overwritten}
use Rattle.sections.proofs.Overwritten.{overwritten-length, overwritten-holds}
use Rattle.reader.specs.Contract.{last_state, ReadWhole, TablesFilled}
use Rattle.offsets.specs.declared.Offsets.{Offsets}
use Rattle.index.specs.Indexed.{ConditionsIn, Indexes}
use Rattle.index.proofs.Read.{HoldsOffsets, read-conditions, read-indexes}

held : (os table table' : List ℕ) → length os ≤ length table → table' ≡ overwritten os table → HoldsOffsets os table'
held os table table' l e = subst (HoldsOffsets os) (sym e) (overwritten-holds os table l)

module _ {M : Model} {s : List ℕ} {c : Contents} (t : ReadWhole M s c) where
  abbrev S : Sheet
  S = sheet_of M s

  -- where what was counted starts, by section, and what the bytes have there
  abbrev offsets : ℕ → List ℕ
  offsets k = starts_of ((last_state M s).own k)

  there : Located M S s offsets
  there = located M s _ t.result

  -- How many there are, by the tally --------------------------------------------------------------------------------------

  as-counted : (k : ℕ) → count_of c.tally k ≡ length (offsets k)
  as-counted k =
      sym (t.tally k)
      ∙ own-tally M s _ t.result k
      ∙ sym (length-map ((last_state M s).own k) (λ (x : Counted). start_of x.opened x.last.at))

  pub conditions-are : c.tally.conditions ≡ length S.conditions
  conditions-are = as-counted conditions ∙ sym there.conditions_counted

  pub methods_are : c.tally.methods ≡ length S.methods
  methods_are = as-counted methods ∙ sym there.methods_counted

  pub steps_are : c.tally.steps ≡ length S.steps
  steps_are = as-counted steps ∙ sym there.steps_counted

  pub certificates_are : c.tally.certificates ≡ length (offsets certificates)
  certificates_are = as-counted certificates

  -- The tables, which have room for what the limits allow -------------------------------------------------------------------

  module _ {os os' : Offsets} {ps ps' : List ℕ} (w : TablesFilled os os' ps ps' (last_state M s).own) (l : length os.conditions ≡ 256) where
    conditions-held : HoldsOffsets (offsets conditions) os'.conditions
    conditions-held = held (offsets conditions) os.conditions _ (omega (arith, there.conditions_counted, there.few_conditions)) w.conditions

    pub conditions-in : ConditionsIn S s os'.conditions
    conditions-in = read-conditions M s _ t.result conditions-held

    pub indexed : M.points ≤ length ps → length os.methods ≡ 64 → length os.steps ≡ 512 → M.events ≤ 64 → Indexes S s os'.conditions ps' os'.methods os'.steps
    indexed a b d events =
        read-indexes M s _ t.result (omega (arith, ap length w.points, overwritten-length (offsets points) ps)) events conditions-held
        (held (offsets points) ps _ (omega (arith, there.points_counted, there.few_points)) w.points)
        (held (offsets methods) os.methods _ (omega (arith, there.methods_counted, there.few_methods)) w.methods)
        (held (offsets steps) os.steps _ (omega (arith, there.steps_counted, there.few_steps)) w.steps)
