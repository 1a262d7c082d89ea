-- The sheet of a whole reading is its edition and what was counted.
use mathlib.Core.Path.{◌≡◌, refl, ap, ◌∙◌}
use mathlib.Core.List.{List}
use Prim.Native.Nat.{ℕ}
use Rattle.sheet.specs.Model.{Model}
use Rattle.sheet.specs.Reading.{Reading, is_new, ReadResult, whole, read_sheet}
use Rattle.sheet.specs.Decode.{sheet_read, sheet_in, sheet_of}

module _ (M : Model) (s : List ℕ) where
  pub of_is : sheet_of M s ≡ sheet_in s (read_sheet M s)
  unfolding sheet_of
  of_is = refl

  pub sheet-is : (r : Reading) → read_sheet M s ≡ whole r → sheet_of M s ≡ sheet_read (is_new s) r.own
  sheet-is r h = of_is ∙ ap (λ (x : ReadResult). sheet_in s x) h
