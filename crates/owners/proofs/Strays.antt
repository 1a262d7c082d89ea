-- Refusal 25 by the loop of the code: the first of the offsets of a table, up to a count, whose point has an owner that is no method.
use mathlib.Core.Path.{◌≡◌, sym, ap, ◌∙◌}
use mathlib.Core.Bool.{Bool, true, false, cond}
use mathlib.Core.Option.{none, some}
use mathlib.Core.List.{List, ◌∷◌}
use Prim.Native.Nat.{ℕ, ◌+◌, ◌≤◌, ◌<◌}
use native.Mathlib.Numerals.{add-one}
use lib.ListN.{length, drop, get_or, drop_of_length-le}
use lib.Seq.{drop-cons}
use Rattle.sheet.specs.Reading.{no_method}
use Rattle.sheet_laws.specs.AtOffset.{owner_at}
use Rattle.owners.specs.Owners.{stray_in}

module _ (s : List ℕ) (methods : ℕ) (xs : List ℕ) where
  -- what is found from the offset i of the list on is what is found from the first one on
  abbrev pub Onward : ℕ → Type 0
  Onward i = stray_in s methods (drop i xs) ≡ stray_in s methods xs

  module _ (i : ℕ) (onward : Onward i) where
    module _ (there : i < length xs) where
      first_is : stray_in s methods (drop i xs)
          ≡ cond (no_method methods (owner_at s (get_or xs i 0))) (some (get_or xs i 0)) (stray_in s methods (drop (i + 1) xs))
      first_is = ap (stray_in s methods) (drop-cons xs i 0 there ∙ ap (λ (j : ℕ). get_or xs i 0 ∷ drop j xs) (sym (add-one i)))

      by-test : {b : Bool} → no_method methods (owner_at s (get_or xs i 0)) ≡ b → stray_in s methods xs ≡ cond b (some (get_or xs i 0)) (stray_in s methods (drop (i + 1) xs))
      by-test e = sym onward ∙ first_is ∙ ap (λ (b : Bool). cond b (some (get_or xs i 0)) (stray_in s methods (drop (i + 1) xs))) e

      pub found : no_method methods (owner_at s (get_or xs i 0)) ≡ true → some (get_or xs i 0) ≡ stray_in s methods xs
      found e = sym (by-test e)

      pub passed : no_method methods (owner_at s (get_or xs i 0)) ≡ false → Onward (i + 1)
      passed e = sym (by-test e)

    pub ended : length xs ≤ i → none ≡ stray_in s methods xs
    ended past = sym (ap (stray_in s methods) (drop_of_length-le xs past)) ∙ onward
