-- The owner of the point at an offset, and of a point by its number in a table of offsets, by the tests of the code.
use mathlib.Core.Path.{◌≡◌, refl, sym, ap, ◌∙◌}
use mathlib.Core.Bool.{Bool, true, false, cond}
use mathlib.Core.Option.{none, some}
use mathlib.Core.List.{List}
use Prim.Native.Nat.{ℕ, ◌+◌, ◌≤◌, ◌<◌}
use native.Mathlib.Omega.{arith}
use lib.ListN.{length, get_or}
use lib.Dec.{ltb}
use borrow.Author.Tests.{ltb-true, ltb-false, lt-ltb, le-ltb, ne_eqb}
use Rattle.sheet.specs.Record.{byte_at}
use Rattle.sheet_laws.specs.AtOffset.{short_at, owner_as, owner_at}
use Rattle.fields.proofs.Laws.{byte_past}
use Rattle.owners.specs.Owners.{owner_listed}

module _ (s : List ℕ) (at : ℕ) where
  -- a point with an owner stands inside the sheet
  pub owned_inside : {k : ℕ} → k ≡ byte_at s at → k ≡ 20 → at < length s
  owned_inside is e = go (ltb at (length s)) refl
    where
      go : (b : Bool) → ltb at (length s) ≡ b → at < length s
      go true l = ltb-true at (length s) l
      go false l = absurd (omega (arith, byte_past s at (ltb-false at (length s) l)))

  pub owned : {k v : ℕ} → k ≡ byte_at s at → k ≡ 20 → v ≡ short_at s (at + 7) → some v ≡ owner_at s at
  unfolding owner_at
  owned is e short = ap (λ (v : ℕ). some v) short ∙ sym (ap (λ (k : ℕ). owner_as k s at) (sym is ∙ e))

  pub unowned : {k : ℕ} → k ≡ byte_at s at → (k ≡ 20 → ⊥) → none ≡ owner_at s at
  unfolding owner_at
  unowned {k} is ne = sym (ap (λ (k : ℕ). owner_as k s at) (sym is) ∙ ap (λ (b : Bool). cond b (some (short_at s (at + 7))) none) (ne_eqb k 20 ne))

module _ (s points : List ℕ) (p : ℕ) where
  pub listed : p < length points → owner_at s (get_or points p 0) ≡ owner_listed s points p
  listed l = simp (lt-ltb p (length points) l)

  pub unlisted : length points ≤ p → none ≡ owner_listed s points p
  unlisted l = simp (le-ltb p (length points) l)
