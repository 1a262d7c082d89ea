-- A set by its four bytes; fields past the end of a sheet are 0.
use mathlib.Core.Path.{◌≡◌, refl, sym, ap, ap₂, ◌∙◌}
use mathlib.Core.List.{List}
use Prim.Native.Nat.{ℕ, ◌+◌, ◌-◌, ◌*◌, ◌≤◌}
use native.Mathlib.Omega.{arith}
use lib.ListN.{length, get_or, drop, get_or-eq_default}
use lib.Seq.{take_all}
use Rattle.std.proofs.lemmas.List.{get_or-drop, length-drop}
use Rattle.std.specs.List.{slice_range}
use Rattle.sheet.specs.Record.{byte_at}
use Rattle.sheet_laws.specs.AtOffset.{short_at, set_at, long_set_at}

module _ (s : List ℕ) (i : ℕ) (past : length s ≤ i) where
  pub byte_past : byte_at s i ≡ 0
  unfolding byte_at
  byte_past = get_or-eq_default s 0 past

module _ (s : List ℕ) (i : ℕ) (past : length s ≤ i) where
  pub short-past : short_at s i ≡ 0
  unfolding short_at
  short-past = omega (arith, byte_past s i past, byte_past s (i + 1) (omega arith))

module _ (s : List ℕ) (i : ℕ) (past : length s ≤ i) where
  pub set_past : set_at s i ≡ 0
  unfolding set_at
  set_past = omega (arith, short-past s i past, short-past s (i + 2) (omega arith))

module _ (s : List ℕ) (i : ℕ) (past : length s ≤ i) where
  pub long-set-past : long_set_at s i ≡ 0
  unfolding long_set_at
  long-set-past = omega (arith, set_past s i past, set_past s (i + 4) (omega arith))

pub set_is : (s : List ℕ) (i : ℕ)
    → set_at s i ≡ byte_at s i + 256 * byte_at s (i + 1) + 65536 * (byte_at s (i + 2) + 256 * byte_at s (i + 3))
unfolding set_at short_at
set_is s i =
    let three : i + 2 + 1 ≡ i + 3 = omega arith in
    ap (λ (k : ℕ). byte_at s i + 256 * byte_at s (i + 1) + 65536 * (byte_at s (i + 2) + 256 * byte_at s k)) three

-- the bytes from an offset on
module _ (s rest : List ℕ) (i : ℕ) (is : rest ≡ slice_range s i (length s)) where
  byte-of-rest : (k j : ℕ) → i + k ≡ j → get_or rest k 0 ≡ byte_at s j
  unfolding byte_at
  byte-of-rest k j at =
      ap (λ (l : List ℕ). get_or l k 0) (is ∙ take_all (length s - i) (drop i s) (omega (arith, length-drop i s)))
      ∙ get_or-drop i s k 0
      ∙ ap (byte_at s) at

  two_bytes : (k j l m : ℕ) → i + k ≡ j → i + l ≡ m → get_or rest k 0 + 256 * get_or rest l 0 ≡ byte_at s j + 256 * byte_at s m
  two_bytes k j l m a b = ap₂ (λ (x y : ℕ). x + 256 * y) (byte-of-rest k j a) (byte-of-rest l m b)

  pub short-of-rest : get_or rest 0 0 + 256 * get_or rest 1 0 ≡ short_at s i
  unfolding short_at
  short-of-rest = two_bytes 0 i 1 (i + 1) (omega arith) refl

  pub set-of-rest : get_or rest 0 0 + 256 * get_or rest 1 0 + 65536 * (get_or rest 2 0 + 256 * get_or rest 3 0) ≡ set_at s i
  set-of-rest =
      ap₂ (λ (x y : ℕ). x + 65536 * y) (two_bytes 0 i 1 (i + 1) (omega arith) refl) (two_bytes 2 (i + 2) 3 (i + 3) refl refl)
      ∙ sym (set_is s i)
