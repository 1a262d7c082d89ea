-- The pairs of a certificate, record after record.
use mathlib.Core.Path.{◌≡◌, refl, sym, ap, ◌∙◌, subst}
use mathlib.Core.Bool.{Bool, true, false, cond, ◌&&◌}
use mathlib.Core.List.{List, [], ◌∷◌, ◌++◌}
use Prim.Native.Nat.{ℕ, zero, suc, ◌+◌, ◌*◌, ◌<◌}
use native.Mathlib.Nat.{le_of_suc-le-suc, not-suc-le-zero}
use native.Mathlib.Omega.{arith}
use lib.ListN.{length}
use lib.Dec.{T, eqb, ltb}
use borrow.Author.Tests.{eqb-true, ne_eqb, ltb-true, lt-ltb}
use Rattle.certificate.specs.Certificate.{Certificate}
use Rattle.sheet.specs.Kind.{body_length}
use Rattle.sheet.specs.Record.{byte_at, next_at}
use Rattle.sheet_laws.specs.AtOffset.{pair_at, has_pair, pairs_on, certificate_at}
use Rattle.sheet_laws.proofs.Take.{next_is}

module _ (s : List ℕ) (at : ℕ) where
  -- a pair is six bytes, the end of a certificate one
  pub pair-next : byte_at s at ≡ 13 → next_at s at ≡ at + 6
  pair-next e = let length : body_length (byte_at s at) ≡ 5 = ap body_length e in omega (arith, next_is s at)

  pub end-next : byte_at s at ≡ 14 → next_at s at ≡ suc at
  end-next e = let length : body_length (byte_at s at) ≡ 0 = ap body_length e in omega (arith, next_is s at)

  -- a pair stands at the offset: its kind, and that its last byte is inside
  pub pair-out : has_pair s at ≡ true → (byte_at s at ≡ 13) × (at + 5 < length s)
  unfolding has_pair
  pair-out e = go (eqb (byte_at s at) 13) refl e
    where
      go : (b : Bool) → eqb (byte_at s at) 13 ≡ b → (b && ltb (at + 5) (length s)) ≡ true → (byte_at s at ≡ 13) × (at + 5 < length s)
      go true k l = (eqb-true (byte_at s at) 13 k, ltb-true (at + 5) (length s) l)
      go false k l = absurd (subst T (sym l) tt)

  pub pair-in : byte_at s at ≡ 13 → at + 5 < length s → has_pair s at ≡ true
  unfolding has_pair
  pair-in e h = simp (e, lt-ltb (at + 5) (length s) h)

  -- none stands there where the kind is another one
  pub not-pair : (byte_at s at ≡ 13 → ⊥) → has_pair s at ≡ false
  unfolding has_pair
  not-pair n = simp (ne_eqb (byte_at s at) 13 n)

  pub pair-on : (fuel : ℕ) → has_pair s at ≡ true → pairs_on s (suc fuel) at ≡ pair_at s at ∷ pairs_on s fuel (at + 6)
  unfolding pairs_on
  pair-on fuel e =
      ap (λ (b : Bool). cond b (pair_at s at ∷ pairs_on s fuel (next_at s at)) []) e
      ∙ ap (λ (n : ℕ). pair_at s at ∷ pairs_on s fuel n) (pair-next (pair-out e).0)

  pub pair-off : (fuel : ℕ) → has_pair s at ≡ false → pairs_on s fuel at ≡ []
  unfolding pairs_on
  pair-off zero e = refl
  pair-off (suc fuel) e = ap (λ (b : Bool). cond b (pair_at s at ∷ pairs_on s fuel (next_at s at)) []) e

-- these pairs stand from an offset on, and the record after them at the offset `end`
pub data PairsTo (s : List ℕ) (end : ℕ) : ℕ → Certificate → Type 0 where
  no_pair : PairsTo s end end []
  one_pair : {at : ℕ} {ps : Certificate} → byte_at s at ≡ 13 → PairsTo s end (at + 6) ps → PairsTo s end at (pair_at s at ∷ ps)

module _ (s : List ℕ) (end : ℕ) where
  pub one-pair-more : {at : ℕ} {ps : Certificate} → byte_at s end ≡ 13 → PairsTo s end at ps → PairsTo s (end + 6) at (ps ++ (pair_at s end ∷ []))
  one-pair-more e no_pair = one_pair e no_pair
  one-pair-more e (one_pair f t) = one_pair f (one-pair-more e t)

  pub pairs_end : {at : ℕ} {ps : Certificate} → PairsTo s end at ps → end ≡ at + 6 * length ps
  pairs_end no_pair = omega arith
  pairs_end (one_pair e t) = omega (arith, pairs_end t)

  pairs-on : (byte_at s end ≡ 13 → ⊥) → end < length s → (fuel : ℕ) {at : ℕ} {ps : Certificate} → length ps < fuel → PairsTo s end at ps
      → pairs_on s fuel at ≡ ps
  pairs-on closes inside zero h t = absurd (not-suc-le-zero h)
  pairs-on closes inside (suc fuel) h no_pair = pair-off s end (suc fuel) (not-pair s end closes)
  pairs-on closes inside (suc fuel) h (one_pair {at = at} e t) =
      pair-on s at fuel (pair-in s at e (omega (arith, pairs_end t)))
      ∙ ap (λ (ps : Certificate). pair_at s at ∷ ps) (pairs-on closes inside fuel (le_of_suc-le-suc h) t)

  -- they are the certificate there
  pub certificate-stands : (byte_at s end ≡ 13 → ⊥) → end < length s → {at : ℕ} {ps : Certificate} → PairsTo s end at ps → certificate_at s at ≡ ps
  unfolding certificate_at
  certificate-stands closes inside t = pairs-on closes inside (length s) (omega (arith, pairs_end t)) t
