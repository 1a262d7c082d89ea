-- The pairs of a certificate, one after another.
use mathlib.Core.Path.{◌≡◌, refl, sym, ap, ap₂, ◌∙◌, subst}
use mathlib.Core.Bool.{Bool, true, false, cond, ◌&&◌}
use mathlib.Core.List.{List, [], ◌∷◌}
use Prim.Native.Nat.{ℕ, zero, suc, ◌+◌, ◌*◌, ◌^◌, ◌≤◌, ◌<◌}
use native.Mathlib.Omega.{arith}
use lib.Dec.{T, eqb, ltb}
use lib.ListN.{length, drop, length-drop}
use lib.Seq.{get_or-drop}
use borrow.Author.Tests.{lt-ltb, le-ltb, ltb-true, ltb-false}
use Rattle.std.specs.Prelude.{None, Some, Result, Ok, Err}
use Rattle.std.specs.Result.{result_ok}
use Rattle.certificate.specs.Certificate.{Pair, Certificate, pair_of}
use Rattle.sheet.specs.Record.{Bytes, byte_at, next_at}
use Rattle.sheet_laws.specs.AtOffset.{set_at, pair_at, has_pair, pairs_on, certificate_at}
use Rattle.sheet_laws.proofs.Pairs.{pair-out, pair-on, pair-off}
use Rattle.fields.proofs.Laws.{set_is}
use Rattle.format.specs.Pairs.{pair_is, listed_at}
use Rattle.format.proofs.Pairs.{listed-there, listed-none}
use Rattle.format.specs.declared.listing.Pair as format
use Rattle.pairs.specs.Found.{pair_value, pair_found}

-- a set is below 2 ^ 32
set-lt : (s : List ℕ) → Bytes s → (i : ℕ) → set_at s i < 2 ^ 32
unfolding byte_at
set-lt s bytes i = omega (arith, set_is s i, bytes i, bytes (i + 1), bytes (i + 2), bytes (i + 3))

-- The certificate at an offset: a pair and the certificate after it, or nothing ------------------------------------------

-- fuel past the end of the sheet adds nothing
on-past : (s : List ℕ) (fuel at : ℕ) → length s ≤ at → pairs_on s fuel at ≡ []
on-past s fuel at h = go (has_pair s at) refl
  where
    go : (b : Bool) → has_pair s at ≡ b → pairs_on s fuel at ≡ []
    go true e = absurd (omega (arith, (pair-out s at e).1))
    go false e = pair-off s at fuel e

fuel-enough : (s : List ℕ) (f g at : ℕ) → length s ≤ f + at → length s ≤ g + at → pairs_on s f at ≡ pairs_on s g at
unfolding pairs_on next_at
fuel-enough s zero g at h k = sym (on-past s g at (omega arith))
fuel-enough s (suc f) zero at h k = on-past s (suc f) at (omega arith)
fuel-enough s (suc f) (suc g) at h k =
    ap (λ (c : Certificate). cond (has_pair s at) (pair_at s at ∷ c) []) (fuel-enough s f g (next_at s at) (omega arith) (omega arith))

certificate-more : (s : List ℕ) (at : ℕ) → has_pair s at ≡ true → certificate_at s at ≡ pair_at s at ∷ certificate_at s (at + 6)
unfolding certificate_at
certificate-more s at e = fuel-enough s (length s) (suc (length s)) at (omega arith) (omega arith) ∙ pair-on s at (length s) e

certificate-end : (s : List ℕ) (at : ℕ) → has_pair s at ≡ false → certificate_at s at ≡ []
unfolding certificate_at
certificate-end s at e = pair-off s at (length s) e

-- The part of the sheet from a certificate's first pair on ----------------------------------------------------------------

module _ (s : List ℕ) (from : ℕ) where
  part-byte : (at : ℕ) → byte_at (drop from s) at ≡ byte_at s (from + at)
  unfolding byte_at
  part-byte at = get_or-drop from s at 0

  part-set : (at : ℕ) → set_at (drop from s) at ≡ set_at s (from + at)
  part-set at =
      let one : from + (at + 1) ≡ from + at + 1 = omega arith in
      let two : from + (at + 2) ≡ from + at + 2 = omega arith in
      let three : from + (at + 3) ≡ from + at + 3 = omega arith in
      rw (set_is (drop from s) at, set_is s (from + at), part-byte at, part-byte (at + 1), part-byte (at + 2), part-byte (at + 3), one, two, three)

  part_pair : (at : ℕ) → pair_at (drop from s) at ≡ pair_at s (from + at)
  unfolding pair_at
  part_pair at =
      let one : from + (at + 1) ≡ from + at + 1 = omega arith in
      let two : from + (at + 2) ≡ from + at + 2 = omega arith in
      rw (part-byte (at + 1), part-set (at + 2), one, two)

  part_end : (at : ℕ) → ltb (at + 5) (length (drop from s)) ≡ ltb (from + at + 5) (length s)
  part_end at = go (ltb (from + at + 5) (length s)) refl
    where
      go : (b : Bool) → ltb (from + at + 5) (length s) ≡ b → ltb (at + 5) (length (drop from s)) ≡ b
      go true e = lt-ltb (at + 5) (length (drop from s)) (omega (arith, length-drop from s, ltb-true (from + at + 5) (length s) e))
      go false e = le-ltb (at + 5) (length (drop from s)) (omega (arith, length-drop from s, ltb-false (from + at + 5) (length s) e))

  part-has : (at : ℕ) → has_pair (drop from s) at ≡ has_pair s (from + at)
  unfolding has_pair
  part-has at = ap₂ (λ (k : ℕ) (b : Bool). eqb k 13 && b) (part-byte at) (part_end at)

  part-on : (fuel at : ℕ) → pairs_on (drop from s) fuel at ≡ pairs_on s fuel (from + at)
  unfolding pairs_on
  part-on zero at = refl
  part-on (suc fuel) at = go (part-on fuel (at + 6)) (has_pair s (from + at)) refl
    where
      go : pairs_on (drop from s) fuel (at + 6) ≡ pairs_on s fuel (from + (at + 6)) → (b : Bool) → has_pair s (from + at) ≡ b
          → pairs_on (drop from s) (suc fuel) at ≡ pairs_on s (suc fuel) (from + at)
      go more true e =
          let six : from + (at + 6) ≡ from + at + 6 = omega arith in
          pair-on (drop from s) at fuel (part-has at ∙ e)
          ∙ ap₂ (λ (p : Pair) (c : Certificate). p ∷ c) (part_pair at) (more ∙ ap (pairs_on s fuel) six)
          ∙ sym (pair-on s (from + at) fuel e)
      go more false e = pair-off (drop from s) at (suc fuel) (part-has at ∙ e) ∙ sym (pair-off s (from + at) (suc fuel) e)

  -- has the same certificate at its start
  pub certificate-part : certificate_at (drop from s) 0 ≡ certificate_at s from
  unfolding certificate_at
  certificate-part =
      let same : from + 0 ≡ from = omega arith in
      part-on (length (drop from s)) 0
      ∙ ap (pairs_on s (length (drop from s))) same
      ∙ fuel-enough s (length (drop from s)) (length s) from (omega (arith, length-drop from s)) (omega arith)

-- Pair i stands 6 * i bytes on ------------------------------------------------------------------------------------------

module _ (s : List ℕ) where
  begins : (from : ℕ) → 0 < length (certificate_at s from) → has_pair s from ≡ true
  begins from l = go (has_pair s from) refl
    where
      go : (b : Bool) → has_pair s from ≡ b → has_pair s from ≡ true
      go true e = e
      go false e = absurd (omega (arith, ap length (certificate-end s from e)))

  -- each pair stands there
  stands : (i from at : ℕ) → at ≡ from + 6 * i → i < length (certificate_at s from) → (has_pair s at ≡ true) × (pair_of (certificate_at s from) i ≡ pair_at s at)
  stands zero from at a l =
      let k = begins from (omega arith) in
      let here : from ≡ at = omega arith in
      (ap (has_pair s) (sym here) ∙ k, rw (certificate-more s from k) (ap (pair_at s) here))
  stands (suc i) from at a l =
      let m = certificate-more s from (begins from (omega arith)) in
      let (x, y) = stands i (from + 6) at (omega arith) (omega (arith, ap length m)) in
      (x, rw m y)

  -- and behind the last one none
  ends : (n from at : ℕ) → at ≡ from + 6 * n → length (certificate_at s from) ≡ n → has_pair s at ≡ true → ⊥
  ends zero from at a e k =
      let here : at ≡ from = omega arith in
      omega (arith, ap length (certificate-more s from (ap (has_pair s) (sym here) ∙ k)))
  ends (suc n) from at a e k =
      let m = certificate-more s from (begins from (omega arith)) in
      ends n (from + 6) at (omega arith) (omega (arith, ap length m)) k

  module _ (i : ℕ) where
    pair-stands : i < length (certificate_at s 0) → has_pair s (6 * i) ≡ true
    pair-stands l = (stands i 0 (6 * i) (omega arith) l).0

    -- all six bytes of it
    pub pair-whole : i < length (certificate_at s 0) → 6 * i + 5 < length s
    pair-whole l = (pair-out s (6 * i) (pair-stands l)).1

    pub pair_inside : i < length (certificate_at s 0) → 6 * i < length s
    pair_inside l = omega (arith, pair-whole l)

    pub pair_read : i < length (certificate_at s 0) → pair_of (certificate_at s 0) i ≡ pair_at s (6 * i)
    pair_read l = (stands i 0 (6 * i) (omega arith) l).1

    -- its set is a number of four bytes
    pub set-narrow : Bytes s → i < length (certificate_at s 0) → (pair_of (certificate_at s 0) i).set < 2 ^ 32
    unfolding pair_at
    set-narrow bytes l = omega (arith, ap (λ (p : Pair). p.set) (pair_read l), set-lt s bytes (6 * i + 2))

    -- where a pair stands i is the number of one
    pair-there : i ≤ length (certificate_at s 0) → has_pair s (6 * i) ≡ true → i < length (certificate_at s 0)
    pair-there l k = go (ltb i (length (certificate_at s 0))) refl
      where
        go : (b : Bool) → ltb i (length (certificate_at s 0)) ≡ b → i < length (certificate_at s 0)
        go true e = ltb-true i (length (certificate_at s 0)) e
        go false e =
            let h = ltb-false i (length (certificate_at s 0)) e in
            absurd (ends i 0 (6 * i) (omega arith) (omega arith) k)

  -- the offset behind pair i is inside or at the end
  pub behind-pair : (i : ℕ) → i ≤ length (certificate_at s 0) → 6 * i ≤ length s
  behind-pair zero l = omega arith
  behind-pair (suc i) l = omega (arith, pair-whole i l)

  -- all pairs stand in the bytes
  pub pairs-within : 6 * length (certificate_at s 0) ≤ length s
  pairs-within = behind-pair (length (certificate_at s 0)) (omega arith)

  pub pairs-near : (i k : ℕ) → i ≤ length (certificate_at s 0) → length s + 6 ≤ k → 6 * i < k
  pairs-near i k l h = omega (arith, behind-pair i l)

-- a certificate with a pair ends before the end of its part, or there
pub last-inside : (s : List ℕ) (n : ℕ) → n ≡ length (certificate_at s 0) → 0 < n → (0 < length s) × (6 * n ≤ length s)
last-inside s n e h = let w = pairs-within s in (omega arith, omega arith)

-- What a reader finds ---------------------------------------------------------------------------------------------------

-- the fields that are read where the certificate has a pair
pub read_is : (s : List ℕ) (i : ℕ) {p : format.Pair} → pair_is p ≡ pair_at s (6 * i) → i < length (certificate_at s 0) → pair_of (certificate_at s 0) i ≡ pair_is p
read_is s i h l = pair_read s i l ∙ sym h

module _ (s : List ℕ) (i : ℕ) (l : i ≤ length (certificate_at s 0)) where
  a-pair-is : {p : format.Pair} → Ok p ≡ listed_at s (6 * i) → Some p ≡ pair_found (certificate_at s 0) i
  unfolding pair_found
  a-pair-is {p} h =
      let there = listed-there s (6 * i) h in
      let k = pair-there s i l there.0 in
      rw (lt-ltb i (length (certificate_at s 0)) k) (ap (λ (p : Pair). Some (pair_value p)) (sym (read_is s i there.1 k)))

  the-end-is : {p : format.Pair} → Err p ≡ listed_at s (6 * i) → None ≡ pair_found (certificate_at s 0) i
  unfolding pair_found
  the-end-is h = go (ltb i (length (certificate_at s 0))) refl
    where
      go : (b : Bool) → ltb i (length (certificate_at s 0)) ≡ b → None ≡ cond b (Some (pair_value (pair_of (certificate_at s 0) i))) None
      go false _ = refl
      go true k =
          let there = pair-stands s i (ltb-true i (length (certificate_at s 0)) k) in
          absurd (subst T (sym there ∙ listed-none s (6 * i) h) tt)

  -- up to the last pair one stands there, and then something else
  pub found-is : {e : Result format.Pair format.Pair} → e ≡ listed_at s (6 * i) → result_ok e ≡ pair_found (certificate_at s 0) i
  found-is {e = Ok p} h = a-pair-is h
  found-is {e = Err p} h = the-end-is h

-- and what that says of the certificate
module _ (c : Certificate) (i : ℕ) where
  pub found-pair : {p : format.Pair} → pair_found c i ≡ Some p → (i < length c) × (pair_of c i ≡ pair_is p)
  unfolding pair_found
  found-pair {p} h = go (ltb i (length c)) refl h
    where
      go : (b : Bool) → ltb i (length c) ≡ b → cond b (Some (pair_value (pair_of c i))) None ≡ Some p → (i < length c) × (pair_of c i ≡ pair_is p)
      go true e h = (ltb-true i (length c) e, let y : pair_value (pair_of c i) ≡ p = cc in ap (λ (q : format.Pair). pair_is q) y)
      go false e h = let z : ◌≡◌ {A = ℕ} 0 1 = cc in absurd (omega arith)

  pub found-end : i ≤ length c → pair_found c i ≡ None → i ≡ length c
  unfolding pair_found
  found-end l h = go (ltb i (length c)) refl h
    where
      go : (b : Bool) → ltb i (length c) ≡ b → cond b (Some (pair_value (pair_of c i))) None ≡ None → i ≡ length c
      go true e h = let z : ◌≡◌ {A = ℕ} 0 1 = cc in absurd (omega arith)
      go false e h = let k = ltb-false i (length c) e in omega arith
