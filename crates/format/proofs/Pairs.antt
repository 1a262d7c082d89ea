-- What is read of a certificate at an offset, field by field.
use mathlib.Core.Path.{◌≡◌, refl, sym, ap, ◌∙◌}
use mathlib.Core.Bool.{Bool, true, false, cond, ◌&&◌}
use mathlib.Core.List.{List}
use Prim.Native.Nat.{ℕ, ◌+◌, ◌≤◌, ◌<◌}
use lib.Dec.{eqb, ltb}
use lib.ListN.{length}
use borrow.Author.Tests.{lt-ltb, le-ltb, eq-eqb, ne_eqb}
use Rattle.std.specs.Prelude.{Option, None, Result, Ok, Err}
use Rattle.std.specs.Result.{result_ok}
use Rattle.certificate.specs.Certificate as certificate
use Rattle.certificate.specs.Certificate.{pair}
use Rattle.sheet.specs.Record.{byte_at}
use Rattle.sheet_laws.specs.AtOffset.{set_at, pair_at, has_pair}
use Rattle.format.specs.Pairs.{pair_is, fields_at, listed_at}
use Rattle.format.specs.declared.listing.Pair.{Pair}

module _ (s : List ℕ) (at : ℕ) where
  pub fields-are : {p : Pair} → p.place ≡ byte_at s (at + 1) → p.set ≡ set_at s (at + 2) → pair_is p ≡ pair_at s at
  unfolding pair_at
  fields-are e f = rw (e, f) refl

  fields-of : {p : Pair} → pair_is p ≡ pair_at s at → p ≡ fields_at s at
  unfolding pair_at
  fields-of e = ap (λ (q : certificate.Pair). record { place = q.place; set = q.set }) e

  -- six bytes are there, and the first says that they are a pair, or does not
  pub listed-pair : {p : Pair} → at + 5 < length s → byte_at s at ≡ 13 → pair_is p ≡ pair_at s at → Ok p ≡ listed_at s at
  unfolding listed_at
  listed-pair {p} h k e =
      ap (λ (q : Pair). Ok q) (fields-of e)
      ∙ sym (simp (lt-ltb (at + 5) (length s) h, eq-eqb (byte_at s at) 13 k))

  pub listed-fields : {p : Pair} → at + 5 < length s → (byte_at s at ≡ 13 → ⊥) → pair_is p ≡ pair_at s at → Err p ≡ listed_at s at
  unfolding listed_at
  listed-fields {p} h k e =
      ap (λ (q : Pair). Err q) (fields-of e)
      ∙ sym (simp (lt-ltb (at + 5) (length s) h, ne_eqb (byte_at s at) 13 k))

  -- fewer are
  pub listed-past : length s ≤ at + 5 → Err (record { place = 0; set = 0 }) ≡ listed_at s at
  unfolding listed_at
  listed-past h = sym (simp (le-ltb (at + 5) (length s) h))

  -- where the first byte is no pair's none stands, whether six bytes are there or fewer
  pub listed-other : (byte_at s at ≡ 13 → ⊥) → None ≡ result_ok (listed_at s at)
  unfolding listed_at
  listed-other k = go (ltb (at + 5) (length s))
    where
      go : (b : Bool) → ◌≡◌ {A = Option Pair} None
          (result_ok (cond b (cond (eqb (byte_at s at) 13) (Ok (fields_at s at)) (Err (fields_at s at))) (Err (record { place = 0; set = 0 }))))
      go true = simp (ne_eqb (byte_at s at) 13 k)
      go false = refl

  -- what is found is a pair where one stands, and then it is that one
  pub listed-there : {p : Pair} → Ok p ≡ listed_at s at → (has_pair s at ≡ true) × (pair_is p ≡ pair_at s at)
  unfolding listed_at has_pair pair_at
  listed-there {p} h = go (eqb (byte_at s at) 13) (ltb (at + 5) (length s)) h
    where
      go : (k b : Bool) → Ok p ≡ cond b (cond k (Ok (fields_at s at)) (Err (fields_at s at))) (Err (record { place = 0; set = 0 }))
          → ((k && b) ≡ true) × (pair_is p ≡ pair (byte_at s (at + 1)) (set_at s (at + 2)))
      go true true e = (refl, let y : p ≡ fields_at s at = cc in ap (λ (q : Pair). pair_is q) y)
      go true false e = cc
      go false true e = cc
      go false false e = cc

  pub listed-none : {p : Pair} → Err p ≡ listed_at s at → has_pair s at ≡ false
  unfolding listed_at has_pair
  listed-none {p} h = go (eqb (byte_at s at) 13) (ltb (at + 5) (length s)) h
    where
      go : (k b : Bool) → Err p ≡ cond b (cond k (Ok (fields_at s at)) (Err (fields_at s at))) (Err (record { place = 0; set = 0 })) → (k && b) ≡ false
      go true true e = cc
      go true false e = refl
      go false b e = refl
