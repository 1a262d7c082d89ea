-- Clause 1, and then the pairs in order.
use mathlib.Core.Path.{◌≡◌, refl, sym, ap, ◌∙◌}
use mathlib.Core.Bool.{Bool, true, false, ◌&&◌, false≢true}
use mathlib.Core.List.{List, [], ◌∷◌}
use Prim.Native.Nat.{ℕ, ◌+◌, ◌*◌, ◌<◌, zero-le}
use native.Mathlib.Omega.{arith}
use native.Mathlib.Numerals.{add-one}
use lib.ListN.{length}
use lib.Dec.{eqb}
use Rattle.std.specs.Prelude.{Result, Err, Some, None}
use Rattle.condition.specs.Condition.{Condition}
use Rattle.certificate.specs.Certificate.{Pair, Certificate, pair_of, Finding, fine, found, fault, ◌then◌, in_order, unless, starts_right, pair_finding, check}
use Rattle.certificate.proofs.Findings.{is-fine, in_order-stops}
use Rattle.sheet_laws.specs.AtOffset.{certificate_at}
use Rattle.faults.specs.Fault.{fault_of, finding_of}
use Rattle.faults.specs.declared.Fault.{Fault}
use Rattle.pairs.specs.Found.{pair_found}
use Rattle.pairs.proofs.Laws.{found-pair, found-end, last-inside}
use Rattle.format.specs.Pairs.{pair_is}
use Rattle.format.specs.declared.listing.Pair as format
use Rattle.clauses.specs.Clauses.{Spans, each_pair}

-- Tests in order --------------------------------------------------------------------------------------------------------

pub fine_more : (i : ℕ) (f : ℕ → Finding) → in_order i f ≡ fine → f i ≡ fine → in_order (i + 1) f ≡ fine
unfolding in_order
fine_more i f h e = rw (add-one i, h, e)

pub first_found : {A : Type 0} {r : Result A Fault} {x : Fault} (n i : ℕ) (f : ℕ → Finding) → i < n → in_order i f ≡ fine → finding_of r ≡ f i → r ≡ Err x
    → found (fault_of x) ≡ in_order n f
first_found {r = r} {x} n i f a h g e = sym (in_order-stops n f i a (is-fine (in_order i f) h) (fault_of x) (sym g ∙ ap finding_of e))

-- Clause 1 --------------------------------------------------------------------------------------------------------------

starts_none : (c : Certificate) → 0 ≡ length c → starts_right c ≡ false
starts_none [] h = refl
starts_none (p ∷ c) h = absurd (omega arith)

starts_with : (c : Certificate) {p : Pair} → 0 < length c → pair_of c 0 ≡ p → starts_right c ≡ (eqb p.place 0 && eqb p.set 1)
starts_with [] l h = absurd (omega arith)
starts_with (q ∷ c) l h = ap (λ (x : Pair). eqb x.place 0 && eqb x.set 1) h

starts-some : (c : Certificate) → starts_right c ≡ true → 0 < length c
starts-some [] h = absurd (false≢true h)
starts-some (p ∷ c) h = omega arith

module _ (c : Certificate) where
  -- by what stands first
  pub no_pair : pair_found c 0 ≡ None → false ≡ starts_right c
  no_pair h = sym (starts_none c (found-end c 0 zero-le h))

  pub first-pair : {p : format.Pair} → pair_found c 0 ≡ Some p → (eqb p.place 0 && eqb p.set 1) ≡ starts_right c
  first-pair h = let (a, b) = found-pair c 0 h in sym (starts_with c a b)

-- a certificate that starts right has a pair
pub spans : (part : List ℕ) {n : ℕ} → starts_right (certificate_at part 0) ≡ true → n ≡ 6 * length (certificate_at part 0) + 1 → Spans part n
spans part h e =
    let (a, b) = last-inside part (length (certificate_at part 0)) refl (starts-some (certificate_at part 0) h) in
    record { bytes_are = e; begins = a; ends = omega arith }

-- All clauses -----------------------------------------------------------------------------------------------------------

module _ (events : ℕ) (l g : Condition) (c : Certificate) where
  -- what was found of the pair that was read is what is found of pair i
  pub found_of : {p : format.Pair} {v : Finding} (i : ℕ) → pair_of c i ≡ pair_is p → v ≡ pair_finding events l g c i (pair_is p) → v ≡ each_pair events l g c i
  found_of i p h = h ∙ ap (λ (x : Pair). pair_finding events l g c i x) (sym p)

  check-by : (b : Bool) → starts_right c ≡ b → (unless b (fault 1 0 0 0) then in_order (length c) (each_pair events l g c)) ≡ check events l g c
  unfolding check
  check-by b e = ap (λ (b : Bool). unless b (fault 1 0 0 0) then in_order (length c) (each_pair events l g c)) (sym e)

  pub wrong_start : starts_right c ≡ false → fault 1 0 0 0 ≡ check events l g c
  wrong_start e = check-by false e

  pub right-start : starts_right c ≡ true → in_order (length c) (each_pair events l g c) ≡ check events l g c
  right-start e = check-by true e
