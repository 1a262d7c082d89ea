-- The second half of demand 3 is not empty: exact certificates exist for every list of rules, so for each sheet with true rules there are
-- certificates that pass all its tests; and document 01's sheet M is such a sheet, with exact certificates.
use mathlib.Core.Path.{◌≡◌, refl, sym}
use mathlib.Core.List.{List, [], ◌∷◌, ◌++◌}
use Prim.Native.Nat.{ℕ, zero, suc, ◌<◌}
use native.Mathlib.Omega.{arith}
use Rattle.condition.specs.Condition.{Condition, empty, ◌⊆◌}
use Rattle.condition.specs.Places.{leaves}
use Rattle.condition.proofs.Beside.{follows-leaf}
use Rattle.certificate.specs.Certificate.{Pair, pair, Certificate, pair_of, Reachable, start, onward, Exact}
use Rattle.certificate.proofs.Exists.{exact-exists}
use Rattle.sheet.specs.Model.{Model, large}
use Rattle.sheet.specs.Each.{nil, cons}
use Rattle.sheet.specs.Decode.{sheet_of}
use Rattle.runs.specs.Rules.{Claim, ◌is_in◌, holds_empty, Rule, ◌of◌says◌, rules, AllMet, count}
use Rattle.verdict.specs.Verdict.{Report, accepted, certificates_needed, verdict_of}
use Rattle.verdict.specs.Promise.{WellFormed, EachCertified, done, bare, certified, Passes, ExactFor, Loads}
use Rattle.verdict.specs.Cases.{point0, method0, three_starts, M}
use Rattle.verdict.proofs.RulesMet.{all_pass}
use Rattle.verdict.proofs.Bytes.{small, are-bytes}
use Rattle.verdict.proofs.Loads.{loads-as-promised}

-- For every list of rules -----------------------------------------------------------------------------------------------

-- certificates that are exact for the rules
abbrev pub HaveExact : ℕ → List Rule → Type 0
HaveExact events xs = (cs : List Certificate) × EachCertified (ExactFor events) xs cs

-- EXACT CERTIFICATES EXIST, whether or not the rules are true. They may be more than a sheet's bytes hold.
pub exact_exist : (events : ℕ) (xs : List Rule) → HaveExact events xs
exact_exist events [] = ([], done)
exact_exist events (x ∷ xs) = go x.claim (exact_exist events xs)
  where
    go : (claim : Claim) → HaveExact events xs → HaveExact events ((x.number of x.subject says claim) ∷ xs)
    go (a is_in b) (cs, h) = let (c, e) = exact-exists events a b in (c ∷ cs, certified e h)
    go (holds_empty a) (cs, h) = (cs, bare tt h)

-- so for true rules there are certificates with which each passes its test
pub passing-exist : (events : ℕ) (xs : List Rule) → AllMet xs → (cs : List Certificate) × EachCertified (Passes events) xs cs
passing-exist events xs met = let (cs, h) = exact_exist events xs in (cs, all_pass events h met)

-- Document 01's sheet M ---------------------------------------------------------------------------------------------------

-- the premises of the second half of demand 3, of the bytes s
pub record Premises (I : Model) (s : List ℕ) : Type 0 where
  pub well_formed : WellFormed I s
  pub true_rules : AllMet (rules (sheet_of I s))
  pub exact : EachCertified (ExactFor I.events) (rules (sheet_of I s)) (sheet_of I s).certificates

-- a condition without leaves has place 0 alone
only-start : {n : ℕ} (a b : Condition) → leaves a ≡ 0 → {p : Pair} → Reachable n a b p → p ≡ pair 0 1
only-start a b no-leaf start = refl
only-start a b no-leaf (onward {l} e q r h n t) = let (above, below) = follows-leaf a l q n in absurd (omega (arith, above, below, no-leaf))

pub in_itself : empty ⊆ empty
in_itself w h = h

-- so the start alone is exact for it
pub start-is-exact : {n : ℕ} (a b : Condition) → leaves a ≡ 0 → Exact n a b (pair 0 1 ∷ [])
start-is-exact {n} a b no-leaf =
    record {
      start_first = tt;
      only_reachable = reached;
      all_reachable = λ p r. (0, omega arith, sym (only-start a b no-leaf r));
    }
  where
    reached : (i : ℕ) → i < 1 → Reachable n a b (pair_of (pair 0 1 ∷ []) i)
    reached zero l = start
    reached (suc i) l = absurd (omega arith)

pub empty-is-exact : {n : ℕ} → Exact n empty empty (pair 0 1 ∷ [])
unfolding leaves
empty-is-exact = start-is-exact empty empty refl

-- a certificate that repeats a pair is exact too
pub twice-is-exact : {n : ℕ} → Exact n empty empty (pair 0 1 ∷ pair 0 1 ∷ [])
unfolding leaves
twice-is-exact {n} =
    record {
      start_first = tt;
      only_reachable = reached;
      all_reachable = λ p r. (0, omega arith, sym (only-start empty empty refl r));
    }
  where
    reached : (i : ℕ) → i < 2 → Reachable n empty empty (pair_of (pair 0 1 ∷ pair 0 1 ∷ []) i)
    reached zero l = start
    reached (suc zero) l = start
    reached (suc (suc i)) l = absurd (omega arith)

pub M-premises : Premises large M
unfolding sheet_of rules certificates_needed
M-premises =
    record {
      well_formed = record { reading = _; read = refl; enough = refl };
      true_rules = cons refl (cons refl (cons in_itself (cons refl (cons in_itself (cons in_itself nil)))));
      exact = bare tt (bare tt (certified empty-is-exact (bare tt (certified empty-is-exact (certified empty-is-exact done)))));
    }

-- and M with a pass from its point to itself
abbrev with_pass : List ℕ
with_pass = (0x02 ∷ 0x06 ∷ []) ++ (point0 ++ (method0 0 ++ ((0x0C ∷ 0 ∷ 0 ∷ 0 ∷ 0 ∷ []) ++ (three_starts ++ three_starts))))

pub with-pass-premises : Premises large with_pass
unfolding sheet_of rules certificates_needed
with-pass-premises =
    record {
      well_formed = record { reading = _; read = refl; enough = refl };
      true_rules =
          cons refl (cons refl (cons in_itself (cons refl (cons in_itself (cons in_itself
          (cons in_itself (cons in_itself (cons in_itself nil))))))));
      exact =
          bare tt (bare tt (certified empty-is-exact (bare tt (certified empty-is-exact (certified empty-is-exact
          (certified empty-is-exact (certified empty-is-exact (certified empty-is-exact done))))))));
    }

pub promised-with-pass : {answer : Report} → Loads large with_pass answer → answer ≡ accepted 9
unfolding sheet_of count
promised-with-pass l = l.complete with-pass-premises.well_formed with-pass-premises.true_rules with-pass-premises.exact

-- so whatever keeps the promise accepts M, and the definition does
pub promised-M : {answer : Report} → Loads large M answer → answer ≡ accepted 6
unfolding sheet_of count
promised-M l = l.complete M-premises.well_formed M-premises.true_rules M-premises.exact

pub M-accepted : verdict_of large M ≡ accepted 6
unfolding small
M-accepted = promised-M (loads-as-promised large (omega arith) M (are-bytes M tt))
