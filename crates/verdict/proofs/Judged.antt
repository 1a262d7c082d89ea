-- Testing the rules in order finds nothing wrong exactly where each passes, and else the first fault; the verdict of a whole reading.
use mathlib.Core.Path.{◌≡◌, refl, sym, ap, ap₂, ◌∙◌}
use mathlib.Core.List.{List, [], ◌∷◌, ◌++◌, append_assoc}
use Prim.Native.Nat.{ℕ, ◌+◌}
use native.Mathlib.Omega.{arith}
use lib.ListN.{length}
use Rattle.certificate.specs.Certificate.{Certificate, Fault, Finding, fine, found}
use Rattle.runs.specs.Rules.{Claim, ◌is_in◌, holds_empty, Rule, ◌of◌says◌, total}
use Rattle.verdict.specs.Verdict.{Report, unproved, test_of, needed, certificates_needed, next_of, left_after, reported, first_fault}
use Rattle.verdict.specs.Promise.{EachCertified, done, bare, certified, Passes, FirstFault}

pub needed-is : (x : Rule) (xs : List Rule) → certificates_needed (x ∷ xs) ≡ needed x.claim + certificates_needed xs
unfolding certificates_needed total
needed-is x xs = refl

none_needed : certificates_needed [] ≡ 0
unfolding certificates_needed total
none_needed = refl

module _ (events : ℕ) (otherwise : Report) where
  -- what testing the rules with their certificates comes to
  pub data Tried (xs : List Rule) (cs : List Certificate) (report : Report) : Type 0 where
    all_pass : EachCertified (Passes events) xs cs → report ≡ otherwise → Tried xs cs report
    one_fails : (r k : ℕ) (f : Fault) → FirstFault events xs cs r k f → report ≡ unproved r k f → Tried xs cs report

  pub first_is : (x : Rule) (xs : List Rule) (cs : List Certificate)
      → first_fault events (x ∷ xs) cs otherwise
      ≡ reported x (test_of events x.claim (next_of cs)) (first_fault events xs (left_after x.claim cs) otherwise)
  unfolding first_fault
  first_is x xs cs = refl

  -- the next rule fails
  fails-here : (n k : ℕ) (claim : Claim) (xs : List Rule) (cs : List Certificate) (f : Fault) → test_of events claim (next_of cs) ≡ found f
      → FirstFault events ((n of k says claim) ∷ xs) cs n k f
  fails-here n k claim xs cs f h =
      record {
        before = [];
        failing = claim;
        after = xs;
        used = [];
        unused = cs;
        rules_are = refl;
        certificates_are = refl;
        before_pass = done;
        fails = h;
      }

  -- the next rule passes, and takes the certificates `mine`
  module _ (x : Rule) (mine : List Certificate)
      (longer : (ys : List Rule) (ds : List Certificate) → EachCertified (Passes events) ys ds → EachCertified (Passes events) (x ∷ ys) (mine ++ ds)) where
    fails-later : (xs : List Rule) (cs : List Certificate) (r k : ℕ) (v : Fault) → FirstFault events xs cs r k v
        → FirstFault events (x ∷ xs) (mine ++ cs) r k v
    fails-later xs cs r k v f =
        record {
          before = x ∷ f.before;
          failing = f.failing;
          after = f.after;
          used = mine ++ f.used;
          unused = f.unused;
          rules_are = ap (λ (ys : List Rule). x ∷ ys) f.rules_are;
          certificates_are = ap (λ (ds : List Certificate). mine ++ ds) f.certificates_are ∙ sym (append_assoc mine f.used f.unused);
          before_pass = longer f.before f.used f.before_pass;
          fails = f.fails;
        }

    tried-more : (xs : List Rule) (cs : List Certificate) (report : Report) → Tried xs cs report → Tried (x ∷ xs) (mine ++ cs) report
    tried-more xs cs report (all_pass p e) = all_pass (longer xs cs p) e
    tried-more xs cs report (one_fails r k v f h) = one_fails r k v (fails-later xs cs r k v f) h

  -- one rule, by what its test finds
  one-tried : (n k : ℕ) (claim : Claim) (mine : List Certificate) (xs : List Rule) (cs : List Certificate)
      → ((ys : List Rule) (ds : List Certificate) → test_of events claim (next_of (mine ++ cs)) ≡ fine → EachCertified (Passes events) ys ds
      → EachCertified (Passes events) ((n of k says claim) ∷ ys) (mine ++ ds))
      → (after : Report) → Tried xs cs after
      → Tried ((n of k says claim) ∷ xs) (mine ++ cs) (reported (n of k says claim) (test_of events claim (next_of (mine ++ cs))) after)
  one-tried n k claim mine xs cs longer after t = go (test_of events claim (next_of (mine ++ cs))) refl
    where
      go : (f : Finding) → test_of events claim (next_of (mine ++ cs)) ≡ f
          → Tried ((n of k says claim) ∷ xs) (mine ++ cs) (reported (n of k says claim) f after)
      go fine h = tried-more (n of k says claim) mine (λ ys ds p. longer ys ds h p) xs cs after t
      go (found f) h = one_fails n k f (fails-here n k claim xs (mine ++ cs) f h) refl

  -- TRIED: with as many certificates as the rules need
  pub tried : (xs : List Rule) (cs : List Certificate) → length cs ≡ certificates_needed xs → Tried xs cs (first_fault events xs cs otherwise)
  unfolding first_fault
  tried [] [] h = all_pass done refl
  tried [] (c ∷ cs) h = absurd (omega (arith, none_needed, h))
  tried (x ∷ xs) cs h = go x.claim cs (h ∙ needed-is x xs) (tried xs)
    where
      go : (claim : Claim) (cs : List Certificate) → length cs ≡ needed claim + certificates_needed xs
          → ((ds : List Certificate) → length ds ≡ certificates_needed xs → Tried xs ds (first_fault events xs ds otherwise))
          → Tried ((x.number of x.subject says claim) ∷ xs) cs
          (reported (x.number of x.subject says claim) (test_of events claim (next_of cs)) (first_fault events xs (left_after claim cs) otherwise))
      go (holds_empty a) cs l ih =
          one-tried x.number x.subject (holds_empty a) [] xs cs (λ ys ds p t. bare p t) (first_fault events xs cs otherwise) (ih cs (omega (arith, l)))
      go (a is_in b) [] l ih = absurd (omega (arith, l))
      go (a is_in b) (c ∷ cs) l ih =
          one-tried x.number x.subject (a is_in b) (c ∷ []) xs cs (λ ys ds p t. certified p t) (first_fault events xs cs otherwise) (ih cs (omega (arith, l)))

  -- and the other way round: where each passes, nothing is found
  pub pass_all : {xs : List Rule} {cs : List Certificate} → EachCertified (Passes events) xs cs → first_fault events xs cs otherwise ≡ otherwise
  unfolding first_fault
  pass_all done = refl
  pass_all (bare {n = n} {k = k} {a = a} {xs = xs} {cs = cs} p t) =
      ap (λ (v : Finding). reported (n of k says holds_empty a) v (first_fault events xs cs otherwise)) p ∙ pass_all t
  pass_all (certified {n = n} {k = k} {a = a} {b = b} {c = c} {xs = xs} {cs = cs} p t) =
      ap (λ (v : Finding). reported (n of k says a is_in b) v (first_fault events xs cs otherwise)) p ∙ pass_all t

  -- and the first fault is what is found
  first_found : {ys : List Rule} {used : List Certificate} → EachCertified (Passes events) ys used
      → (n k : ℕ) (claim : Claim) (after : List Rule) (unused : List Certificate) (f : Fault) → test_of events claim (next_of unused) ≡ found f
      → first_fault events (ys ++ ((n of k says claim) ∷ after)) (used ++ unused) otherwise ≡ unproved n k f
  unfolding first_fault
  first_found done n k claim after unused f h =
      ap (λ (v : Finding). reported (n of k says claim) v (first_fault events after (left_after claim unused) otherwise)) h
  first_found (bare {n = m} {k = j} {a = a} {xs = xs} {cs = cs} p t) n k claim after unused f h =
      ap (λ (v : Finding). reported (m of j says holds_empty a) v (first_fault events (xs ++ ((n of k says claim) ∷ after)) (cs ++ unused) otherwise)) p
      ∙ first_found t n k claim after unused f h
  first_found (certified {n = m} {k = j} {a = a} {b = b} {c = d} {xs = xs} {cs = cs} p t) n k claim after unused f h =
      ap (λ (v : Finding). reported (m of j says a is_in b) v (first_fault events (xs ++ ((n of k says claim) ∷ after)) (cs ++ unused) otherwise)) p
      ∙ first_found t n k claim after unused f h

  pub fault-found : {xs : List Rule} {cs : List Certificate} {r k : ℕ} {v : Fault} → FirstFault events xs cs r k v
      → first_fault events xs cs otherwise ≡ unproved r k v
  fault-found {r = r} {k = k} {v = v} f =
      ap₂ (λ (ys : List Rule) (ds : List Certificate). first_fault events ys ds otherwise) f.rules_are f.certificates_are
      ∙ first_found f.before_pass r k f.failing f.after f.unused v f.fails

-- each rule that needs a certificate has one of the list
pub enough-certified : {P : Claim → Certificate → Type 0} {xs : List Rule} {cs : List Certificate} → EachCertified P xs cs → length cs ≡ certificates_needed xs
enough-certified done = sym none_needed
enough-certified (bare {n = n} {k = k} {a = a} {xs = xs} p t) = omega (arith, enough-certified t, needed-is (n of k says holds_empty a) xs)
enough-certified (certified {n = n} {k = k} {a = a} {b = b} {xs = xs} p t) = omega (arith, enough-certified t, needed-is (n of k says a is_in b) xs)
