-- The lines, as the pieces that are put for each.
use mathlib.Core.Path.{◌≡◌, refl, ap, ◌∙◌}
use mathlib.Core.Option.{Option, none, some}
use mathlib.Core.List.{List, ◌++◌, append_assoc, append-nil}
use Prim.Native.Nat.{ℕ}
use Rattle.certificate.specs.Certificate.{Fault}
use Rattle.verdict.specs.Verdict.{accepted, refused, unproved}
use Rattle.verdict.specs.WordTest.{held, not_held, untested}
use Rattle.verdict.specs.Line.{ascii, decimal, subject_name, refused_line, line, answer_line}

pub accepted-line : (n : ℕ) → line (accepted n) ≡ ascii "accepted " ++ decimal n
unfolding line
accepted-line n = ap (λ (d : List ℕ). ascii "accepted " ++ d) (append-nil (decimal n))

pub refused-line : (n : ℕ) (at : Option ℕ) → line (refused n at) ≡ refused_line n at
unfolding line
refused-line n at = refl

pub yes-line : answer_line held ≡ ascii "yes"
unfolding answer_line
yes-line = refl

pub no_line : (n : ℕ) → answer_line (not_held n) ≡ ascii "no " ++ decimal n
unfolding answer_line
no_line n = ap (λ (d : List ℕ). ascii "no " ++ d) (append-nil (decimal n))

pub untested-line : (n : ℕ) (at : Option ℕ) → answer_line (untested n at) ≡ refused_line n at
unfolding answer_line
untested-line n at = refl

-- a label x with its number y, and what follows them
and_then : {b c : List ℕ} (a x y z : List ℕ) → b ≡ a ++ (x ++ y) → c ≡ b ++ z → c ≡ a ++ (x ++ (y ++ z))
and_then a x y z p q = q ∙ ap (λ (l : List ℕ). l ++ z) p ∙ append_assoc a (x ++ y) z ∙ ap (λ (l : List ℕ). a ++ l) (append_assoc x y z)

-- a refusal's line, with a place and without
module _ (o : List ℕ) {o₁ : List ℕ} {n m : ℕ} {at : Option ℕ} (number : n ≡ m) (first : o₁ ≡ o ++ (ascii "refused " ++ decimal n)) where
  pub refused-somewhere : {o₂ : List ℕ} {k : ℕ} → some k ≡ at → o₂ ≡ o₁ ++ (ascii " at " ++ decimal k) → o₂ ≡ o ++ refused_line m at
  refused-somewhere e p = rw (← e, ← number, append-nil) (and_then _ (ascii "refused ") (decimal n) _ first p)

  pub refused-nowhere : none ≡ at → o₁ ≡ o ++ refused_line m at
  refused-nowhere e = rw (← e, ← number, append-nil) first

-- an unproved answer's line
pub unproved-pieces : (o : List ℕ) {o₁ o₂ o₃ o₄ o₅ o₆ : List ℕ} {r k r' k' : ℕ} (f : Fault) → r ≡ r' → k ≡ k'
    → o₁ ≡ o ++ (ascii "unproved rule " ++ decimal r) → o₂ ≡ o₁ ++ (subject_name r ++ decimal k)
    → o₃ ≡ o₂ ++ (ascii " clause " ++ decimal f.clause) → o₄ ≡ o₃ ++ (ascii " pair " ++ decimal f.pair)
    → o₅ ≡ o₄ ++ (ascii " event " ++ decimal f.event) → o₆ ≡ o₅ ++ (ascii " place " ++ decimal f.place) → o₆ ≡ o ++ line (unproved r' k' f)
unfolding line
unproved-pieces o {r} {k} f same-rule same-subject p₁ p₂ p₃ p₄ p₅ p₆ =
    rw (← same-rule, ← same-subject, append-nil)
    (and_then _ (ascii "unproved rule ") (decimal r) _ p₁
    (and_then _ (subject_name r) (decimal k) _ p₂
    (and_then _ (ascii " clause ") (decimal f.clause) _ p₃
    (and_then _ (ascii " pair ") (decimal f.pair) _ p₄
    (and_then _ (ascii " event ") (decimal f.event) _ p₅ p₆)))))
