-- Answers told apart, and an answer told by its number and values.
use mathlib.Core.Path.{◌≡◌, refl, sym, ap, ap₂, subst}
use mathlib.Core.Option.{Option, none, some}
use mathlib.Core.List.{[], ◌∷◌}
use Prim.Native.Nat.{ℕ}
use native.Mathlib.Omega.{arith}
use lib.ListN.{length, get_or}
use Rattle.certificate.specs.Certificate.{Fault}
use Rattle.verdict.specs.Verdict.{Report, accepted, refused, unproved}
use Rattle.verdict.specs.WordTest.{Answer, held, not_held, untested}
use Rattle.verdict.specs.Reply.{Reply, ◌giving◌, place_value, fault_values, reply_of, answer_reply}

abbrev pub IsAccepted : Report → Type 0
IsAccepted (accepted n) = Unit {0}
IsAccepted (refused n at) = ⊥
IsAccepted (unproved r k f) = ⊥

abbrev pub IsUnproved : Report → Type 0
IsUnproved (accepted n) = ⊥
IsUnproved (refused n at) = ⊥
IsUnproved (unproved r k f) = Unit {0}

-- yes or no
abbrev pub IsTested : Answer → Type 0
IsTested held = Unit {0}
IsTested (not_held n) = Unit {0}
IsTested (untested n at) = ⊥

abbrev pub IsHeld : Answer → Type 0
IsHeld held = Unit {0}
IsHeld (not_held n) = ⊥
IsHeld (untested n at) = ⊥

-- the number that no carries
abbrev pub length_in : Answer → ℕ
length_in held = 0
length_in (not_held n) = n
length_in (untested n at) = 0

abbrev IsSome : Option ℕ → Type 0
IsSome none = ⊥
IsSome (some n) = Unit {0}

abbrev pub or_zero : Option ℕ → ℕ
or_zero none = 0
or_zero (some n) = n

-- of two equal replies: both have a number or none, and the numbers, the values and how many there are agree
has-number : {r t : Reply} → r ≡ t → IsSome t.number → IsSome r.number
has-number e h = subst (λ (x : Reply). IsSome x.number) (sym e) h

pub same_number : {r t : Reply} → r ≡ t → or_zero r.number ≡ or_zero t.number
same_number e = ap (λ (x : Reply). or_zero x.number) e

same_length : {r t : Reply} → r ≡ t → length r.values ≡ length t.values
same_length e = ap (λ (x : Reply). length x.values) e

pub same-value : {r t : Reply} (i : ℕ) → r ≡ t → get_or r.values i 0 ≡ get_or t.values i 0
same-value i e = ap (λ (x : Reply). get_or x.values i 0) e

-- a refusal's place by its value
same_place : (a b : Option ℕ) → length (place_value a) ≡ length (place_value b) → get_or (place_value a) 0 0 ≡ get_or (place_value b) 0 0 → a ≡ b
same_place none none l e = refl
same_place none (some b) l e = absurd (omega (arith, l))
same_place (some a) none l e = absurd (omega (arith, l))
same_place (some a) (some b) l e = ap (λ k. some k) e

pub reply-refused : (x : Report) (n at : ℕ) → reply_of x ≡ n giving (at ∷ []) → x ≡ refused n (some at)
reply-refused (accepted k) n at e = absurd (has-number e tt)
reply-refused (refused k a) n at e = ap₂ (λ m p. refused m p) (same_number e) (same_place a (some at) (same_length e) (same-value 0 e))
reply-refused (unproved r k f) n at e = absurd (omega (arith, same_length e))

few-values : (a : Option ℕ) → length (place_value a) ≡ 6 → ⊥
few-values none e = omega (arith, e)
few-values (some k) e = omega (arith, e)

pub reply-unproved : (x : Report) (r k : ℕ) (f : Fault) → reply_of x ≡ 11 giving (r ∷ k ∷ fault_values f) → x ≡ unproved r k f
reply-unproved (accepted n) r k f e = absurd (has-number e tt)
reply-unproved (refused n a) r k f e = absurd (few-values a (same_length e))
reply-unproved (unproved r' k' f') r k f e =
    rw (same-value 0 e, same-value 1 e, same-value 2 e, same-value 3 e, same-value 4 e, same-value 5 e) refl

pub reply-untested : (x : Answer) (n : ℕ) (at : Option ℕ) → answer_reply x ≡ n giving place_value at → x ≡ untested n at
reply-untested held n at e = absurd (has-number e tt)
reply-untested (not_held k) n at e = absurd (has-number e tt)
reply-untested (untested k a) n at e = ap₂ (λ m p. untested m p) (same_number e) (same_place a at (same_length e) (same-value 0 e))

-- yes and no have no number of document 01
pub tested-number : (x : Answer) → IsTested x → or_zero (answer_reply x).number ≡ 0
tested-number held t = refl
tested-number (not_held n) t = refl
tested-number (untested n at) t = absurd t
