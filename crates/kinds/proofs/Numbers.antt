-- Each number from 1 to the last is that of a kind, and of one kind only.
use mathlib.Core.Path.{◌≡◌, refl, sym, ap, ◌∙◌}
use mathlib.Core.Bool.{false, ◌||◌}
use Prim.Native.Nat.{ℕ, zero, suc, ◌≤◌}
use native.Mathlib.Omega.{arith}
use lib.Dec.{eqb}
use borrow.Author.Tests.{ne_eqb}
use Rattle.std.specs.Prelude.{Option, Some, None}
use Rattle.std.specs.Option.{unwrap_or}
use Rattle.kinds.specs.declared.Kind.{Kind}
use Rattle.kinds.specs.declared.Kind.TheVariants.{Leaf, Empty, Join, Either, Star, ConditionEnd, Point, Primitive, WithBody, Event, Call, Pass, Pair, CertificateEnd, TwoOutcomePrimitive, TwoOutcomeBody, TwoOutcomeCall, Edition, Stop, OwnedPoint, LongLeaf, ChannelCall}
use Rattle.kinds.specs.Kinds.{last_kind}
use Rattle.kinds.specs.declared.Section.{Section}
use Rattle.kinds.specs.declared.Section.TheVariants.{Conditions, Points, Methods, Steps, Certificates}
use Rattle.kinds.specs.Numbers.{kind_number, section_number}

pub kind-of : (n : ℕ) → 1 ≤ n → n ≤ last_kind → (k : Kind) × (kind_number k ≡ n)
kind-of zero low high = absurd (omega arith)
kind-of (suc zero) low high = (Leaf, refl)
kind-of (suc (suc zero)) low high = (Empty, refl)
kind-of (suc (suc (suc zero))) low high = (Join, refl)
kind-of (suc (suc (suc (suc zero)))) low high = (Either, refl)
kind-of (suc (suc (suc (suc (suc zero))))) low high = (Star, refl)
kind-of (suc (suc (suc (suc (suc (suc zero)))))) low high = (ConditionEnd, refl)
kind-of (suc (suc (suc (suc (suc (suc (suc zero))))))) low high = (Point, refl)
kind-of (suc (suc (suc (suc (suc (suc (suc (suc zero)))))))) low high = (Primitive, refl)
kind-of (suc (suc (suc (suc (suc (suc (suc (suc (suc zero))))))))) low high = (WithBody, refl)
kind-of (suc (suc (suc (suc (suc (suc (suc (suc (suc (suc zero)))))))))) low high = (Event, refl)
kind-of (suc (suc (suc (suc (suc (suc (suc (suc (suc (suc (suc zero))))))))))) low high = (Call, refl)
kind-of (suc (suc (suc (suc (suc (suc (suc (suc (suc (suc (suc (suc zero)))))))))))) low high = (Pass, refl)
kind-of (suc (suc (suc (suc (suc (suc (suc (suc (suc (suc (suc (suc (suc zero))))))))))))) low high = (Pair, refl)
kind-of (suc (suc (suc (suc (suc (suc (suc (suc (suc (suc (suc (suc (suc (suc zero)))))))))))))) low high = (CertificateEnd, refl)
kind-of (suc (suc (suc (suc (suc (suc (suc (suc (suc (suc (suc (suc (suc (suc (suc zero))))))))))))))) low high = (TwoOutcomePrimitive, refl)
kind-of (suc (suc (suc (suc (suc (suc (suc (suc (suc (suc (suc (suc (suc (suc (suc (suc zero)))))))))))))))) low high = (TwoOutcomeBody, refl)
kind-of (suc (suc (suc (suc (suc (suc (suc (suc (suc (suc (suc (suc (suc (suc (suc (suc (suc zero))))))))))))))))) low high = (TwoOutcomeCall, refl)
kind-of (suc (suc (suc (suc (suc (suc (suc (suc (suc (suc (suc (suc (suc (suc (suc (suc (suc (suc zero)))))))))))))))))) low high = (Edition, refl)
kind-of (suc (suc (suc (suc (suc (suc (suc (suc (suc (suc (suc (suc (suc (suc (suc (suc (suc (suc (suc zero))))))))))))))))))) low high = (Stop, refl)
kind-of (suc (suc (suc (suc (suc (suc (suc (suc (suc (suc (suc (suc (suc (suc (suc (suc (suc (suc (suc (suc zero)))))))))))))))))))) low high = (OwnedPoint, refl)
kind-of (suc (suc (suc (suc (suc (suc (suc (suc (suc (suc (suc (suc (suc (suc (suc (suc (suc (suc (suc (suc (suc zero))))))))))))))))))))) low high = (LongLeaf, refl)
kind-of (suc (suc (suc (suc (suc (suc (suc (suc (suc (suc (suc (suc (suc (suc (suc (suc (suc (suc (suc (suc (suc (suc zero)))))))))))))))))))))) low high = (ChannelCall, refl)
kind-of (suc (suc (suc (suc (suc (suc (suc (suc (suc (suc (suc (suc (suc (suc (suc (suc (suc (suc (suc (suc (suc (suc (suc n))))))))))))))))))))))) low high = absurd (omega arith)

-- the kind of a number; of one that is none's, the last
abbrev kind_at : ℕ → Kind
kind_at (suc zero) = Leaf
kind_at (suc (suc zero)) = Empty
kind_at (suc (suc (suc zero))) = Join
kind_at (suc (suc (suc (suc zero)))) = Either
kind_at (suc (suc (suc (suc (suc zero))))) = Star
kind_at (suc (suc (suc (suc (suc (suc zero)))))) = ConditionEnd
kind_at (suc (suc (suc (suc (suc (suc (suc zero))))))) = Point
kind_at (suc (suc (suc (suc (suc (suc (suc (suc zero)))))))) = Primitive
kind_at (suc (suc (suc (suc (suc (suc (suc (suc (suc zero))))))))) = WithBody
kind_at (suc (suc (suc (suc (suc (suc (suc (suc (suc (suc zero)))))))))) = Event
kind_at (suc (suc (suc (suc (suc (suc (suc (suc (suc (suc (suc zero))))))))))) = Call
kind_at (suc (suc (suc (suc (suc (suc (suc (suc (suc (suc (suc (suc zero)))))))))))) = Pass
kind_at (suc (suc (suc (suc (suc (suc (suc (suc (suc (suc (suc (suc (suc zero))))))))))))) = Pair
kind_at (suc (suc (suc (suc (suc (suc (suc (suc (suc (suc (suc (suc (suc (suc zero)))))))))))))) = CertificateEnd
kind_at (suc (suc (suc (suc (suc (suc (suc (suc (suc (suc (suc (suc (suc (suc (suc zero))))))))))))))) = TwoOutcomePrimitive
kind_at (suc (suc (suc (suc (suc (suc (suc (suc (suc (suc (suc (suc (suc (suc (suc (suc zero)))))))))))))))) = TwoOutcomeBody
kind_at (suc (suc (suc (suc (suc (suc (suc (suc (suc (suc (suc (suc (suc (suc (suc (suc (suc zero))))))))))))))))) = TwoOutcomeCall
kind_at (suc (suc (suc (suc (suc (suc (suc (suc (suc (suc (suc (suc (suc (suc (suc (suc (suc (suc zero)))))))))))))))))) = Edition
kind_at (suc (suc (suc (suc (suc (suc (suc (suc (suc (suc (suc (suc (suc (suc (suc (suc (suc (suc (suc zero))))))))))))))))))) = Stop
kind_at (suc (suc (suc (suc (suc (suc (suc (suc (suc (suc (suc (suc (suc (suc (suc (suc (suc (suc (suc (suc zero)))))))))))))))))))) = OwnedPoint
kind_at (suc (suc (suc (suc (suc (suc (suc (suc (suc (suc (suc (suc (suc (suc (suc (suc (suc (suc (suc (suc (suc zero))))))))))))))))))))) = LongLeaf
kind_at _ = ChannelCall

back : (k : Kind) → kind_at (kind_number k) ≡ k
back Leaf = refl
back Empty = refl
back Join = refl
back Either = refl
back Star = refl
back ConditionEnd = refl
back Point = refl
back Primitive = refl
back WithBody = refl
back Event = refl
back Call = refl
back Pass = refl
back Pair = refl
back CertificateEnd = refl
back TwoOutcomePrimitive = refl
back TwoOutcomeBody = refl
back TwoOutcomeCall = refl
back Edition = refl
back Stop = refl
back OwnedPoint = refl
back LongLeaf = refl
back ChannelCall = refl

pub kind_unique : (j k : Kind) → kind_number j ≡ kind_number k → j ≡ k
kind_unique j k e = sym (back j) ∙ ap kind_at e ∙ back k

-- A kind whose number a byte is, and another kind ----------------------------------------------------------------------

pub is-byte : {j k : Kind} {b : ℕ} → kind_number j ≡ b → j ≡ k → kind_number k ≡ b
is-byte e i = ap kind_number (sym i) ∙ e

pub other-byte : {j : Kind} {b : ℕ} (k : Kind) → kind_number j ≡ b → (j ≡ k → ⊥) → b ≡ kind_number k → ⊥
other-byte {j} k e other f = other (kind_unique j k (e ∙ f))

-- The kind whose number a byte is, or another where it is none's --------------------------------------------------------

module _ {b : ℕ} {o : Option Kind} (d : Kind) (none : o ≡ None → (k : Kind) → kind_number k ≡ b → ⊥) (some : (j : Kind) → o ≡ Some j → kind_number j ≡ b) where
  chosen : (x : Option Kind) → o ≡ x → (k : Kind) → b ≡ kind_number k → unwrap_or o d ≡ k
  chosen None e k h = absurd (none e k (sym h))
  chosen (Some j) e k h = ap (λ (x : Option Kind). unwrap_or x d) e ∙ kind_unique j k (some j e ∙ h)

  pub other-kind : (k : Kind) → (unwrap_or o d ≡ k → ⊥) → b ≡ kind_number k → ⊥
  other-kind k other h = other (chosen o refl k h)

  pub kind-is : (k : Kind) → unwrap_or o d ≡ k → (d ≡ k → ⊥) → b ≡ kind_number k
  kind-is k e other = go o refl
    where
      go : (x : Option Kind) → o ≡ x → b ≡ kind_number k
      go None is = absurd (other (sym (ap (λ (x : Option Kind). unwrap_or x d) is) ∙ e))
      go (Some j) is = sym (some j is) ∙ ap kind_number (sym (ap (λ (x : Option Kind). unwrap_or x d) is) ∙ e)

-- Sections -------------------------------------------------------------------------------------------------------------

abbrev section_at : ℕ → Section
section_at (suc zero) = Conditions
section_at (suc (suc zero)) = Points
section_at (suc (suc (suc zero))) = Methods
section_at (suc (suc (suc (suc zero)))) = Steps
section_at _ = Certificates

back_section : (k : Section) → section_at (section_number k) ≡ k
back_section Conditions = refl
back_section Points = refl
back_section Methods = refl
back_section Steps = refl
back_section Certificates = refl

pub other-section : {j : Section} (k : Section) → (j ≡ k → ⊥) → section_number j ≡ section_number k → ⊥
other-section {j} k other e = other (sym (back_section j) ∙ ap section_at e ∙ back_section k)

-- A byte that is no kind's is neither of two ---------------------------------------------------------------------------

pub no_kind : {b : ℕ} → ((k : Kind) → kind_number k ≡ b → ⊥) → (j k : Kind) → (eqb b (kind_number j) || eqb b (kind_number k)) ≡ false
no_kind {b} none j k = simp (ne_eqb b (kind_number j) (λ e. none j (sym e)), ne_eqb b (kind_number k) (λ e. none k (sym e)))
