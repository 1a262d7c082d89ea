-- The failed way of a method or of a call and the entry that rule 26 asks about, if there is one.
use mathlib.Core.Path.{◌≡◌, refl, subst}
use mathlib.Core.Option.{Option, none, some}
use Rattle.std.specs.Prelude as code
use mathlib.Core.List.{List}
use Prim.Native.Nat.{ℕ}
use Rattle.sheet.specs.Sheet.{failed, Sheet, due}
use Rattle.postfix.specs.Parts.{StandsAt}
use Rattle.index.specs.declared.ways.Way.{Way}
use Rattle.index.specs.Ways.{WayIs, FailingIs, EnteredIs}

-- a point is there, and has a property
pub record There (P : ℕ → Type 0) (e : Option ℕ) : Type 0 where
  pub point : ℕ
  pub is : e ≡ some point
  pub has : P point

-- what is told of a point that need not be there tells whether it is
none-there : (F : Option ℕ → Type 0) → ((p : ℕ) → F (some p) → ⊥) → (e : Option ℕ) → F e → e ≡ none
none-there F never none h = refl
none-there F never (some p) h = absurd (never p h)

one-there : (F : Option ℕ → Type 0) → (F none → ⊥) → (e : Option ℕ) → F e → There (λ p. F (some p)) e
one-there F never none h = absurd (never h)
one-there F never (some p) h = record { point = p; is = refl; has = h }

module _ (s : List ℕ) (S : Sheet) (e : Option ℕ) where
  -- the failed way
  pub never : (m : ℕ) {x : code.Option Way} → x ≡ code.None → FailingIs s S m e x → e ≡ none
  never m is h = none-there (λ e. FailingIs s S m e code.None) (λ p h. h) e (subst (FailingIs s S m e) is h)

  pub fails_by : (m : ℕ) {x : code.Option Way} {w : Way} → x ≡ code.Some w → FailingIs s S m e x → There (λ p. WayIs s S m failed p w) e
  fails_by m {w = w} is h = one-there (λ e. FailingIs s S m e (code.Some w)) (λ h. h) e (subst (FailingIs s S m e) is h)

  -- the entry that rule 26 asks about
  pub enters : {x : code.Option ℕ} {d : ℕ} → x ≡ code.Some d → EnteredIs s S e x → There (λ p. StandsAt s d (due S p)) e
  enters {d = d} is h = one-there (λ e. EnteredIs s S e (code.Some d)) (λ h. h) e (subst (EnteredIs s S e) is h)
