-- What a method's record declares and has, by its kind.
use mathlib.Core.Path.{◌≡◌, refl, sym, ap, ◌∙◌}
use mathlib.Core.Bool.{Bool, true, false}
use mathlib.Core.Option.{Option, none, some}
use mathlib.Core.List.{List}
use Prim.Native.Nat.{ℕ, ◌+◌}
use native.Mathlib.Omega.{arith}
use lib.Dec.{eqb}
use borrow.Author.Tests.{eqb-true, eqb-false, ne_eqb}
use Rattle.sheet.specs.Sheet as sheet
use Rattle.sheet.specs.Record.{byte_at}
use Rattle.sheet_laws.specs.AtOffset.{short_at, declared_at, method_at}
use Rattle.values.specs.declared.Declared.{Declared}
use Rattle.values.specs.declared.Declaration.{Declaration}
use Rattle.values.specs.declared.Body.{Body}
use Rattle.values.specs.Values.{declared_value, body_value, method_with, Declares, DeclaresFailed}

-- a method that declares these conditions, with its failed outcome and its body
pub built : {d : Declaration} {m : sheet.Method} {failing : Option sheet.Declared} {body : Option sheet.Body}
    → Declares d m → m.failing ≡ failing → m.body ≡ body → method_with d failing body ≡ m
built h e f = simp (h.pre_is, h.normal_is, ← e, ← f)

module _ (s : List ℕ) (at : ℕ) where
  -- The failed outcome ------------------------------------------------------------------------------------------------

  pub failed-primitive : byte_at s at ≡ 15 → (method_at s at).failing ≡ some (declared_at s (at + 7))
  unfolding method_at
  failed-primitive e = simp e

  pub failed-body : byte_at s at ≡ 16 → (method_at s at).failing ≡ some (declared_at s (at + 11))
  unfolding method_at
  failed-body e = simp e

  pub not-failing-8 : byte_at s at ≡ 8 → (method_at s at).failing ≡ none
  unfolding method_at
  not-failing-8 e = simp e

  pub not-failing : (byte_at s at ≡ 15 → ⊥) → (byte_at s at ≡ 16 → ⊥) → (method_at s at).failing ≡ none
  unfolding method_at
  not-failing a b = simp (ne_eqb (byte_at s at) 15 a, ne_eqb (byte_at s at) 16 b)

  pub failing_is : {f : Declared} {x : sheet.Declared} → DeclaresFailed f (method_at s at) → (method_at s at).failing ≡ some x
      → (method_at s at).failing ≡ some (declared_value f)
  failing_is {x} h e = e ∙ ap some (sym (h x e))

  -- two fields are what kind 15 declares of it at + 7, and what another kind declares of it at + 11
  pub declares-15 : {f : Declared} → byte_at s at ≡ 15 → declared_value f ≡ declared_at s (at + 7) → DeclaresFailed f (method_at s at)
  declares-15 e is x h = cc (failed-primitive e)

  pub declares-16 : {f : Declared} → (byte_at s at ≡ 15 → ⊥) → declared_value f ≡ declared_at s (at + 11) → DeclaresFailed f (method_at s at)
  declares-16 {f} ne is x h = go (eqb (byte_at s at) 16) refl
    where
      go : (b : Bool) → eqb (byte_at s at) 16 ≡ b → declared_value f ≡ x
      go true e = cc (failed-body (eqb-true (byte_at s at) 16 e))
      go false e = absurd (let z : ◌≡◌ {A = ℕ} 0 1 = cc (not-failing ne (eqb-false (byte_at s at) 16 e)) in omega arith)

  -- The body ----------------------------------------------------------------------------------------------------------

  pub no-body-8 : byte_at s at ≡ 8 → (method_at s at).body ≡ none
  unfolding method_at
  no-body-8 e = simp e

  pub no-body-15 : byte_at s at ≡ 15 → (method_at s at).body ≡ none
  unfolding method_at
  no-body-15 e = simp e

  -- a body whose entry and exit are read at + 7 and + 9
  module _ {b : Body} (entry : b.entry ≡ short_at s (at + 7)) (exit : b.exit ≡ short_at s (at + 9)) where
    pub body-16 : {v : ℕ} → byte_at s at ≡ 16 → v ≡ short_at s (at + 15) → (method_at s at).body ≡ some (body_value b (some v))
    unfolding method_at
    body-16 e is = simp (e, entry, exit, is)

    pub body-other : (byte_at s at ≡ 8 → ⊥) → (byte_at s at ≡ 15 → ⊥) → (byte_at s at ≡ 16 → ⊥) → (method_at s at).body ≡ some (body_value b none)
    unfolding method_at
    body-other a b c = simp (ne_eqb (byte_at s at) 8 a, ne_eqb (byte_at s at) 15 b, ne_eqb (byte_at s at) 16 c, entry, exit)
