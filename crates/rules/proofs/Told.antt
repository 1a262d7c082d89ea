-- The rules of a subject.
use Prim.Native.Nat.{ℕ}
use mathlib.Core.Path.{◌≡◌, sym, ap, ◌∙◌, subst}
use mathlib.Core.List.{List}
use Rattle.std.specs.Prelude.{Option, Some}
use Rattle.sheet.specs.Sheet.{Sheet}
use Rattle.runs.specs.Rules.{Rule}
use Rattle.rules.specs.declared.subjects.Subject.{Subject}
use Rattle.rules.specs.Subjects.{SubjectIs, ListedIs}

-- by its variant
pub told : (s : List ℕ) (S : Sheet) (xs : List Rule) {o : Option Subject} {x y : Subject} → o ≡ Some x → x ≡ y → ListedIs s S o xs → SubjectIs s S y xs
told s S xs {y = y} o e is = subst (λ (o : Option Subject). ListedIs s S o xs) (o ∙ ap (λ (x : Subject). Some x) e) is

-- by what they are
pub told-rules : (s : List ℕ) (S : Sheet) (x : Subject) {xs ys : List Rule} → xs ≡ ys → SubjectIs s S x ys → SubjectIs s S x xs
told-rules s S x e is = subst (SubjectIs s S x) (sym e) is

pub listed-rules : (s : List ℕ) (S : Sheet) (o : Option Subject) {xs ys : List Rule} → xs ≡ ys → ListedIs s S o ys → ListedIs s S o xs
listed-rules s S o e is = subst (ListedIs s S o) (sym e) is
