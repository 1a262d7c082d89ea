-- Laws of a property of each element of a list.
use mathlib.Core.Path.{◌≡◌, refl, sym, subst}
use mathlib.Core.List.Memᴰ
use mathlib.Core.List.{List, [], ◌∷◌, ◌++◌, map, Memᴰ}
use mathlib.Core.Logic.{⊎_elim}
use mathlib.Core.Option.{Option, none, some}
use Prim.Native.Nat.{ℕ, zero, suc, ◌<◌}
use native.Mathlib.Nat.{le_of_suc-le-suc, not-suc-le-zero}
use native.Mathlib.Omega.{arith}
use lib.ListN.{length, get_or, get_elem?}
use Rattle.sheet.specs.Each.{Each, nil, cons}

module _ {A : Type 0} {P : A → Type 0} {x : A} {xs : List A} where
  pub each-head : Each P (x ∷ xs) → P x
  each-head (cons h t) = h

  pub each_tail : Each P (x ∷ xs) → Each P xs
  each_tail (cons h t) = t

module _ {A : Type 0} {P : A → Type 0} where
  pub each_map : {Q : A → Type 0} → ((x : A) → P x → Q x) → {xs : List A} → Each P xs → Each Q xs
  each_map f nil = nil
  each_map f (cons {x = x} h t) = cons (f x h) (each_map f t)

  pub each-zip : {Q R : A → Type 0} → ((x : A) → P x → Q x → R x) → {xs : List A} → Each P xs → Each Q xs → Each R xs
  each-zip f nil d = nil
  each-zip f (cons {x = x} h t) d = cons (f x h (each-head d)) (each-zip f t (each_tail d))

  pub each_all : ((x : A) → P x) → {xs : List A} → Each P xs
  each_all f {xs = []} = nil
  each_all f {xs = x ∷ xs} = cons (f x) (each_all f {xs = xs})

  pub each_append : {xs ys : List A} → Each P xs → Each P ys → Each P (xs ++ ys)
  each_append nil d = d
  each_append (cons h t) d = cons h (each_append t d)

  pub each_left : (xs ys : List A) → Each P (xs ++ ys) → Each P xs
  each_left [] ys h = nil
  each_left (x ∷ xs) ys h = cons (each-head h) (each_left xs ys (each_tail h))

  pub each_right : (xs : List A) {ys : List A} → Each P (xs ++ ys) → Each P ys
  each_right [] h = h
  each_right (x ∷ xs) h = each_right xs (each_tail h)

-- of the elements f x, where it holds of each x
pub each-mapped : {A B : Type 0} (P : B → Type 0) (f : A → B) {xs : List A} → Each (λ x. P (f x)) xs → Each P (map f xs)
each-mapped P f nil = nil
each-mapped P f (cons h t) = cons h (each-mapped P f t)

-- each element is a member
pub each-is-member : {A : Type 0} (xs : List A) → Each (λ x. Memᴰ x xs) xs
each-is-member [] = nil
each-is-member (x ∷ xs) = cons (Memᴰ.head refl) (each_map (λ y. Memᴰ.tail) (each-is-member xs))

-- of a member, of an element by its number, and of an element or nothing
pub each_member : {A : Type 0} (P : A → Type 0) {xs : List A} {y : A} → Each P xs → Memᴰ y xs → P y
each_member P nil m = absurd (Memᴰ.not-nil m)
each_member P (cons h t) m = ⊎_elim (λ e. subst P (sym e) h) (λ k. each_member P t k) (Memᴰ.cases_cons m)

pub each-get_or : {A : Type 0} (P : A → Type 0) {xs : List A} → Each P xs → (d : A) → P d → (i : ℕ) → P (get_or xs i d)
each-get_or P nil d h i = h
each-get_or P (cons x t) d h zero = x
each-get_or P (cons x t) d h (suc i) = each-get_or P t d h i

pub each-nth : {A : Type 0} (P : A → Type 0) {xs : List A} → Each P xs → (d : A) (i : ℕ) → i < length xs → P (get_or xs i d)
each-nth P nil d i l = absurd (not-suc-le-zero l)
each-nth P (cons x t) d zero l = x
each-nth P (cons x t) d (suc i) l = each-nth P t d i (le_of_suc-le-suc l)

pub each-get : {A : Type 0} (P : Option A → Type 0) → P none → {xs : List A} → Each (λ x. P (some x)) xs → (i : ℕ) → P (get_elem? xs i)
each-get P n nil i = n
each-get P n (cons h t) zero = h
each-get P n (cons h t) (suc i) = each-get P n t i

-- from what holds of the element of each number
pub each_index : {A : Type 0} (P : A → Type 0) (d : A) (xs : List A) → ((i : ℕ) → i < length xs → P (get_or xs i d)) → Each P xs
each_index P d [] h = nil
each_index P d (x ∷ xs) h = cons (h 0 (omega arith)) (each_index P d xs (λ i l. h (suc i) (omega (arith, l))))

pub each-listed : {A : Type 0} (P : A → Type 0) (xs : List A) → ((i : ℕ) (x : A) → get_elem? xs i ≡ some x → P x) → Each P xs
each-listed P [] h = nil
each-listed P (x ∷ xs) h = cons (h 0 x refl) (each-listed P xs (λ i. h (suc i)))
