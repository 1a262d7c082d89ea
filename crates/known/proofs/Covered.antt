-- What is known to be served: where clause 4 holds with some followers of a place and of a set, it holds with fewer of the place and more of the set.
use mathlib.Core.Path.{◌≡◌, refl, sym, ◌∙◌, subst}
use mathlib.Core.Bool.{Bool, true, false, ◌&&◌}
use mathlib.Core.List.{List}
use Prim.Native.Nat.{ℕ}
use lib.ListN.{length}
use lib.Dec.{T, eqb, eqb→eq, eqb_refl}
use lib.Bits.{bit_and}
use Rattle.bits.specs.Bits.{◌⇒◌, has}
use Rattle.bits.specs.Rows.{row_has}
use Rattle.bits.proofs.Tests.{T_true, and-out, and_in, if-out, if-in, any-in, any_out}
use Rattle.bits.proofs.Sets.{has-none}
use Rattle.bits.proofs.Masks.{has-and, bits-ext}
use Rattle.certificate.specs.Certificate.{pair_of, fine, fault, in_order}
use Rattle.certificate.proofs.Findings.{fine-is, is-fine, unless-in, unless-out, in_order-in, in_order-out}
use Rattle.meets.specs.Meets.{all_hold}
use Rattle.looks.specs.declared.Search.{Search}
use Rattle.looks.specs.Looks.{certificate_of, serving, serves}
use Rattle.clause4.specs.Clause4.{served_by, clause4_by_tables}
use Rattle.known.specs.Known.{AllServed}

-- a set lies within another where each of its numbers is one of the other
abbrev Within : ℕ → ℕ → Type 0
Within s t = (k : ℕ) → T (has s k) → T (has t k)

within_of : (s t : ℕ) → T (eqb (bit_and s t) s) → Within s t
within_of s t h k w =
    (and-out (has s k) (has t k) (subst T (has-and s t k) (subst (λ (x : ℕ). T (has x k)) (sym (eqb→eq (bit_and s t) s h)) w))).1

of-within : (s t : ℕ) → Within s t → T (eqb (bit_and s t) s)
of-within s t h = rw (bits-ext (bit_and s t) s (λ k. has-and s t k ∙ go k (has s k) refl)) (eqb_refl s)
  where
    go : (k : ℕ) (b : Bool) → has s k ≡ b → (b && has t k) ≡ b
    go k true e = T_true (has t k) (h k (rw e tt))
    go k false e = refl

module _ (x : Search) (lsets : List ℕ) where
  -- by what clause 4 finds of a pair, whichever it is
  pub served-of : (followers onward i : ℕ) → in_order x.scope.events (clause4_by_tables (certificate_of x) x.scope.n i followers lsets x.scope.m onward x.sets.now) ≡ fine
      → AllServed x lsets followers onward
  served-of followers onward i h e q a b =
      unless-out ((has followers q && row_has lsets q e) ⇒ served_by (certificate_of x) x.scope.m onward x.sets.now (length (certificate_of x)) q e) _
      (in_order-out x.scope.n _ (in_order-out x.scope.events (clause4_by_tables (certificate_of x) x.scope.n i followers lsets x.scope.m onward x.sets.now) (is-fine _ h) e a) q b)

  pub of-served : (followers onward i : ℕ) → AllServed x lsets followers onward
      → fine ≡ in_order x.scope.events (clause4_by_tables (certificate_of x) x.scope.n i followers lsets x.scope.m onward x.sets.now)
  of-served followers onward i h =
      sym (fine-is _
      (in_order-in x.scope.events (clause4_by_tables (certificate_of x) x.scope.n i followers lsets x.scope.m onward x.sets.now)
      (λ e a. in_order-in x.scope.n _
      (λ q b. unless-in ((has followers q && row_has lsets q e) ⇒ served_by (certificate_of x) x.scope.m onward x.sets.now (length (certificate_of x)) q e) (fault 4 i e q) (h e q a b)))))

  -- no followers want nothing
  pub none-served : (onward : ℕ) → AllServed x lsets 0 onward
  none-served onward e q a b =
      if-in (has 0 q && row_has lsets q e) _ (λ w. absurd (rw (has-none q) at (and-out (has 0 q) (row_has lsets q e) w).0))

  -- a pair serves within more, too
  serves_more : (onward more : ℕ) → Within onward more → (q e j : ℕ) → T (serves x.scope.m onward x.sets.now q e (pair_of (certificate_of x) j)) → T (serves x.scope.m more x.sets.now q e (pair_of (certificate_of x) j))
  serves_more onward more h q e j w =
      let t = (pair_of (certificate_of x) j).set in
      let place = eqb (pair_of (certificate_of x) j).place q in
      let (a, b) = and-out place (serving x.scope.m onward x.sets.now t e) w in
      let (d, f) = and-out (eqb (bit_and t onward) t) (all_hold x.scope.m x.sets.now t e) b in
      and_in place (serving x.scope.m more x.sets.now t e) a
      (and_in (eqb (bit_and t more) t) (all_hold x.scope.m x.sets.now t e) (of-within t more (λ k v. h k (within_of t onward d k v))) f)

  pub served-less : (known met followers onward : ℕ) → AllServed x lsets known met
      → (eqb (bit_and followers known) followers && eqb (bit_and met onward) met) ≡ true → AllServed x lsets followers onward
  served-less known met followers onward h k e q a b =
      let (f, g) = and-out (eqb (bit_and followers known) followers) (eqb (bit_and met onward) met) (rw k tt) in
      if-in (has followers q && row_has lsets q e) _
      (λ w.
      let (u, v) = and-out (has followers q) (row_has lsets q e) w in
      let found = if-out (has known q && row_has lsets q e) (served_by (certificate_of x) x.scope.m met x.sets.now (length (certificate_of x)) q e) (h e q a b)
      (and_in (has known q) (row_has lsets q e) (within_of followers known f q u) v) in
      let (j, l, y) = any_out (length (certificate_of x)) (λ j. serves x.scope.m met x.sets.now q e (pair_of (certificate_of x) j)) found in
      any-in (length (certificate_of x)) (λ j. serves x.scope.m onward x.sets.now q e (pair_of (certificate_of x) j)) j l (serves_more met onward (within_of met onward g) q e j y))
