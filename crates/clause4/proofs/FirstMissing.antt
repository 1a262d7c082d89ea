-- The first fault of clause 4: the lowest event that is missing at some place, and the lowest place that misses it.
use mathlib.Core.Path.{◌≡◌, refl, sym, ap, ◌∙◌, subst}
use mathlib.Core.Bool.{Bool, true, false, not, ◌&&◌}
use mathlib.Core.List.{List}
use Prim.Native.Nat.{ℕ, ◌<◌}
use lib.ListN.{length, get_or}
use lib.Dec.{T, ltb, lt→ltb}
use lib.Bits.{bit_and}
use Rattle.bits.specs.Bits.{◌⇒◌, has, any_below}
use Rattle.bits.proofs.Tests.{T_true, T-ext, and-out, and_in, any-in, any_out}
use Rattle.bits.proofs.Sets.{has-none}
use Rattle.bits.proofs.Masks.{has-and}
use Rattle.certificate.specs.Certificate.{Certificate, fine, fault, in_order, unless}
use Rattle.certificate.proofs.Findings.{Fine, fine-is, unless-in, in_order-in, in_order-stops, in_order-cong}
use Rattle.std.specs.Prelude.{None}
use Rattle.bits.specs.Rows.{row_has, in_rows, LowestIs, IsLowest}
use Rattle.looks.specs.Looks.{misses}
use Rattle.clause4.specs.Clause4.{served_by, Active, Wanted, Served, missing_at, clause4_by_tables}
use Rattle.clause4.proofs.Serving.{served-is}

T_of : {b : Bool} → b ≡ true → T b
T_of e = rw e tt

-- a test that fails passes negated
fails : {b : Bool} → b ≡ false → T (not b)
fails e = rw e tt

-- In the rows ---------------------------------------------------------------------------------------------------------

module _ (missers : ℕ) (rows : List ℕ) (n i all : ℕ) (all-is : (k : ℕ) → has all k ≡ in_rows rows n missers k) where
  -- `all` are the events that some place below n misses
  no_place : (e : ℕ) → has all e ≡ false → (p : ℕ) → p < n → misses missers rows p e ≡ false
  no_place e h p l = go (misses missers rows p e) refl
    where
      go : (b : Bool) → misses missers rows p e ≡ b → b ≡ false
      go false x = refl
      go true x =
          sym (T_true (any_below n (λ p. misses missers rows p e)) (any-in n (λ p. misses missers rows p e) p l (T_of x))) ∙ sym (all-is e) ∙ h

  event-fine : (e : ℕ) → has all e ≡ false → Fine (missing_at n i missers rows e)
  event-fine e h =
      in_order-in n (λ l. unless (not (misses missers rows l e)) (fault 4 i e l))
      (λ l k. unless-in (not (misses missers rows l e)) (fault 4 i e l) (fails (no_place e h l k)))

  pub missing-none : (events : ℕ) → IsLowest events (λ k. has all k) None → fine ≡ in_order events (missing_at n i missers rows)
  missing-none events none = sym (fine-is _ (in_order-in events (missing_at n i missers rows) (λ k l. event-fine k (none k l))))

  module _ (events e : ℕ) (low : LowestIs events (λ k. has all k) e) where
    -- some place misses the event
    pub no_place-misses : IsLowest n (λ q. misses missers rows q e) None → ⊥
    no_place-misses none =
        let (p, a, x) = any_out n (λ p. misses missers rows p e) (T_of (sym (all-is e) ∙ low.stops)) in
        rw (none p a) at x

  module _ (e l : ℕ) (at_place : LowestIs n (λ q. misses missers rows q e) l) where
    event-fault : missing_at n i missers rows e ≡ fault 4 i e l
    event-fault =
        in_order-stops n (λ l. unless (not (misses missers rows l e)) (fault 4 i e l)) l at_place.bound
        (in_order-in l (λ l. unless (not (misses missers rows l e)) (fault 4 i e l))
        (λ k a. unless-in (not (misses missers rows k e)) (fault 4 i e k) (fails (at_place.before k a))))
        _
        (ap (λ (b : Bool). unless (not b) (fault 4 i e l)) at_place.stops)

    pub missing-first : (events : ℕ) → LowestIs events (λ k. has all k) e → fault 4 i e l ≡ in_order events (missing_at n i missers rows)
    missing-first events low =
        sym (in_order-stops events (missing_at n i missers rows) e low.bound
        (in_order-in e (missing_at n i missers rows) (λ k a. event-fine k (low.before k a)))
        _
        event-fault)

-- no place misses an event
pub missing-nothing : {missers : ℕ} (rows : List ℕ) (n i events : ℕ) → missers ≡ 0 → fine ≡ in_order events (missing_at n i missers rows)
missing-nothing {missers} rows n i events z =
    sym (fine-is _ (in_order-in events (missing_at n i missers rows) (λ e _.
    in_order-in n (λ l. unless (not (misses missers rows l e)) (fault 4 i e l)) (λ l _.
    unless-in (not (misses missers rows l e)) (fault 4 i e l)
    (fails (ap (λ (x : ℕ). has x l && row_has rows l e) z ∙ ap (λ (b : Bool). b && row_has rows l e) (has-none l)))))))

-- In the certificate --------------------------------------------------------------------------------------------------

-- wanted, and not served
one-test : (w s : Bool) → not (w && not s) ≡ (w ⇒ s)
one-test true true = refl
one-test true false = refl
one-test false s = refl

module _ (events n followers alive mask : ℕ) (lsets : List ℕ) (mask_is : (k : ℕ) → has mask k ≡ ltb k events) (a : Active lsets n events alive)
    {rows : List ℕ} (w : Wanted (bit_and followers alive) lsets mask rows) where
  -- the followers want what their leaves hold
  wanted-is : (l e : ℕ) → l < n → e < events → misses (bit_and followers alive) rows l e ≡ (has followers l && row_has lsets l e)
  wanted-is l e h k = T-ext (misses (bit_and followers alive) rows l e) (has followers l && row_has lsets l e) forth back
    where
      both : has (bit_and followers alive) l ≡ (has followers l && has alive l)
      both = has-and followers alive l

      row_is : T (has (bit_and followers alive) l) → row_has rows l e ≡ (row_has lsets l e && has mask e)
      row_is t = ap (λ (x : ℕ). has x e) (w.row l t) ∙ has-and (get_or lsets l 0) mask e

      forth : T (misses (bit_and followers alive) rows l e) → T (has followers l && row_has lsets l e)
      forth t =
          let (x, y) = and-out (has (bit_and followers alive) l) (row_has rows l e) t in
          and_in (has followers l) (row_has lsets l e)
          (and-out (has followers l) (has alive l) (subst T both x)).0
          (and-out (row_has lsets l e) (has mask e) (subst T (row_is x) y)).0

      back : T (has followers l && row_has lsets l e) → T (misses (bit_and followers alive) rows l e)
      back t =
          let (x, y) = and-out (has followers l) (row_has lsets l e) t in
          let z = subst T (sym both) (and_in (has followers l) (has alive l) x (a.holds l e h k y)) in
          and_in (has (bit_and followers alive) l) (row_has rows l e) z
          (subst T (sym (row_is z)) (and_in (row_has lsets l e) (has mask e) y (subst T (sym (mask_is e)) (lt→ltb e events k))))

  pub clause4-is : (c : Certificate) (i m onward : ℕ) (rsets : List ℕ) {missers : ℕ} {rows' : List ℕ}
      → Served c m onward rsets (bit_and followers alive) rows missers rows'
      → in_order events (missing_at n i missers rows') ≡ in_order events (clause4_by_tables c n i followers lsets m onward rsets)
  clause4-is c i m onward rsets {missers} {rows'} s =
      in_order-cong events (missing_at n i missers rows') (clause4_by_tables c n i followers lsets m onward rsets)
      (λ e k. in_order-cong n (λ l. unless (not (misses missers rows' l e)) (fault 4 i e l)) _
      (λ l h. ap (λ (x : Bool). unless x (fault 4 i e l)) (test e l h k)))
    where
      test : (e l : ℕ) → l < n → e < events
          → not (misses missers rows' l e) ≡ ((has followers l && row_has lsets l e) ⇒ served_by c m onward rsets (length c) l e)
      test e l h k =
          ap (λ (x : Bool). not x)
          (served-is c m onward rsets s l e
          ∙ ap (λ (x : Bool). x && not (served_by c m onward rsets (length c) l e)) (wanted-is l e h k))
          ∙ one-test (has followers l && row_has lsets l e) (served_by c m onward rsets (length c) l e)
