-- What the pairs of a certificate leave of the events that are missing, pair after pair.
use mathlib.Core.Path.{◌≡◌, refl, sym, subst}
use mathlib.Core.Bool.{Bool, true, false, not, ◌&&◌}
use mathlib.Core.Logic.{◌⊎◌, inl, inr, ⊎_elim}
use mathlib.Core.List.{List}
use Prim.Native.Nat.{ℕ, ◌+◌, ◌^◌, ◌≤◌, ◌<◌}
use native.Mathlib.Nat.{le_antisymm}
use native.Mathlib.Omega.{arith}
use lib.ListN.{length}
use lib.Dec.{T}
use Rattle.bits.specs.Bits.{has}
use Rattle.bits.proofs.Tests.{and-out, and_in, T_false, T-ext, any_out, any-in}
use Rattle.bits.proofs.Sets.{has-none}
use Rattle.certificate.specs.Certificate.{Certificate, pair_of}
use Rattle.bits.specs.Rows.{row_has}
use Rattle.looks.proofs.Leaving.{fails-not}
use Rattle.looks.specs.Looks.{serves, misses, Passed, Takes, Left}
use Rattle.clause4.specs.Clause4.{served_by, Served, Hint}
use Rattle.clause4.proofs.Seen.{Stands, stands-within, stands_on, Seen, seen-on, seen_all}

-- Pair after pair ------------------------------------------------------------------------------------------------------

module _ (c : Certificate) (start m onward : ℕ) (sets : List ℕ) (missers : ℕ) (rows : List ℕ) where
  -- pair j does not serve the event e at place q
  abbrev unserving : ℕ → ℕ → ℕ → Type 0
  unserving q e j = serves m onward sets q e (pair_of c j) ≡ false

  -- what the pairs that are seen leave, where a search stands at number i on the way to `to`
  pub record Going (i to missers' : ℕ) (rows' : List ℕ) : Type 0 where
    pub stands : Stands start (length c) i to
    pub long : length rows' ≡ 64
    pub small : missers' < 2 ^ 64
    pub among : (q : ℕ) → T (has missers' q) → T (has missers q)
    pub was : (q e : ℕ) → T (misses missers' rows' q e) → T (misses missers rows q e)
    pub unmet : (q e : ℕ) → T (misses missers' rows' q e) → Seen (λ j. serves m onward sets q e (pair_of c j) ≡ false) start (length c) i to
    pub met : (q e : ℕ) → T (misses missers rows q e) → T (misses missers' rows' q e) ⊎ T (served_by c m onward sets (length c) q e)

  module _ {i to missers' : ℕ} {rows' : List ℕ} (g : Going i to missers' rows') where
    -- what is on the way is a pair
    pub going-inside : {k : ℕ} → k < to → k < length c
    going-inside h = let l = stands-within g.stands in omega arith

    -- pairs that are passed over
    pub going-passed : {k : ℕ} → k ≤ to → Passed c m onward sets rows' i k → Going k to missers' rows'
    going-passed {k} l p = record {
      stands = stands_on g.stands p.ahead l;
      long = g.long;
      small = g.small;
      among = g.among;
      was = g.was;
      unmet = λ q e t. seen-on (g.unmet q e t) (λ j h n. p.none j q e h n (and-out (has missers' q) (row_has rows' q e) t).1);
      met = g.met;
    }

    -- a pair more
    pub going_more : {missers'' : ℕ} {rows'' : List ℕ} → i < to → Left m onward sets (pair_of c i) missers' rows' missers'' rows'' → Going (i + 1) to missers'' rows''
    going_more {missers''} {rows''} l f = record {
      stands = stands_on g.stands (omega arith) (omega arith);
      long = f.rows_long;
      small = f.missers_small;
      among = λ q t. g.among q (f.missers_among q t);
      was = λ q e x. g.was q e (both q e x).0;
      unmet = λ q e x. seen-on (g.unmet q e (both q e x).0) (λ j h k.
          subst (unserving q e) (le_antisymm h (omega arith)) (fails-not (serves m onward sets q e (pair_of c i)) (both q e x).1));
      met = λ q e x. ⊎_elim (λ u. here q e u (serves m onward sets q e (pair_of c i)) refl) (λ u. inr u) (g.met q e x);
    }
      where
        both : (q e : ℕ) → T (misses missers'' rows'' q e) → T (misses missers' rows' q e) × T (not (serves m onward sets q e (pair_of c i)))
        both q e x = and-out (misses missers' rows' q e) (not (serves m onward sets q e (pair_of c i))) (subst T (f.left_is q e) x)

        here : (q e : ℕ) → T (misses missers' rows' q e) → (v : Bool) → serves m onward sets q e (pair_of c i) ≡ v
            → T (misses missers'' rows'' q e) ⊎ T (served_by c m onward sets (length c) q e)
        here q e u true y = inr (any-in (length c) (λ j. serves m onward sets q e (pair_of c j)) i (going-inside l) (rw y tt))
        here q e u false y =
            inl (subst T (sym (f.left_is q e)) (and_in (misses missers' rows' q e) (not (serves m onward sets q e (pair_of c i))) u (rw y tt)))

    served-when : ((q e : ℕ) → T (misses missers' rows' q e) → served_by c m onward sets (length c) q e ≡ false)
        → Served c m onward sets missers rows missers' rows'
    served-when h = record { long = g.long; was = g.was; unmet = h; met = g.met }

    -- all pairs are seen
    pub served-all : to ≤ i → to ≡ start → Served c m onward sets missers rows missers' rows'
    served-all l z = served-when (λ q e t.
        T_false (served_by c m onward sets (length c) q e) (λ u.
        let (j, k, x) = any_out (length c) (λ j. serves m onward sets q e (pair_of c j)) u in
        absurd (rw (seen_all (g.unmet q e t) z l j k) at x)))

    -- nothing is missing
    pub served-stop : missers' ≡ 0 → Served c m onward sets missers rows missers' rows'
    served-stop z = served-when (λ q e t. absurd (rw (z, has-none q) at t))

-- Where the next search may start ---------------------------------------------------------------------------------------

module _ {c : Certificate} {onward wanted : ℕ} where
  -- a pair that serves
  pub hint-at : {missers i : ℕ} → i < length c → ((q : ℕ) → T (has missers q) → T (has wanted q)) → Takes onward missers (pair_of c i) → Hint c onward wanted i
  hint-at {missers} {i} l among p = record { bound = omega arith; wants = λ _. among (pair_of c i).place p.wants; lies = λ _. p.lies }

-- the events that are missing still are those that no pair serves
module _ (c : Certificate) (m onward : ℕ) (sets : List ℕ) {missers missers' : ℕ} {rows rows' : List ℕ}
    (s : Served c m onward sets missers rows missers' rows') where
  pub served-is : (q e : ℕ) → misses missers' rows' q e ≡ (misses missers rows q e && not (served_by c m onward sets (length c) q e))
  served-is q e = T-ext (misses missers' rows' q e) (misses missers rows q e && not (served_by c m onward sets (length c) q e)) forth back
    where
      forth : T (misses missers' rows' q e) → T (misses missers rows q e && not (served_by c m onward sets (length c) q e))
      forth t =
          and_in (misses missers rows q e) (not (served_by c m onward sets (length c) q e)) (s.was q e t) (rw (s.unmet q e t) tt)

      back : T (misses missers rows q e && not (served_by c m onward sets (length c) q e)) → T (misses missers' rows' q e)
      back t =
          let (x, y) = and-out (misses missers rows q e) (not (served_by c m onward sets (length c) q e)) t in
          ⊎_elim (λ u. u) (λ u. absurd (rw (fails-not (served_by c m onward sets (length c) q e) y) at u)) (s.met q e x)
