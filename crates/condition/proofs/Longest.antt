-- The longest beginning of a word that begins some word of the condition.
use mathlib.Core.Path.{◌≡◌, refl, sym, ap, ◌∙◌}
use mathlib.Core.Bool.{Bool, true, false, not, ◌&&◌}
use mathlib.Core.Logic.{◌⊎◌, inl, inr, ⊎_elim, ◌↔◌}
use mathlib.Core.List.{[], ◌∷◌, ◌++◌, append-nil}
use Prim.Native.Nat.{ℕ, zero, suc, ◌+◌, ◌^◌, ◌≤◌, ◌<◌, zero-le, suc-le-suc}
use native.Mathlib.Nat.{le_refl, le_of_suc-le-suc, not-suc-le-zero}
use native.Mathlib.Omega.{arith}
use native.Mathlib.Decide.{dec_lt}
use lib.Dec.{T, eqb}
use lib.ListN.{length, get_or, take, drop}
use lib.Seq.{take-length, drop-cons, drop-length}
use lib.Bits.{bit_and}
use Rattle.bits.specs.Bits.{has}
use Rattle.bits.proofs.Tests.{and-out, and_in, T-ext, any_out, any-in}
use Rattle.bits.proofs.Sets.{has-lt}
use Rattle.condition.specs.Condition.{Condition, Word, Holds, Begins, Longest}
use Rattle.condition.specs.Places.{leaves, places, live, some_live, step, step_all, accepts, longest_from, longest}
use Rattle.condition.proofs.Words.{SomeLeads, start-lt, step-lt, step-out, step_all-out, step_all-in, accepts-is, words}
use Rattle.condition.proofs.Steps.{some-mask, step_all-append, step_all-take}
use Rattle.condition.proofs.Live.{live-place, live-leads}

module _ (r : Condition) where
  -- a set has a live place where it meets the set of them
  pub live-mask : (s x : ℕ) → ((p : ℕ) → has x p ≡ live r p) → not (eqb (bit_and s x) 0) ≡ some_live r s
  unfolding some_live
  live-mask = some-mask r (λ p. live r p) (live-place r)

  -- Sets of places ----------------------------------------------------------------------------------------------------

  below : (p : ℕ) → p < places r → p ≤ leaves r
  unfolding places
  below p l = le_of_suc-le-suc l

  pub some_live-out : (s : ℕ) → T (some_live r s) → (w : Word) × SomeLeads r s w
  unfolding some_live
  some_live-out s h =
      let (p, l, y) = any_out (places r) (λ p. has s p && live r p) h in
      let (z, x) = and-out (has s p) (live r p) y in
      let (w, k) = (live-leads r p (below p l)).0 x in
      (w, (p, z, k))

  pub some_live-in : (s : ℕ) → s < 2 ^ places r → (w : Word) → SomeLeads r s w → T (some_live r s)
  unfolding some_live
  some_live-in s b w h =
      let (p, z, k) = h in
      let l = has-lt (places r) s p b z in
      any-in (places r) (λ p. has s p && live r p) p l (and_in (has s p) (live r p) z ((live-leads r p (below p l)).1 (w, k)))

  -- what stepping tells besides its set
  pub step-finishes : (s e : ℕ) → (step r s e).finishes ≡ some_live r (step r s e).set
  unfolding step
  step-finishes s e = refl

  step_all-lt : (w : Word) (s : ℕ) → s < 2 ^ places r → step_all r s w < 2 ^ places r
  unfolding step_all
  step_all-lt [] s b = b
  step_all-lt (e ∷ w) s b = step_all-lt w (step r s e).set (step-lt r s e)

  -- after the word u a word can still be finished exactly where u begins some word of the condition
  pub live-begins : (u : Word) → T (some_live r (step_all r 1 u)) ↔ Begins r u
  live-begins u =
      let b = step_all-lt u 1 (start-lt r) in (
        λ h.
            let (v, k) = some_live-out (step_all r 1 u) h in
            (v, (words r (u ++ v)).0 (rw (accepts-is r (u ++ v), step_all-append r u v 1) (step_all-in r v (step_all r 1 u) b k))),
        λ h.
            let (v, k) = h in
            some_live-in (step_all r 1 u) b v
            (step_all-out r v (step_all r 1 u) (rw (accepts-is r (u ++ v), step_all-append r u v 1) at ((words r (u ++ v)).1 k))),
      )

  -- a place that is live after an event was live before it
  live-before : (s e : ℕ) → s < 2 ^ places r → T (some_live r (step r s e).set) → T (some_live r s)
  live-before s e b h =
      let (w, z) = some_live-out (step r s e).set h in
      let (p, x, k) = z in
      let (q, y, n, t) = step-out r s e p x in
      some_live-in s b (e ∷ w) (q, y, (p, n, t, k))

  live-start : (w : Word) (s : ℕ) → s < 2 ^ places r → T (some_live r (step_all r s w)) → T (some_live r s)
  unfolding step_all
  live-start [] s b h = h
  live-start (e ∷ w) s b h = live-before s e b (live-start w (step r s e).set (step-lt r s e) h)

  -- The longest beginning ---------------------------------------------------------------------------------------------

  -- one event more where a word can still be finished after it, and none where not
  abbrev Goes : ℕ → ℕ → Word → Type 0
  Goes s e w = T (some_live r (step r s e).set) × (longest_from r s (e ∷ w) ≡ suc (longest_from r (step r s e).set w))

  abbrev Stops : ℕ → ℕ → Word → Type 0
  Stops s e w = (T (some_live r (step r s e).set) → ⊥) × (longest_from r s (e ∷ w) ≡ 0)

  turn : (s e : ℕ) (w : Word) → Goes s e w ⊎ Stops s e w
  unfolding longest_from
  turn s e w = go (some_live r (step r s e).set) refl
    where
      go : (b : Bool) → some_live r (step r s e).set ≡ b → Goes s e w ⊎ Stops s e w
      go true x = inl (rw x tt, rw (step-finishes s e ∙ x))
      go false x = inr (λ h. absurd (rw x at h), rw (step-finishes s e ∙ x))

  from_le : (w : Word) (s : ℕ) → longest_from r s w ≤ length w
  unfolding longest_from
  from_le [] s = le_refl 0
  from_le (e ∷ w) s =
      ⊎_elim
      (λ (x : Goes s e w). rw x.1 (suc-le-suc (from_le w (step r s e).set)))
      (λ (x : Stops s e w). rw x.1 zero-le)
      (turn s e w)

  -- after the longest beginning a word can still be finished, where one could at the start
  from-live : (w : Word) (s : ℕ) → T (some_live r s) → T (some_live r (step_all r s (take (longest_from r s w) w)))
  unfolding longest_from step_all
  from-live [] s h = h
  from-live (e ∷ w) s h =
      ⊎_elim
      (λ (x : Goes s e w). rw x.1 (from-live w (step r s e).set x.0))
      (λ (x : Stops s e w). rw x.1 h)
      (turn s e w)

  -- after no longer one
  from-most : (w : Word) (s i : ℕ) → i ≤ length w → T (some_live r (step_all r s (take i w))) → i ≤ longest_from r s w
  unfolding step_all
  from-most w s zero l h = zero-le
  from-most [] s (suc i) l h = absurd (not-suc-le-zero l)
  from-most (e ∷ w) s (suc i) l h =
      ⊎_elim
      (λ (x : Goes s e w). rw x.1 (suc-le-suc (from-most w (step r s e).set i (le_of_suc-le-suc l) h)))
      (λ (x : Stops s e w). absurd (x.0 (live-start (take i w) (step r s e).set (step-lt r s e) h)))
      (turn s e w)

  -- where no word can be finished, none
  from-none : (w : Word) (s : ℕ) → s < 2 ^ places r → (T (some_live r s) → ⊥) → longest_from r s w ≡ 0
  unfolding longest_from
  from-none [] s b h = refl
  from-none (e ∷ w) s b h =
      ⊎_elim
      (λ (x : Goes s e w). absurd (h (live-before s e b x.0)))
      (λ (x : Stops s e w). x.1)
      (turn s e w)

  longest-at : (w : Word) → longest r w ≡ longest_from r 1 w
  unfolding longest
  longest-at w = refl

  -- the condition has a word exactly where the start is live
  live-word : T (some_live r 1) ↔ ((v : Word) × Holds r v)
  unfolding step_all
  live-word = live-begins []

  -- `longest` is the longest beginning
  pub longest-meets : (w : Word) → Longest r w (longest r w)
  longest-meets w = rw (longest-at w) (record {
    beginning = from_le w 1;
    begins = go (some_live r 1) refl;
    no_longer = λ m l b x. let k = from-most w 1 m b ((live-begins (take m w)).1 x) in omega arith;
  })
    where
      go : (b : Bool) → some_live r 1 ≡ b → Begins r (take (longest_from r 1 w) w) ⊎ ((longest_from r 1 w ≡ 0) × ((v : Word) → Holds r v → ⊥))
      go true e = inl ((live-begins (take (longest_from r 1 w) w)).0 (from-live w 1 (rw e tt)))
      go false e = inr (from-none w 1 (start-lt r) (λ h. absurd (rw e at h)), λ v h. absurd (rw e at (live-word.1 (v, h))))

  -- and the only one
  longest-once : (w : Word) (m n : ℕ) → Longest r w m → Longest r w n → m < n → ⊥
  longest-once w m n a b l =
      ⊎_elim (λ x. a.no_longer n l b.beginning x) (λ x. let z = x.0 in omega arith) b.begins

  pub longest-only : (w : Word) (n : ℕ) → Longest r w n → n ≡ longest r w
  longest-only w n h = go (dec_lt n (longest r w)) (dec_lt (longest r w) n)
    where
      go : Dec (n < longest r w) → Dec (longest r w < n) → n ≡ longest r w
      go (yes l) _ = absurd (longest-once w n (longest r w) h (longest-meets w) l)
      go (no _) (yes l) = absurd (longest-once w (longest r w) n (longest-meets w) h l)
      go (no a) (no b) = omega arith

  -- a word that begins one of the condition is its own longest beginning, and so is one that it holds
  longest-whole : (w : Word) → Begins r w → longest r w ≡ length w
  longest-whole w h =
      sym (longest-only w (length w) (record {
        beginning = le_refl (length w);
        begins = inl (rw (take-length w) h);
        no_longer = λ m l b _. omega arith;
      }))

  pub longest-held : (w : Word) → Holds r w → longest r w ≡ length w
  longest-held w h = longest-whole w ([], rw (append-nil w) h)

  -- a word that goes wrong before its end is not accepted
  pub wrong-unaccepted : (w : Word) → longest r w < length w → accepts r w ≡ false
  wrong-unaccepted w l =
      T-ext (accepts r w) false (λ h. let e = longest-held w ((words r w).0 h) in absurd (omega arith)) (λ h. absurd h)

  -- Event by event ----------------------------------------------------------------------------------------------------

  -- the set s, stepped by the first i events of w, and the number of events that follow them and leave a word to be finished
  pub record Along (w : Word) (i s : ℕ) : Type 0 where
    pub at_most : i ≤ length w
    pub stepped : s ≡ step_all r 1 (take i w)
    pub so_far : longest r w ≡ i + longest_from r s (drop i w)

  pub along-start : (w : Word) → Along w 0 1
  unfolding step_all
  along-start w = record { at_most = zero-le; stepped = refl; so_far = longest-at w ∙ omega arith }

  -- the set t is s stepped by the next event
  module _ {w : Word} {i s t : ℕ} (a : Along w i s) (l : i < length w) (t-is : t ≡ (step r s (get_or w i 0)).set) where
    onward : longest_from r s (drop i w) ≡ longest_from r s (get_or w i 0 ∷ drop (suc i) w)
    onward = ap (longest_from r s) (drop-cons w i 0 l)

    -- where a word can be finished from it, the next event counts
    pub along-more : T (some_live r t) → Along w (suc i) t
    along-more h = record {
      at_most = l;
      stepped = t-is ∙ ap (λ (x : ℕ). (step r x (get_or w i 0)).set) a.stepped ∙ sym (step_all-take r 1 w i l);
      so_far = a.so_far ∙ ap (λ (x : ℕ). i + x) (onward ∙ counted) ∙ omega arith;
    }
      where
        counted : longest_from r s (get_or w i 0 ∷ drop (suc i) w) ≡ suc (longest_from r t (drop (suc i) w))
        counted =
            ⊎_elim
            (λ (x : Goes s (get_or w i 0) (drop (suc i) w)). x.1 ∙ ap (λ (y : ℕ). suc (longest_from r y (drop (suc i) w))) (sym t-is))
            (λ (x : Stops s (get_or w i 0) (drop (suc i) w)). absurd (x.0 (rw (← t-is) h)))
            (turn s (get_or w i 0) (drop (suc i) w))

    -- and where none can, the longest beginning ends before it
    pub along-stops : (T (some_live r t) → ⊥) → longest r w ≡ i
    along-stops h = a.so_far ∙ ap (λ (x : ℕ). i + x) (onward ∙ stopped) ∙ omega arith
      where
        stopped : longest_from r s (get_or w i 0 ∷ drop (suc i) w) ≡ 0
        stopped =
            ⊎_elim
            (λ (x : Goes s (get_or w i 0) (drop (suc i) w)). absurd (h (rw t-is x.0)))
            (λ (x : Stops s (get_or w i 0) (drop (suc i) w)). x.1)
            (turn s (get_or w i 0) (drop (suc i) w))

  -- behind the last event it is the whole word
  pub along-ends : {w : Word} {i s : ℕ} → Along w i s → length w ≤ i → longest r w ≡ length w
  unfolding longest_from
  along-ends {w} {i} {s} a l =
      let e : i ≡ length w = omega (arith, a.at_most) in
      a.so_far ∙ ap (λ (k : ℕ). k + longest_from r s (drop k w)) e ∙ ap (λ (x : Word). length w + longest_from r s x) (drop-length w) ∙ omega arith
