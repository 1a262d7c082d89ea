-- A certificate without fault is right: every word of the left side is a word of the right side.
use mathlib.Core.Path.{◌≡◌}
use mathlib.Core.List.{[], ◌∷◌}
use Prim.Native.Nat.{ℕ, ◌^◌, ◌<◌}
use native.Mathlib.Omega.{arith}
use lib.Dec.{T, eqb, eqb→eq, ltb→lt}
use lib.ListN.{length}
use Rattle.bits.specs.Bits.{◌⇒◌, has, all_below}
use Rattle.bits.proofs.Tests.{and-out, if-out, any_out, all-out}
use Rattle.bits.proofs.Sets.{has-start, has-lt}
use Rattle.condition.specs.Condition.{Condition, Word, Holds, ◌⊆◌}
use Rattle.condition.specs.Places.{places, step}
use Rattle.condition.proofs.Paths.{Leads}
use Rattle.condition.proofs.Words.{leads→holds, holds→leads, SomeLeads, step-out, some_ends-out}
use Rattle.condition.proofs.Narrow.{EventsBelow, Over, holds-over}
use Rattle.certificate.specs.Certificate.{Certificate, pair_of, starts_right, only_places, within, listed, check, fine}
use Rattle.certificate.proofs.Valid.{Valid, valid}

within-out : (r : Condition) (s t k : ℕ) → T (within r s t) → T (has s k) → T (has t k)
unfolding within only_places
within-out r s t k h x =
    let (o, all) = and-out (only_places r s) (all_below (places r) (λ k. has s k ⇒ has t k)) h in
    let l = has-lt (places r) s k (ltb→lt s (2 ^ places r) o) x in
    if-out (has s k) (has t k) (all-out (places r) (λ k. has s k ⇒ has t k) all k l) x

starts-out : (c : Certificate) → T (starts_right c) → (0 < length c) × ((pair_of c 0).place ≡ 0) × ((pair_of c 0).set ≡ 1)
starts-out [] h = absurd h
starts-out (p ∷ c) h =
    let (x, y) = and-out (eqb p.place 0) (eqb p.set 1) h in
    (omega arith, eqb→eq p.place 0 x, eqb→eq p.set 1 y)

module _ (events : ℕ) (left right : Condition) (c : Certificate) (ok : Valid events left right c) where
  -- a word that leads from a pair's left place leads from one of the pair's right places
  carried : (w : Word) → Over events w → (i : ℕ) → i < length c → Leads left (pair_of c i).place w → SomeLeads right (pair_of c i).set w
  unfolding listed
  carried [] o i l h = some_ends-out right (pair_of c i).set ((ok.pairs i l).clause3 h)
  carried (e ∷ w) o i l h =
      let (q, n, t, k) = h in
      let (j, m, x) = any_out (length c) _ ((ok.pairs i l).clause4 e q o.0 n t) in
      let (y, z) = and-out (eqb (pair_of c j).place q) (within right (pair_of c j).set (step right (pair_of c i).set e).set) x in
      let (p, a, d) = carried w o.1 j m (rw (eqb→eq (pair_of c j).place q y) k) in
      let (p', a', n', t') = step-out right (pair_of c i).set e p (within-out right (pair_of c j).set (step right (pair_of c i).set e).set p z a) in
      (p', a', (p, n', t', d))

  included : (w : Word) → Over events w → Holds left w → Holds right w
  included w o h =
      let (l, x, y) = starts-out c ok.clause1 in
      let (p, a, d) = carried w o 0 l (rw x (holds→leads left w h)) in
      leads→holds right w (rw (has-start p (rw y at a)) at d)

pub sound : (events : ℕ) (left right : Condition) (c : Certificate) → EventsBelow events left → check events left right c ≡ fine → left ⊆ right
sound events left right c b h w x = included events left right c ((valid events left right c).0 h) w (holds-over events left b w x) x
