-- Certificates and their clauses: document 01, "Places and certificates". A certificate is an inclusion witness: a list of pairs of a left
-- place and a set of right places that simulates the left automaton by the right one.
use Rattle.std.specs.Prelude.{◌≡◌, Bool, true, false, ◌&&◌, List, [], ◌∷◌, ℕ, zero, suc, ◌^◌, ◌<◌, T, eqb, ltb, length, get_or}
use Rattle.bits.specs.Bits.{◌⇒◌, has, any_below, all_below, set_of}
use Rattle.condition.specs.Condition.{Condition}
use Rattle.condition.specs.Places.{leaves, places, beside, leaf_set, leaf_holds, nullable, first, last, follow, follows, ends, step, some_ends}

-- a pair: "left place (1), right set (4)"
pub record Pair : Type 0 where
  pub place : ℕ
  pub set : ℕ

-- from its place and its set
abbrev pub pair : ℕ → ℕ → Pair
pair l s = record { place = l; set = s }

-- a certificate: its pairs, in the order in which they stand
abbrev pub Certificate : Type 0
Certificate = List Pair

-- pair i of a certificate
abbrev pub pair_of : Certificate → ℕ → Pair
pair_of c i = get_or c i (pair 0 0)

-- What a test finds -----------------------------------------------------------------------------------------------------

-- a fault: "clause, pair, event, place"
pub record Fault : Type 0 where
  pub clause : ℕ
  pub pair : ℕ
  pub event : ℕ
  pub place : ℕ

-- nothing wrong, or a fault
pub data Finding : Type 0 where
  fine : Finding
  found : Fault → Finding

-- a fault that is found, from its four values
abbrev pub fault : ℕ → ℕ → ℕ → ℕ → Finding
fault c i e l = found (record { clause = c; pair = i; event = e; place = l })

-- the first fault of two
infixl 20 ◌then◌
abbrev pub ◌then◌ : Finding → Finding → Finding
fine then v = v
found x then v = found x

-- the first fault of f 0, f 1, .. up to f (n - 1)
unfoldable pub in_order : ℕ → (ℕ → Finding) → Finding
in_order zero f = fine
in_order (suc n) f = in_order n f then f n

-- the fault v where the test fails
abbrev pub unless : Bool → Finding → Finding
unless true v = fine
unless false v = v

-- The clauses -----------------------------------------------------------------------------------------------------------

-- clause 1: "the first pair exists and is place 0 with set 1 (only bit 0; bit k is for right place k)"
abbrev pub starts_right : Certificate → Bool
starts_right [] = false
starts_right (p ∷ c) = eqb p.place 0 && eqb p.set 1

-- the set s "has only .. places" of the condition r
unfoldable pub only_places : Condition → ℕ → Bool
only_places r s = ltb s (2 ^ places r)

-- the set s of places of r lies "within" the set t
unfoldable pub within : Condition → ℕ → ℕ → Bool
within r s t = only_places r s && all_below (places r) (λ k. has s k ⇒ has t k)

-- "some pair has place l and a set within" the set t
unfoldable pub listed : Condition → Certificate → ℕ → ℕ → Bool
listed right c l t = any_below (length c) (λ j. eqb (pair_of c j).place l && within right (pair_of c j).set t)

module _ (events : ℕ) (left right : Condition) (c : Certificate) where
  -- clause 4 of pair i at the event e, with t "the pair's set stepped by e": "each follower l of the place holding e, ascending"
  unfoldable pub clause4_at : ℕ → Pair → ℕ → Finding
  clause4_at i p e =
      let t = (step right p.set e).set in
      in_order (places left) (λ l. unless ((follows left p.place l && leaf_holds left l e) ⇒ listed right c l t) (fault 4 i e l))

  -- "for each pair in order: 2 its place is on the left side, and its set has only right places; 3 if the place ends a word, so does one of
  -- the set; 4 for each event e ascending .."
  unfoldable pub pair_finding : ℕ → Pair → Finding
  pair_finding i p =
      unless (ltb p.place (places left) && only_places right p.set) (fault 2 i 0 0)
      then unless (ends left p.place ⇒ some_ends right p.set) (fault 3 i 0 0)
      then in_order events (λ e. clause4_at i p e)

  -- the first fault of the certificate for the left in the right, over the events below `events`
  unfoldable pub check : Finding
  unfolding leaves places beside leaf_set leaf_holds nullable first last follow follows ends has any_below all_below set_of step some_ends in_order only_places within listed clause4_at pair_finding
  check = unless (starts_right c) (fault 1 0 0 0) then in_order (length c) (λ i. pair_finding i (pair_of c i))

-- Exact certificates ----------------------------------------------------------------------------------------------------

-- The reachable product of the left automaton and the right subset construction: "Reachable pairs are (0, 1), the start, and, from each,
-- every follower holding an event with the exact set stepped by it."
pub data Reachable (events : ℕ) (left right : Condition) : Pair → Type 0 where
  start : Reachable events left right (pair 0 1)
  onward : {l s : ℕ} (e q : ℕ) → Reachable events left right (pair l s) → e < events → T (follows left l q) → T (leaf_holds left q e)
      → Reachable events left right (pair q (step right s e).set)

-- Demand 3, second half: the certificate "lists exactly the reachable pairs, the start first", in any order after it, repeats allowed
pub record Exact (events : ℕ) (left right : Condition) (c : Certificate) : Type 0 where
  pub start_first : T (starts_right c)
  pub only_reachable : (i : ℕ) → i < length c → Reachable events left right (pair_of c i)
  pub all_reachable : (p : Pair) → Reachable events left right p → (i : ℕ) × (i < length c) × (pair_of c i ≡ p)
