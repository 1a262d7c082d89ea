-- The places of a condition and the word test: document 01, "Places and certificates". The places are the positions of the Glushkov
-- automaton; stepping a set of them is its subset construction.
use Rattle.std.specs.Prelude.{Bool, true, false, cond, not, ◌&&◌, ◌||◌, [], ◌∷◌, ℕ, zero, suc, ◌+◌, ◌-◌, eqb, leb}
use Rattle.bits.specs.Bits.{has, any_below, set_of}
use Rattle.condition.specs.Condition.{Condition, leaf, empty, join, either, star, Word}

-- how many leaves a condition has: "A side's places are 0 (the start) and its leaves from 1, left to right"
unfoldable pub leaves : Condition → ℕ
leaves (leaf s) = 1
leaves empty = 0
leaves (join a b) = leaves a + leaves b
leaves (either a b) = leaves a + leaves b
leaves (star a) = leaves a

unfoldable pub places : Condition → ℕ
places r = suc (leaves r)

-- Two conditions, one after the other, of which the first has m leaves: leaf k is the first's k up to m, and the second's k - m above;
-- "in AB, A's leaves come first".
unfoldable pub beside : {A : Type 0} → ℕ → (ℕ → A) → (ℕ → A) → ℕ → A
beside m f g k = elim (leb k m) [ true ↦ f k | false ↦ g (k - m) ]

-- the set of leaf k
unfoldable pub leaf_set : Condition → ℕ → ℕ
leaf_set (leaf s) k = s
leaf_set empty k = 0
leaf_set (join a b) k = beside (leaves a) (λ i. leaf_set a i) (λ i. leaf_set b i) k
leaf_set (either a b) k = beside (leaves a) (λ i. leaf_set a i) (λ i. leaf_set b i) k
leaf_set (star a) k = leaf_set a k

-- leaf q holds the event e
unfoldable pub leaf_holds : Condition → ℕ → ℕ → Bool
leaf_holds r q e = has (leaf_set r q) e

-- the condition holds the empty word
unfoldable pub nullable : Condition → Bool
nullable (leaf s) = false
nullable empty = true
nullable (join a b) = nullable a && nullable b
nullable (either a b) = nullable a || nullable b
nullable (star a) = true

-- "First, last and following leaves are Glushkov's": leaf k can match the first event of a word, and the last
unfoldable pub first : Condition → ℕ → Bool
first (leaf s) k = eqb k 1
first empty k = false
first (join a b) k = beside (leaves a) (λ i. first a i) (λ i. nullable a && first b i) k
first (either a b) k = beside (leaves a) (λ i. first a i) (λ i. first b i) k
first (star a) k = first a k

unfoldable pub last : Condition → ℕ → Bool
last (leaf s) k = eqb k 1
last empty k = false
last (join a b) k = beside (leaves a) (λ i. last a i && nullable b) (λ i. last b i) k
last (either a b) k = beside (leaves a) (λ i. last a i) (λ i. last b i) k
last (star a) k = last a k

-- leaf q can match the event after the one that leaf p matches: "JOIN lets each first of the second follow each last of the first, STAR
-- each first follow each last"
unfoldable pub follow : Condition → ℕ → ℕ → Bool
follow (leaf s) p q = false
follow empty p q = false
follow (join a b) p q =
    beside (leaves a)
    (λ i. beside (leaves a) (λ j. follow a i j) (λ j. last a i && first b j) q)
    (λ i. beside (leaves a) (λ j. false) (λ j. follow b i j) q)
    p
follow (either a b) p q =
    beside (leaves a)
    (λ i. beside (leaves a) (λ j. follow a i j) (λ j. false) q)
    (λ i. beside (leaves a) (λ j. false) (λ j. follow b i j) q)
    p
follow (star a) p q = follow a p q || (last a p && first a q)

-- leaf q follows place p: "Place 0 is followed by the firsts"
unfoldable pub follows : Condition → ℕ → ℕ → Bool
follows r zero q = first r q
follows r (suc p) q = follow r (suc p) q

-- place p ends a word: "[Place 0] ends a word if the side holds the empty word; a last leaf ends a word"
unfoldable pub ends : Condition → ℕ → Bool
ends r zero = nullable r
ends r (suc p) = last r (suc p)

-- Which words can still be finished -------------------------------------------------------------------------------------

-- the condition has a word
unfoldable pub has_word : Condition → Bool
has_word (leaf s) = not (eqb s 0)
has_word empty = true
has_word (join a b) = has_word a && has_word b
has_word (either a b) = has_word a || has_word b
has_word (star a) = true

-- A word can be finished after leaf k has matched an event. Document 02, Ask 3: "Leaves with the set 0 can make a follower hopeless": in AB, where B has
-- no word, the leaves of A are.
unfoldable pub live_leaf : Condition → ℕ → Bool
live_leaf (leaf s) k = eqb k 1
live_leaf empty k = false
live_leaf (join a b) k = beside (leaves a) (λ i. live_leaf a i && has_word b) (λ i. live_leaf b i) k
live_leaf (either a b) k = beside (leaves a) (λ i. live_leaf a i) (λ i. live_leaf b i) k
live_leaf (star a) k = live_leaf a k

-- the live places: those from which a word leads to a place that ends a word
unfoldable pub live : Condition → ℕ → Bool
live r zero = has_word r
live r (suc p) = live_leaf r (suc p)

-- "whether any word can still be finished": one of the places of the set s is live
unfoldable pub some_live : Condition → ℕ → Bool
some_live r s = any_below (places r) (λ p. has s p && live r p)

-- Stepping --------------------------------------------------------------------------------------------------------------

-- what stepping tells: the set of places, and whether a word can be finished from it
pub record Stepped : Type 0 where
  pub set : ℕ
  pub finishes : Bool

-- "Stepping a set of places by e gives all followers whose leaf holds e." Document 02, Ask 3: "stepping must tell, besides its old set, whether any word
-- can still be finished"
unfoldable pub step : Condition → ℕ → ℕ → Stepped
step r s e =
    let t = set_of (places r) (λ q. any_below (places r) (λ p. has s p && follows r p q) && leaf_holds r q e) in
    record { set = t; finishes = some_live r t }

-- the set s stepped by each event of a word
unfoldable pub step_all : Condition → ℕ → Word → ℕ
step_all r s [] = s
step_all r s (e ∷ w) = step_all r (step r s e).set w

-- one of the places of the set s ends a word
unfoldable pub some_ends : Condition → ℕ → Bool
some_ends r s = any_below (places r) (λ p. has s p && ends r p)

-- the word test: from the start, which is the set 1 of place 0 alone
unfoldable pub accepts : Condition → Word → Bool
unfolding leaves places beside leaf_set leaf_holds nullable first last follow follows ends has any_below set_of step step_all some_ends
accepts r w = some_ends r (step_all r 1 w)

-- how many events of a word the set s can be stepped by such that after each of them a word can still be finished
unfoldable pub longest_from : Condition → ℕ → Word → ℕ
longest_from r s [] = 0
longest_from r s (e ∷ w) =
    let t = step r s e in
    let more = suc (longest_from r t.set w) in
    cond t.finishes more 0

-- Document 02, Ask 3: "the length of the longest beginning of the word that begins some word of the condition. A condition with no words gives 0."
unfoldable pub longest : Condition → Word → ℕ
unfolding leaves places beside leaf_set leaf_holds nullable first last follow follows ends has_word live_leaf live some_live has any_below set_of step longest_from
longest r w = longest_from r 1 w
