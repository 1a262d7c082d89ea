-- Conditions and the words they hold: document 01, "Events and conditions". These are regular expressions and their languages.
use Rattle.std.specs.Prelude.{◌≡◌, ◌⊎◌, List, [], ◌∷◌, ◌++◌, ℕ, ◌-◌, ◌^◌, ◌≤◌, ◌<◌, T, length, take}
use Rattle.bits.specs.Bits.{has}

-- "A word is a finite list of events." An event here is any number: no condition holds a word with an event that is in no set of its leaves.
abbrev pub Word : Type 0
Word = List ℕ

-- "a leaf, a 4-byte set (bit e for event e)", in document 02, Ask 11 also "an 8-byte set"; EMPTY, JOIN, EITHER, STAR
pub data Condition : Type 0 where
  leaf : ℕ → Condition
  empty : Condition
  join : Condition → Condition → Condition
  either : Condition → Condition → Condition
  star : Condition → Condition

-- Kleene star: "zero or more words of its item, one after another"
pub data Repeated (P : Word → Type 0) : Word → Type 0 where
  never : Repeated P []
  once_more : {u v : Word} → P u → Repeated P v → Repeated P (u ++ v)

-- Membership in the language: the word w is in the language of the condition.
abbrev pub Holds : Condition → Word → Type 0
-- "holds the one-event words of its set; the set 0 holds no word"
Holds (leaf s) w = (e : ℕ) × T (has s e) × (w ≡ e ∷ [])
-- "EMPTY holds just the empty word"
Holds empty w = w ≡ []
-- "JOIN holds a word of the first followed by one of the second"
Holds (join a b) w = (u : Word) × (v : Word) × (w ≡ u ++ v) × Holds a u × Holds b v
-- "EITHER holds the words of both": the union
Holds (either a b) w = Holds a w ⊎ Holds b w
-- "STAR holds zero or more words of its item, one after another"
Holds (star a) w = Repeated (λ u. Holds a u) w

-- Language inclusion: ""A in B" says that every word of A is in B"
infix 40 ◌⊆◌
abbrev pub ◌⊆◌ : Condition → Condition → Type 0
a ⊆ b = (w : Word) → Holds a w → Holds b w

-- Document 02, Ask 3: the word u "begins some word of the condition"
abbrev pub Begins : Condition → Word → Type 0
Begins r u = (v : Word) × Holds r (u ++ v)

-- n is "the length of the longest beginning of the word that begins some word of the condition. A condition with no words gives 0."
pub record Longest (r : Condition) (w : Word) (n : ℕ) : Type 0 where
  pub beginning : n ≤ length w
  pub begins : Begins r (take n w) ⊎ ((n ≡ 0) × ((v : Word) → Holds r v → ⊥))
  pub no_longer : (m : ℕ) → n < m → m ≤ length w → Begins r (take m w) → ⊥

-- "the set 0 holds no word"
abbrev pub no_word : Condition
no_word = leaf 0

-- the one word of one event
abbrev pub event : ℕ → Condition
event e = leaf (2 ^ e)

-- The temporal abbreviations, over n events, for a set of events A.

-- "any": every event
abbrev pub any : ℕ → Condition
any n = leaf (2 ^ n - 1)

-- ""finally A" is (not A)* A any*"
abbrev pub finally : ℕ → ℕ → Condition
finally n a = join (star (leaf (2 ^ n - 1 - a))) (join (leaf a) (star (any n)))

-- ""globally A" is A*"
abbrev pub globally : ℕ → Condition
globally a = star (leaf a)

-- ""next A" is any A any*"
abbrev pub next : ℕ → ℕ → Condition
next n a = join (any n) (join (leaf a) (star (any n)))
