-- Words that document 01's conditions hold, and words that they do not, by evaluation of the word test over 32 events, and where words go wrong; sets with
-- two channels exchanged, and words of conditions so exchanged, over 64.
use mathlib.Core.Path.{◌≡◌, refl}
use mathlib.Core.Bool.{Bool, true, false}
use mathlib.Core.List.{List, [], ◌∷◌, map}
use Prim.Native.Nat.{ℕ}
use Rattle.condition.specs.Condition.{Condition, leaf, empty, join, either, star, Word, Holds, no_word, event, any, finally, globally, next}
use Rattle.condition.specs.Places.{live, step, accepts, longest}
use Rattle.condition.specs.Exchange.{swap, exchange}
use Rattle.condition.proofs.Words.{words}

record Case : Type 0 where
  condition : Condition
  word : Word
  answer : Bool

abbrev case : Condition → Word → Bool → Case
case r w a = record { condition = r; word = w; answer = a }

-- "the condition 02, 01 04 00 00 00, 01 FF FF FF FF, 05, 03, 04, 06": the empty word, or event 2 and then any
abbrev empty_or_two_first : Condition
empty_or_two_first = either empty (join (leaf 4) (star (leaf 4294967295)))

-- the sets below are 2, of event 1, and 5, of the events 0 and 2
abbrev cases : List Case
cases =
    -- "holds the empty word, 2, and 2 0; it does not hold 0, nor 0 2"
    case empty_or_two_first [] true
    ∷ case empty_or_two_first (2 ∷ []) true
    ∷ case empty_or_two_first (2 ∷ 0 ∷ []) true
    ∷ case empty_or_two_first (0 ∷ []) false
    ∷ case empty_or_two_first (0 ∷ 2 ∷ []) false
    ∷ case no_word [] false
    ∷ case no_word (0 ∷ []) false
    ∷ case (event 3) (3 ∷ []) true
    ∷ case (event 3) (2 ∷ []) false
    ∷ case (event 3) (3 ∷ 3 ∷ []) false
    ∷ case (any 32) (31 ∷ []) true
    ∷ case (any 32) (32 ∷ []) false
    ∷ case (finally 32 2) (1 ∷ []) true
    ∷ case (finally 32 2) (0 ∷ 1 ∷ 31 ∷ []) true
    ∷ case (finally 32 2) [] false
    ∷ case (finally 32 2) (0 ∷ 31 ∷ []) false
    ∷ case (globally 5) [] true
    ∷ case (globally 5) (0 ∷ 2 ∷ 0 ∷ []) true
    ∷ case (globally 5) (1 ∷ []) false
    ∷ case (globally 5) (0 ∷ 1 ∷ []) false
    ∷ case (next 32 2) (0 ∷ 1 ∷ []) true
    ∷ case (next 32 2) (31 ∷ 1 ∷ 0 ∷ []) true
    ∷ case (next 32 2) (1 ∷ []) false
    ∷ case (next 32 2) (1 ∷ 0 ∷ []) false
    ∷ []

answered : map (λ (x : Case). accepts x.condition x.word) cases ≡ map (λ (x : Case). x.answer) cases
unfolding accepts
answered = refl

-- the same of the language: a word held, and a word not held
finally-holds : Holds (finally 32 2) (0 ∷ 1 ∷ 31 ∷ [])
unfolding accepts
finally-holds = (words (finally 32 2) (0 ∷ 1 ∷ 31 ∷ [])).0 tt

finally-lacks : Holds (finally 32 2) (0 ∷ 31 ∷ []) → ⊥
unfolding accepts
finally-lacks h = (words (finally 32 2) (0 ∷ 31 ∷ [])).1 h

-- Where a word went wrong: document 02, Ask 3 ---------------------------------------------------------------------------

record Beginning : Type 0 where
  condition : Condition
  word : Word
  length : ℕ

abbrev beginning : Condition → Word → ℕ → Beginning
beginning r w n = record { condition = r; word = w; length = n }

-- event 0 and then event 1, or events 0 and 2 and then a leaf that holds nothing
abbrev hopeless : Condition
hopeless = either (join (event 0) (event 1)) (join (event 0) (join (event 2) no_word))

abbrev beginnings : List Beginning
beginnings =
    beginning empty_or_two_first (0 ∷ []) 0
    ∷ beginning empty_or_two_first (0 ∷ 2 ∷ []) 0
    ∷ beginning empty_or_two_first (2 ∷ 0 ∷ 32 ∷ 0 ∷ []) 2
    -- a word that begins words and is none itself; the empty word
    ∷ beginning (finally 32 2) (0 ∷ 31 ∷ []) 2
    ∷ beginning (event 0) [] 0
    -- "A condition with no words gives 0": the leaf first, in the middle of a join and last
    ∷ beginning no_word (0 ∷ []) 0
    ∷ beginning no_word [] 0
    ∷ beginning (join no_word (event 0)) (0 ∷ []) 0
    ∷ beginning (join (event 0) (join no_word (event 1))) (0 ∷ 1 ∷ []) 0
    ∷ beginning (join (event 0) (join (event 1) no_word)) (0 ∷ 1 ∷ []) 0
    -- "Leaves with the set 0 can make a follower hopeless": in one arm of an either
    ∷ beginning hopeless (0 ∷ 2 ∷ []) 1
    ∷ beginning hopeless (0 ∷ 1 ∷ 1 ∷ []) 2
    -- the star of an item without words has the empty word
    ∷ beginning (star (join (event 0) no_word)) (0 ∷ 0 ∷ []) 0
    ∷ beginning (join (star (join (event 0) no_word)) (event 1)) (1 ∷ 1 ∷ []) 1
    ∷ []

measured : map (λ (x : Beginning). longest x.condition x.word) beginnings ≡ map (λ (x : Beginning). x.length) beginnings
unfolding longest
measured = refl

-- leaf 5 of `hopeless` holds nothing: it ends a word, and no word leads to it; from leaves 3 and 4 no word is finished
live-places : map (live hopeless) (0 ∷ 1 ∷ 2 ∷ 3 ∷ 4 ∷ 5 ∷ 6 ∷ []) ≡ true ∷ true ∷ true ∷ false ∷ false ∷ true ∷ false ∷ []
unfolding longest
live-places = refl

-- "besides its old set": after the events 0 and 2 a place is left, and no word can be finished; nothing is taken from the set
stepped : ((step hopeless 0b1010 2).set ≡ 0b10000) × ((step hopeless 0b1010 2).finishes ≡ false)
unfolding longest
stepped = (refl, refl)

-- Exchanged channels: document 02, Ask 11 -------------------------------------------------------------------------------

record Exchanged : Type 0 where
  channel : ℕ
  before : ℕ
  after : ℕ

abbrev exchanged : ℕ → ℕ → ℕ → Exchanged
exchanged c s t = record { channel = c; before = s; after = t }

-- "channel c of 0 to 3 has the sixteen from 16 times c": first and last events of the two channels, and an event of a third
abbrev swaps : List Exchanged
swaps =
    exchanged 0 5 5
    ∷ exchanged 0 63 63
    ∷ exchanged 1 0 16
    ∷ exchanged 1 31 15
    ∷ exchanged 1 32 32
    ∷ exchanged 2 15 47
    ∷ exchanged 2 32 0
    ∷ exchanged 2 16 16
    ∷ exchanged 3 0 48
    ∷ exchanged 3 63 15
    ∷ exchanged 3 47 47
    ∷ []

exchanged-events : map (λ (x : Exchanged). swap x.channel x.before) swaps ≡ map (λ (x : Exchanged). x.after) swaps
unfolding exchange
exchanged-events = refl

abbrev exchanges : List Exchanged
exchanges =
    exchanged 0 0x1111222233334444 0x1111222233334444
    ∷ exchanged 1 0x1111222233334444 0x1111222244443333
    ∷ exchanged 2 0x1111222233334444 0x1111444433332222
    ∷ exchanged 3 0x1111222233334444 0x4444222233331111
    -- "so "any" remains "any""
    ∷ exchanged 0 0xFFFFFFFFFFFFFFFF 0xFFFFFFFFFFFFFFFF
    ∷ exchanged 1 0xFFFFFFFFFFFFFFFF 0xFFFFFFFFFFFFFFFF
    ∷ exchanged 2 0xFFFFFFFFFFFFFFFF 0xFFFFFFFFFFFFFFFF
    ∷ exchanged 3 0xFFFFFFFFFFFFFFFF 0xFFFFFFFFFFFFFFFF
    -- "kind 1 leaves the upper bits 0": FF FF FF FF has the channels 0 and 1, and is not "any"
    ∷ exchanged 0 0xFFFFFFFF 0xFFFFFFFF
    ∷ exchanged 1 0xFFFFFFFF 0xFFFFFFFF
    ∷ exchanged 2 0xFFFFFFFF 0xFFFFFFFF0000
    ∷ exchanged 3 0xFFFFFFFF 0xFFFF0000FFFF0000
    ∷ exchanged 3 0 0
    ∷ []

exchanged-sets : map (λ (x : Exchanged). exchange x.channel (leaf x.before)) exchanges ≡ map (λ (x : Exchanged). leaf x.after) exchanges
unfolding exchange
exchanged-sets = refl

-- event 2 and then any, which is event 34 and then any where it is read with channel 2; an event of a third channel; a star; FF FF FF FF of kind 1
abbrev exchanged_cases : List Case
exchanged_cases =
    case (exchange 2 (join (event 2) (star (any 64)))) (34 ∷ []) true
    ∷ case (exchange 2 (join (event 2) (star (any 64)))) (34 ∷ 2 ∷ 63 ∷ []) true
    ∷ case (exchange 2 (join (event 2) (star (any 64)))) (2 ∷ []) false
    ∷ case (exchange 2 (join (event 34) (star (any 64)))) (2 ∷ 34 ∷ []) true
    ∷ case (exchange 2 (event 18)) (18 ∷ []) true
    ∷ case (exchange 3 (star (leaf 0x8001))) (48 ∷ 63 ∷ 48 ∷ []) true
    ∷ case (exchange 3 (star (leaf 0x8001))) (0 ∷ []) false
    ∷ case (exchange 3 (either empty (leaf 0xFFFFFFFF))) (48 ∷ []) true
    ∷ case (exchange 3 (either empty (leaf 0xFFFFFFFF))) (31 ∷ []) true
    ∷ case (exchange 3 (either empty (leaf 0xFFFFFFFF))) (0 ∷ []) false
    ∷ []

exchanged-answered : map (λ (x : Case). accepts x.condition x.word) exchanged_cases ≡ map (λ (x : Case). x.answer) exchanged_cases
unfolding accepts exchange
exchanged-answered = refl
