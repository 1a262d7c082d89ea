-- Certificates that are right, and the first fault of those that are not, by evaluation of the check over 32 events, and over 64.
use mathlib.Core.Path.{◌≡◌, refl}
use mathlib.Core.List.{List, [], ◌∷◌, map}
use Rattle.condition.specs.Condition.{Condition, leaf, empty, join, either, star, any, event}
use Rattle.condition.specs.Exchange.{exchange}
use Rattle.certificate.specs.Certificate.{Certificate, pair, Finding, fine, found, fault, check}

record Case : Type 0 where
  left : Condition
  right : Condition
  certificate : Certificate
  answer : Finding

abbrev case : Condition → Condition → Certificate → Finding → Case
case l r c a = record { left = l; right = r; certificate = c; answer = a }

-- event 2, and then any
abbrev two_first : Condition
two_first = join (event 2) (star (any 32))

abbrev empty_or_two_first : Condition
empty_or_two_first = either empty two_first

abbrev cases : List Case
cases =
    case empty empty (pair 0 1 ∷ []) fine
    -- no first pair, and a wrong one
    ∷ case empty empty [] (fault 1 0 0 0)
    ∷ case empty empty (pair 0 3 ∷ []) (fault 1 0 0 0)
    -- the empty word is no word of one event
    ∷ case empty (leaf 1) (pair 0 1 ∷ []) (fault 3 0 0 0)
    -- the pair after event 2 is listed, is missing, has a set that contains the stepped one, and has a place or a set that is off its side
    ∷ case (event 2) empty_or_two_first (pair 0 1 ∷ pair 1 2 ∷ []) fine
    ∷ case (event 2) empty_or_two_first (pair 0 1 ∷ []) (fault 4 0 2 1)
    ∷ case (event 2) empty_or_two_first (pair 0 1 ∷ pair 1 6 ∷ []) (fault 4 0 2 1)
    ∷ case (event 2) empty_or_two_first (pair 0 1 ∷ pair 1 2 ∷ pair 2 2 ∷ []) (fault 2 2 0 0)
    -- of that set no place ends a word, so clause 3 fails at the same pair
    ∷ case (event 2) empty_or_two_first (pair 0 1 ∷ pair 1 2 ∷ pair 1 8 ∷ []) (fault 2 2 0 0)
    -- a set with a bit that is no right place is within no stepped set, though the rest of it is
    ∷ case (event 2) empty_or_two_first (pair 0 1 ∷ pair 1 10 ∷ []) (fault 4 0 2 1)
    -- a set within the stepped one need not be the whole of it
    ∷ case (event 2) (either (event 2) (event 2)) (pair 0 1 ∷ pair 1 4 ∷ []) fine
    -- later pairs may have place 0, with another set too, and may repeat
    ∷ case empty (star (event 2)) (pair 0 1 ∷ pair 0 3 ∷ pair 0 1 ∷ []) fine
    -- clause 3 at a later pair: one event is no word of two
    ∷ case (event 2) (join (event 2) (event 2)) (pair 0 1 ∷ pair 1 2 ∷ []) (fault 3 1 0 0)
    -- of two followers without a pair, the one that holds the lower event
    ∷ case (either (event 5) (event 3)) (any 32) (pair 0 1 ∷ []) (fault 4 0 3 2)
    -- the last event, 31, is tested too
    ∷ case (event 31) (any 32) (pair 0 1 ∷ []) (fault 4 0 31 1)
    -- the pair after each of the events that follow event 2 is listed, and is missing
    ∷ case two_first empty_or_two_first (pair 0 1 ∷ pair 1 2 ∷ pair 2 4 ∷ []) fine
    ∷ case two_first empty_or_two_first (pair 0 1 ∷ pair 1 2 ∷ []) (fault 4 1 0 2)
    ∷ []

answered : map (λ (x : Case). check 32 x.left x.right x.certificate) cases ≡ map (λ (x : Case). x.answer) cases
unfolding check
answered = refl

-- More cases --------------------------------------------------------------------------------------------------------------

abbrev more_cases : List Case
more_cases =
    -- the first pair has another place
    case empty empty (pair 1 1 ∷ []) (fault 1 0 0 0)
    -- clauses 3 and 4 fail at one pair: the empty word is no word of event 2, and the pair after event 2 is missing
    ∷ case (star (event 2)) (event 2) (pair 0 1 ∷ []) (fault 3 0 0 0)
    -- clauses 2, 3 and 4 do: the last pair's set has only a place that the right side lacks
    ∷ case (star (event 2)) (star (event 2)) (pair 0 1 ∷ pair 1 2 ∷ pair 1 4 ∷ []) (fault 2 2 0 0)
    -- of two followers that hold one event, the lower place
    ∷ case (either (event 3) (event 3)) (any 32) (pair 0 1 ∷ []) (fault 4 0 3 1)
    -- the pair that is missing is one of the follower, whatever other pairs have its set
    ∷ case (event 2) (event 2) (pair 0 1 ∷ pair 0 2 ∷ []) (fault 4 0 2 1)
    ∷ []

more-answered : map (λ (x : Case). check 32 x.left x.right x.certificate) more_cases ≡ map (λ (x : Case). x.answer) more_cases
unfolding check
more-answered = refl

-- Over 64 events: document 02, Ask 11 -----------------------------------------------------------------------------------

abbrev wide_cases : List Case
wide_cases =
    -- "events go to 63"
    case (event 63) (any 64) (pair 0 1 ∷ pair 1 2 ∷ []) fine
    ∷ case (event 63) (any 64) (pair 0 1 ∷ []) (fault 4 0 63 1)
    -- "kind 1 leaves the upper bits 0": all of its events are not all of 64
    ∷ case (any 32) (any 64) (pair 0 1 ∷ pair 1 2 ∷ []) fine
    ∷ case (any 64) (any 32) (pair 0 1 ∷ pair 1 2 ∷ []) (fault 4 0 32 1)
    -- a condition read with channel 3, on either side: event 2 is event 50, and "any" is "any"
    ∷ case (exchange 3 (event 2)) (event 50) (pair 0 1 ∷ pair 1 2 ∷ []) fine
    ∷ case (exchange 3 (event 2)) (event 2) (pair 0 1 ∷ pair 1 2 ∷ []) (fault 4 0 50 1)
    ∷ case (event 50) (exchange 3 (event 2)) (pair 0 1 ∷ pair 1 2 ∷ []) fine
    ∷ case (any 64) (exchange 3 (any 64)) (pair 0 1 ∷ pair 1 2 ∷ []) fine
    ∷ []

wide-answered : map (λ (x : Case). check 64 x.left x.right x.certificate) wide_cases ≡ map (λ (x : Case). x.answer) wide_cases
unfolding check exchange
wide-answered = refl

-- "clause, pair, event, place"
fault-is : fault 4 1 5 2 ≡ found (record { clause = 4; pair = 1; event = 5; place = 2 })
fault-is = refl
