-- Document 02, Ask 11, of bytes and the verdict, by evaluation, on the four-channel and on the large instrument: sheets with calls on channels, with all
-- rules true and with one false; "any" on a channel; event steps; counts and certificates; and the refusal 26.
use mathlib.Core.Path.{◌≡◌, refl}
use mathlib.Core.Option.{some}
use mathlib.Core.List.{List, [], ◌∷◌, ◌++◌, map}
use Prim.Native.Nat.{ℕ}
use Rattle.certificate.specs.Certificate.{pair}
use Rattle.sheet.specs.Model.{large, four}
use Rattle.verdict.specs.Verdict.{verdict_of}
use Rattle.verdict.specs.WordTest.{untested, word_test}
use Rattle.verdict.specs.Line.{line}
use Rattle.verdict.specs.Cases.{point0, method0}
use Rattle.verdict.proofs.Parts.{Printed, printed, AsPrinted, record_of, certified, one, two, three, ones, owned, all_empty, method16}
use Rattle.judged_sheets.proofs.Failing.{failing, rules_of}
use Rattle.judged_sheets.proofs.Stopping.{new}

-- a call on a channel
abbrev pub call_on : (p q m channel : ℕ) → List ℕ
call_on p q m c = record_of 22 (p ∷ q ∷ m ∷ []) ++ (c ∷ [])

-- leaves with a set of 4 and of 8 bytes
abbrev leaf4 : (a b c d : ℕ) → List ℕ
leaf4 a b c d = 0x01 ∷ a ∷ b ∷ c ∷ d ∷ []

abbrev leaf8 : (a b c d e f g h : ℕ) → List ℕ
leaf8 a b c d e f g h = 0x15 ∷ a ∷ b ∷ c ∷ d ∷ e ∷ f ∷ g ∷ h ∷ []

-- A gate that is opened and closed on a channel -----------------------------------------------------------------------------

-- the events 0 (open) and 1 (close) of channel 0, and those of channel 1 and of channel 3
abbrev pub Events : Type 0
Events = List ℕ × List ℕ

abbrev pub of_0 : Events
of_0 = (leaf4 0x01 0 0 0, leaf4 0x02 0 0 0)

abbrev pub of_1 : Events
of_1 = (leaf4 0 0 0x01 0, leaf4 0 0 0x02 0)

abbrev of_3 : Events
of_3 = (leaf8 0 0 0 0 0 0 0x01 0, leaf8 0 0 0 0 0 0 0x02 0)

-- EMPTY; open, close of channel 0; and open, close, both of the channel of the points
abbrev conditions : Events → List ℕ
conditions (opening, closing) =
    (0x02 ∷ 0x06 ∷ [])
    ++ of_0.0 ++ (0x06 ∷ [])
    ++ of_0.1 ++ (0x06 ∷ [])
    ++ opening ++ (0x06 ∷ [])
    ++ closing ++ (0x06 ∷ [])
    ++ opening ++ closing ++ (0x03 ∷ 0x06 ∷ [])

-- before; open, where closing is due; at the end
abbrev points : List ℕ
points = record_of 7 (0 ∷ 0 ∷ 5 ∷ []) ++ (record_of 7 (3 ∷ 3 ∷ 4 ∷ []) ++ record_of 7 (5 ∷ 5 ∷ 0 ∷ []))

-- method 0 goes from point 0 to 2; the primitive 1 opens and asks for what the condition `future` says, the primitive 2 closes after an opening
abbrev methods : (future : ℕ) → List ℕ
methods future = record_of 9 (0 ∷ 5 ∷ 0 ∷ 0 ∷ 2 ∷ []) ++ (record_of 8 (0 ∷ 1 ∷ future ∷ []) ++ record_of 8 (1 ∷ 2 ∷ 0 ∷ []))

-- of method 0, and of the two calls
abbrev certificates : List ℕ
certificates =
    one ++ three ++ one
    ++ one ++ two ++ two ++ two ++ three
    ++ two ++ three ++ three ++ one ++ two

-- with the events of the points, the future of the primitive 1 and the channels of the two calls
unfoldable pub gate : Events → (future c d : ℕ) → List ℕ
gate events future c d = conditions events ++ points ++ methods future ++ call_on 0 1 1 c ++ call_on 1 2 2 d ++ certificates

gates : List Printed
gates =
    -- 2 + 4 + 5 + 5
    printed (gate of_1 2 1 1) "accepted 16"
    ∷ printed (gate of_3 2 3 3) "accepted 16"
    ∷ printed (gate of_0 2 0 0) "accepted 16"
    -- the first call on another channel: 11, the trace; clause 4 names the event of that channel
    ∷ printed (gate of_1 2 0 1) "unproved rule 11 step 0 clause 4 pair 0 event 0 place 1"
    ∷ printed (gate of_1 2 2 1) "unproved rule 11 step 0 clause 4 pair 0 event 32 place 1"
    ∷ printed (gate of_3 2 1 3) "unproved rule 11 step 0 clause 4 pair 0 event 16 place 1"
    -- the second: 10, the pre
    ∷ printed (gate of_1 2 1 0) "unproved rule 10 step 1 clause 4 pair 0 event 16 place 1"
    ∷ printed (gate of_3 2 3 2) "unproved rule 10 step 1 clause 4 pair 0 event 48 place 1"
    -- a future that is already of the channel: 13
    ∷ printed (gate of_1 4 1 1) "unproved rule 13 step 0 clause 4 pair 0 event 17 place 1"
    ∷ printed (gate of_3 4 3 3) "unproved rule 13 step 0 clause 4 pair 0 event 49 place 1"
    -- conditions that are not exchanged
    ∷ printed (gate of_0 2 1 1) "unproved rule 11 step 0 clause 4 pair 0 event 16 place 1"
    -- 26 at the call
    ∷ printed (gate of_1 2 4 1) "refused 26 at 84"
    ∷ printed (gate of_1 2 1 4) "refused 26 at 92"
    ∷ []

gates-print : AsPrinted four gates
unfolding gates gate verdict_of line
gates-print = refl

-- "The two-channel instrument still gives 2 for both kinds": at the first call, and at the first leaf of 8 bytes
gates-on-large : AsPrinted large (printed (gate of_1 2 1 1) "refused 2 at 84" ∷ printed (gate of_3 2 3 3) "refused 2 at 14" ∷ [])
unfolding gate verdict_of line
gates-on-large = refl

-- "any" --------------------------------------------------------------------------------------------------------------------

-- one condition, a leaf any number of times, for everything; a primitive, and a call of it on a channel
abbrev repeated : List ℕ
repeated = certified (pair 0 1 ∷ pair 1 2 ∷ pair 2 2 ∷ [])

abbrev everywhere : (leaf : List ℕ) (channel : ℕ) → List ℕ
everywhere leaf c =
    leaf ++ (0x05 ∷ 0x06 ∷ []) ++ point0 ++ method0 0 ++ record_of 8 (0 ∷ 0 ∷ 0 ∷ []) ++ call_on 0 0 1 c
    ++ two ++ two ++ two
    ++ two ++ repeated ++ repeated ++ two ++ repeated

-- "so "any" remains "any"": of 8 bytes FF on each channel. FF FF FF FF has the events of channels 0 and 1 alone.
anys : List Printed
anys =
    printed (everywhere (leaf8 0xFF 0xFF 0xFF 0xFF 0xFF 0xFF 0xFF 0xFF) 0) "accepted 11"
    ∷ printed (everywhere (leaf8 0xFF 0xFF 0xFF 0xFF 0xFF 0xFF 0xFF 0xFF) 1) "accepted 11"
    ∷ printed (everywhere (leaf8 0xFF 0xFF 0xFF 0xFF 0xFF 0xFF 0xFF 0xFF) 2) "accepted 11"
    ∷ printed (everywhere (leaf8 0xFF 0xFF 0xFF 0xFF 0xFF 0xFF 0xFF 0xFF) 3) "accepted 11"
    ∷ printed (everywhere (leaf4 0xFF 0xFF 0xFF 0xFF) 0) "accepted 11"
    ∷ printed (everywhere (leaf4 0xFF 0xFF 0xFF 0xFF) 1) "accepted 11"
    ∷ printed (everywhere (leaf4 0xFF 0xFF 0xFF 0xFF) 2) "unproved rule 10 step 0 clause 4 pair 0 event 0 place 1"
    ∷ printed (everywhere (leaf4 0xFF 0xFF 0xFF 0xFF) 3) "unproved rule 10 step 0 clause 4 pair 0 event 0 place 1"
    ∷ []

anys-print : AsPrinted four anys
unfolding anys verdict_of line
anys-print = refl

-- Event steps --------------------------------------------------------------------------------------------------------------

-- EMPTY and a leaf; method 0 goes from point 0 to 1 by an event, which the leaf is to have
abbrev raising : (leaf : List ℕ) (event : ℕ) → List ℕ
raising leaf e =
    (0x02 ∷ 0x06 ∷ []) ++ leaf ++ (0x06 ∷ [])
    ++ record_of 7 (0 ∷ 0 ∷ 1 ∷ [])
    ++ record_of 7 (1 ∷ 1 ∷ 0 ∷ [])
    ++ record_of 9 (0 ∷ 1 ∷ 0 ∷ 0 ∷ 1 ∷ [])
    ++ record_of 10 (0 ∷ 1 ∷ []) ++ (e ∷ [])
    ++ one ++ two ++ one
    ++ two ++ two ++ two

-- "events go to 63"
events-on-four : List Printed
events-on-four =
    printed (raising (leaf4 0 0 0 0x80) 31) "accepted 9"
    ∷ printed (raising (leaf8 0 0 0 0 0x01 0 0 0) 32) "accepted 9"
    ∷ printed (raising (leaf8 0 0 0 0 0 0 0 0x80) 63) "accepted 9"
    ∷ printed (raising (leaf8 0 0 0 0 0 0 0 0x80) 64) "refused 7 at 37"
    -- "kind 1 leaves the upper bits 0"
    ∷ printed (raising (leaf4 0xFF 0xFF 0xFF 0xFF) 32) "unproved rule 7 step 0 clause 4 pair 0 event 32 place 1"
    ∷ []

events-print-on-four : AsPrinted four events-on-four
unfolding events-on-four verdict_of line
events-print-on-four = refl

events-print-on-large : AsPrinted large (printed (raising (leaf4 0 0 0 0x80) 31) "accepted 9" ∷ printed (raising (leaf4 0xFF 0xFF 0xFF 0xFF) 32) "refused 7 at 33" ∷ [])
unfolding verdict_of line
events-print-on-large = refl

-- Sheets whose one condition is EMPTY -----------------------------------------------------------------------------------------

-- a primitive behind the first method, and a call of a method on a channel
abbrev pub calling : (m channel : ℕ) → List ℕ
calling m c = method0 0 ++ (record_of 8 (0 ∷ 0 ∷ 0 ∷ []) ++ call_on 0 0 m c)

-- 2 + 4 + 5, in the new edition too: a primitive has no entry
counts : List Printed
counts =
    printed (all_empty (calling 1 2) (ones 8)) "accepted 11"
    ∷ printed (all_empty (calling 1 2) (ones 7)) "refused 10 at 84"
    ∷ printed (all_empty (calling 1 2) (ones 9)) "refused 10 at 98"
    ∷ printed (new (all_empty (calling 1 2) (ones 8))) "accepted 11"
    ∷ printed (new (all_empty (calling 1 2) (ones 9))) "refused 10 at 99"
    ∷ []

counts-print : AsPrinted four counts
unfolding counts verdict_of line
counts-print = refl

-- it has the rules and certificates of kind 11
of-call : failing four (all_empty (calling 1 2) []) 8 3 5 ≡ rules_of 0 (10 ∷ 11 ∷ 12 ∷ 13 ∷ 14 ∷ [])
unfolding verdict_of
of-call = refl

-- "26 when kind 22 names a method with body, a two-outcome method or a channel above 3"
refusals : List Printed
refusals =
    printed (all_empty (calling 1 3) (ones 8)) "accepted 11"
    ∷ printed (all_empty (calling 1 4) (ones 8)) "refused 26 at 27"
    ∷ printed (all_empty (calling 1 255) (ones 8)) "refused 26 at 27"
    ∷ printed (all_empty (calling 0 0) (ones 8)) "refused 26 at 27"
    ∷ printed (all_empty (method0 0 ++ (record_of 15 (0 ∷ 0 ∷ 0 ∷ 0 ∷ 0 ∷ []) ++ call_on 0 0 1 0)) []) "refused 26 at 31"
    ∷ printed (all_empty (method16 ++ call_on 0 0 0 0) []) "refused 26 at 26"
    -- after 7, which "does not judge the channel", and after 24
    ∷ printed (all_empty (calling 2 4) (ones 8)) "refused 7 at 27"
    ∷ printed ((0x02 ∷ 0x06 ∷ []) ++ owned 0 ++ owned 1 ++ method0 0 ++ record_of 8 (0 ∷ 0 ∷ 0 ∷ []) ++ call_on 0 1 1 4) "refused 24 at 38"
    ∷ []

refusals-print : AsPrinted four refusals
unfolding refusals verdict_of line
refusals-print = refl

-- where the large one gives 2, whatever else applies
refusals-on-large : AsPrinted large (map (λ (m : ℕ). printed (all_empty (calling m 4) []) "refused 2 at 27") (0 ∷ 1 ∷ 2 ∷ []))
unfolding verdict_of line
refusals-on-large = refl

-- the word test gives it before 14
tested-in-refused : word_test four (all_empty (calling 1 4) []) 5 [] ≡ untested 26 (some 27)
unfolding word_test
tested-in-refused = refl
