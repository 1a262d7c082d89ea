-- What stands at an offset of a sheet's bytes, in the shapes that the code's contracts cite. No definition of reading or of a verdict uses them;
-- proofs/Standing shows that they are what was read.
use Rattle.std.specs.Prelude.{ℕ, zero, suc, ◌+◌, ◌*◌, ◌≡◌, Bool, cond, ◌&&◌, ◌||◌, List, [], ◌∷◌, ◌++◌, length, get_or, eqb, ltb}
use Rattle.std.proofs.Math.Option.{Option, none, some}
use Rattle.condition.specs.Condition.{Condition, leaf, empty, join, either, star}
use Rattle.certificate.specs.Certificate.{Pair, pair, Certificate}
use Rattle.sheet.specs.Sheet.{Declared, Point, Method, Step, event_step, call_from, failing_call_from, channel_call_from, pass_step, stop_step}
use Rattle.sheet.specs.Record.{byte_at, next_at}
use Rattle.sheet.specs.Reading.{Counted, start_of, item}

-- Fields --------------------------------------------------------------------------------------------------------------

-- the numbers in two bytes, in four and in eight
unfoldable pub short_at : List ℕ → ℕ → ℕ
unfolding byte_at
short_at s i = byte_at s i + 256 * byte_at s (i + 1)

unfoldable pub set_at : List ℕ → ℕ → ℕ
unfolding short_at
set_at s i = short_at s i + 65536 * short_at s (i + 2)

unfoldable pub long_set_at : List ℕ → ℕ → ℕ
unfolding set_at
long_set_at s i = set_at s i + 4294967296 * set_at s (i + 4)

-- what a record of kinds 7 and 20, of kinds 8, 9, 15 and 16, of kinds 10 to 12, 17, 19 and 22, and of kind 13 stands for
unfoldable pub owner_as : ℕ → List ℕ → ℕ → Option ℕ
unfolding short_at
owner_as kind s at = cond (eqb kind 20) (some (short_at s (at + 7))) none

unfoldable pub owner_at : List ℕ → ℕ → Option ℕ
unfolding owner_as
owner_at s at = owner_as (byte_at s at) s at

unfoldable pub point_as : ℕ → List ℕ → ℕ → Point
unfolding owner_as
point_as kind s at = record { past = short_at s (at + 1); own = short_at s (at + 3); due = short_at s (at + 5); owner = owner_as kind s at }

unfoldable pub point_at : List ℕ → ℕ → Point
unfolding point_as
point_at s at = point_as (byte_at s at) s at

-- what a method declares of an outcome, in two fields from an offset on
unfoldable pub declared_at : List ℕ → ℕ → Declared
unfolding short_at
declared_at s i = record { trace = short_at s i; future = short_at s (i + 2) }

-- by the kind of the record at the offset: a primitive has its failed trace at + 7, a method with body at + 11
unfoldable pub method_as : ℕ → List ℕ → ℕ → Method
unfolding declared_at
method_as kind s at =
    let primitive = eqb kind 8 || eqb kind 15 in
    let two = eqb kind 15 || eqb kind 16 in
    record {
      pre = short_at s (at + 1);
      normal = declared_at s (at + 3);
      failing = cond two (some (declared_at s (cond primitive (at + 7) (at + 11)))) none;
      body =
          cond primitive none
          (some (record { entry = short_at s (at + 7); exit = short_at s (at + 9); failed_exit = cond two (some (short_at s (at + 15))) none }));
    }

unfoldable pub method_at : List ℕ → ℕ → Method
unfolding method_as
method_at s at = method_as (byte_at s at) s at

unfoldable pub step_as : ℕ → List ℕ → ℕ → Step
unfolding short_at
step_as kind s at =
    cond (eqb kind 10) (event_step (short_at s (at + 1)) (short_at s (at + 3)) (byte_at s (at + 5)))
    (cond (eqb kind 11) (call_from (short_at s (at + 1)) (short_at s (at + 3)) (short_at s (at + 5)))
    (cond (eqb kind 17) (failing_call_from (short_at s (at + 1)) (short_at s (at + 3)) (short_at s (at + 5)) (short_at s (at + 7)))
    (cond (eqb kind 22) (channel_call_from (short_at s (at + 1)) (short_at s (at + 3)) (short_at s (at + 5)) (byte_at s (at + 7)))
    (cond (eqb kind 19) (stop_step (short_at s (at + 1)))
    (pass_step (short_at s (at + 1)) (short_at s (at + 3)))))))

unfoldable pub step_at : List ℕ → ℕ → Step
unfolding step_as
step_at s at = step_as (byte_at s at) s at

unfoldable pub pair_at : List ℕ → ℕ → Pair
unfolding set_at
pair_at s at = pair (byte_at s (at + 1)) (set_at s (at + 2))

-- Conditions ----------------------------------------------------------------------------------------------------------

-- kinds 1 to 5 and 21, the symbols of a condition's postfix form: "leaf" and "EMPTY, JOIN, EITHER, STAR"
pub data Symbol : Type 0 where
  leaf_symbol : (set : ℕ) → Symbol
  empty-symbol join-symbol either-symbol star-symbol : Symbol

-- the symbol at an offset, by its kind
abbrev pub symbols_by_kind : List ℕ → ℕ → List (Option Symbol)
symbols_by_kind s at =
    none ∷ some (leaf_symbol (set_at s (at + 1))) ∷ some empty-symbol ∷ some join-symbol ∷ some either-symbol ∷ some star-symbol ∷ []

unfoldable pub symbol_at : List ℕ → ℕ → Option Symbol
unfolding long_set_at
symbol_at s at = cond (eqb (byte_at s at) 21) (some (leaf_symbol (long_set_at s (at + 1)))) (get_or (symbols_by_kind s at) (byte_at s at) none)

abbrev pub in_front : {A : Type 0} → Option A → List A → List A
in_front none xs = []
in_front (some x) xs = x ∷ xs

-- the symbols from an offset on, up to the first record that is none; a record has a byte or more, so as much fuel as there are bytes is enough
unfoldable pub symbols_on : List ℕ → ℕ → ℕ → List Symbol
symbols_on s zero at = []
symbols_on s (suc fuel) at = let more = symbols_on s fuel (next_at s at) in in_front (symbol_at s at) more

unfoldable pub symbols_at : List ℕ → ℕ → List Symbol
unfolding symbol_at next_at symbols_on
symbols_at s at = symbols_on s (length s) at

unfoldable pub postfix : Condition → List Symbol
postfix (leaf t) = leaf_symbol t ∷ []
postfix empty = empty-symbol ∷ []
postfix (join a b) = postfix a ++ (postfix b ++ (join-symbol ∷ []))
postfix (either a b) = postfix a ++ (postfix b ++ (either-symbol ∷ []))
postfix (star a) = postfix a ++ (star-symbol ∷ [])

-- "Conditions are in postfix order": the symbols where a condition starts that was counted are its postfix form
abbrev pub InPostfix : List ℕ → Counted → Type 0
InPostfix s c = symbols_at s (start_of c.opened c.last.at) ≡ postfix (item c.opened 0)

-- Certificates --------------------------------------------------------------------------------------------------------

-- whether a pair stands at an offset: kind 13, and the five bytes of its body are there too
unfoldable pub has_pair : List ℕ → ℕ → Bool
unfolding byte_at
has_pair s at = eqb (byte_at s at) 13 && ltb (at + 5) (length s)

-- the pairs from an offset on, up to the first record that is none
unfoldable pub pairs_on : List ℕ → ℕ → ℕ → Certificate
pairs_on s zero at = []
pairs_on s (suc fuel) at = let more = pair_at s at ∷ pairs_on s fuel (next_at s at) in cond (has_pair s at) more []

unfoldable pub certificate_at : List ℕ → ℕ → Certificate
unfolding pair_at next_at has_pair pairs_on
certificate_at s at = pairs_on s (length s) at
