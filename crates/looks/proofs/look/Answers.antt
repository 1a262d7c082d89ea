-- `look` meets its contract: the pair serves events of its place's row, or leaves all as it is.
use mathlib.Core.Path.{◌≡◌, sym, ap, ◌∙◌}
use mathlib.Core.Bool.{Bool, true, ◌&&◌}
use Prim.Native.Nat.{ℕ, ◌^◌, ◌<◌}
use native.Mathlib.Omega.{arith}
use lib.Dec.{eqb, ltb}
use lib.ListN.{get_or}
use lib.Bits.{bit_and}
use Rattle.bits.specs.Bits.{has}
use Rattle.bits.proofs.Least.{number_lt}
use Rattle.meets.specs.Meets.{table_rows}
use Rattle.certificate.specs.Certificate.{Pair}
use Rattle.looks.specs.Looks.{certificate_of}
use Rattle.looks.proofs.Leaving.{and_both, left-row, leaves-row, left-of}
use borrow.Author.Rules.{rules}
use Rattle.looks.proofs.look.Goals as goal
use Rattle.looks.proofs.look.Goals.{Then-listed-set}

-- a set lies within the followers
abbrev lies : ℕ → ℕ → Bool
lies onward set = eqb (bit_and set onward) set

-- the test: the pair's place is one that misses an event, and its set lies within the followers
passed : (c : Then-listed-set) → (has c.args.missers c.known_pair-pair.result.place ≡ true) × (lies c.args.onward c.known_pair-pair.result.set ≡ true)
passed c =
    let p = c.known_pair-pair.result in
    and_both (has c.args.missers p.place) (lies c.args.onward p.set)
    (ap (λ (b : Bool). b && lies c.args.onward p.set) (sym c.listed.ensures) ∙ c.if-listed-set.true)

place-lt : (c : Then-listed-set) → c.known_pair-pair.result.place < 64
place-lt c = let s : c.args.missers < 2 ^ 64 = search rules in number_lt s (passed c).0

pub offset_bounds-missing-q : goal.offset_bounds-missing-q
offset_bounds-missing-q c = omega (arith, place-lt c)

pub bounds-missing-q : goal.bounds-missing-q
bounds-missing-q c = place-lt (goal.at.bounds-missing-q c).Then-listed-set

pub offset_bounds-missing-q-then-listed-set : goal.offset_bounds-missing-q-then-listed-set
offset_bounds-missing-q-then-listed-set c = omega (arith, place-lt (goal.at.offset_bounds-missing-q-then-listed-set c).Then-listed-set)

pub bounds-missing-q-then-listed-set : goal.bounds-missing-q-then-listed-set
bounds-missing-q-then-listed-set c = place-lt (goal.at.bounds-missing-q-then-listed-set c).Then-listed-set

pub bit-requires : goal.bit-requires
bit-requires c = place-lt (goal.at.bit-requires c).Then-listed-set

pub returns-then-listed-set-clause-left : goal.returns-then-listed-set-clause-left
returns-then-listed-set-clause-left c =
    let a = c.args in
    let p = c.requires in
    let read = c.known_pair-pair in
    let o = passed (goal.at.returns-then-listed-set-clause-left c).Then-listed-set in
    let events = c.events_of-events in
    let rest = c.without-rest in
    let hold = events.ensures (certificate_of a.search.now) p.0.kept_is (ap (λ (n : ℕ). ltb table_rows n) p.0.count_is)
    (omega (arith, p.1, p.0.count_is)) (ap (λ (p : Pair). p.set) read.ensures) in
    let leaves = leaves-row read.result.set (get_or a.missing.now read.result.place 0) events.result a.search.now.scope.m a.onward a.search.now.sets.now
    rest.type_inv events.type_inv rest.ensures hold o.1 in
    left-of read.ensures (left-row _ _ _ _ _ _ _ (omega arith) (search rules) rest.result leaves o.0 c.bit.ensures c.chosen.ensures)
