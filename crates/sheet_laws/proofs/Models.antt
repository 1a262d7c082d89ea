-- Two instruments, of which one takes no more bytes, points, events and kinds than the other: it refuses with 1, 6, 7 or 2 where it takes fewer, or reads
-- what the other reads. So in whatever state reading starts.
use mathlib.Core.Path.{◌≡◌, refl, sym, ◌∙◌, subst}
use mathlib.Core.Bool.{Bool, true, false, not, cond, ◌&&◌, ◌||◌}
use mathlib.Core.Logic.{◌⊎◌, inl, inr}
use mathlib.Core.List.{List, [], ◌∷◌}
use Prim.Native.Nat.{ℕ, zero, suc, ◌+◌, ◌≤◌, ◌<◌}
use native.Mathlib.Nat.{le_trans, lt_of_lt_of_le, eq-or-lt_of_le}
use native.Mathlib.Omega.{arith}
use lib.ListN.{length}
use lib.Dec.{T, eqb, ltb, leb}
use borrow.Author.Tests.{leb-false, leb-true, lt-leb, ltb-false, ltb-true, le-ltb}
use Rattle.sheet.specs.Model.{Model, NoMoreEvents, as_many, fewer, NoLarger}
use Rattle.sheet.specs.Kind.{points, an-event, Role, symbol, a_pair, counts, edition, Kind, a_kind, kinds, kind_of}
use Rattle.sheet.specs.Record.{Record, byte_at, values_at, record_at, next_at}
use Rattle.sheet.specs.Reading.{Reading, tally, full, over_limit, all_exist, ◌when◌else◌, refusal_of, past_at, ReadResult, refusal, read_on, read_from}
use Rattle.sheet_laws.specs.AtOffset.{short_at}
use Rattle.sheet.proofs.Kind.{◌and◌, numbered}
use Rattle.sheet_laws.proofs.Fields.{event-value, names-then}
use Rattle.sheet_laws.proofs.Take.{or-false}
use Rattle.sheet_laws.proofs.Order.{is_3, is_4, is_19, is_20, is_5}

-- what an instrument M reads, beside what M' reads, which is no smaller: 1 where it takes fewer bytes, 6 where it takes fewer points, 2 at a record of a
-- kind that M' alone takes, 7 at an event step whose event M' alone has, or the same
pub data ReadsLike (M M' : Model) (s : List ℕ) : ReadResult → ReadResult → Type 0 where
  too_long : {x : ReadResult} (r : Reading) → M.bytes < M'.bytes → ReadsLike M M' s (refusal 1 M.bytes r) x
  over-limit : {x : ReadResult} (at : ℕ) (r : Reading) → M.points < M'.points → ReadsLike M M' s (refusal 6 at r) x
  unknown_kind : {x : ReadResult} (at : ℕ) (r : Reading) → M.kinds < byte_at s at → byte_at s at ≤ M'.kinds → ReadsLike M M' s (refusal 2 at r) x
  step_above : {x : ReadResult} (at : ℕ) (r : Reading) → byte_at s at ≡ 10 → M.events ≤ byte_at s (at + 5) → byte_at s (at + 5) < M'.events
      → ReadsLike M M' s (refusal 7 at r) x
  the_same : {x : ReadResult} → ReadsLike M M' s x x

-- One record --------------------------------------------------------------------------------------------------------------

or_right : (a b : Bool) → (a || b) ≡ true → a ≡ false → b ≡ true
or_right true b h e = absurd (subst T e tt)
or_right false b h e = h

-- where a model has room, one that takes as many points or more has; where only the second has room, it takes more points
module _ (I I' : Model) where
  room-left : I.points ≤ I'.points → (section n : ℕ) → full I section n ≡ false → full I' section n ≡ false
  room-left l zero n h = refl
  room-left l (suc zero) n h = h
  room-left l (suc (suc zero)) n h = lt-leb I'.points n (lt_of_lt_of_le (leb-false I.points n h) l)
  room-left l (suc (suc (suc zero))) n h = h
  room-left l (suc (suc (suc (suc zero)))) n h = h
  room-left l (suc (suc (suc (suc (suc k))))) n h = refl

  within-limit : I.points ≤ I'.points → (r : Reading) (x : Record) (section : ℕ) (k : Role) → over_limit I r x section k ≡ false
      → over_limit I' r x section k ≡ false
  within-limit l r x section (symbol takes make) h = h
  within-limit l r x section a_pair h = h
  within-limit l r x section counts h = room-left l section (tally r section) h
  within-limit l r x section edition h = h

  more_room : (section n : ℕ) → full I section n ≡ true → full I' section n ≡ false → I.points < I'.points
  more_room zero n h h' = absurd (subst T (sym h) tt)
  more_room (suc zero) n h h' = absurd (subst T (sym h ∙ h') tt)
  more_room (suc (suc zero)) n h h' = omega (arith, leb-true I.points n h, leb-false I'.points n h')
  more_room (suc (suc (suc zero))) n h h' = absurd (subst T (sym h ∙ h') tt)
  more_room (suc (suc (suc (suc zero)))) n h h' = absurd (subst T (sym h ∙ h') tt)
  more_room (suc (suc (suc (suc (suc k))))) n h h' = absurd (subst T (sym h) tt)

  fewer-points : (r : Reading) (x : Record) (section : ℕ) (k : Role) → over_limit I r x section k ≡ true → over_limit I' r x section k ≡ false
      → I.points < I'.points
  fewer-points r x section (symbol takes make) h h' = absurd (subst T (sym h ∙ h') tt)
  fewer-points r x section a_pair h h' = absurd (subst T (sym h) tt)
  fewer-points r x section counts h h' = more_room section (tally r section) h h'
  fewer-points r x section edition h h' = absurd (subst T (sym h) tt)

-- The fields of a record exist for M as for M'; or it is an event step, and M' alone has its event. By the table of kinds.
module _ (M M' : Model) (s : List ℕ) (at : ℕ) where
  data ExistLike (k : ℕ) : Bool → Bool → Type 0 where
    existing : {b : Bool} → ExistLike k b b
    event_above : {b : Bool} → k ≡ 10 → M.events ≤ byte_at s (at + 5) → byte_at s (at + 5) < M'.events → ExistLike k false b

  module _ (counted : ℕ → ℕ) (no_more : M.events ≤ M'.events) where
    abbrev LikeOf : (k : ℕ) → Kind → List ℕ → Type 0
    LikeOf k row vs = ExistLike k (all_exist M.events counted row.fields vs) (all_exist M'.events counted row.fields vs)

    abbrev Row : ℕ → Kind → Type 0
    Row k row = LikeOf k row (values_at s (at + 1) row.fields)

    event-row : Row 10 (kind_of 10)
    event-row =
        subst (LikeOf 10 (kind_of 10)) (sym (names-then s at 1 (points ∷ points ∷ []) (an-event ∷ []) (event-value s (at + 5))))
        (go (ltb (short_at s (at + 1)) (counted points)) (ltb (short_at s (at + 3)) (counted points)) (ltb (byte_at s (at + 5)) M.events)
        (ltb (byte_at s (at + 5)) M'.events) refl refl)
      where
        go : (from to event event' : Bool) → ltb (byte_at s (at + 5)) M.events ≡ event → ltb (byte_at s (at + 5)) M'.events ≡ event'
            → ExistLike 10 (from && (to && (event && true))) (from && (to && (event' && true)))
        go false to event event' e e' = existing
        go true false event event' e e' = existing
        go true true true true e e' = existing
        go true true true false e e' =
            absurd (omega (arith, no_more, ltb-true (byte_at s (at + 5)) M.events e, ltb-false (byte_at s (at + 5)) M'.events e'))
        go true true false true e e' = event_above refl (ltb-false (byte_at s (at + 5)) M.events e) (ltb-true (byte_at s (at + 5)) M'.events e')
        go true true false false e e' = existing

    exist-like : (k : ℕ) → Row k (kind_of k)
    unfolding values_at
    exist-like =
        numbered Row kinds (a_kind 0 counts [])
        (existing
        and existing
        and existing
        and existing
        and existing
        and existing
        and existing
        and existing
        and existing
        and existing
        and event-row
        and existing
        and existing
        and existing
        and existing
        and existing
        and existing
        and existing
        and existing
        and existing
        and existing
        and existing
        and existing
        and (λ i. existing))

module _ (M M' : Model) (N : NoLarger M M') (s : List ℕ) where
  no_more : NoMoreEvents M M' → M.events ≤ M'.events
  no_more (as_many e) = omega (arith, e)
  no_more (fewer held less) = omega (arith, less)

  module _ (at : ℕ) (r : Reading) where
    abbrev b : ℕ
    b = byte_at s at

    -- the numbers of its refusals
    pub data Beside : ℕ → ℕ → Type 0 where
      two : {n : ℕ} → M.kinds < b → b ≤ M'.kinds → Beside 2 n
      six : {n : ℕ} → M.points < M'.points → Beside 6 n
      seven : {n : ℕ} → b ≡ 10 → M.events ≤ byte_at s (at + 5) → byte_at s (at + 5) < M'.events → Beside 7 n
      same : {n : ℕ} → Beside n n

    abbrev is2_for : Model → Bool
    is2_for I = eqb b 0 || ltb I.kinds b

    abbrev is6_for : Model → Bool
    is6_for I = over_limit I r (record_at s at) (kind_of b).section (kind_of b).role

    -- a kind that M' alone takes, and one that M takes
    new-kind : is2_for M ≡ true → is2_for M' ≡ false → (M.kinds < b) × (b ≤ M'.kinds)
    new-kind h h' =
        let (not0, within) = or-false (eqb b 0) (ltb M'.kinds b) h' in
        (ltb-true M.kinds b (or_right (eqb b 0) (ltb M.kinds b) h not0), ltb-false M'.kinds b within)

    old-kind : is2_for M ≡ false → is2_for M' ≡ false
    old-kind h =
        let (not0, within) = or-false (eqb b 0) (ltb M.kinds b) h in
        simp (not0, le-ltb M'.kinds b (le_trans (ltb-false M.kinds b within) N.kinds))

    -- 2, another refusal, 6, and 7, each with what follows
    by_2 : (b2 b2' : Bool) {n n' : ℕ} → is2_for M ≡ b2 → is2_for M' ≡ b2' → Beside n n' → Beside (2 when b2 else n) (2 when b2' else n')
    by_2 true true h h' more = same
    by_2 true false h h' more = let (above, taken) = new-kind h h' in two above taken
    by_2 false true h h' more = absurd (subst T (sym h' ∙ old-kind h) tt)
    by_2 false false h h' more = more

    alike : (m : ℕ) (b : Bool) {n n' : ℕ} → Beside n n' → Beside (m when b else n) (m when b else n')
    alike m true more = same
    alike m false more = more

    by-6 : (b6 b6' : Bool) {n n' : ℕ} → is6_for M ≡ b6 → is6_for M' ≡ b6' → Beside n n' → Beside (6 when b6 else n) (6 when b6' else n')
    by-6 true true h h' more = same
    by-6 true false h h' more = six (fewer-points M M' r (record_at s at) (kind_of b).section (kind_of b).role h h')
    by-6 false true h h' more =
        absurd (subst T (sym h' ∙ within-limit M M' N.points r (record_at s at) (kind_of b).section (kind_of b).role h) tt)
    by-6 false false h h' more = more

    by-7 : {b7 b7' : Bool} (n : ℕ) → ExistLike M M' s at b b7 b7' → Beside (7 when not b7 else n) (7 when not b7' else n)
    by-7 n existing = same
    by-7 n (event_above step more less) = seven step more less

    pub numbers : Beside (refusal_of M s at r) (refusal_of M' s at r)
    unfolding record_at
    numbers =
        by_2 (is2_for M) (is2_for M') refl refl
        (alike 3 (is_3 M s at r)
        (alike 4 (is_4 M s at r)
        (alike 19 (is_19 M s at r)
        (alike 20 (is_20 M s at r)
        (alike 5 (is_5 M s at r)
        (by-6 (is6_for M) (is6_for M') refl refl (by-7 _ (exist-like M M' s at (tally r) (no_more N.events) b))))))))

  -- All records -------------------------------------------------------------------------------------------------------------

  choose : (b : Bool) {x x' y y' : ReadResult} → ReadsLike M M' s x x' → ReadsLike M M' s y y' → ReadsLike M M' s (cond b x y) (cond b x' y')
  choose true h k = h
  choose false h k = k

  past-record : (at : ℕ) (r : Reading) {n n' : ℕ} {y y' : ReadResult} → Beside at r n n' → ReadsLike M M' s y y'
      → ReadsLike M M' s (y when eqb n 0 else refusal n at r) (y' when eqb n' 0 else refusal n' at r)
  past-record at r (two above taken) h = unknown_kind at r above taken
  past-record at r (six less) h = over-limit at r less
  past-record at r (seven step more less) h = step_above at r step more less
  past-record at r (same {n}) h = choose (eqb n 0) h the_same

  on : (fuel at : ℕ) (r : Reading) → ReadsLike M M' s (read_on M s fuel at r) (read_on M' s fuel at r)
  unfolding read_on
  on zero at r = the_same
  on (suc fuel) at r = choose (leb (length s) at) the_same (past-record at r (numbers at r) (on fuel (next_at s at) (past_at s at r)))

  -- in whatever state reading starts
  pub reads-like : (r : Reading) → ReadsLike M M' s (read_from M r s) (read_from M' r s)
  unfolding read_from
  reads-like r = go (ltb M.bytes (length s)) (ltb M'.bytes (length s)) refl refl
    where
      both : (M.bytes ≡ M'.bytes) ⊎ (M.bytes < M'.bytes) → ReadsLike M M' s (refusal 1 M.bytes r) (refusal 1 M'.bytes r)
      both (inl e) = subst (λ (n : ℕ). ReadsLike M M' s (refusal 1 M.bytes r) (refusal 1 n r)) e the_same
      both (inr l) = too_long r l

      go : (b b' : Bool) → ltb M.bytes (length s) ≡ b → ltb M'.bytes (length s) ≡ b'
          → ReadsLike M M' s (cond b (refusal 1 M.bytes r) (read_on M s (length s) 0 r)) (cond b' (refusal 1 M'.bytes r) (read_on M' s (length s) 0 r))
      go true true e e' = both (eq-or-lt_of_le N.bytes)
      go true false e e' = too_long r (omega (arith, ltb-true M.bytes (length s) e, ltb-false M'.bytes (length s) e'))
      go false true e e' =
          absurd (subst T (sym e' ∙ le-ltb M'.bytes (length s) (le_trans (ltb-false M.bytes (length s) e) N.bytes)) tt)
      go false false e e' = on (length s) 0 r
