-- The conditions that bytes stand for have only events of the model, which has as many as a leaf's set can hold: the set has 4 bytes, and of kind 21 it has
-- 8.
use mathlib.Core.Path.{◌≡◌, refl, sym, subst}
use mathlib.Core.Bool.{Bool, true, false, cond}
use mathlib.Core.List.{List, [], ◌∷◌}
use Prim.Native.Nat.{ℕ, zero, suc, ◌+◌, ◌^◌, ◌≤◌, ◌<◌}
use native.Mathlib.Nat.{le_trans, lt_of_lt_of_le}
use native.Mathlib.Omega.{arith}
use lib.ListN.{get_or, drop}
use lib.Dec.{eqb, ltb, lit≤}
use lib.Pow.{pow_pos, pow_mono}
use borrow.Author.Tests.{ltb-true, ltb-false}
use Rattle.condition.specs.Condition.{Condition, no_word}
use Rattle.condition.proofs.Narrow.{EventsBelow}
use Rattle.sheet.specs.Model.{Model, set_events}
use Rattle.sheet.specs.Each.{Each, nil, cons}
use Rattle.sheet.specs.Sheet.{Sheet, condition}
use Rattle.sheet.specs.Kind.{Role, symbol, a_pair, counts, edition, Kind, a_kind, kinds, kind_of, section_of}
use Rattle.sheet.specs.Record.{Bytes, Record, byte_at, record_at, value}
use Rattle.sheet.specs.Reading.{Opened, Counted, Reading, item, opened_past, past_at, ReadResult, whole, refusal, read_sheet}
use Rattle.sheet.specs.Decode.{sheet_in, sheet_of}
use Rattle.sheet.proofs.Each.{each_tail, each-mapped, each-get_or}
use Rattle.sheet_laws.proofs.Fields.{first_bits, first-lt}
use Rattle.sheet.proofs.Kind.{◌and◌, numbered}
use Rattle.sheet_laws.proofs.Take.{or-false, Took}
use Rattle.sheet_laws.proofs.Own.{each-own}
use Rattle.sheet_laws.proofs.SheetOf.{of_is}

module _ (n : ℕ) where
  abbrev AllBelow : List Condition → Type 0
  AllBelow = Each (λ c. EventsBelow n c)

  -- a symbol makes an item with events below n of such items
  abbrev MakesBelow : Role → Type 0
  MakesBelow (symbol takes make) = (set : ℕ) (a b : Condition) → set < 2 ^ n → EventsBelow n a → EventsBelow n b → EventsBelow n (make set a b)
  MakesBelow a_pair = Unit {0}
  MakesBelow counts = Unit {0}
  MakesBelow edition = Unit {0}

  makes-below : (k : ℕ) → MakesBelow (kind_of k).role
  makes-below =
      numbered (λ (k : ℕ) (row : Kind). MakesBelow row.role) kinds (a_kind 0 counts [])
      (tt
      and (λ set a b h ha hb. h)
      and (λ set a b h ha hb. tt)
      and (λ set a b h ha hb. (ha, hb))
      and (λ set a b h ha hb. (ha, hb))
      and (λ set a b h ha hb. hb)
      and tt and tt and tt and tt and tt and tt and tt and tt and tt and tt and tt and tt and tt and tt and tt
      and (λ set a b h ha hb. h)
      and tt and (λ i. tt))

  item-below : (items : List Condition) → AllBelow items → (i : ℕ) → EventsBelow n (get_or items i no_word)
  item-below items h i = each-get_or (λ c. EventsBelow n c) h no_word (pow_pos n) i

  drop-below : (i : ℕ) (items : List Condition) → AllBelow items → AllBelow (drop i items)
  drop-below zero items h = h
  drop-below (suc i) [] h = nil
  drop-below (suc i) (c ∷ items) h = drop-below i items (each_tail h)

  past-below : (o : Opened) (x : Record) (section : ℕ) (role : Role) → MakesBelow role → value x 0 < 2 ^ n → AllBelow o.items
      → AllBelow (opened_past o x section role).items
  past-below o x section (symbol takes make) makes few h =
      cons (makes (value x 0) (item o 1) (item o 0) few (item-below o.items h 1) (item-below o.items h 0)) (drop-below takes o.items h)
  past-below o x section a_pair makes few h = nil
  past-below o x section counts makes few h = nil
  past-below o x section edition makes few h = nil

-- the first field of a kind has at most so many bits
abbrev bits_of : ℕ → ℕ
bits_of k = cond (ltb k 21) 32 64

few_bits : (k : ℕ) → first_bits (kind_of k).fields ≤ bits_of k
few_bits =
    numbered (λ (k : ℕ) (row : Kind). first_bits row.fields ≤ bits_of k) kinds (a_kind 0 counts [])
    (lit≤ tt
    and lit≤ tt and lit≤ tt and lit≤ tt and lit≤ tt and lit≤ tt and lit≤ tt and lit≤ tt and lit≤ tt and lit≤ tt and lit≤ tt and lit≤ tt
    and lit≤ tt and lit≤ tt and lit≤ tt and lit≤ tt and lit≤ tt and lit≤ tt and lit≤ tt and lit≤ tt and lit≤ tt and lit≤ tt and lit≤ tt
    and (λ i. omega arith))

-- .. which is no more than a leaf's set can hold where the kind is taken
bits-taken : (M : Model) (k : ℕ) → k ≤ M.kinds → bits_of k ≤ set_events M
bits-taken M k l = go (ltb k 21) refl (ltb M.kinds 21) refl
  where
    go : (b : Bool) → ltb k 21 ≡ b → (c : Bool) → ltb M.kinds 21 ≡ c → cond b 32 64 ≤ cond c 32 64
    go true e true f = lit≤ tt
    go true e false f = lit≤ tt
    go false e true f = absurd (omega (arith, l, ltb-false k 21 e, ltb-true M.kinds 21 f))
    go false e false f = lit≤ tt

module _ (M : Model) (s : List ℕ) (wide : set_events M ≤ M.events) (bytes : Bytes s) where
  -- a kind that is taken
  taken : (at : ℕ) (r : Reading) → Took M s at r → byte_at s at ≤ M.kinds
  taken at r w = ltb-false M.kinds (byte_at s at) (or-false (eqb (byte_at s at) 0) (ltb M.kinds (byte_at s at)) w.known).1

  narrow : (at : ℕ) (r : Reading) → Took M s at r → first_bits (kind_of (byte_at s at)).fields ≤ M.events
  narrow at r w = le_trans (few_bits (byte_at s at)) (le_trans (bits-taken M (byte_at s at) (taken at r w)) wide)

  kept : (at : ℕ) (r : Reading) → Took M s at r → AllBelow M.events r.opened.items → AllBelow M.events (past_at s at r).opened.items
  unfolding record_at
  kept at r w h =
      past-below M.events r.opened (record_at s at) (section_of (byte_at s at)) (kind_of (byte_at s at)).role (makes-below M.events (byte_at s at))
      (lt_of_lt_of_le (first-lt s bytes (kind_of (byte_at s at)).fields (at + 1)) (pow_mono (narrow at r w))) h

  in-result : (x : ReadResult) → read_sheet M s ≡ x → (c : ℕ) → EventsBelow M.events (condition (sheet_in s x) c)
  in-result (whole r) h c =
      let each = each-own M s (λ at (r : Reading). AllBelow M.events r.opened.items) (λ k (c : Counted). EventsBelow M.events (item c.opened 0))
      kept (λ at r w below e. item-below M.events r.opened.items below 0) r h nil 1 in
      each-get_or (λ c. EventsBelow M.events c) (each-mapped (λ c. EventsBelow M.events c) (λ (c : Counted). item c.opened 0) each) no_word (pow_pos M.events) c
  in-result (refusal m at r) h c = pow_pos M.events

pub conditions-below : (M : Model) (s : List ℕ) → set_events M ≤ M.events → Bytes s → (c : ℕ) → EventsBelow M.events (condition (sheet_of M s) c)
conditions-below M s wide bytes c =
    subst (λ (S : Sheet). EventsBelow M.events (condition S c)) (sym (of_is M s)) (in-result M s wide bytes (read_sheet M s) refl c)
