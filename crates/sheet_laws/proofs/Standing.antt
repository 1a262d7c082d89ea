-- What was read is what stands in the bytes: each condition in postfix order at its offset, and each point, method, step and certificate is the
-- one at its offset.
use mathlib.Core.Path.{◌≡◌, refl, sym, ap, ◌∙◌, subst}
use mathlib.Core.Bool.{Bool, true, false, not, cond, ◌&&◌, ◌||◌}
use mathlib.Core.Option.{none}
use mathlib.Core.List.{List, [], ◌∷◌, ◌++◌}
use Prim.Native.Nat.{ℕ, zero, suc, ◌+◌, ◌≤◌, ◌<◌}
use native.Mathlib.Omega.{arith}
use lib.ListN.{length, get_or, drop, length-append}
use lib.Dec.{T, eqb, leb}
use borrow.Author.Tests.{ltb-false, leb-false, eqb-true, not-false}
use Rattle.condition.specs.Condition.{Condition, no_word}
use Rattle.certificate.specs.Certificate.{Pair, Certificate}
use Rattle.sheet.specs.Model.{Model, symbol_limit, leaf_limit}
use Rattle.sheet.specs.Each.{Each}
use Rattle.sheet.specs.Kind.{Role, symbol, a_pair, counts, edition, kind_of, section_of}
use Rattle.sheet.specs.Record.{Record, byte_at, record_at, next_at, value}
use Rattle.sheet.specs.Reading.{Opened, nothing, Counted, Reading, start_of, in_condition, wrong_items, is_leaf, over_limit, item, opened_past, past_at, whole, read_sheet}
use Rattle.sheet.specs.Decode.{point_of, method_of, step_of}
use Rattle.sheet_laws.specs.AtOffset.{point_at, method_at, step_at, pair_at, symbol_at, InPostfix, certificate_at}
use Rattle.sheet.proofs.Each.{each_map}
use Rattle.sheet_laws.proofs.Take.{or-false, next-lt, Took}
use Rattle.sheet_laws.proofs.Own.{each-own}
use Rattle.sheet_laws.proofs.Symbols.{SymbolsTo, no_symbol, one-symbol-more, Stands, stands, symbols_in, leaves_in, leaves-append, leaves-postfix}
use Rattle.sheet_laws.proofs.Pairs.{pair-next, PairsTo, no_pair, one-pair-more, certificate-stands}
use Rattle.sheet_laws.proofs.Kind.{IsSymbol, Counts, Fits, fits}

-- What is open --------------------------------------------------------------------------------------------------------------

-- the items of an open condition stand from its start up to here, and so many symbols and leaves are counted
pub record Building (s : List ℕ) (start : ℕ) (items : List Condition) (symbols leaves at : ℕ) : Type 0 where
  pub symbols_stand : SymbolsTo s at start (symbols_in items)
  pub symbols_counted : length (symbols_in items) ≡ symbols
  pub leaves_counted : leaves_in (symbols_in items) ≡ leaves
  pub few_symbols : symbols ≤ 96
  pub few_leaves : leaves ≤ 31

-- what can be open at an offset past a record of a section: nothing, a condition, or in section 5 a certificate
pub data Open (s : List ℕ) (at : ℕ) : ℕ → Opened → Type 0 where
  closed : {section : ℕ} → Open s at section nothing
  in-condition : {section start : ℕ} {items : List Condition} {symbols leaves : ℕ} → Building s start items symbols leaves at
      → Open s at section (record { section = 1; start = start; items = items; symbols = symbols; leaves = leaves; pairs = [] })
  in_certificate : {start : ℕ} {pairs : Certificate} → PairsTo s at start pairs
      → Open s at 5 (record { section = 5; start = start; items = []; symbols = 0; leaves = 0; pairs = pairs })

abbrev pub OpenIn : List ℕ → ℕ → Reading → Type 0
OpenIn s at r = Open s at r.section r.opened

module _ (s : List ℕ) (at : ℕ) where
  -- in section 1 a condition is open, or one may start here
  building-now : (section : ℕ) (o : Opened) → section ≤ 1 → Open s at section o → Building s (start_of o at) o.items o.symbols o.leaves at
  unfolding symbols_in leaves_in
  building-now section o first closed =
      record { symbols_stand = no_symbol; symbols_counted = refl; leaves_counted = refl; few_symbols = omega arith; few_leaves = omega arith }
  building-now section o first (in-condition b) = b
  building-now section o first (in_certificate t) = absurd (omega arith)

  -- a record of a section j in between starts where it is
  pub alone : (section j : ℕ) (o : Opened) → section ≤ suc (suc j) → suc (suc j) < 5 → (eqb o.section 1 && true) ≡ false → Open s at section o
      → start_of o at ≡ at
  alone section j o order few none_open closed = refl
  alone section j o order few none_open (in-condition b) = absurd (subst T none_open tt)
  alone section j o order few none_open (in_certificate t) = absurd (omega arith)

  -- in section 5 a certificate is open, or one may start here
  pub pairs-now : (section : ℕ) (o : Opened) → (eqb o.section 1 && true) ≡ false → Open s at section o → PairsTo s at (start_of o at) o.pairs
  pairs-now section o none_open closed = no_pair
  pairs-now section o none_open (in-condition b) = absurd (subst T none_open tt)
  pairs-now section o none_open (in_certificate t) = t

-- What stands where ---------------------------------------------------------------------------------------------------------

-- at an offset inside the sheet stands what was read
pub record IsAt {A : Type 0} (s : List ℕ) (at : ℕ → A) (o : ℕ) (a : A) : Type 0 where
  pub is : at o ≡ a
  pub inside : o < length s

-- what was counted in a section stands where it starts
abbrev pub ReadAt : List ℕ → ℕ → Counted → Type 0
ReadAt s zero c = Unit {0}
ReadAt s (suc zero) c = Stands s (start_of c.opened c.last.at) (item c.opened 0)
ReadAt s (suc (suc zero)) c = IsAt s (point_at s) (start_of c.opened c.last.at) (point_of c.last)
ReadAt s (suc (suc (suc zero))) c = IsAt s (method_at s) (start_of c.opened c.last.at) (method_of c.last)
ReadAt s (suc (suc (suc (suc zero)))) c = IsAt s (step_at s) (start_of c.opened c.last.at) (step_of c.last)
ReadAt s (suc (suc (suc (suc (suc zero))))) c = certificate_at s (start_of c.opened c.last.at) ≡ c.opened.pairs
ReadAt s (suc (suc (suc (suc (suc (suc k)))))) c = Unit {0}

-- Past a record -------------------------------------------------------------------------------------------------------------

one-leaf-more : (b : Bool) (l : ℕ) → l ≤ 31 → (b && leb leaf_limit l) ≡ false → l + cond b 1 0 ≤ 31
one-leaf-more true l h e = omega (arith, leb-false leaf_limit l e)
one-leaf-more false l h e = omega arith

module _ (M : Model) (s : List ℕ) (at kind : ℕ) (values : List ℕ) (r : Reading) (now-open : OpenIn s at r) where
  abbrev x : Record
  x = record { at = at; kind = kind; values = values }

  abbrev o : Opened
  o = r.opened

  -- one symbol more of a condition
  symbol-past : (takes : ℕ) (make : ℕ → Condition → Condition → Condition) → IsSymbol s at x takes make → r.section ≤ 1 → takes ≤ length o.items
      → (leb symbol_limit o.symbols || (is_leaf x && leb leaf_limit o.leaves)) ≡ false
      → Building s (start_of o at) (make (value x 0) (item o 1) (item o 0) ∷ drop takes o.items) (suc o.symbols) (o.leaves + cond (is_leaf x) 1 0) (next_at s at)
  unfolding leaves_in
  symbol-past takes make y first enough room =
      let (few, few_leaves) = or-false (leb symbol_limit o.symbols) (is_leaf x && leb leaf_limit o.leaves) room in
      let now = building-now s at r.section o first now-open in
      let made = y.made o.items enough in
      record {
        symbols_stand = rw made (one-symbol-more s at y.y y.is now.symbols_stand);
        symbols_counted = rw made (omega (arith, length-append (symbols_in o.items) (y.y ∷ []), now.symbols_counted));
        leaves_counted = rw made (omega (arith, leaves-append (symbols_in o.items) (y.y ∷ []), now.leaves_counted, y.leaf));
        few_symbols = leb-false symbol_limit o.symbols few;
        few_leaves = one-leaf-more (is_leaf x) o.leaves now.few_leaves few_leaves;
      }

  -- one pair more of a certificate
  pair-past : (p : Pair) → byte_at s at ≡ 13 → p ≡ pair_at s at → (eqb o.section 1 && true) ≡ false
      → PairsTo s (next_at s at) (start_of o at) (o.pairs ++ (p ∷ []))
  pair-past p e is none_open =
      subst (λ (end : ℕ). PairsTo s end (start_of o at) (o.pairs ++ (p ∷ []))) (sym (pair-next s at e))
      (subst (λ (p : Pair). PairsTo s (at + 6) (start_of o at) (o.pairs ++ (p ∷ []))) (sym is)
      (one-pair-more s at e (pairs-now s at r.section o none_open now-open)))

  abbrev Past : ℕ → Role → Type 0
  Past section role = Open s (next_at s at) section (opened_past o x section role)

  past-record : (section : ℕ) (role : Role) → Fits s at x section role → r.section ≤ section → (eqb o.section 1 && not (in_condition section role)) ≡ false
      → wrong_items section role (length o.items) ≡ false → over_limit M r x section role ≡ false → Past section role
  past-record section (symbol takes make) (first, y) order none_open items room =
      subst (λ (k : ℕ). Past k (symbol takes make)) (sym first)
      (in-condition (symbol-past takes make y (omega arith) (ltb-false (length o.items) takes items) room))
  past-record section a_pair (last, e, is) order none_open items room =
      subst (λ (k : ℕ). Past k a_pair) (sym last) (in_certificate (pair-past _ e is none_open))
  past-record section counts fit order none_open items room = closed
  past-record section edition fit order none_open items room = closed

  -- What counts at a record -----------------------------------------------------------------------------------------------

  -- the one item of a condition at its end record
  one-item : (items : List Condition) → length items ≡ 1 → {start symbols leaves : ℕ} → Building s start items symbols leaves at
      → symbol_at s at ≡ none → at < length s → Stands s start (get_or items 0 no_word)
  unfolding symbols_in
  one-item [] e b closes inside = absurd (omega arith)
  one-item (c ∷ []) e b closes inside =
      stands s _ at c b.symbols_stand closes inside (omega (arith, b.symbols_counted, b.few_symbols))
      (omega (arith, leaves-postfix c, b.leaves_counted, b.few_leaves))
  one-item (c ∷ d ∷ items) e b closes inside = absurd (omega arith)

  abbrev here : Counted
  here = record { last = x; opened = o }

  counts-here : (section : ℕ) → Counts s at x section → at < length s → r.section ≤ section → (eqb o.section 1 && not (in_condition section counts)) ≡ false
      → wrong_items section counts (length o.items) ≡ false → ReadAt s section here
  counts-here zero fit inside order none_open items = tt
  counts-here (suc zero) fit inside order none_open items =
      one-item o.items (eqb-true _ 1 (not-false _ items)) (building-now s at r.section o order now-open) fit inside
  counts-here (suc (suc zero)) fit inside order none_open items =
      let start = alone s at r.section 0 o order (omega arith) none_open now-open in
      record { is = ap (point_at s) start ∙ fit; inside = omega arith }
  counts-here (suc (suc (suc zero))) fit inside order none_open items =
      let start = alone s at r.section 1 o order (omega arith) none_open now-open in
      record { is = ap (method_at s) start ∙ fit; inside = omega arith }
  counts-here (suc (suc (suc (suc zero)))) fit inside order none_open items =
      let start = alone s at r.section 2 o order (omega arith) none_open now-open in
      record { is = ap (step_at s) start ∙ fit; inside = omega arith }
  counts-here (suc (suc (suc (suc (suc zero))))) fit inside order none_open items =
      certificate-stands s at (λ (e : byte_at s at ≡ 13). omega arith) inside (pairs-now s at r.section o none_open now-open)
  counts-here (suc (suc (suc (suc (suc (suc k)))))) fit inside order none_open items = absurd fit

-- The whole sheet ---------------------------------------------------------------------------------------------------------------

module _ (M : Model) (s : List ℕ) where
  module _ (at : ℕ) (r : Reading) (w : Took M s at r) (now-open : OpenIn s at r) where
    abbrev b : ℕ
    b = byte_at s at

    pub still_open : OpenIn s (next_at s at) (past_at s at r)
    unfolding record_at
    still_open = past-record M s at b _ r now-open (section_of b) (kind_of b).role (fits s at) w.in_order w.none_open w.items w.room

    counted : (kind_of b).role ≡ counts → ReadAt s (section_of b) (record { last = record_at s at; opened = r.opened })
    unfolding record_at
    counted e =
        counts-here M s at b _ r now-open (section_of b) (subst (Fits s at (record_at s at) (section_of b)) e (fits s at)) (omega (arith, w.inside, next-lt s at))
        w.in_order (subst (λ (role : Role). (eqb r.opened.section 1 && not (in_condition (section_of b) role)) ≡ false) e w.none_open) (subst (λ (role : Role). wrong_items (section_of b) role (length r.opened.items) ≡ false) e w.items)

  -- each thing of a section is what stands at its offset
  pub read_at : (r : Reading) → read_sheet M s ≡ whole r → (k : ℕ) → Each (ReadAt s k) (r.own k)
  read_at r h = each-own M s (OpenIn s) (ReadAt s) still_open counted r h closed

  -- "Conditions are in postfix order"
  pub conditions-in-postfix : (r : Reading) → read_sheet M s ≡ whole r → Each (InPostfix s) (r.own 1)
  conditions-in-postfix r h = each_map (λ c (x : ReadAt s 1 c). x.in_postfix) (read_at r h 1)
