-- What holds of each thing that a whole sheet counts: it is enough to show it at the record at which it counts.
use mathlib.Core.Path.{◌≡◌, refl, sym, subst}
use mathlib.Core.Bool.{Bool, true, false, cond}
use mathlib.Core.List.{List, [], ◌∷◌, ◌++◌}
use Prim.Native.Nat.{ℕ}
use lib.Dec.{eqb}
use borrow.Author.Tests.{eqb-true}
use Rattle.sheet.specs.Each.{Each, nil, cons}
use Rattle.sheet.proofs.Each.{each_append}
use Rattle.sheet.specs.Model.{Model}
use Rattle.sheet.specs.Kind.{Role, symbol, a_pair, counts, edition, kind_of, section_of}
use Rattle.sheet.specs.Record.{byte_at, record_at, next_at}
use Rattle.sheet.specs.Reading.{Counted, Reading, fresh, own_past, past_at, whole, read_sheet}
use Rattle.sheet_laws.proofs.Take.{Took}
use Rattle.sheet_laws.proofs.ReadOn.{read_keeps}

-- what counts at the record at an offset, where it counts
abbrev pub counted : List ℕ → ℕ → Reading → Counted
counted s at r = record { last = record_at s at; opened = r.opened }

-- what was counted in section k past a record: as before, or one more, where the record counts in it
pub own-cases : (P : List Counted → Type 0) (s : List ℕ) (at : ℕ) (r : Reading) (k : ℕ) → P (r.own k)
    → ((kind_of (byte_at s at)).role ≡ counts → k ≡ section_of (byte_at s at) → P (r.own k ++ (counted s at r ∷ []))) → P ((past_at s at r).own k)
own-cases P s at r k same more = go (kind_of (byte_at s at)).role more
  where
    go : (role : Role) → (role ≡ counts → k ≡ section_of (byte_at s at) → P (r.own k ++ (counted s at r ∷ [])))
        → P (own_past r.own (counted s at r) (section_of (byte_at s at)) role k)
    go (symbol takes make) more = same
    go a_pair more = same
    go counts more = by-section (eqb k (section_of (byte_at s at))) refl
      where
        by-section : (b : Bool) → eqb k (section_of (byte_at s at)) ≡ b → P (cond b (r.own k ++ (counted s at r ∷ [])) (r.own k))
        by-section true e = more refl (eqb-true k (section_of (byte_at s at)) e)
        by-section false e = same
    go edition more = same

module _ (M : Model) (s : List ℕ) (Q : ℕ → Reading → Type 0) (P : ℕ → Counted → Type 0) where
  module _ (kept : (at : ℕ) (r : Reading) → Took M s at r → Q at r → Q (next_at s at) (past_at s at r))
      (holds : (at : ℕ) (r : Reading) → Took M s at r → Q at r → (kind_of (byte_at s at)).role ≡ counts → P (section_of (byte_at s at)) (counted s at r)) where
    abbrev Inv : ℕ → Reading → Type 0
    Inv at r = Q at r × ((k : ℕ) → Each (P k) (r.own k))

    inv-past : (at : ℕ) (r : Reading) → Took M s at r → Inv at r → Inv (next_at s at) (past_at s at r)
    inv-past at r w (q, all) = (
      kept at r w q,
      λ k.
          own-cases (Each (P k)) s at r k (all k)
          (λ e same. each_append (all k) (cons (subst (λ (j : ℕ). P j (counted s at r)) (sym same) (holds at r w q e)) nil)),
    )

    pub each-own : (r : Reading) → read_sheet M s ≡ whole r → Q 0 fresh → (k : ℕ) → Each (P k) (r.own k)
    each-own r h q = (read_keeps M s Inv inv-past r h (q, λ k. nil)).holds.1
