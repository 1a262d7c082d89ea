-- The first method of a sheet that is read whole has a body.
use mathlib.Core.Path.{◌≡◌, sym, subst}
use mathlib.Core.Bool.{Bool, true, false, cond, ◌&&◌}
use mathlib.Core.Option.{none, some}
use mathlib.Core.List.{List, [], ◌∷◌, ◌++◌, map}
use Prim.Native.Nat.{ℕ}
use lib.ListN.{length, get_elem?}
use lib.Dec.{T, eqb}
use Rattle.sheet.specs.Model.{Model}
use Rattle.sheet.specs.Sheet.{Body, Sheet, body_in, body}
use Rattle.sheet.specs.Reading.{Counted, Reading, is_primitive, past_at, whole, read_sheet}
use Rattle.sheet.specs.Decode.{method_of, sheet_of}
use Rattle.sheet_laws.specs.Names.{HasBody}
use Rattle.sheet_laws.proofs.Take.{Took}
use Rattle.sheet_laws.proofs.ReadOn.{read_keeps}
use Rattle.sheet_laws.proofs.Own.{counted, own-cases}
use Rattle.sheet_laws.proofs.SheetOf.{sheet-is}

-- the first of these, if there is one, is no primitive
abbrev FirstHasBody : List Counted → Type 0
FirstHasBody [] = Unit {0}
FirstHasBody (c ∷ cs) = is_primitive c.last ≡ false

one_more : (x : Counted) (cs : List Counted) → (is_primitive x.last && eqb (length cs) 0) ≡ false → FirstHasBody cs → FirstHasBody (cs ++ (x ∷ []))
one_more x [] e h = go (is_primitive x.last) e
  where
    go : (b : Bool) → (b && true) ≡ false → b ≡ false
    go true e = e
    go false e = e
one_more x (c ∷ cs) e h = h

module _ (M : Model) (s : List ℕ) where
  kept : (at : ℕ) (r : Reading) → Took M s at r → FirstHasBody (r.own 3) → FirstHasBody ((past_at s at r).own 3)
  kept at r w h =
      own-cases FirstHasBody s at r 3 h (λ e same. one_more (counted s at r) (r.own 3) w.first h)

  pub first_has_body : (r : Reading) → read_sheet M s ≡ whole r → HasBody (body (sheet_of M s) 0)
  first_has_body r h =
      let end = read_keeps M s (λ at (r : Reading). FirstHasBody (r.own 3)) kept r h tt in
      subst (λ (S : Sheet). HasBody (body S 0)) (sym (sheet-is M s r h)) (go (r.own 3) end.holds end.some_method)
    where
      has_body : (b : Bool) (m : Body) → b ≡ false → HasBody (cond b none (some m))
      has_body true m e = absurd (subst T e tt)
      has_body false m e = tt

      go : (cs : List Counted) → FirstHasBody cs → eqb (length cs) 0 ≡ false → HasBody (body_in (get_elem? (map (λ (c : Counted). method_of c.last) cs) 0))
      go [] h e = absurd (subst T e tt)
      go (c ∷ cs) h e = has_body (is_primitive c.last) _ h
