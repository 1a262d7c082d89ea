-- Histories only grow: a call's beginning begins the history at its return, and that begins the present one.
use mathlib.Core.Path.{◌≡◌, sym, ap, ◌∙◌, subst}
use Prim.Native.Nat.{ℕ}
use mathlib.Core.Bool.{false}
use mathlib.Core.List.{List, [], ◌∷◌, ◌++◌}
use Rattle.condition.specs.Condition.{Word}
use Rattle.sheet.specs.Each.{Each, nil, cons}
use Rattle.sheet.proofs.Each.{each_map, each-head, each_tail}
use Rattle.sheet.specs.Sheet.{Outcome, Sheet}
use Rattle.runs.specs.Runs.{Call, Returned, State, Extends, Grown, start, Move, new_call, run}
use Rattle.runs.proofs.Adds.{Adds, adds-word, adds-more, adds-nothing}
use Rattle.runs.proofs.Moves.{Makes, event_made, pass_made, primitive_made, open_made, stop_made, return_made, run-keeps}

-- h goes on from b
abbrev Grows : Word → Word → Type 0
Grows b h = Adds b h (λ w. Unit {0})

extends : {b h : Word} → Grows b h → Extends b h
extends {b} a = a.is ∙ ap (λ (w : Word). b ++ w) (sym (adds-word a))

grows-more : {b h : Word} (w : Word) → Grows b h → Grows b (h ++ w)
grows-more w a = adds-more a w (λ u x. tt)

grows_self : (h : Word) → Grows h h
grows_self h = adds-nothing tt

-- each of a state's histories goes on from the earlier ones
record EachGrows (h : Word) (cs : List Call) (rs : List Returned) : Type 0 where
  opened : Each (λ c. Grows c.began h) cs
  raised : Each (λ r. Grows r.call.began r.at) rs
  returned : Each (λ r. Grows r.at h) rs

raise-grows : {h : Word} {cs : List Call} {rs : List Returned} (w : Word) → EachGrows h cs rs → EachGrows (h ++ w) cs rs
raise-grows w g =
    record {
      opened = each_map (λ c. grows-more w) g.opened;
      raised = g.raised;
      returned = each_map (λ r. grows-more w) g.returned;
    }

return-grows : {h : Word} {cs : List Call} {rs : List Returned} (c : Call) (o : Outcome) → Grows c.began h → EachGrows h cs rs
    → EachGrows h cs (record { call = c; outcome = o; at = h } ∷ rs)
return-grows {h} c o b g = record { opened = g.opened; raised = cons b g.raised; returned = cons (grows_self h) g.returned }

abbrev EachGrowsAt : State → Type 0
EachGrowsAt s = EachGrows s.history s.open_calls s.returned_calls

module _ (S : Sheet) where
  made-grows : (s t : State) → s.ended ≡ false → Makes S s t → EachGrowsAt s → EachGrowsAt t
  made-grows s t z (event_made {a = a} i found) g = raise-grows (a ∷ []) g
  made-grows s t z (pass_made i found) g = raise-grows [] g
  made-grows s t z (primitive_made {t = x} i o w found at is to h) g =
      return-grows (new_call s i x) o (grows-more w (grows_self s.history)) (raise-grows w g)
  made-grows s t z (open_made i found at is) g =
      record { opened = cons (grows_self s.history) g.opened; raised = g.raised; returned = g.returned }
  made-grows s t z (stop_made i found marked) g = g
  made-grows s t z (return_made {c = c} {cs = cs} o opened is at to) g =
      let k : EachGrows s.history (c ∷ cs) s.returned_calls = subst (λ x. EachGrows s.history x s.returned_calls) opened g in
      return-grows c o (each-head k.opened) record { opened = each_tail k.opened; raised = k.raised; returned = k.returned }

  start-grows : (m : ℕ) → EachGrowsAt (start S m)
  unfolding start
  start-grows m = record { opened = cons (grows_self []) nil; raised = nil; returned = nil }

  -- of every sheet, whatever its rules
  pub histories_grow : (m : ℕ) (ms : List Move) → Grown (run S m ms)
  histories_grow m ms =
      let g : EachGrowsAt (run S m ms) = run-keeps S EachGrowsAt made-grows m (start-grows m) ms in
      record {
        since_beginning = each_map (λ c. extends) g.opened;
        while_open = each_map (λ r. extends) g.raised;
        since_return = each_map (λ r. extends) g.returned;
      }
