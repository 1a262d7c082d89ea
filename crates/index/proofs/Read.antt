-- A sheet that is read whole is indexed by tables that have the offsets of that reading.
use mathlib.Core.Path.{◌≡◌}
use mathlib.Core.List.{List, [], ◌∷◌}
use Prim.Native.Nat.{ℕ, ◌≤◌, ◌<◌}
use native.Mathlib.Omega.{arith}
use lib.ListN.{length, get_or, get_elem?}
use Rattle.sheet.specs.Model.{Model}
use Rattle.sheet.specs.Sheet.{Method, Step, event_step, call_step, pass_step, stop_step, body_in}
use Rattle.sheet.specs.Kind.{conditions, points, methods, steps}
use Rattle.sheet.specs.Reading.{Reading, starts_of, whole, read_sheet}
use Rattle.sheet.specs.Decode.{sheet_of}
use Rattle.sheet_laws.specs.Names.{HasBody, EventBelow}
use Rattle.sheet.proofs.Each.{each_map}
use Rattle.sheet_laws.proofs.Located.{Found, Located, located}
use Rattle.sheet_laws.proofs.Channels.{channels_fit}
use Rattle.index.specs.Indexed.{Tabled, ConditionsIn, Indexes}

-- a table has these offsets, and behind them whatever it has
abbrev pub HoldsOffsets : List ℕ → List ℕ → Type 0
HoldsOffsets os table = (i : ℕ) → i < length os → get_or table i 0 ≡ get_or os i 0

-- each of as many as there are offsets stands at its offset
tabled : {A : Type 0} (at : List ℕ → ℕ → A) (s : List ℕ) (rows : ℕ) {table os : List ℕ} {xs : List A} → HoldsOffsets os table → length xs ≡ length os
    → length xs ≤ rows → ((k : ℕ) → k < length xs → Found s (at s) xs os k) → Tabled at s rows table xs
tabled at s rows held counted few found =
    record {
      few = few;
      inside = λ k l. rw (held k (omega arith)) (found k l).inside;
      is = λ k l. rw (held k (omega arith)) (found k l).is;
    }

-- an event below a number that fits a set fits it too
fits : (n : ℕ) → n ≤ 64 → (t : Step) → EventBelow n t → EventBelow 64 t
fits n few (event_step p q a) h = omega arith
fits n few (call_step t) h = tt
fits n few (pass_step p q) h = tt
fits n few (stop_step p) h = tt

has_one : (ms : List Method) → HasBody (body_in (get_elem? ms 0)) → 0 < length ms
has_one [] h = absurd h
has_one (m ∷ ms) h = omega arith

module _ (M : Model) (s : List ℕ) (r : Reading) (h : read_sheet M s ≡ whole r) where
  x : Located M (sheet_of M s) s (λ k. starts_of (r.own k))
  x = located M s r h

  pub read-conditions : {cs : List ℕ} → HoldsOffsets (starts_of (r.own conditions)) cs → ConditionsIn (sheet_of M s) s cs
  read-conditions held c l =
      let there = x.condition_stands c l in
      record {
        exists = omega (arith, x.few_conditions);
        inside = rw (held c (omega (arith, x.conditions_counted))) there.inside;
        stands =
            rw (held c (omega (arith, x.conditions_counted)))
            (record { in_postfix = there.in_postfix; few_symbols = there.few_symbols; few_leaves = there.few_leaves });
      }

  pub read-indexes : {cs ps ms ts : List ℕ} → M.points ≤ length ps → M.events ≤ 64
      → HoldsOffsets (starts_of (r.own conditions)) cs → HoldsOffsets (starts_of (r.own points)) ps
      → HoldsOffsets (starts_of (r.own methods)) ms → HoldsOffsets (starts_of (r.own steps)) ts
      → Indexes (sheet_of M s) s cs ps ms ts
  read-indexes rows events c p m t =
      record {
        conditions-in = read-conditions c;
        points_tabled = tabled _ s _ p x.points_counted (omega (arith, x.few_points)) x.point_found;
        methods_tabled = tabled _ s _ m x.methods_counted x.few_methods x.method_found;
        steps_tabled = tabled _ s _ t x.steps_counted x.few_steps x.step_found;
        names_exist = x.names;
        outcomes_fit = x.outcomes;
        channels_fit = channels_fit M s r h;
        events_fit = each_map (fits M.events events) x.events;
        a_method = has_one (sheet_of M s).methods x.first;
        edition_is = x.edition;
      }
