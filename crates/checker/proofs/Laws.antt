-- Rules tested one after the other.
use mathlib.Core.Path.{◌≡◌, sym, ap, ◌∙◌, subst}
use mathlib.Core.List.{List, [], ◌∷◌}
use Prim.Native.Nat.{ℕ}
use Rattle.std.specs.Prelude.{Option, Some, None, Result, Ok, Err}
use Rattle.sheet.specs.Sheet.{Sheet}
use Rattle.runs.specs.Rules as runs
use Rattle.runs.specs.Rules.{rules}
use Rattle.index.specs.Trial.{Trial, try_rules}
use Rattle.index.proofs.Trial.{onward, no-rules, trial-append}
use Rattle.claims.specs.declared.Claim.{Claim}
use Rattle.claims.specs.Claims.{Says}
use Rattle.rules.specs.declared.cursor.Cursor.{Cursor}
use Rattle.rules.specs.Cursor.{LeftAt, GoesOn, NextIs}
use Rattle.trial.specs.declared.Failure.{Failure}
use Rattle.trial.specs.Tested.{trial_of, Tries}

-- What comes next -------------------------------------------------------------------------------------------------------

module _ (s : List ℕ) (S : Sheet) (xs : List runs.Rule) (after : Cursor) {n : Option Claim} where
  pub next-claim : {claim : Claim} → n ≡ Some claim → NextIs s S xs after n → GoesOn s S xs claim after
  next-claim e h = subst (NextIs s S xs after) e h

  pub next-end : n ≡ None → NextIs s S xs after n → xs ≡ []
  next-end e h = let done = subst (NextIs s S xs after) e h in done.0

-- Rules one after the other ---------------------------------------------------------------------------------------------

-- no rules are left
pub none_left : {events : ℕ} {s : List ℕ} {xs : List runs.Rule} (at : ℕ) → xs ≡ [] → Tries events s xs at (Ok at)
none_left {events} {s} at none = record { comes_to = sym (ap (λ (xs : List runs.Rule). try_rules events s xs at) none ∙ no-rules events s at) }

-- the rules xs are x and then ys
module _ {events : ℕ} {s : List ℕ} {x : runs.Rule} {xs ys : List runs.Rule} (are : xs ≡ x ∷ ys) {at : ℕ} {t : Result ℕ Failure} (tries : Tries events s (x ∷ []) at t) where
  led : (u : Result ℕ Failure) → t ≡ u → onward (trial_of u) (try_rules events s ys) ≡ try_rules events s xs at
  led u e =
      sym (ap (λ (x : Result ℕ Failure). onward (trial_of x) (try_rules events s ys)) e)
      ∙ ap (λ (x : Trial). onward x (try_rules events s ys)) tries.comes_to
      ∙ sym (ap (λ (xs : List runs.Rule). try_rules events s xs at) are ∙ trial-append events s (x ∷ []) ys at)

  -- the fault of the first rule is that of all
  pub first_stops : {f : Failure} → t ≡ Err f → Tries events s xs at t
  first_stops fails = record { comes_to = ap trial_of fails ∙ led _ fails }

  -- where the first rule passes, the others are left
  pub first_passes : {next : ℕ} {u : Result ℕ Failure} → t ≡ Ok next → Tries events s ys next u → Tries events s xs at u
  first_passes passes rest = record { comes_to = rest.comes_to ∙ led _ passes }

-- The walk --------------------------------------------------------------------------------------------------------------

-- a cursor and the offset of the next certificate: what the rules that come next lead to is what all rules lead to
pub record Onward (events : ℕ) (s : List ℕ) (S : Sheet) (from at : ℕ) (cursor : Cursor) : Type 0 where
  pub left : List runs.Rule
  pub left_at : LeftAt s S cursor left
  pub leads : (u : Result ℕ Failure) → Tries events s left at u → Tries events s (rules S) from u

module _ {events : ℕ} {s : List ℕ} {S : Sheet} {from at : ℕ} {cursor : Cursor} (h : Onward events s S from at cursor) where
  pub walk_ends : h.left ≡ [] → Tries events s (rules S) from (Ok at)
  walk_ends none = h.leads _ (none_left at none)

  module _ {claim : Claim} {after : Cursor} (g : GoesOn s S h.left claim after) {t : Result ℕ Failure} (tries : (x : runs.Rule) → Says s claim x → Tries events s (x ∷ []) at t) where
    pub walk-stops : {f : Failure} → t ≡ Err f → Tries events s (rules S) from t
    walk-stops fails = h.leads t (first_stops g.rules_are (tries g.first g.says) fails)

    pub walk-on : {next : ℕ} → t ≡ Ok next → Onward events s S from next after
    walk-on passes =
        record {
          left = g.others;
          left_at = g.others_left;
          leads = λ u rest. h.leads u (first_passes g.rules_are (tries g.first g.says) passes rest);
        }
