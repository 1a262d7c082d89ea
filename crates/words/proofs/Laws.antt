-- From a whole reading, or a refusal, to the word test's answer.
use mathlib.Core.Path.{◌≡◌, refl, sym, ap, ◌∙◌, subst}
use mathlib.Core.Bool.{Bool, true, false, cond}
use mathlib.Core.Option.{none, some}
use mathlib.Core.List.{List}
use Prim.Native.Nat.{ℕ, suc, ◌≤◌, ◌<◌}
use native.Mathlib.Omega.{arith}
use lib.ListN.{length, get_or}
use Rattle.condition.specs.Condition.{Condition, Word}
use Rattle.condition.specs.Places.{accepts, longest}
use Rattle.sheet.specs.Model.{Model}
use Rattle.sheet.specs.Sheet.{condition}
use Rattle.sheet.specs.Decode.{sheet_of}
use Rattle.sheet.proofs.Each.{each_index}
use Rattle.verdict.specs.WordTest.{Answer, held, not_held, untested, tested, word_test}
use Rattle.verdict.specs.Promise.{TestsWord, FindsCondition, sheet_refused, no_such_condition, word_too_long, stray_event}
use Rattle.verdict.proofs.WordTest.{tests-word, refused-in, taken_in}
use Rattle.instrument.specs.declared.Instrument.{Instrument}
use Rattle.instrument.specs.declared.Limits.{Limits}
use Rattle.instrument.specs.Model.{model_of, limits_of}
use Rattle.format.specs.declared.Refusal.{Refusal}
use Rattle.format.specs.Refusal.{number_of, place_of}
use Rattle.sections.specs.declared.Contents.{Contents}
use Rattle.reader.specs.Contract.{Refuses, ReadWhole}
use Rattle.read_tables.proofs.Filled.{conditions-are}
use Rattle.matching.specs.Matched.{matched}
use Rattle.words.specs.Stray.{stray_in}
use Rattle.std.specs.Prelude as std
use Rattle.std.specs.List.{position_or_len}
use Rattle.std.proofs.lemmas.Bool.{leb-true, leb-false}
use Rattle.std.proofs.lemmas.Option.{none-some}
use Rattle.std.proofs.lemmas.List.Quantifiers.{position-Some}
use Rattle.std.proofs.lemmas.List.Sums.{fails_before_first}

none-chosen : {X : Type 0} (b : Bool) (x : X) → cond b (std.Some x) std.None ≡ std.None → b ≡ false
none-chosen true x e = absurd (none-some x (sym e))
none-chosen false x e = refl

-- a word without such an event has only events below
pub none-stray : (events : ℕ) (w : List ℕ) → stray_in events w ≡ std.None → (i : ℕ) → i < length w → get_or w i 0 < events
none-stray events w e i l =
    let p : ℕ → Bool = λ n. std.nat_le events n in
    let beyond = leb-false (suc (position_or_len p w)) (length w) (none-chosen _ (position_or_len p w) e) in
    leb-false events (get_or w i 0) (fails_before_first p w i 0 (omega arith))

-- what matching tells, as an answer
abbrev pub told : std.Result Unit ℕ → Answer
told (std.Ok _) = held
told (std.Err n) = not_held n

told_is : (r : Condition) (w : Word) → told (matched r w) ≡ tested r w
told_is r w = go (accepts r w)
  where
    go : (b : Bool) → told (cond b (std.Ok tt) (std.Err (longest r w))) ≡ cond b held (not_held (longest r w))
    go true = refl
    go false = refl

module _ {M : Model} {s : List ℕ} {c : Contents} (t : ReadWhole M s c) where
  pub condition-there : {k : ℕ} → k < c.tally.conditions → k < length (sheet_of M s).conditions
  condition-there l = omega (arith, conditions-are t)

  module _ (k : ℕ) (w : List ℕ) where
    pub condition-missing : c.tally.conditions ≤ k → untested 14 none ≡ word_test M s k w
    condition-missing h = sym (refused-in M s k w (no_such_condition t.result (omega (arith, conditions-are t))))

    module _ (there : k < length (sheet_of M s).conditions) where
      finds : FindsCondition M s k
      finds = record { reading = _; read = t.result; exists = there }

      pub too_long : 4096 < length w → untested 12 none ≡ word_test M s k w
      too_long h = sym (refused-in M s k w (word_too_long finds h))

      module _ (short : length w ≤ 4096) where
        pub stray-at : (r : ℕ) → stray_in M.events w ≡ std.Some r → untested 13 (some r) ≡ word_test M s k w
        stray-at r e =
            let p : ℕ → Bool = λ n. std.nat_le M.events n in
            let at = position-Some p w r 0 e in
            sym (refused-in M s k w (stray_event finds short (record { inside = at.0; before = λ i l. leb-false M.events (get_or w i 0) (at.2 i l); stray = leb-true M.events (get_or w r 0) at.1 })))

        pub word-tested : ((i : ℕ) → i < length w → get_or w i 0 < M.events) → (m : std.Result Unit ℕ) → m ≡ matched (condition (sheet_of M s) k) w → told m ≡ word_test M s k w
        word-tested below m e =
            ap told e
            ∙ told_is (condition (sheet_of M s) k) w
            ∙ sym (taken_in M s k w (record { found = finds; short = short; none_stray = each_index _ 0 w below }))

module _ (M : Model) (s : List ℕ) (k : ℕ) (w : List ℕ) where
  -- a refusal that is met while reading
  pub untested-by : {x : Refusal} → Refuses M s x → untested (number_of x) (place_of x) ≡ word_test M s k w
  untested-by {x} h = ap (untested (number_of x)) h.placed ∙ sym (refused-in M s k w (sheet_refused h.result))

  -- the definition's answer keeps the promise
  pub keeps : {r : Answer} → r ≡ word_test M s k w → TestsWord M s k w r
  keeps e = subst (TestsWord M s k w) (sym e) (tests-word M s k w)

-- what an instrument's limits say of the word's events is said of those of its model
pub stray-on : (i : Instrument) (w : List ℕ) {l : Limits} {r : std.Option ℕ} → l ≡ limits_of i → r ≡ stray_in l.events w → stray_in (model_of i).events w ≡ r
stray-on i w {r = r} is e = subst (λ (l : Limits). stray_in l.events w ≡ r) is (sym e)
