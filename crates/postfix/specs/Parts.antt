-- The parts of a side, conditions in postfix order, events, and conditions with two channels exchanged, and what pushing one does to the stack.
use Rattle.std.specs.Prelude.{◌≡◌, List, ◌∷◌, ℕ, ◌+◌, ◌≤◌, ◌<◌, length}
use Rattle.condition.specs.Condition.{Condition, event}
use Rattle.condition.specs.Exchange.{exchange}
use Rattle.condition.specs.Places.{leaves}
use Rattle.sheet.specs.Model.{symbol_limit, leaf_limit}
use Rattle.sheet.specs.Reading.{last_channel}
use Rattle.sheet_laws.specs.AtOffset.{symbols_at, postfix}
use Rattle.items.specs.declared.Stack.{Stack}
use Rattle.items.specs.declared.Places.{Places}
use Rattle.items.specs.Stack.{Stacked}
use Rattle.postfix.specs.declared.Part.{Part}
use Rattle.postfix.specs.declared.Part.TheVariants.{Condition as ConditionAt, Event, Exchanged}

-- the records at the offset are the postfix form of the condition r, within the limits of document 01
pub record StandsAt (s : List ℕ) (at : ℕ) (r : Condition) : Type 0 where
  pub in_postfix : symbols_at s at ≡ postfix r
  pub few_symbols : length (postfix r) ≤ symbol_limit
  pub few_leaves : leaves r ≤ leaf_limit

-- r is the condition at the offset with the events of channel 0 and of channel c exchanged
pub record ExchangedAt (s : List ℕ) (at c : ℕ) (r : Condition) : Type 0 where
  pub plain : Condition
  pub stands : StandsAt s at plain
  pub exchanged_is : r ≡ exchange c plain
  pub fits : c ≤ last_channel

-- a part of a side is the condition r
abbrev pub PartIs : List ℕ → Part → Condition → Type 0
PartIs s (ConditionAt at) r = StandsAt s at r
PartIs s (Event e) r = (r ≡ event e) × (e < 64)
PartIs s (Exchanged at c) r = ExchangedAt s at c r

-- a condition r with Is r was pushed on d items with m leaves, and there are m' leaves then
pub record Pushed (Is : Condition → Type 0) (x : Stack) (p : Places) (x' : Stack) (p' : Places) (d m m' : ℕ) : Type 0 where
  pub few : m' ≤ m + 31
  pub pushed : (r : Condition) → Is r → (rs : List Condition) → Stacked x p d m rs → Stacked x' p' (d + 1) m' (r ∷ rs)
