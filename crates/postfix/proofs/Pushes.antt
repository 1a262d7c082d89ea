-- Conditions that are pushed: a leaf, one with two channels exchanged, and a part of a side.
use mathlib.Core.Path.{◌≡◌, subst}
use mathlib.Core.List.{List, ◌∷◌}
use Prim.Native.Nat.{ℕ, ◌+◌, ◌-◌, ◌^◌, ◌<◌}
use native.Mathlib.Omega.{arith}
use Rattle.condition.specs.Condition.{Condition, leaf}
use Rattle.format.specs.declared.symbols.Symbol.TheVariants.{Leaf}
use Rattle.postfix.specs.declared.Part.{Part}
use Rattle.postfix.specs.declared.Part.TheVariants.{Event, Exchanged}
use Rattle.items.specs.declared.Stack.{Stack}
use Rattle.items.specs.declared.Places.{Places}
use Rattle.items.specs.Stack.{Stacked, a_leaf, Turned}
use Rattle.items.specs.Channels.{SetsExchanged}
use Rattle.items.proofs.Channels.{stacked-exchanged}
use Rattle.postfix.specs.Parts.{StandsAt, ExchangedAt, PartIs, Pushed}

module _ {x : Stack} {p : Places} {x' : Stack} {p' : Places} {d m : ℕ} where
  pub pushed-as : {Is Is' : Condition → Type 0} {m' : ℕ} → ((r : Condition) → Is' r → Is r) → Pushed Is x p x' p' d m m' → Pushed Is' x p x' p' d m m'
  pushed-as f p = record { few = p.few; pushed = λ r h. p.pushed r (f r h) }

  pub leaf-pushed : {t : ℕ} → Turned (Leaf t) x p x' p' d m → Pushed (λ r. r ≡ leaf t) x p x' p' d m (m + 1)
  leaf-pushed {t} h = record {
    few = omega arith;
    pushed = λ r e rs k.
        let one : d + 1 - 0 ≡ d + 1 = omega arith in
        rw e (subst (λ (k : ℕ). Stacked x' p' k (m + 1) (leaf t ∷ rs)) one (h.turned rs (leaf t ∷ rs) a_leaf k));
  }

  -- the condition at an offset, and then the sets of its leaves exchanged
  pub exchanged-pushed : {s : List ℕ} {p'' : Places} {at c m' : ℕ} → Pushed (StandsAt s at) x p x' p' d m m' → SetsExchanged m m' c p'.sets p''.sets
      → p''.follow ≡ p'.follow → Pushed (ExchangedAt s at c) x p x' p'' d m m'
  exchanged-pushed q y same = record {
    few = q.few;
    pushed = λ r h rs t. rw h.exchanged_is (stacked-exchanged y same t (q.pushed h.plain h.stands rs t));
  }

pub event-part : (s : List ℕ) {part : Part} {e : ℕ} → part ≡ Event e → (r : Condition) → PartIs s part r → (r ≡ leaf (2 ^ e)) × (e < 64)
event-part s e r h = rw e at h

pub exchanged-part : (s : List ℕ) {part : Part} {at c : ℕ} → part ≡ Exchanged at c → (r : Condition) → PartIs s part r → ExchangedAt s at c r
exchanged-part s e r h = rw e at h
