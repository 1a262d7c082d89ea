-- What a step raises, and a condition as a call reads it.
use Prim.Native.Nat.{ℕ}
use mathlib.Core.Path.{◌≡◌, refl, sym, ap, ◌∙◌, subst}
use mathlib.Core.Option.{Option, none, some}
use mathlib.Core.List.{List}
use Rattle.condition.specs.Condition.{Condition}
use Rattle.condition.specs.Exchange.{exchange}
use Rattle.condition.proofs.Exchange.{exchange-zeroth}
use Rattle.sheet.specs.Sheet.{on_channel}
use Rattle.postfix.specs.declared.Part.{Part}
use Rattle.postfix.specs.Parts.{StandsAt, PartIs}
use Rattle.claims.specs.Claims.{WordOf, ChannelIs}

-- a part whose word is raised
pub a_word : {s : List ℕ} {part : Part} {t : Condition} → PartIs s part t → WordOf s part (some t)
a_word {t = t} p = record { raised_one = t; raised_is = p; some_one = refl }

-- a condition r as a call reads it on the channel k of the code, 0: it is as it is
module _ (s : List ℕ) (at : ℕ) (r : Condition) {k : ℕ} where
  pub read_plain : (o : Option ℕ) → ChannelIs o k → k ≡ 0 → StandsAt s at r → StandsAt s at (on_channel o r)
  read_plain none is zeroth p = p
  read_plain (some c) is zeroth p =
      subst (StandsAt s at) (sym (ap (λ (c : ℕ). exchange c r) (sym is.0 ∙ zeroth) ∙ exchange-zeroth r)) p
