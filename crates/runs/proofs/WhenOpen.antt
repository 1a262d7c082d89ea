-- What is owed, said with no numbers: of a returned call, whenever control is in a call that was open when that one began. It is the same, by what
-- is promised of activations (ToldApart) and since no call is lost.
use mathlib.Core.Path.{◌≡◌, refl, sym, subst}
use mathlib.Core.Logic.{◌↔◌}
use Prim.Native.Nat.{ℕ, suc, ◌≤◌, zero-le}
use native.Mathlib.Nat.{lt_of_not-le, le_antisymm}
use native.Mathlib.Decide.{dec_le}
use mathlib.Core.List.Memᴰ
use mathlib.Core.List.{List, [], ◌∷◌, Memᴰ}
use lib.ListN.{take}
use lib.Seq.{take-take}
use Rattle.sheet.proofs.Each.{each-zip, each-is-member, each_member}
use Rattle.sheet.specs.Sheet.{Sheet}
use Rattle.runs.specs.Runs.{Call, Returned, State, calls, Move, run}
use Rattle.runs.specs.Owing.{InCaller, Owing, state_after, Begins, HowBegan, at_start, by_move, ToldApart, WasOpen, OwingWhenOpen}
use Rattle.runs.proofs.Apart.{stays}

module _ (S : Sheet) (m : ℕ) (ms : List Move) where
  abbrev now : State
  now = run S m ms

  -- A call begins once ----------------------------------------------------------------------------------------------------

  stays-to : (j k : ℕ) {c : Call} → j ≤ k → Memᴰ c (calls (state_after S m ms j)) → Memᴰ c (calls (state_after S m ms k))
  stays-to j k {c} l i =
      stays S m (take k ms) j c (subst (λ (xs : List Move). Memᴰ c (calls (run S m xs))) (sym (take-take j k ms l)) i)

  not-later : {j k : ℕ} {c : Call} → Begins S m ms j c → Begins S m ms k c → k ≤ j
  not-later {j} {k} a b = go (dec_le k j)
    where
      go : Dec (k ≤ j) → k ≤ j
      go (yes l) = l
      go (no n) = absurd (b.not_before (stays-to (suc j) k (lt_of_not-le n) a.there_after))

  -- Callers are the calls that were open when a call began ------------------------------------------------------------------

  innermost-is-call : {d : Call} {ds : List Call} → now.open_calls ≡ d ∷ ds → Memᴰ d (calls now)
  innermost-is-call {d} e = Memᴰ.append_left _ (subst (λ (cs : List Call). Memᴰ d cs) (sym e) (Memᴰ.head refl))

  caller-if-open : {c : Call} → HowBegan S m ms c → (k : ℕ) → Begins S m ms k c → (cs : List Call) → now.open_calls ≡ cs → WasOpen S m ms k cs → InCaller cs c
  caller-if-open g k b [] e w = w
  caller-if-open (at_start i none) k b (d ∷ ds) e w = absurd (b.not_before (stays-to 0 k zero-le i))
  caller-if-open (by_move j a) k b (d ∷ ds) e w =
      (a.callers d (innermost-is-call e)).1
      (subst (λ (n : ℕ). Memᴰ d (state_after S m ms n).open_calls) (le_antisymm (not-later a.begins b) (not-later b a.begins)) w)

  open-if-caller : {c : Call} → HowBegan S m ms c → (cs : List Call) → now.open_calls ≡ cs → InCaller cs c
      → (k : ℕ) × Begins S m ms k c × WasOpen S m ms k cs
  open-if-caller g [] e i = absurd i
  open-if-caller (at_start h none) (d ∷ ds) e i = absurd (none d i)
  open-if-caller (by_move k a) (d ∷ ds) e i = (k, a.begins, (a.callers d (innermost-is-call e)).0 i)

  -- The same is owed ------------------------------------------------------------------------------------------------------

  module _ (told : ToldApart S m ms) where
    began : {r : Returned} → Memᴰ r now.returned_calls → HowBegan S m ms r.call
    began i = each_member (HowBegan S m ms) told.began (Memᴰ.append_right now.open_calls (Memᴰ.map (λ (r : Returned). r.call) i))

    pub owing_when_open : Owing S now ↔ OwingWhenOpen S m ms
    owing_when_open = (
      each-zip (λ r i h k b w. h (caller-if-open (began i) k b now.open_calls refl w)) (each-is-member now.returned_calls),
      each-zip
          (λ r i h c. let (k, b, w) = open-if-caller (began i) now.open_calls refl c in h k b w)
          (each-is-member now.returned_calls),
    )
