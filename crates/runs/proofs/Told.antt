-- From what is promised of activations alone: a call's number is no other call's, and the history at its beginning is one of the run.
use mathlib.Core.Path.{◌≡◌, ap, subst}
use mathlib.Core.List.Memᴰ
use mathlib.Core.List.{List, ◌∷◌, map, Memᴰ, Nodup, Nodup-cons}
use Prim.Native.Nat.{ℕ}
use Rattle.sheet.proofs.Each.{each_member}
use Rattle.sheet.specs.Sheet.{Sheet}
use Rattle.runs.specs.Runs.{Call, calls, start, Move, run}
use Rattle.runs.specs.Owing.{call_number, state_after, HowBegan, at_start, by_move, ToldApart}

module _ (S : Sheet) (m : ℕ) (ms : List Move) (told : ToldApart S m ms) where
  -- the number of the first call is not among those of the others
  pub other-numbers : {c : Call} {cs : List Call} → calls (run S m ms) ≡ c ∷ cs → Memᴰ (call_number c) (map call_number cs) → ⊥
  other-numbers {c} {cs} e i =
      (Nodup-cons.0 (subst (λ (xs : List Call). Nodup (map call_number xs)) e told.numbers)).0 ∣ i ∣₁

  -- a call began after the history of a state of the run
  began-in : {c : Call} → HowBegan S m ms c → (k : ℕ) × (c.began ≡ (state_after S m ms k).history)
  unfolding run start
  began-in (at_start i none) = (0, ap (λ (c : Call). c.began) (Memᴰ.eq_of_singleton i))
  began-in (by_move k b) = (k, b.history)

  pub began-in-run : {c : Call} → Memᴰ c (calls (run S m ms)) → (k : ℕ) × (c.began ≡ (state_after S m ms k).history)
  began-in-run i = began-in (each_member (HowBegan S m ms) told.began i)
