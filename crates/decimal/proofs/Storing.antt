-- Events that are stored one after the other.
use Prim.Native.Nat.{ℕ, ◌+◌, ◌≤◌, ◌<◌}
use mathlib.Core.Path.{◌≡◌, refl, sym, ap, ◌∙◌}
use mathlib.Core.List.{List}
use native.Mathlib.Omega.{arith}
use lib.ListN.{length, drop, set, length-set}
use lib.Seq.{drop-drop, drop-set-lt}

-- `k` events fit, and nothing behind them is changed
pub record Stored (before after : List ℕ) (k : ℕ) : Type 0 where
  pub same_length : length after ≡ length before
  pub fits : k ≤ length before
  pub behind : drop k after ≡ drop k before

pub none_yet : (before : List ℕ) {k : ℕ} → k ≡ 0 → Stored before before k
none_yet before e = record { same_length = refl; fits = omega arith; behind = refl }

pub one_more : {before after : List ℕ} {k j : ℕ} (v : ℕ) → Stored before after k → k < length after → j ≡ k + 1 → Stored before (set after k v) j
one_more {before} {after} {k} {j} v x h e = record {
  same_length = simp length-set x.same_length;
  fits = omega (arith, x.same_length);
  behind = rw e (drop-set-lt (k + 1) after k v (omega arith) ∙ sym (drop-drop 1 k after) ∙ ap (λ (l : List ℕ). drop 1 l) x.behind ∙ drop-drop 1 k before);
}
