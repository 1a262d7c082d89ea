-- A table that leads to the records that were counted: one more is stored behind the others, and another section changes nothing.
use mathlib.Core.Path.{◌≡◌, refl, sym, ap, ◌∙◌, subst}
use mathlib.Core.Option.{some}
use mathlib.Core.List.{List, [], ◌∷◌, ◌++◌, map, append_assoc}
use Prim.Native.Nat.{ℕ, zero, suc, ◌<◌}
use native.Mathlib.Nat.{not-suc-le-zero, le_of_suc-le-suc}
use native.Mathlib.Omega.{arith}
use lib.ListN.{length, get_or, get_elem?, set}
use Rattle.sheet.specs.Kind.{counts, kind_of, section_of}
use Rattle.sheet.specs.Record.{byte_at, record_at}
use Rattle.sheet.specs.Reading.{Counted, Reading, tally, past_at}
use Rattle.sheet_laws.proofs.Own.{counted}
use Rattle.sections.specs.Sections.{Extended, Listed}
use Rattle.sections.proofs.Counted.{one_more}

-- what was counted, was at the records that stand at the offsets of the table
abbrev pub Leads : (s table : List ℕ) → List Counted → Type 0
Leads s table cs = (n : ℕ) → n < length cs → (n < length table) × (get_elem? (map (λ (c : Counted). c.last) cs) n ≡ some (record_at s (get_or table n 0)))

pub leads-later : (s : List ℕ) (o : ℕ) (table : List ℕ) (c : Counted) (cs : List Counted) → Leads s (o ∷ table) (c ∷ cs) → Leads s table cs
leads-later s o table c cs h n l = let (inside, is) = h (suc n) (omega arith) in (le_of_suc-le-suc inside, is)

-- one more, whose offset is stored behind the others
leads-more : (s : List ℕ) (at : ℕ) (c : Counted) → c.last ≡ record_at s at → (cs : List Counted) (table : List ℕ) → length cs < length table → Leads s table cs
    → Leads s (set table (length cs) at) (cs ++ (c ∷ []))
leads-more s at c is [] [] room h n l = absurd (not-suc-le-zero room)
leads-more s at c is [] (o ∷ table) room h zero l = (room, ap some is)
leads-more s at c is [] (o ∷ table) room h (suc n) l = absurd (not-suc-le-zero (le_of_suc-le-suc l))
leads-more s at c is (d ∷ cs) [] room h n l = absurd (not-suc-le-zero room)
leads-more s at c is (d ∷ cs) (o ∷ table) room h zero l = (omega arith, (h zero (omega arith)).1)
leads-more s at c is (d ∷ cs) (o ∷ table) room h (suc n) l =
    let (inside, same) = leads-more s at c is cs table (le_of_suc-le-suc room) (leads-later s o table d cs h) n (le_of_suc-le-suc l) in
    (omega arith, same)

-- past a record of section k that counts by itself
pub listed_more : (s : List ℕ) (at : ℕ) (u : Reading) → (kind_of (byte_at s at)).role ≡ counts → (k : ℕ) → section_of (byte_at s at) ≡ k
    → (table : List ℕ) {n : ℕ} → n ≡ tally u k → n < length table → Listed s table k u → Listed s (set table n at) k (past_at s at u)
listed_more s at u role k same table {n} n-is room h =
    let it = counted s at u in
    let own = ap (λ (own : List Counted). u.before k ++ own) (one_more s at u role k same) ∙ sym (append_assoc (u.before k) (u.own k) (it ∷ [])) in
    subst (Leads s (set table n at)) (sym own)
    (subst (λ (i : ℕ). Leads s (set table i at) ((u.before k ++ u.own k) ++ (it ∷ []))) (sym n-is)
    (leads-more s at it refl (u.before k ++ u.own k) table (omega (arith, n-is)) h))

-- where another section has grown
pub still-listed : (s table : List ℕ) (j : ℕ) {k : ℕ} {r u : Reading} {before after : List ℕ} → Extended k r u before after → (j ≡ k → ⊥) → Listed s table j r
    → Listed s table j u
still-listed s table j {r = r} {u} g ne h =
    let before = ap (λ (before : ℕ → List Counted). before j ++ u.own j) g.same in
    let own = ap (λ (own : List Counted). r.before j ++ own) (g.others j ne) in
    subst (Leads s table) (sym (before ∙ own)) h
