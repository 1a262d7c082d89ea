-- From section to section: each reader's answer is what the next one starts with, and at the end all tables hold what was read.
use mathlib.Core.Path.{◌≡◌, refl, sym, ap, ◌∙◌, subst}
use mathlib.Core.List.{List, [], ◌++◌}
use Prim.Native.Nat.{ℕ, zero, suc, ◌≤◌, ◌<◌}
use native.Mathlib.Nat.{not-suc-le-zero}
use native.Mathlib.Omega.{arith}
use lib.ListN.{length}
use Rattle.sheet.specs.Model.{Model}
use Rattle.sheet.specs.Reading.{Counted, Reading, fresh, starts_of, ReadResult, state_of, read_from, read_sheet}
use Rattle.format.specs.declared.Refusal.{Refusal}
use Rattle.format.specs.declared.Refusal.TheVariants.{TooLong}
use Rattle.tally.specs.declared.Tally.{Tally}
use Rattle.tally.specs.Tally.{count_of, nothing_counted}
use Rattle.std.specs.Prelude.{Result, Ok, Err}
use Rattle.offsets.specs.declared.Offsets.{Offsets}
use Rattle.sections.specs.declared.Contents.{Contents}
use Rattle.sections.specs.declared.Reached.{Reached}
use Rattle.sections.specs.Sections.{Counts, Ends, overwritten, Comes, Told, done, overwritten_from, Extended, Listed, Filled, FirstSheet, NamedListed, Answers, Concluded}
use Rattle.sections.proofs.Comes.{too_long, begins}
use Rattle.sections.proofs.Listed.{Leads, still-listed}
use Rattle.reader.specs.Contract.{last_state, Answered, TablesFilled, Reads}

-- the tables of fixed size
abbrev pub these : (conditions methods steps : List ℕ) → Offsets
these c m e = record { conditions = c; methods = m; steps = e }

read_is : (M : Model) (s : List ℕ) → read_sheet M s ≡ read_from M fresh s
unfolding read_sheet
read_is M s = refl

none-counted : Counts fresh nothing_counted
none-counted zero = refl
none-counted (suc zero) = refl
none-counted (suc (suc zero)) = refl
none-counted (suc (suc (suc zero))) = refl
none-counted (suc (suc (suc (suc zero)))) = refl
none-counted (suc (suc (suc (suc (suc zero))))) = refl
none-counted (suc (suc (suc (suc (suc (suc k)))))) = refl

-- 1
pub refused-length : (M : Model) (s : List ℕ) {os : Offsets} {p : List ℕ} → M.bytes < length s → Reads M s (Err (TooLong M.bytes)) os os p p
refused-length M s {os} {p} h =
    let result = read_is M s ∙ too_long M s fresh h in
    let last : last_state M s ≡ fresh = ap state_of result in
    record {
      answer = subst (λ (r : Reading). Ends (read_sheet M s) r (TooLong M.bytes)) (sym last) (record { place = M.bytes; placed = refl; result = result });
      tables =
          subst (λ (r : Reading). TablesFilled os os p p r.own) (sym last) (record { conditions = refl; points = refl; methods = refl; steps = refl });
    }

-- what the reader of conditions says, whatever the result and the state in which it begins
abbrev Conditions : Model → List ℕ → Result Reached Refusal → Result Reached Refusal → List ℕ → List ℕ → Type 0
Conditions M s a b before after = (o : ReadResult) (u : Reading) → Told M s o 0 a u → u.own 1 ≡ [] → Filled M s o 2 b 1 u before after

-- .. and that of section k, by the tables of points and of methods
abbrev Reader : Model → List ℕ → ℕ → List ℕ → List ℕ → Result Reached Refusal → Result Reached Refusal → List ℕ → List ℕ → Type 0
Reader M s k ps ms a b before after =
    (o : ReadResult) (u : Reading) → Told M s o k a u → u.own k ≡ [] → NamedListed s ps ms k u → Filled M s o (suc k) b k u before after

-- a table that a reader has filled, in a state of which nothing was counted before
in-front : {k : ℕ} {r v : Reading} {before after : List ℕ} {xs : List Counted} → v.before ≡ (λ k. []) → Extended k r v before after → v.own k ≡ xs → after ≡ overwritten (starts_of xs) before
in-front {k} {r} {v} {before} none g is =
    g.table ∙ ap (λ (b : ℕ → List Counted). overwritten_from (length (b k)) (starts_of (v.own k)) before) none
    ∙ ap (λ (xs : List Counted). overwritten (starts_of xs) before) is

-- of a section of which nothing was counted each table is right
none-listed : (s table : List ℕ) (k : ℕ) (r : Reading) → r.before ≡ (λ k. []) → r.own k ≡ [] → Listed s table k r
none-listed s table k r none_before none =
    let before = ap (λ (before : ℕ → List Counted). before k ++ r.own k) none_before in
    subst (Leads s table) (sym (before ∙ none)) (λ n l. absurd (not-suc-le-zero l))

module _ {M : Model} {s : List ℕ} {t₀ : Tally} {a₁ a₂ a₃ a₄ : Result Reached Refusal} {c₀ c p₀ p m₀ m e₀ e n : List ℕ}
    (fits : length s ≤ M.bytes) (start : t₀ ≡ nothing_counted)
    (r₁ : Conditions M s (done 0 t₀) a₁ c₀ c) (r₂ : Reader M s 2 n n a₁ a₂ p₀ p) (r₃ : Reader M s 3 p n a₂ a₃ m₀ m) (r₄ : Reader M s 4 p m a₃ a₄ e₀ e) where
  abbrev o : ReadResult
  o = read_sheet M s

  begins-here : Told M s o 0 (done 0 t₀) fresh
  begins-here = (
    record {
      comes = subst (λ (o : ReadResult). Comes M s o 0 fresh) (sym (read_is M s)) (begins M s fresh fits);
      section = omega arith;
      closed = refl;
      begun = λ before low. absurd (omega arith);
    },
    subst (Counts fresh) (sym start) none-counted,
  )

  f₁ : Filled M s o 2 a₁ 1 fresh c₀ c
  f₁ = r₁ o fresh begins-here refl

  no-points : f₁.state.own 2 ≡ []
  no-points = f₁.grown.others 2 (λ e. omega arith)

  f₂ : Filled M s o 3 a₂ 2 f₁.state p₀ p
  f₂ =
      r₂ o f₁.state f₁.told no-points
      (record { points_listed = λ low. absurd (omega arith); methods_listed = λ is. absurd (omega arith) })

  -- the points, when they are read
  points_listed : Listed s p 2 f₂.state
  points_listed = f₂.listed (omega arith) (none-listed s p₀ 2 f₁.state f₁.grown.same no-points)

  no-methods : f₂.state.own 3 ≡ []
  no-methods = f₂.grown.others 3 (λ e. omega arith) ∙ f₁.grown.others 3 (λ e. omega arith)

  f₃ : Filled M s o 4 a₃ 3 f₂.state m₀ m
  f₃ = r₃ o f₂.state f₂.told no-methods (record { points_listed = λ low. points_listed; methods_listed = λ is. absurd (omega arith) })

  -- .. and the methods
  still-points : Listed s p 2 f₃.state
  still-points = still-listed s p 2 f₃.grown (λ e. omega arith) points_listed

  methods_listed : Listed s m 3 f₃.state
  methods_listed = f₃.listed (omega arith) (none-listed s m₀ 3 f₂.state (f₂.grown.same ∙ f₁.grown.same) no-methods)

  f₄ : Filled M s o 5 a₄ 4 f₃.state e₀ e
  f₄ =
      r₄ o f₃.state f₃.told (f₃.grown.others 4 (λ e. omega arith) ∙ f₂.grown.others 4 (λ e. omega arith) ∙ f₁.grown.others 4 (λ e. omega arith))
      (record { points_listed = λ low. still-points; methods_listed = λ is. methods_listed })

  -- the state past the steps
  abbrev u : Reading
  u = f₄.state

  nothing-before : u.before ≡ (λ k. [])
  nothing-before = f₄.grown.same ∙ f₃.grown.same ∙ f₂.grown.same ∙ f₁.grown.same

  no-certificates : u.own 5 ≡ []
  no-certificates =
      f₄.grown.others 5 (λ e. omega arith) ∙ f₃.grown.others 5 (λ e. omega arith) ∙ f₂.grown.others 5 (λ e. omega arith) ∙ f₁.grown.others 5 (λ e. omega arith)

  -- whatever certificates are counted
  tables : (own : ℕ → List Counted) → ((j : ℕ) → (j ≡ 5 → ⊥) → own j ≡ u.own j) → TablesFilled (these c₀ m₀ e₀) (these c m e) p₀ p own
  tables own same =
      record {
        conditions =
            in-front f₁.grown.same f₁.grown
            (sym (same 1 (λ e. omega arith) ∙ f₄.grown.others 1 (λ e. omega arith) ∙ f₃.grown.others 1 (λ e. omega arith) ∙ f₂.grown.others 1 (λ e. omega arith)));
        points =
            in-front (f₂.grown.same ∙ f₁.grown.same) f₂.grown
            (sym (same 2 (λ e. omega arith) ∙ f₄.grown.others 2 (λ e. omega arith) ∙ f₃.grown.others 2 (λ e. omega arith)));
        methods =
            in-front (f₃.grown.same ∙ f₂.grown.same ∙ f₁.grown.same) f₃.grown (sym (same 3 (λ e. omega arith) ∙ f₄.grown.others 3 (λ e. omega arith)));
        steps = in-front nothing-before f₄.grown (sym (same 4 (λ e. omega arith)));
      }

  -- reading ends in the state v
  ends-in : {r : Result Contents Refusal} (v : Reading) → last_state M s ≡ v → ((j : ℕ) → (j ≡ 5 → ⊥) → v.own j ≡ u.own j) → (last_state M s ≡ v → Answered M s r)
      → Reads M s r (these c₀ m₀ e₀) (these c m e) p₀ p
  ends-in v last same answer =
      record { answer = answer last; tables = tables (last_state M s).own (λ j ne. ap (λ (l : Reading). l.own j) last ∙ same j ne) }

  -- .. before the certificates
  pub stops : {r : Result Contents Refusal} {x : Refusal} → r ≡ Err x → a₄ ≡ Err x → Reads M s r (these c₀ m₀ e₀) (these c m e) p₀ p
  stops {r} {x} told is =
      let ends : Ends o u x = subst (λ (a : Result Reached Refusal). Told M s o 5 a u) is f₄.told in
      ends-in u (ap state_of ends.result) (λ j ne. refl) (λ last. subst (Answered M s) (sym told) (subst (λ (l : Reading). Ends o l x) (sym last) ends))

  module _ {q : Reached} (is : a₄ ≡ Ok q) where
    comes-there : Told M s o 5 (Ok q) u
    comes-there = subst (λ (a : Result Reached Refusal). Told M s o 5 a u) is f₄.told

    counted : (k : ℕ) → count_of q.tally k ≡ length (u.own k)
    counted k = sym (comes-there.1 k) ∙ ap (λ (b : ℕ → List Counted). length (b k ++ u.own k)) nothing-before

    pub certificates-le : q.tally.certificates ≤ q.at
    certificates-le = omega (arith, counted 5, ap (λ (xs : List Counted). length xs) no-certificates)

    first-sheet : FirstSheet s p u
    first-sheet = record { none_before = nothing-before; points_listed = still-listed s p 2 f₄.grown (λ e. omega arith) still-points }

    -- .. in the certificates, or with them
    pub concludes : {r : Result Contents Refusal} → ((o : ReadResult) (u : Reading) → Told M s o 5 (Ok q) u → u.own 5 ≡ [] → FirstSheet s p u → Concluded s o u r)
        → Reads M s r (these c₀ m₀ e₀) (these c m e) p₀ p
    concludes {r} read-on = go r (read-on o u comes-there no-certificates first-sheet)
      where
        go : (r : Result Contents Refusal) → Concluded s o u r → Reads M s r (these c₀ m₀ e₀) (these c m e) p₀ p
        go (Ok x) w =
            ends-in w.state (ap state_of w.answers.0) w.others
            (λ last.
            let (result, counts, first) = subst (λ (l : Reading). Answers s o (Ok x) l) (sym last) w.answers in
            record { result = result; tally = counts; certificates = first })
        go (Err x) w =
            ends-in w.state (ap state_of w.answers.result) w.others (λ last. subst (λ (l : Reading). Ends o l x) (sym last) w.answers)
