-- The certificates of a sheet that is read whole stand one after the other.
use mathlib.Core.Path.{◌≡◌, refl, sym, ap, subst}
use mathlib.Core.Bool.{true, false, not, ◌&&◌}
use mathlib.Core.List.{List, [], ◌∷◌, ◌++◌}
use Prim.Native.Nat.{ℕ, zero, suc, ◌+◌, ◌*◌, ◌≤◌, ◌<◌}
use native.Mathlib.Omega.{arith}
use lib.ListN.{length}
use lib.Dec.{eqb}
use Rattle.certificate.specs.Certificate.{Certificate}
use Rattle.sheet.specs.Model.{Model}
use Rattle.sheet.specs.Kind.{Role, symbol, a_pair, counts, edition, kind_of, section_of}
use Rattle.sheet.specs.Record.{Record, byte_at, record_at, next_at}
use Rattle.sheet.specs.Reading.{Opened, Counted, Reading, start_of, starts_of, in_condition, opened_past, own_past, past_at, whole, read_sheet}
use Rattle.sheet_laws.specs.AtOffset.{certificate_at}
use Rattle.sheet_laws.proofs.Take.{next-lt, Took}
use Rattle.sheet_laws.proofs.ReadOn.{read_keeps}
use Rattle.sheet_laws.proofs.Pairs.{end-next, pairs_end, certificate-stands}
use Rattle.sheet_laws.proofs.Kind.{Fits, fits}
use Rattle.sheet_laws.proofs.Standing.{closed, pairs-now, OpenIn, still_open}

-- certificates start at these offsets, the first at the offset `at`, each of the others behind the one before, and the last ends at `end`; a pair
-- is six bytes, the end of a certificate one
pub data Chain (s : List ℕ) (end : ℕ) : ℕ → List ℕ → Type 0 where
  no_certificate : Chain s end end []
  a_certificate_more : {at : ℕ} {os : List ℕ} → Chain s end (suc (at + 6 * length (certificate_at s at))) os → Chain s end at (at ∷ os)

-- one more behind the last
chain-longer : {s : List ℕ} {end at : ℕ} {os : List ℕ} → Chain s end at os → Chain s (suc (end + 6 * length (certificate_at s end))) at (os ++ (end ∷ []))
chain-longer no_certificate = a_certificate_more no_certificate
chain-longer (a_certificate_more t) = a_certificate_more (chain-longer t)

-- where what was counted starts, with one more
pub starts_more : (xs : List Counted) (x : Counted) → starts_of (xs ++ (x ∷ [])) ≡ starts_of xs ++ (start_of x.opened x.last.at ∷ [])
starts_more [] x = refl
starts_more (y ∷ ys) x = ap (λ (os : List ℕ). start_of y.opened y.last.at ∷ os) (starts_more ys x)

-- The invariant -------------------------------------------------------------------------------------------------------------------

-- certificates stand one after the other up to an offset
record UpTo (s : List ℕ) (end : ℕ) (os : List ℕ) : Type 0 where
  from : ℕ
  chain : Chain s end from os

-- up to where what is open starts; and there are none before section 5
record Good (s : List ℕ) (end section : ℕ) (cs : List Counted) : Type 0 where
  up_to : UpTo s end (starts_of cs)
  none_before : section < 5 → cs ≡ []

none_yet : (s : List ℕ) (end section : ℕ) {cs : List Counted} → cs ≡ [] → Good s end section cs
none_yet s end section {cs} e =
    record { up_to = subst (λ (cs : List Counted). UpTo s end (starts_of cs)) (sym e) (record { from = end; chain = no_certificate }); none_before = λ l. e }

module _ (s : List ℕ) (at kind : ℕ) (values : List ℕ) (r : Reading) (now-open : OpenIn s at r) where
  abbrev x : Record
  x = record { at = at; kind = kind; values = values }

  abbrev o : Opened
  o = r.opened

  abbrev here : Counted
  here = record { last = x; opened = o }

  abbrev Past : ℕ → Role → Type 0
  Past section role = Good s (start_of (opened_past o x section role) (next_at s at)) section (own_past r.own here section role 5)

  -- a certificate ends
  ends : byte_at s at ≡ 14 → at < length s → (eqb o.section 1 && true) ≡ false → UpTo s (start_of o at) (starts_of (r.own 5)) → Past 5 counts
  ends e inside none_open h =
      let start = start_of o at in
      let pairs = pairs-now s at r.section o none_open now-open in
      let is = certificate-stands s at (λ (d : byte_at s at ≡ 13). omega arith) inside pairs in
      let next : suc (start + 6 * length (certificate_at s start)) ≡ next_at s at =
      omega (arith, end-next s at e, pairs_end s at pairs, ap (λ (c : Certificate). length c) is) in
      record {
        up_to =
            record {
              from = h.from;
              chain =
                  subst (Chain s (next_at s at) h.from) (sym (starts_more (r.own 5) here))
                  (subst (λ (end : ℕ). Chain s end h.from (starts_of (r.own 5) ++ (start ∷ []))) next (chain-longer h.chain));
            };
        none_before = λ l. absurd (omega arith);
      }

  good-past : (section : ℕ) (role : Role) → Fits s at x section role → at < length s → r.section ≤ section → (eqb o.section 1 && not (in_condition section role)) ≡ false
      → Good s (start_of o at) r.section (r.own 5) → Past section role
  good-past section (symbol takes make) (first, y) inside order none_open h = none_yet s _ section (h.none_before (omega arith))
  good-past section a_pair (last, e, is) inside order none_open h =
      subst (λ (k : ℕ). Past k a_pair) (sym last) (record { up_to = h.up_to; none_before = λ l. absurd (omega arith) })
  good-past zero counts fit inside order none_open h = none_yet s _ 0 (h.none_before (omega arith))
  good-past (suc zero) counts fit inside order none_open h = none_yet s _ 1 (h.none_before (omega arith))
  good-past (suc (suc zero)) counts fit inside order none_open h = none_yet s _ 2 (h.none_before (omega arith))
  good-past (suc (suc (suc zero))) counts fit inside order none_open h = none_yet s _ 3 (h.none_before (omega arith))
  good-past (suc (suc (suc (suc zero)))) counts fit inside order none_open h = none_yet s _ 4 (h.none_before (omega arith))
  good-past (suc (suc (suc (suc (suc zero))))) counts fit inside order none_open h = ends fit inside none_open h.up_to
  good-past (suc (suc (suc (suc (suc (suc k)))))) counts fit inside order none_open h = absurd fit
  good-past section edition first inside order none_open h = none_yet s _ section (h.none_before (omega arith))

module _ (M : Model) (s : List ℕ) where
  abbrev GoodIn : ℕ → Reading → Type 0
  GoodIn at r = OpenIn s at r × Good s (start_of r.opened at) r.section (r.own 5)

  good : (at : ℕ) (r : Reading) → Took M s at r → GoodIn at r → GoodIn (next_at s at) (past_at s at r)
  unfolding record_at
  good at r w (now-open, h) = (
    still_open M s at r w now-open,
    good-past s at (byte_at s at) _ r now-open (section_of (byte_at s at)) (kind_of (byte_at s at)).role (fits s at)
        (omega (arith, w.inside, next-lt s at)) w.in_order w.none_open h,
  )

  -- the offset of the first certificate, and that the others follow it
  pub certificates-chained : (r : Reading) → read_sheet M s ≡ whole r → (from : ℕ) × (end : ℕ) × Chain s end from (starts_of (r.own 5))
  certificates-chained r h =
      let at-end = read_keeps M s GoodIn good r h (closed, none_yet s 0 0 refl) in
      let up_to = at-end.holds.1.up_to in
      (up_to.from, _, up_to.chain)
