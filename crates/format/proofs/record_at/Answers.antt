-- The tests of a kind and of the end, in the order of `found_at`.
use mathlib.Core.Path.{◌≡◌, refl, sym, ap, subst, ◌∙◌}
use Prim.Native.Nat.{ℕ, ◌+◌, ◌≤◌, ◌<◌}
use native.Mathlib.Omega.{arith}
use lib.ListN.{length}
use Rattle.std.specs.Prelude.{Some}
use Rattle.kinds.specs.Lengths.{length_of}
use Rattle.kinds.proofs.EachByte.{length-out}
use Rattle.kinds.proofs.Numbers.{kind-of}
use Rattle.format.specs.Found.{numbered}
use Rattle.format.proofs.Laws.{a_record, above-kinds, no_length, room, body-past-end, whole-record}
use Rattle.format.proofs.record_at.Goals as goal
use Rattle.format.proofs.record_at.Goals.{In_ok-length}

pub returns-then-kinds-byte : goal.returns-then-kinds-byte
returns-then-kinds-byte c =
    let a = c.args in
    above-kinds a.kinds a.s.now a.at c.byte_at-byte.ensures c.if-kinds-byte.true

pub returns-in_err-length : goal.returns-in_err-length
returns-in_err-length c =
    let a = c.args in
    ap numbered c.from_residual.ensures
    ∙ no_length a.kinds a.s.now a.at c.byte_at-byte.ensures c.if-kinds-byte.false c.requires (sym c.body_length.ensures ∙ c.in_err-length.was)

-- the kind has a length, of at most 16, and stands in the sheet
has : (c : In_ok-length) → length_of c.byte_at-byte.result ≡ Some c.in_ok-length.length
has c = sym c.body_length.ensures ∙ c.in_ok-length.was

fits : (c : In_ok-length) → (c.in_ok-length.length ≤ 16) × (c.args.at < length c.args.s.now)
fits c =
    let a = c.args in
    room a.kinds a.s.now a.at c.byte_at-byte.ensures c.if-kinds-byte.false (has c)

pub overflow_add-next : goal.overflow_add-next
overflow_add-next c = record { fits = omega (arith, fits (goal.at.overflow_add-next c).In_ok-length) }

pub overflow_add-next-2 : goal.overflow_add-next-2
overflow_add-next-2 c = record { fits = omega (arith, fits (goal.at.overflow_add-next-2 c).In_ok-length) }

pub returns-then-s-next : goal.returns-then-s-next
returns-then-s-next c =
    let a = c.args in
    body-past-end a.kinds a.s.now a.at c.byte_at-byte.ensures
    c.if-kinds-byte.false (has (goal.at.returns-then-s-next c).In_ok-length) c.if-s-next.true

-- a byte that has a length is a kind's
pub returns-in_err-kind : goal.returns-in_err-kind
returns-in_err-kind c =
    let (low, last, body) = length-out c.byte_at-byte.result _ (has (goal.at.returns-in_err-kind c).In_ok-length) in
    let (kind, is) = kind-of c.byte_at-byte.result low last in
    absurd (c.in_err-kind.ensures kind (is ∙ c.byte_at-byte.ensures))

pub returns : goal.returns
returns c =
    let a = c.args in
    ap (λ (k : ℕ). Some (a_record k (a.at + 1 + c.in_ok-length.length))) c.in_ok-kind.ensures
    ∙ whole-record a.kinds a.s.now a.at refl
    (subst (λ (b : ℕ). b ≤ a.kinds) c.byte_at-byte.ensures c.if-kinds-byte.false) (ap length_of (sym c.byte_at-byte.ensures) ∙ has (goal.at.returns c).In_ok-length) c.if-s-next.false
