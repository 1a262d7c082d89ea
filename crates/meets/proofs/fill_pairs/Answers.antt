use mathlib.Core.Path.{◌≡◌, sym, subst, ◌∙◌}
use mathlib.Core.List.{List}
use Prim.Native.Nat.{ℕ, ◌+◌, ◌<◌}
use native.Mathlib.Omega.{arith}
use lib.ListN.{length}
use Rattle.sheet_laws.specs.AtOffset.{certificate_at}
use Rattle.certificate.specs.Certificate.{pair_of}
use Rattle.format.specs.Pairs.{pair_is}
use Rattle.pairs.proofs.Laws.{pair_inside, found-pair, found-end}
use Rattle.meets.specs.Meets.{PairRows}
use Rattle.meets.proofs.Rows.{written-past, pair-more}
use Rattle.meets.proofs.fill_pairs.Goals as goal
use Rattle.meets.proofs.fill_pairs.Goals.{Joined-count-lt-ROWS, then-count-lt-ROWS, else-count-lt-ROWS}

-- a pair stands there
pair-is : (c : Joined-count-lt-ROWS)
    → let c' = certificate_at c.args.pairs.now 0 in
    let i = c.loop-pair.count in
    (i < length c') × (pair_of c' i ≡ pair_is c.in-Some.pair)
pair-is c = found-pair _ _ (sym c.pair_in.ensures ∙ c.in-Some.is)

pub overflow_add-count : goal.overflow_add-count
overflow_add-count c = omega (arith, pair_inside _ _ (pair-is c).0)

pub loop-pair-smaller : goal.loop-pair-smaller
loop-pair-smaller c = omega (arith, (pair-is c).0)

pub loop-pair-preserved : goal.loop-pair-preserved
loop-pair-preserved c =
    let a = c.args in
    let w = c.loop-pair in
    let d = certificate_at a.pairs.now 0 in
    let Rows-on : List ℕ → Type 0 = λ rows. PairRows d a.m a.sets.now (w.count + 1) rows in (
      omega (arith, (pair-is c).0),
      elim c.if-count-lt-ROWS.branch as (λ _. Rows-on c.if-count-lt-ROWS.rows) [
        | then-count-lt-ROWS u ↦ subst Rows-on (sym u.rows-is) (pair-more d a.m a.sets.now w.invariant.1 _ (omega (arith, u.if-count-lt-ROWS.true)) (pair-is c).1 u.meet.ensures)
        | else-count-lt-ROWS u ↦ subst Rows-on (sym u.rows-is) (written-past w.invariant.1 (omega (arith, u.if-count-lt-ROWS.false)))
      ],
    )

pub returns-clause-count : goal.returns-clause-count
returns-clause-count c = found-end _ _ c.loop-pair.invariant.0 (sym c.pair_in.ensures ∙ c.in_default.is)
