use mathlib.Core.Path.{sym, ap}
use native.Mathlib.Omega.{arith}
use borrow.Author.Tests.{lt-ltb}
use Rattle.certificate.specs.Certificate.{Pair}
use Rattle.looks.specs.Looks.{certificate_of}
use Rattle.looks.proofs.Passing.{passed-more, off-row}
use borrow.Author.Rules.{rules}
use Rattle.looks.proofs.next_serving.Goals as goal

pub loop-i-preserved : goal.loop-i-preserved
loop-i-preserved c =
    let a = c.args in
    let p = c.requires in
    let read = c.known_pair-pair in
    let events = c.events_of.ensures (certificate_of a.search.now) p.m_bound.1 (sym (lt-ltb _ _ p.from_le_to.2))
    (search rules) (ap (λ (p : Pair). p.set) read.ensures) in
    passed-more c.loop-i.invariant read.ensures
    (off-row _ _ _ _ a.search.now.sets.now a.missing.now _ _ (omega arith) c.row_of-q.ensures.1
    (c.shares.ensures.none c.if-shares.false) events)
