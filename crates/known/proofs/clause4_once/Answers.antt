-- `clause4_once` meets its contract: what is known to be served says that clause 4 holds (`Covered`), or the search finds what it finds.
use mathlib.Core.Path.{sym, ap, ◌∙◌}
use native.Mathlib.Omega.{arith}
use Rattle.faults.specs.Fault.{finding_of}
use Rattle.known.proofs.Covered.{served-of, of-served, served-less}
use Rattle.known.proofs.clause4_once.Goals as goal

pub returns-then-covers-clause-finding : goal.returns-then-covers-clause-finding
returns-then-covers-clause-finding c =
    let a = c.args in
    of-served a.search.now a.lsets.now a.ask.followers a.ask.onward a.ask.pair
    (served-less a.search.now a.lsets.now a.known.followers a.known.onward a.ask.followers a.ask.onward c.requires.start_le_count.1
    (sym c.covers.ensures ∙ c.if-covers.true))

pub returns-clause-next : goal.returns-clause-next
returns-clause-next c =
    let a = c.args in
    let turned = c.clause4-turned.ensures in record {
      bound = omega (arith, turned.hint.bound, c.requires.scoped.searched.count_is);
      served = served-of a.search.now a.lsets.now a.ask.followers a.ask.onward a.ask.pair (sym turned.finding ∙ ap finding_of (c.in_ok-turned.was));
    }
