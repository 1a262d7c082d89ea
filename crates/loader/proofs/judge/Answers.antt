use mathlib.Core.Path.{◌∙◌, sym}
use Rattle.instrument.proofs.Fits.{limits-fit}
use Rattle.loader.proofs.Laws.{sheet-in, miscounted, accepted-by, unproved-by, tries-on}
use Rattle.loader.proofs.judge.Goals as goal

pub sheet_needs-needs-requires : goal.sheet_needs-needs-requires
sheet_needs-needs-requires c = (_, (_, _, sheet-in c.requires.read_whole c.requires.indexes))

pub returns-then-tally-needs : goal.returns-then-tally-needs
returns-then-tally-needs c =
    let n = c.sheet_needs-needs.ensures _ (_, _, sheet-in c.requires.read_whole c.requires.indexes) in
    miscounted c.requires.read_whole (λ e. c.if-tally-needs.true (e ∙ sym n.certificates_are))

pub test_rules-requires : goal.test_rules-requires
test_rules-requires c = record { sheet_in = (_, sheet-in c.requires.read_whole c.requires.indexes); events_bound = (limits-fit c.args.instrument c.limits_of-limits.ensures).few_events }

pub returns-in-Ok : goal.returns-in-Ok
returns-in-Ok c =
    let n = c.sheet_needs-needs.ensures _ (_, _, sheet-in c.requires.read_whole c.requires.indexes) in
    accepted-by c.requires.read_whole (c.if-tally-needs.false ∙ n.certificates_are)
    (tries-on c.args.instrument c.limits_of-limits.ensures (c.test_rules.ensures _ (sheet-in c.requires.read_whole c.requires.indexes)))
    c.in-Ok.is _ n.rules_are

pub returns-in-Err : goal.returns-in-Err
returns-in-Err c =
    let n = c.sheet_needs-needs.ensures _ (_, _, sheet-in c.requires.read_whole c.requires.indexes) in
    unproved-by c.requires.read_whole (c.if-tally-needs.false ∙ n.certificates_are)
    (tries-on c.args.instrument c.limits_of-limits.ensures (c.test_rules.ensures _ (sheet-in c.requires.read_whole c.requires.indexes)))
    c.in-Err.is
