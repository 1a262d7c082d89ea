-- Section after section: each hands on where reading stands, and what its table holds.
use borrow.Author.Rules.{rules}
use Rattle.std.specs.Prelude.{Err}
use mathlib.Core.Path.{◌≡◌}
use Rattle.instrument.specs.Model.{model_with}
use Rattle.reader.proofs.Limits.{readable, reads_as}
use Rattle.reader.proofs.Whole.{refused-length, stops, certificates-le, concludes}
use Rattle.reader.proofs.read_sheet.Goals as goal

pub returns-then-limits-s : goal.returns-then-limits-s
returns-then-limits-s c =
    let x = c.args in let l = c.limits_of-limits in
    reads_as x.instrument l.ensures (refused-length (model_with l.result) x.s.now c.if-limits-s.true)

pub read_certificates-requires : goal.read_certificates-requires
read_certificates-requires c = (
  (readable c.args.instrument c.limits_of-limits.ensures c.requires).2,
  certificates-le c.if-limits-s.false c.nothing_counted.ensures c.read_conditions-first.ensures c.read_alone-second.ensures
      c.read_alone-third.ensures c.read_alone.ensures c.in_ok-reached.was,
)

pub returns-in_err-reached : goal.returns-in_err-reached
returns-in_err-reached c =
    let e : c.from_residual.result ≡ Err c.in_err-reached.field-0.0 = search rules in
    reads_as c.args.instrument c.limits_of-limits.ensures
    (stops c.if-limits-s.false c.nothing_counted.ensures c.read_conditions-first.ensures c.read_alone-second.ensures
    c.read_alone-third.ensures c.read_alone.ensures e c.in_err-reached.was)

pub returns : goal.returns
returns c =
    reads_as c.args.instrument c.limits_of-limits.ensures
    (concludes c.if-limits-s.false c.nothing_counted.ensures c.read_conditions-first.ensures c.read_alone-second.ensures
    c.read_alone-third.ensures c.read_alone.ensures c.in_ok-reached.was c.read_certificates.ensures)
