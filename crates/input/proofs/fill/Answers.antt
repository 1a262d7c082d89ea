use Rattle.std.proofs.Common.{rules, arith, length, ◌-◌}
use Rattle.input.proofs.Reading.{read-on}
use Rattle.input.proofs.fill.Goals as goal

pub loop-done-preserved : goal.loop-done-preserved
loop-done-preserved g c =
    let here = c.loop-done in record {
      fits = search rules;
      read = read-on _ _ _ here.done (length here.room - here.done) c.in-Ok.n here.room c.read.new.buf (omega arith) (search rules) here.invariant.read c.in-Ok.ensures.bytes.0;
    }
