use Rattle.std.proofs.Common.{rules}
use Rattle.postfix.proofs.Midway.{going_start, going_on, out_none, out-unfit}
use Rattle.postfix.proofs.push_condition.Goals as goal

pub loop-init : goal.loop-init
loop-init c =
    let a = c.args in
    record {
      going = going_start a.s.now a.from a.stack.now a.places.now a.floor a.base;
      room = search rules;
      rows = search rules;
    }

pub returns-in_default-clause-pushed : goal.returns-in_default-clause-pushed
returns-in_default-clause-pushed c = out_none c.loop.invariant.going c.symbol_at.ensures (search rules)

pub returns-then-not-fits-clause-pushed : goal.returns-then-not-fits-clause-pushed
returns-then-not-fits-clause-pushed c = out-unfit c.loop.invariant.going c.symbol_at.ensures c.in-Some.is (search rules)

pub loop-preserved : goal.loop-preserved
loop-preserved c =
    let p = c.push_symbol-top.ensures in
    record {
      going = going_on c.loop.invariant.going c.symbol_at.ensures c.in-Some.is (search rules) p.depth p.leaves c.symbol_bytes-at.ensures p.turned;
      room = p.room;
      rows = p.rows;
    }
