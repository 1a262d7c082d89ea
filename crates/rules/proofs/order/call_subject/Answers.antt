use mathlib.Core.Path.{refl}
use Rattle.sheet.specs.Sheet.{normal}
use Rattle.values.specs.Values.{call_value}
use Rattle.index.proofs.Indexed.{point-in, method-in}
use Rattle.rules.proofs.order.call_subject.Goals as goal

pub method-declared-requires : goal.method-declared-requires
method-declared-requires c = let (S, x, l, from, to) = c.requires in (S, method-in x _ l)

pub way_of-to-requires : goal.way_of-to-requires
way_of-to-requires c = let (S, x, l, from, to) = c.requires in (S, point-in x _ to)

pub point-requires : goal.point-requires
point-requires c = let (S, x, l, from, to) = c.requires in (S, point-in x _ from)

pub returns : goal.returns
returns c =
    λ S f k x l from to failing on.
    let declared = c.method-declared.ensures S (method-in x _ l) in
    record {
      call = call_value c.args.call f k;
      call_is = record {
        pre_is = declared.pre_stands;
        channel_is = on;
        from_is = c.point.ensures S (point-in x _ from);
        to_is = c.way_of-to.ensures S _ normal (point-in x _ to) declared.normal_is;
        failing_is = failing;
        entered_is = c.entered_by-entered.ensures S x l;
      };
      rules_are = refl;
    }
