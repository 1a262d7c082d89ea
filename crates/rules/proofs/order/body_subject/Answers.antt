use mathlib.Core.Path.{refl}
use Rattle.sheet.specs.Sheet.{normal}
use Rattle.values.specs.Values.{body_value}
use Rattle.index.proofs.Indexed.{point-in, method-in}
use Rattle.rules.proofs.order.body_subject.Goals as goal

pub method-declared-requires : goal.method-declared-requires
method-declared-requires c = let (S, x, l, entry, exit) = c.requires in (S, method-in x _ l)

pub way_of-exit-requires : goal.way_of-exit-requires
way_of-exit-requires c = let (S, x, l, entry, exit) = c.requires in (S, point-in x _ exit)

pub point-requires : goal.point-requires
point-requires c = let (S, x, l, entry, exit) = c.requires in (S, point-in x _ entry)

pub returns : goal.returns
returns c =
    λ S starts e first x l entry exit failing.
    let declared = c.method-declared.ensures S (method-in x _ l) in
    record {
      starts = starts;
      inner = body_value c.args.inner e;
      body_is = record {
        first_is = first;
        pre_is = declared.pre_stands;
        entry_is = c.point.ensures S (point-in x _ entry);
        exit_is = c.way_of-exit.ensures S _ normal (point-in x _ exit) declared.normal_is;
        failing_is = failing;
      };
      rules_are = refl;
    }
