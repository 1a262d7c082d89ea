-- Methods by the fields of their records, in the order of the kinds 8, 9, 15 and 16: for examples.
use mathlib.Core.Option.{none, some}
use Prim.Native.Nat.{ℕ}
use Rattle.sheet.specs.Sheet.{Method}

-- of one outcome: a primitive, and a method with body
abbrev pub primitive : (pre trace future : ℕ) → Method
primitive pre trace future = record { pre = pre; normal = record { trace = trace; future = future }; failing = none; body = none }

abbrev pub with_body : (pre trace future entry exit : ℕ) → Method
with_body pre trace future entry exit =
    record {
      pre = pre;
      normal = record { trace = trace; future = future };
      failing = none;
      body = some (record { entry = entry; exit = exit; failed_exit = none });
    }

-- of two outcomes
abbrev pub failing_primitive : (pre trace future failed-trace failed-future : ℕ) → Method
failing_primitive pre trace future failed-trace failed-future =
    record {
      pre = pre;
      normal = record { trace = trace; future = future };
      failing = some (record { trace = failed-trace; future = failed-future });
      body = none;
    }

abbrev pub failing_with_body : (pre trace future entry exit failed-trace failed-future failed_exit : ℕ) → Method
failing_with_body pre trace future entry exit failed-trace failed-future failed_exit =
    record {
      pre = pre;
      normal = record { trace = trace; future = future };
      failing = some (record { trace = failed-trace; future = failed-future });
      body = some (record { entry = entry; exit = exit; failed_exit = some failed_exit });
    }
