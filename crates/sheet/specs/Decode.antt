-- The sheet that was read: document 01, "Records", and document 02, Asks 2, 4, 9 and 11.
use Rattle.std.specs.Prelude.{ℕ, ◌+◌, Bool, false, List, [], map, eqb}
use Rattle.std.proofs.Math.Option.{none, some}
use Rattle.sheet.specs.Model.{Model}
use Rattle.sheet.specs.Sheet.{Declared, Point, Method, Step, event_step, call_from, failing_call_from, channel_call_from, pass_step, stop_step, Sheet}
use Rattle.sheet.specs.Kind.{conditions, points, methods, steps, certificates}
use Rattle.sheet.specs.Record.{Record, value}
use Rattle.sheet.specs.Reading.{Counted, ◌when◌else◌, is_primitive, has_two_outcomes, owner_of, is_new, item, ReadResult, whole, refusal, read_sheet}

-- kind 7: "conditions past, own, due"; kind 20: "past, own, due and an owner"
abbrev pub point_of : Record → Point
point_of x = record { past = value x 0; own = value x 1; due = value x 2; owner = owner_of x }

-- what a method declares of an outcome, in two fields from the field i on
abbrev pub declared_from : Record → ℕ → Declared
declared_from x i = record { trace = value x i; future = value x (i + 1) }

-- kinds 8 and 9: "pre, trace, future", and of a method with body "entry point, exit point"; kinds 15 and 16 have "failed trace, failed future" behind
-- them, and of a method with body a "failed exit" behind these
abbrev pub method_of : Record → Method
method_of x =
    record {
      pre = value x 0;
      normal = declared_from x 1;
      failing = some (declared_from x (3 when is_primitive x else 5)) when has_two_outcomes x else none;
      body =
          none when is_primitive x
          else some (record { entry = value x 3; exit = value x 4; failed_exit = some (value x 7) when has_two_outcomes x else none });
    }

-- kind 10: "from, to (2 each), event (1)"; kind 11: "from, to, method"; kind 17: "from, to, failed target, method"; kind 22: "from, to, method ..,
-- channel"; kind 19: "from"; kind 12: "from, to"
abbrev pub step_of : Record → Step
step_of x =
    event_step (value x 0) (value x 1) (value x 2) when eqb x.kind 10
    else call_from (value x 0) (value x 1) (value x 2) when eqb x.kind 11
    else failing_call_from (value x 0) (value x 1) (value x 2) (value x 3) when eqb x.kind 17
    else channel_call_from (value x 0) (value x 1) (value x 2) (value x 3) when eqb x.kind 22
    else stop_step (value x 0) when eqb x.kind 19
    else pass_step (value x 0) (value x 1)

-- a sheet's edition, and what was counted in each section; a condition is the one item that is left at its end
abbrev pub sheet_read : (new : Bool) → (ℕ → List Counted) → Sheet
sheet_read new read =
    record {
      conditions = map (λ (c : Counted). item c.opened 0) (read conditions);
      points = map (λ (c : Counted). point_of c.last) (read points);
      methods = map (λ (c : Counted). method_of c.last) (read methods);
      steps = map (λ (c : Counted). step_of c.last) (read steps);
      certificates = map (λ (c : Counted). c.opened.pairs) (read certificates);
      new = new;
    }

-- The sheet that the bytes stand for; bytes that reading refuses stand for an old sheet with nothing in it.
abbrev pub sheet_in : List ℕ → ReadResult → Sheet
sheet_in s (whole r) = sheet_read (is_new s) r.own
sheet_in s (refusal n at r) = sheet_read false (λ k. [])

-- on an instrument, from the bytes
unfoldable pub sheet_of : Model → List ℕ → Sheet
unfolding read_sheet
sheet_of M s = sheet_in s (read_sheet M s)
