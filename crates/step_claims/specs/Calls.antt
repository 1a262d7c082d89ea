-- A call step, as the code has it.
use Rattle.std.specs.Prelude.{ℕ, List}
use Rattle.sheet.specs.Sheet as sheet
use Rattle.sheet.specs.Sheet.{normal, CallStep, Sheet}
use Rattle.runs.specs.Rules.{entry_asked}
use Rattle.postfix.specs.Parts.{StandsAt}
use Rattle.index.specs.Indexed.{PointIs}
use Rattle.index.specs.Ways.{WayIs, FailingIs, EnteredIs}
use Rattle.claims.specs.Claims.{ChannelIs}
use Rattle.step_claims.specs.declared.Call.{Call}

-- the step is the call t, and its conditions stand at these offsets
pub record CallIs (s : List ℕ) (S : Sheet) (t : CallStep) (x : Call) : Type 0 where
  pub pre_is : StandsAt s x.pre (sheet.pre S t.method)
  pub channel_is : ChannelIs t.channel x.channel
  pub from_is : PointIs s S t.from x.from
  pub to_is : WayIs s S t.method normal t.to x.to
  pub failing_is : FailingIs s S t.method t.failed_to x.failed
  pub entered_is : EnteredIs s S (entry_asked S t.method) x.entered
