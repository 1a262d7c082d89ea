use Rattle.format.proofs.Named.{starts-inside}
use Rattle.names.proofs.judge.judge.Goals as goal

pub outcomes_fit-requires : goal.outcomes_fit-requires
outcomes_fit-requires c = starts-inside c.requires

pub channel_fits-requires : goal.channel_fits-requires
channel_fits-requires c = starts-inside c.requires
