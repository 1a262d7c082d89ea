use Rattle.arguments.specs.Choice.{no_option, option}
use Rattle.arguments.proofs.chosen_instrument.Goals as goal

pub returns-then-not-is_argument-clause-chosen : goal.returns-then-not-is_argument-clause-chosen
returns-then-not-is_argument-clause-chosen g c = no_option

pub returns-then-is_none-clause-chosen : goal.returns-then-is_none-clause-chosen
returns-then-is_none-clause-chosen g c = option _

pub returns-else-is_none-clause-chosen : goal.returns-else-is_none-clause-chosen
returns-else-is_none-clause-chosen g c = option _
