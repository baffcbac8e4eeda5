use Rattle.commands.proofs.Reading.{read_is}
use Rattle.commands.proofs.Command.step_at.Goals as goal

pub returns : goal.returns
returns c = search read_is
