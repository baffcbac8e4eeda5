use Rattle.commands.proofs.Reading.{some_read}
use Rattle.commands.proofs.operation_fits.Goals as goal

pub returns : goal.returns
returns c = search some_read
