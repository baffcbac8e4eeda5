use Rattle.commands.proofs.Contents.{command_sizes}
use Rattle.commands.proofs.read_command.Goals as goal

pub command_of-requires : goal.command_of-requires
command_of-requires c = command_sizes c.args.g c.args.part.now c.in_ok-check_command.ensures
