use Rattle.commands.proofs.Contents.{command_is}
use Rattle.commands.proofs.command_of.Goals as goal

pub returns : goal.returns
returns c =
    command_is c.args.part.now _ _ _ _ c.requires.0 c.requires.1 c.requires.2 c.split_at.ensures.front c.split_at.ensures.back c.copy_from_slice.ensures.after c.copy_from_slice-2.ensures.after
