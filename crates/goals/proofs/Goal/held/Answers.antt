use Rattle.goals.proofs.Lists.{held_copied}
use Rattle.goals.proofs.Goal.held.Goals as goal

pub returns : goal.returns
returns c = held_copied _ _ c.requires c.copy_from_slice.ensures.after
