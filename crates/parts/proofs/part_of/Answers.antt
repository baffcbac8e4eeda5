use Rattle.parts.proofs.Dropping.{part_is}
use Rattle.parts.proofs.part_of.Goals as goal

pub returns : goal.returns
returns c = search part_is
