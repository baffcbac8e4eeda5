use Rattle.closing.proofs.Lacking.{left_says}
use Rattle.closing.proofs.asked.left.Goals as goal

pub returns : goal.returns
returns c = search left_says
