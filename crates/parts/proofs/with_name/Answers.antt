use Rattle.parts.proofs.Lists.{with_is}
use Rattle.parts.proofs.with_name.Goals as goal

pub returns : goal.returns
returns c = search with_is
