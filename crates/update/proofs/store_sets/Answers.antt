use Rattle.update.proofs.Stored.{stored_sets}
use Rattle.update.proofs.store_sets.Goals as goal

pub returns : goal.returns
returns c = search stored_sets
