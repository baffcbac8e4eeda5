use Rattle.update.proofs.Stored.{store_is}
use Rattle.update.proofs.store.Goals as goal

pub returns : goal.returns
returns c = search store_is
