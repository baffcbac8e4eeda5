use Rattle.update.proofs.Stored.{stored}
use Rattle.update.proofs.store_at.Goals as goal

pub returns : goal.returns
returns c = stored _ _ _ _ c.copy_from_slice.ensures.after
