use Rattle.listing.proofs.Written.{put_all}
use Rattle.listing.proofs.put.Goals as goal

pub returns : goal.returns
returns c = put_all _ _ _ _ c.copy_from_slice.ensures.after
