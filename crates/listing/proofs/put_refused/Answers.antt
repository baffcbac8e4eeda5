use Rattle.listing.proofs.Whole.{refused_room}
use Rattle.listing.proofs.put_refused.Goals as goal

pub put_head-requires : goal.put_head-requires
put_head-requires c = search refused_room
