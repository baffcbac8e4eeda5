use Rattle.listing.proofs.Written.{head_put}
use Rattle.listing.proofs.put_head.Goals as goal

pub returns : goal.returns
returns c = search head_put
