use Rattle.listing.proofs.Written.{put_one}
use Rattle.listing.proofs.put_byte.Goals as goal

pub returns : goal.returns
returns c = search put_one
