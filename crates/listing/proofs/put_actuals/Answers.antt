use Rattle.listing.proofs.Written.{actuals_put}
use Rattle.listing.proofs.put_actuals.Goals as goal

pub returns : goal.returns
returns c = search actuals_put
