use Rattle.listing.proofs.Written.{hidden_put, shown_put}
use Rattle.listing.proofs.put_actual.Goals as goal

pub returns-then-not-shown : goal.returns-then-not-shown
returns-then-not-shown c = search hidden_put

pub returns : goal.returns
returns c = search shown_put
