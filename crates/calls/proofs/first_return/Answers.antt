use Rattle.calls.proofs.Looking.{lookable_gone, covers_gone, returned_gone}
use Rattle.calls.proofs.first_return.Goals as goal

pub first_call-requires : goal.first_call-requires
first_call-requires c = (search lookable_gone, search covers_gone)

pub returns : goal.returns
returns c = search returned_gone
