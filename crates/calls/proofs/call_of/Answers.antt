use Rattle.calls.proofs.Looking.{call_found, call_missing}
use Rattle.calls.proofs.call_of.Goals as goal

pub returns-then-at-places : goal.returns-then-at-places
returns-then-at-places c = search call_found

pub returns : goal.returns
returns c = search call_missing
