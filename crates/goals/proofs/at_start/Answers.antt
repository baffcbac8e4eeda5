use Rattle.goals.proofs.Holding.{needed_fits, start_leak, start_held}
use Rattle.goals.proofs.at_start.Goals as goal

pub returns-in-Leak : goal.returns-in-Leak
returns-in-Leak c = search start_leak

pub all_held-requires : goal.all_held-requires
all_held-requires c = needed_fits _ _ c.in-Held.is c.requires

pub returns-in-Held : goal.returns-in-Held
returns-in-Held c = search start_held
