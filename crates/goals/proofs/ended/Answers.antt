use Rattle.goals.proofs.Holding.{needed_fits, end_leak, end_held}
use Rattle.goals.proofs.ended.Goals as goal

pub returns-in-Leak : goal.returns-in-Leak
returns-in-Leak c = search end_leak

pub all_held-requires : goal.all_held-requires
all_held-requires c = needed_fits _ _ c.in-Held.is c.requires

pub returns-in-Held : goal.returns-in-Held
returns-in-Held c = search end_held
