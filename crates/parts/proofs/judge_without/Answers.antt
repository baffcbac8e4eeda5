use Rattle.std.proofs.Common.{rules}
use Rattle.parts.proofs.Judging.{without_fits, without_asked, without_told, without_below, without_concluded}
use Rattle.parts.proofs.judge_without.Goals as goal

pub basis_of-basis-requires : goal.basis_of-basis-requires
basis_of-basis-requires c = search without_fits

pub judge-requires : goal.judge-requires
judge-requires c = (search without_asked, search without_below, search rules, search without_told)

pub returns : goal.returns
returns c = search without_concluded
