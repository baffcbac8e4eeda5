-- Every row of these parts of the table holds, by computation. Assumes nothing.
use mathlib.Core.Path.{refl}
use Rattle.rows.specs.Cases.{AllHold}
use Rattle.rows.proofs.Computed.{computed}
use Rattle.rows.proofs.Tests.{none_failing}
use Rattle.sliprows.specs.Slips.{slip_cases}

pub slip_cases_hold : AllHold slip_cases
unfolding computed
slip_cases_hold = none_failing slip_cases refl
