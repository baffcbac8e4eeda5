-- Every row of these parts of the table holds, by computation. Assumes nothing.
use mathlib.Core.Path.{refl}
use Rattle.rows.specs.Cases.{AllHold}
use Rattle.rows.proofs.Computed.{computed}
use Rattle.rows.proofs.Tests.{none_failing}
use Rattle.runrows.specs.Runs.{refused_cases, done_cases}
use Rattle.runrows.specs.Replays.{replay_cases}

pub refused_cases_hold : AllHold refused_cases
unfolding computed
refused_cases_hold = none_failing refused_cases refl

pub done_cases_hold : AllHold done_cases
unfolding computed
done_cases_hold = none_failing done_cases refl

pub replay_cases_hold : AllHold replay_cases
unfolding computed
replay_cases_hold = none_failing replay_cases refl
