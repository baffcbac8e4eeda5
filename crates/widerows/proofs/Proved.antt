-- Every row of these parts of the table holds, by computation. Assumes nothing.
use mathlib.Core.Path.{refl}
use Rattle.rows.specs.Cases.{AllHold}
use Rattle.rows.proofs.Computed.{computed}
use Rattle.rows.proofs.Tests.{none_failing}
use Rattle.widerows.specs.Wide.{wide_run_cases, wide_question_cases, largest_cases}

pub wide_run_cases_hold : AllHold wide_run_cases
unfolding computed
wide_run_cases_hold = none_failing wide_run_cases refl

pub wide_question_cases_hold : AllHold wide_question_cases
unfolding computed
wide_question_cases_hold = none_failing wide_question_cases refl

pub largest_cases_hold : AllHold largest_cases
unfolding computed
largest_cases_hold = none_failing largest_cases refl
