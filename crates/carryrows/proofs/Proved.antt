-- Every row of these parts of the table holds, by computation. Assumes nothing.
use mathlib.Core.Path.{refl}
use Rattle.rows.specs.Cases.{AllHold}
use Rattle.rows.proofs.Computed.{computed}
use Rattle.rows.proofs.Tests.{none_failing}
use Rattle.carryrows.specs.Carrying.{met_cases, carried_replay_cases, carried_judge_cases, carried_question_cases}

pub met_cases_hold : AllHold met_cases
unfolding computed
met_cases_hold = none_failing met_cases refl

pub carried_replay_cases_hold : AllHold carried_replay_cases
unfolding computed
carried_replay_cases_hold = none_failing carried_replay_cases refl

pub carried_judge_cases_hold : AllHold carried_judge_cases
unfolding computed
carried_judge_cases_hold = none_failing carried_judge_cases refl

pub carried_question_cases_hold : AllHold carried_question_cases
unfolding computed
carried_question_cases_hold = none_failing carried_question_cases refl
