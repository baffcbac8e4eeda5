-- Every row of these parts of the table holds, by computation. Assumes nothing.
use mathlib.Core.Path.{refl}
use Rattle.rows.specs.Cases.{AllHold}
use Rattle.rows.proofs.Computed.{computed}
use Rattle.rows.proofs.Tests.{none_failing}
use Rattle.filerows.specs.Files.{header_cases, matrix_cases, carry_cases, rule_cases}

pub header_cases_hold : AllHold header_cases
unfolding computed
header_cases_hold = none_failing header_cases refl

pub matrix_cases_hold : AllHold matrix_cases
unfolding computed
matrix_cases_hold = none_failing matrix_cases refl

pub carry_cases_hold : AllHold carry_cases
unfolding computed
carry_cases_hold = none_failing carry_cases refl

pub rule_cases_hold : AllHold rule_cases
unfolding computed
rule_cases_hold = none_failing rule_cases refl
