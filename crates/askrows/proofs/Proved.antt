-- Every row of these parts of the table holds, by computation. Assumes nothing.
use mathlib.Core.Path.{refl}
use Rattle.rows.specs.Cases.{AllHold}
use Rattle.rows.proofs.Computed.{computed}
use Rattle.rows.proofs.Tests.{none_failing}
use Rattle.askrows.specs.Judgements.{caller_cases, round_cases, create_cases, closing_cases}
use Rattle.askrows.specs.Needs.{need_cases}
use Rattle.askrows.specs.Trusted.{trusted_cases}
use Rattle.askrows.specs.Sheets.{sheet_cases}

pub caller_cases_hold : AllHold caller_cases
unfolding computed
caller_cases_hold = none_failing caller_cases refl

pub round_cases_hold : AllHold round_cases
unfolding computed
round_cases_hold = none_failing round_cases refl

pub create_cases_hold : AllHold create_cases
unfolding computed
create_cases_hold = none_failing create_cases refl

pub closing_cases_hold : AllHold closing_cases
unfolding computed
closing_cases_hold = none_failing closing_cases refl

pub need_cases_hold : AllHold need_cases
unfolding computed
need_cases_hold = none_failing need_cases refl

pub trusted_cases_hold : AllHold trusted_cases
unfolding computed
trusted_cases_hold = none_failing trusted_cases refl

pub sheet_cases_hold : AllHold sheet_cases
unfolding computed
sheet_cases_hold = none_failing sheet_cases refl
