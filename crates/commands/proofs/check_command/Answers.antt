use Rattle.cases.proofs.Picks.{cases, tests, on_yes, on_no}
use Rattle.commands.specs.Refusals.{command_refusal}
use Rattle.commands.proofs.check_command.Goals as goal
use Rattle.commands.proofs.check_command.Goals.{then-k-lt1-via-then-k-lt1, then-k-lt1-via-else-k-lt1+then-k-gt-PARAMETERS, then-m-lt1-via-then-m-lt1, then-m-lt1-via-else-m-lt1+then-m-gt-OPERATIONS, then-not-conditions_fit-via-then-not-conditions_fit, then-not-conditions_fit-via-else-not-conditions_fit+then-not-operations_fit}

pub returns-then-part-lt3 : goal.returns-then-part-lt3
unfolding command_refusal
returns-then-part-lt3 c = search cases depth 14

pub returns-then-k-lt1 : goal.returns-then-k-lt1
unfolding command_refusal
returns-then-k-lt1 c = elim c.then-k-lt1.branch [ then-k-lt1-via-then-k-lt1 w ↦ search cases depth 14 | then-k-lt1-via-else-k-lt1+then-k-gt-PARAMETERS w ↦ search cases depth 14 ]

pub returns-then-c-gt-CONDITIONS : goal.returns-then-c-gt-CONDITIONS
unfolding command_refusal
returns-then-c-gt-CONDITIONS c = search cases depth 14

pub returns-then-m-lt1 : goal.returns-then-m-lt1
unfolding command_refusal
returns-then-m-lt1 c = elim c.then-m-lt1.branch [ then-m-lt1-via-then-m-lt1 w ↦ search cases depth 14 | then-m-lt1-via-else-m-lt1+then-m-gt-OPERATIONS w ↦ search cases depth 14 ]

pub returns-then-part-mid : goal.returns-then-part-mid
unfolding command_refusal
returns-then-part-mid c = search cases depth 14

pub returns-then-not-conditions_fit : goal.returns-then-not-conditions_fit
unfolding command_refusal
returns-then-not-conditions_fit c = elim c.then-not-conditions_fit.branch [ then-not-conditions_fit-via-then-not-conditions_fit w ↦ search (tests, on_yes, on_no) depth 14 fits 20000 | then-not-conditions_fit-via-else-not-conditions_fit+then-not-operations_fit w ↦ search (tests, on_yes, on_no) depth 14 fits 20000 ]

pub returns : goal.returns
unfolding command_refusal
returns c = search (tests, on_yes, on_no) depth 14 fits 20000
