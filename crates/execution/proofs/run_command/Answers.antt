use Rattle.execution.proofs.Running.{conditions_apply, operations_apply, refused_12, refused_14, refused_15, done_leaked, done_quiet}
use Rattle.execution.proofs.run_command.Goals as goal

pub returns-then-not-actuals_fit : goal.returns-then-not-actuals_fit
returns-then-not-actuals_fit c = search refused_12

pub conditions_hold-requires : goal.conditions_hold-requires
conditions_hold-requires c = search conditions_apply

pub returns-then-not-conditions_hold : goal.returns-then-not-conditions_hold
returns-then-not-conditions_hold c = search refused_14

pub run_all-requires : goal.run_all-requires
run_all-requires c = search operations_apply

pub returns-in-None : goal.returns-in-None
returns-in-None c = search refused_15

pub returns-in-Some-false : goal.returns-in-Some-false
returns-in-Some-false c = search done_quiet

pub returns-in-Some-true : goal.returns-in-Some-true
returns-in-Some-true c = search done_leaked
