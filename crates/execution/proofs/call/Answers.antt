use Rattle.execution.proofs.Calls.{refused_11, call_fits, called}
use borrow.Author.Rules.{rules}
use Rattle.execution.proofs.call.Goals as goal

pub returns-then-p-command : goal.returns-then-p-command
returns-then-p-command c = search refused_11

pub run_command-requires : goal.run_command-requires
run_command-requires c = (search rules, search call_fits)

pub returns : goal.returns
returns c = search called
