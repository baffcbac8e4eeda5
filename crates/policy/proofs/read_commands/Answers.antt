use mathlib.Core.Path.{refl}
use native.Mathlib.Nat.{sub-zero}
use Rattle.refusals.proofs.Codes.{number_above, code_handed}
use Rattle.policy.proofs.Policies.{table_start, commands_stop, commands_more, table_more, commands_end}
use native.Mathlib.Omega.{arith}
use Rattle.policy.proofs.read_commands.Goals as goal

pub loop-i-init : goal.loop-i-init
loop-i-init c = (omega arith, search table_start, rw sub-zero)

pub read_at-requires : goal.read_at-requires
read_at-requires c = c.requires.1.all c.loop-i.i (omega arith)

pub loop-i-preserved : goal.loop-i-preserved
loop-i-preserved c = (omega arith, table_more _ _ _ _ _ c.requires.1.few (omega arith) c.in_ok-all.ensures.read c.loop-i.invariant.1, commands_more _ _ _ _ _ c.requires.0 c.in_ok-all.ensures.refused (omega arith) refl c.loop-i.invariant.2)

pub returns-in_err-all-clause-refused : goal.returns-in_err-all-clause-refused
returns-in_err-all-clause-refused c = code_handed _ _ _ c.from_residual.ensures.1 (commands_stop _ _ _ _ _ c.requires.0 c.in_err-all.ensures.refused (omega arith) (number_above _) c.loop-i.invariant.2)

pub returns-clause-refused : goal.returns-clause-refused
returns-clause-refused c = search commands_end
