use mathlib.Core.Bool.{not}
use mathlib.Core.Path.{ap}
use Rattle.execution.proofs.Running.{applies_at, going_start, going_stop, going_more, going_end}
use native.Mathlib.Omega.{arith}
use Rattle.execution.proofs.run_operations.Goals as goal

pub loop-j-init : goal.loop-j-init
loop-j-init c = (omega arith, going_start _ _ _ _ c.requires.0)

pub operation_at-operation-requires : goal.operation_at-operation-requires
operation_at-operation-requires c = (c.requires.1.fits, omega arith)

pub can_do-requires : goal.can_do-requires
can_do-requires c = search applies_at

pub returns-then-not-can_do : goal.returns-then-not-can_do
returns-then-not-can_do c = search going_stop

pub enters_new-leaked-requires : goal.enters_new-leaked-requires
enters_new-leaked-requires c = search applies_at

pub perform-requires : goal.perform-requires
perform-requires c = search applies_at

pub overflow_step-j : goal.overflow_step-j
overflow_step-j c = omega arith

pub loop-j-smaller : goal.loop-j-smaller
loop-j-smaller c = omega arith

pub loop-j-preserved : goal.loop-j-preserved
loop-j-preserved c = (omega arith, going_more _ _ _ _ _ _ _ c.loop-j.invariant.1 (omega arith) c.operation_at-operation.result c.operation_at-operation.ensures _ c.can_do.ensures c.requires.1 (ap not c.if-not-can_do.false) _ c.enters_new-leaked.ensures _ c.perform.ensures)

pub returns : goal.returns
returns c = search going_end
