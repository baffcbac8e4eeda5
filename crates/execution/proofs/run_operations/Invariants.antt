use Prim.Native.Nat.{◌≤◌, ◌-◌}
use Rattle.execution.proofs.Running.{Going}
use Rattle.execution.proofs.run_operations.Given as goal

abbrev pub invariant-loop-j : goal.invariant-loop-j
invariant-loop-j l = (l.j ≤ l.c.operations) × Going l.right l.initial.matrix l.a l.c l.j l.matrix l.leaked

abbrev pub decreases-loop-j : goal.decreases-loop-j
decreases-loop-j l = l.c.operations - l.j
