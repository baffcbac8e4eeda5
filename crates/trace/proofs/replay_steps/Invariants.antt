use Rattle.std.proofs.Common.{◌-◌, ◌≡◌}
use Rattle.cases.specs.Cases.{tabulate}
use Rattle.protection.specs.Limits.{rights}
use Rattle.matrix.specs.Canonical.{Canonical}
use Rattle.matrix.specs.Matrices.{state_of}
use Rattle.policy.specs.Contents.{system_of}
use Rattle.trace.specs.Traces.{step_call, calls, steps_in}
use Rattle.trace.specs.Replays.{replay_from}
use Rattle.trace.proofs.replay_steps.Given as goal

abbrev pub invariant-loop-reader : goal.invariant-loop-reader
invariant-loop-reader l = record {
  same : l.reader.trace.now ≡ l.trace;
  canonical : Canonical rights l.matrix.kinds l.matrix.cells;
  left : replay_from (system_of l.p) l.right (tabulate (step_call l.trace) (l.n - l.reader.at) l.reader.at) l.reader.at (state_of l.matrix) ≡ replay_from (system_of l.p) l.right (calls l.trace (steps_in l.trace)) 0 (state_of l.p.matrix);
}

abbrev pub decreases-loop-reader : goal.decreases-loop-reader
decreases-loop-reader l = l.n - l.reader.at
