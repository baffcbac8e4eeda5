use Prim.Native.Nat.{◌-◌}
use Rattle.calls.proofs.Looking.{Looking}
use Rattle.calls.proofs.first_call.Given as goal

abbrev pub invariant-loop-i : goal.invariant-loop-i
invariant-loop-i l = Looking l.p l.matrix l.tables l.n l.touch l.which l.count l.i

abbrev pub decreases-loop-i : goal.decreases-loop-i
decreases-loop-i l = l.count - l.i
