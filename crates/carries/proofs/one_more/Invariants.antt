use Prim.Native.Nat.{◌≤◌}
use Rattle.carries.proofs.Closing.{Extending}
use Rattle.carries.proofs.one_more.Given as goal

abbrev pub invariant-loop-i : goal.invariant-loop-i
invariant-loop-i l = (l.i ≤ l.g) × Extending l.g l.carries l.ends l.next l.i
