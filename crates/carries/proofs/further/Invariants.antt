use Prim.Native.Nat.{◌≤◌}
use Rattle.carries.proofs.Closing.{Gathering}
use Rattle.carries.proofs.further.Given as goal

abbrev pub invariant-loop-j : goal.invariant-loop-j
invariant-loop-j l = (l.j ≤ l.g) × Gathering l.i l.links l.ends l.set l.j
