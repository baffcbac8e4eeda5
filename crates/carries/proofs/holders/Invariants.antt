use Rattle.protection.specs.Limits.{rights}
use Prim.Native.Nat.{◌≤◌}
use Rattle.carries.proofs.Closing.{Holding}
use Rattle.carries.proofs.holders.Given as goal

abbrev pub invariant-loop-i : goal.invariant-loop-i
invariant-loop-i l = (l.i ≤ rights) × Holding l.sets l.q l.set l.i
