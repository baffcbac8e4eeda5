use Rattle.protection.specs.Limits.{rights}
use Prim.Native.Nat.{◌≤◌}
use Rattle.closing.specs.Asks.{LackingIn}
use Rattle.closing.proofs.asked.lacking_in.Given as goal

abbrev pub invariant-loop-q : goal.invariant-loop-q
invariant-loop-q l = (l.q ≤ rights) × LackingIn l.asks l.carriers l.k l.set l.mask
