use Prim.Native.Nat.{◌≤◌}
use mathlib.Core.Path.{◌≡◌}
use Rattle.carries.specs.Closed.{ends_of}
use Rattle.carries.proofs.carried.Given as goal

abbrev pub invariant-loop : goal.invariant-loop
invariant-loop l = (l.counter ≤ l.g) × (l.ends ≡ ends_of l.g l.carries l.counter)
