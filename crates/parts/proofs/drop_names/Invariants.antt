use Prim.Native.Nat.{◌≤◌, ◌-◌}
use mathlib.Core.Path.{◌≡◌}
use Rattle.cases.specs.Cases.{iterate}
use Rattle.parts.specs.Dropped.{drop_at}
use Rattle.parts.proofs.drop_names.Given as goal

abbrev pub invariant-loop-x : goal.invariant-loop-x
invariant-loop-x l = (l.x ≤ 32) × (iterate (drop_at l.mask) (32 - l.x) l.x l.matrix ≡ iterate (drop_at l.mask) 32 0 l.initial.matrix)

abbrev pub decreases-loop-x : goal.decreases-loop-x
decreases-loop-x l = 32 - l.x
