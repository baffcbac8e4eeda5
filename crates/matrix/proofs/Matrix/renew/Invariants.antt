use Prim.Native.Nat.{◌≤◌, ◌-◌}
use mathlib.Core.Path.{◌≡◌}
use Rattle.cases.specs.Cases.{iterate}
use Rattle.matrix.specs.Matrices.{emptied}
use Rattle.matrix.proofs.Matrix.renew.Given as goal

abbrev pub invariant-loop-j : goal.invariant-loop-j
invariant-loop-j l = (l.j ≤ 32) × (l.self.kinds ≡ l.initial.self.kinds) × (iterate (emptied l.n) (32 - l.j) l.j l.self.cells ≡ iterate (emptied l.n) 32 0 l.initial.self.cells)
