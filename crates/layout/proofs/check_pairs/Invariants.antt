use Prim.Native.Nat.{◌≤◌, ◌-◌}
use mathlib.Core.Path.{◌≡◌}
use Rattle.cases.specs.Cases.{all}
use Rattle.layout.specs.Refusals.{in_place}
use Rattle.layout.specs.File.{start_of}
use Rattle.layout.proofs.check_pairs.Given as goal

abbrev pub invariant-loop-i : goal.invariant-loop-i
invariant-loop-i l = (l.i ≤ l.pairs) × (l.at ≡ start_of l.file l.i) × (all (in_place l.file) (l.pairs - l.i) l.i ≡ all (in_place l.file) l.pairs 0)
