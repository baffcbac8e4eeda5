use mathlib.Core.List.{[]}
use Rattle.matrix.specs.Bytes.{view}
use Rattle.parts.proofs.Lists.{Reading}
use Rattle.parts.proofs.read_trusted.Given as goal

abbrev pub invariant-loop-x : goal.invariant-loop-x
invariant-loop-x l = Reading (view l.kinds []) l.list l.mask l.x-index
