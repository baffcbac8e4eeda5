use Rattle.closing.proofs.StartCells.{Cells}
use Rattle.closing.proofs.first_pair.Given as goal

abbrev pub invariant-loop-cell : goal.invariant-loop-cell
invariant-loop-cell l = Cells l.p l.sought l.matrix l.asks l.tables l.cell
