use Rattle.cases.proofs.Bools.{and_second, and_fails}
use Rattle.matrix.proofs.Matrix.has_cell.Goals as goal

pub returns-then-is_subject : goal.returns-then-is_subject
returns-then-is_subject c = search and_second

pub returns-else-is_subject : goal.returns-else-is_subject
returns-else-is_subject c = search and_fails
