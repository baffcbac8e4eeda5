use Rattle.closing.proofs.Lacking.{cell_lacking, row_lacking, column_lacking, turned_lacking}
use Rattle.closing.proofs.asked.lacking_at.Goals as goal

pub returns-then-left-eq0 : goal.returns-then-left-eq0
returns-then-left-eq0 c = search cell_lacking

pub returns-then-left-eq0-2 : goal.returns-then-left-eq0-2
returns-then-left-eq0-2 c = search (cell_lacking, row_lacking, column_lacking, turned_lacking)

pub returns-then-left-eq0-3 : goal.returns-then-left-eq0-3
returns-then-left-eq0-3 c = search (cell_lacking, row_lacking, column_lacking, turned_lacking)

pub returns : goal.returns
returns c = search (cell_lacking, row_lacking, column_lacking, turned_lacking)
