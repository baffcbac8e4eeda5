use Rattle.cases.proofs.Picks.{cases}
use Rattle.matrix.specs.Refusals.{cell_fits}
use Rattle.matrix.proofs.Tests.{cell_empty, cell_full}
use Rattle.matrix.proofs.Matrix.cell_fits.Goals as goal

pub returns-then-cell-eq0 : goal.returns-then-cell-eq0
returns-then-cell-eq0 c = search cell_empty

pub returns-then-none_from : goal.returns-then-none_from
returns-then-none_from c = search cell_full

pub returns-else-none_from : goal.returns-else-none_from
unfolding cell_fits
returns-else-none_from c = search cases depth 8
