use Rattle.closing.proofs.StartCells.{cells_start, cells_right, cells_found, cells_next, cells_lacks, cells_end}
use Rattle.closing.proofs.first_pair.Goals as goal
use Rattle.closing.proofs.first_pair.Goals.{else-holds, then-holds+else-is_some}

pub loop-cell-init : goal.loop-cell-init
loop-cell-init c = search cells_start

pub holds-requires : goal.holds-requires
holds-requires c = search cells_right

pub returns-then-is_some : goal.returns-then-is_some
returns-then-is_some c = search cells_found

pub loop-cell-preserved : goal.loop-cell-preserved
loop-cell-preserved c = elim c.if-holds.branch [ then-holds+else-is_some w ↦ search cells_next | else-holds w ↦ search cells_lacks ]

pub returns : goal.returns
returns c = search cells_end
