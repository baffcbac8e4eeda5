use native.Mathlib.Omega.{arith}
use Rattle.needs.proofs.Listed.{kinds_long, list_part, list_long, list_taken, list_none}
use Rattle.needs.proofs.check_list.Goals as goal

pub returns-then-list-ne0 : goal.returns-then-list-ne0
returns-then-list-ne0 c = search list_part

pub returns-then-count-gt-CELLS : goal.returns-then-count-gt-CELLS
returns-then-count-gt-CELLS c = search list_long

pub cells_taken-requires : goal.cells_taken-requires
cells_taken-requires c = (search kinds_long, omega arith)

pub returns-then-not-cells_taken : goal.returns-then-not-cells_taken
returns-then-not-cells_taken c = search list_taken

pub returns : goal.returns
returns c = search list_none
