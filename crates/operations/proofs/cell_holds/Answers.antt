use native.Mathlib.Omega.{arith}
use Rattle.operations.proofs.Applied.{held_in, held_out}
use Rattle.operations.proofs.cell_holds.Goals as goal

pub offset_bounds-matrix-s : goal.offset_bounds-matrix-s
offset_bounds-matrix-s c = omega arith

pub returns-then-has_cell : goal.returns-then-has_cell
returns-then-has_cell c = search held_in

pub returns-else-has_cell : goal.returns-else-has_cell
returns-else-has_cell c = search held_out
