use native.Mathlib.Omega.{arith}
use Rattle.execution.proofs.Asked.{condition_met, condition_lacks}
use Rattle.execution.proofs.conditions.condition_holds.Goals as goal

pub offset_bounds-matrix-s : goal.offset_bounds-matrix-s
offset_bounds-matrix-s c = omega arith

pub offset_bounds-carriers-q : goal.offset_bounds-carriers-q
offset_bounds-carriers-q c = omega arith

pub returns-then-has_cell : goal.returns-then-has_cell
returns-then-has_cell c = search condition_met

pub returns-else-has_cell : goal.returns-else-has_cell
returns-else-has_cell c = search condition_lacks
