use mathlib.Core.Path.{◌∙◌}
use Rattle.policy.proofs.Policies.{cells_length, matrix_is}
use Rattle.policy.proofs.matrix_of.Goals as goal

pub slice_bounds-cells-end : goal.slice_bounds-cells-end
slice_bounds-cells-end c = cells_length _ c.requires _ c.section-2.ensures

pub returns : goal.returns
returns c = matrix_is _ c.requires _ c.section-2.ensures _ c.empty-matrix.ensures _ _ (c.copy_from_slice.ensures.after ∙ c.section.ensures) c.read_sets.ensures
