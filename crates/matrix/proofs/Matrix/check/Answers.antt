use Rattle.cases.proofs.Picks.{cases}
use Rattle.matrix.specs.Refusals.{matrix_refusal}
use Rattle.matrix.proofs.Matrix.check.Goals as goal

pub returns-then-not-kinds_fit : goal.returns-then-not-kinds_fit
unfolding matrix_refusal
returns-then-not-kinds_fit c = search cases depth 8

pub returns-then-not-cells_fit : goal.returns-then-not-cells_fit
unfolding matrix_refusal
returns-then-not-cells_fit c = search cases depth 8

pub returns : goal.returns
unfolding matrix_refusal
returns c = search cases depth 8
