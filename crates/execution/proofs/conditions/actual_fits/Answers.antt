use Rattle.execution.proofs.Asked.{fits_unused, fits_name, fits_spare}
use Rattle.execution.proofs.conditions.actual_fits.Goals as goal

pub returns-then-c-b : goal.returns-then-c-b
returns-then-c-b c = search fits_unused

pub returns-then-x-lt-NAMES : goal.returns-then-x-lt-NAMES
returns-then-x-lt-NAMES c = search fits_name

pub returns : goal.returns
returns c = search fits_spare
