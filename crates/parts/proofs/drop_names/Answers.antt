use native.Mathlib.Nat.{sub-zero}
use native.Mathlib.Omega.{arith}
use Rattle.cases.proofs.Loops.{iterate_more}
use Rattle.parts.proofs.Dropping.{drop_end}
use Rattle.parts.proofs.drop_names.Goals as goal

pub loop-x-init : goal.loop-x-init
loop-x-init c = (omega arith, rw sub-zero)

pub loop-x-preserved : goal.loop-x-preserved
loop-x-preserved c = (omega arith, search iterate_more)

pub returns : goal.returns
returns c = search drop_end
