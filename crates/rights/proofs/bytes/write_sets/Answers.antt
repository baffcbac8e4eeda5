use native.Mathlib.Omega.{arith}
use Rattle.rights.proofs.SetBytes.{writing_start, writing_more, writing_end}
use Rattle.rights.proofs.bytes.write_sets.Goals as goal

pub loop-c-init : goal.loop-c-init
loop-c-init c = (omega arith, search writing_start)

pub loop-c-preserved : goal.loop-c-preserved
loop-c-preserved c = (omega arith, search writing_more)

pub returns : goal.returns
returns c = search writing_end
