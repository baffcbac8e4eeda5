use native.Mathlib.Omega.{arith}
use Rattle.rights.proofs.SetBytes.{reading_start, reading_more, reading_end}
use Rattle.rights.proofs.bytes.read_sets.Goals as goal

pub loop-c-init : goal.loop-c-init
loop-c-init c = (omega arith, search reading_start)

pub loop-c-preserved : goal.loop-c-preserved
loop-c-preserved c = (omega arith, search reading_more)

pub returns : goal.returns
returns c = search reading_end
