use Rattle.carries.proofs.Closing.{ends_more, closed}
use native.Mathlib.Omega.{arith}
use Rattle.carries.proofs.carried.Goals as goal

pub loop-init : goal.loop-init
loop-init c = (omega arith, c.alone-ends.ensures _ _)

pub loop-preserved : goal.loop-preserved
loop-preserved c = (omega arith, ends_more _ _ _ _ (c.one_more-next.ensures _ c.loop.invariant.1))

pub returns : goal.returns
returns c = closed _ _ _ _ c.loop.invariant.0 (omega arith) c.loop.invariant.1
