use Rattle.carries.proofs.Closing.{extending_start, extending_more, extending_end}
use mathlib.Core.Path.{refl}
use native.Mathlib.Omega.{arith}
use Rattle.carries.proofs.one_more.Goals as goal

pub loop-i-init : goal.loop-i-init
loop-i-init c = (omega arith, search extending_start)

pub loop-i-preserved : goal.loop-i-preserved
loop-i-preserved c = (omega arith, extending_more _ _ _ _ _ _ (omega arith) (omega arith) c.further.ensures c.loop-i.invariant.1 _ refl)

pub returns : goal.returns
returns c = extending_end _ _ _ _ _ (omega arith) c.loop-i.invariant.1
